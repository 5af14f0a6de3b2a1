use Rattle.std.proofs.Common.{rules}
use Rattle.book.proofs.Asked.{among_as, others_not_among}
use Rattle.book.proofs.asking.is_concept_of.Goals as goal

pub returns-in-Concept : goal.returns-in-Concept
returns-in-Concept c = let e = among_as c.args.literal c.in-Concept.a c.args.concepts.now c.in-Concept.is in search rules

pub returns-in_default : goal.returns-in_default
returns-in_default c = let e = among_as c.args.literal c.in-Concept.a c.args.concepts.now c.in-Concept.is in search rules

pub returns-in_default-2 : goal.returns-in_default-2
returns-in_default-2 c = others_not_among _ c.args.concepts.now (λ a e. search rules)
