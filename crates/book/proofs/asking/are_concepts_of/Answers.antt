use Rattle.std.proofs.Common.{map, rules, ◌∙◌}
use borrow.Author.Tests.{tests}
use Rattle.std.proofs.lemmas.Iterator.{YieldsList-from_slice}
use Rattle.std.proofs.lemmas.Iterator.Search.{all_from_yields_List}
use Rattle.terms.specs.Lists.{member}
use Rattle.terms.specs.Literals.{literal_precedes}
use Rattle.terms.specs.declared.literals.Literal.TheVariants.{Concept}
use Rattle.terms.proofs.Tests.{contained_all}
use Rattle.book.proofs.asking.are_concepts_of.Goals as goal

pub returns : goal.returns
returns c =
    let literals = c.args.literals.now in
    let concepts = map Concept c.args.concepts.now in
    all_from_yields_List (λ l. member literal_precedes l concepts) _ _ c.all.result c.all.ensures.ran (YieldsList-from_slice literals cc) (λ y b q k. search (rules, tests)) ∙ contained_all literal_precedes literals concepts
