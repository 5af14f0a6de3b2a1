-- What an answer of the code holds, in the lists of the register. Assumes nothing.
use Rattle.std.specs.Prelude.{ℕ, List, Ok, Err, Result}
use Rattle.terms.specs.Shorts.{held}
use Rattle.terms.specs.declared.literals.Literal.{Literal}
use Rattle.terms.specs.declared.refusals.Refusal.{Refusal}
use Rattle.models.specs.declared.axioms.ConceptAxiom.{ConceptAxiom}

-- the answer, with f of what it found
abbrev pub seen : {X Y : Type 0} → (X → Y) → Result X Refusal → Result Y Refusal
seen f (Ok x) = Ok (f x)
seen f (Err e) = Err e

-- the two sides of a concept axiom
abbrev pub both_sides : ConceptAxiom → List ℕ × List Literal
both_sides a = (held a.left, held a.right)
