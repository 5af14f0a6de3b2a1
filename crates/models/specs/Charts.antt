-- What an axiom of the code states, and what keeps one from being made.
use Rattle.std.specs.Prelude.{ℕ, List, Some, None, Option, nat_lt}
use Rattle.terms.specs.Literals.{literal_precedes}
use Rattle.terms.specs.Shorts.{held, list_refusal}
use Rattle.terms.specs.declared.literals.Literal.{Literal}
use Rattle.terms.specs.declared.refusals.Refusal.{Refusal}
use Rattle.models.specs.Semantics.{Sentence, implies, under}
use Rattle.models.specs.declared.charts.Axiom.{Axiom}
use Rattle.models.specs.declared.charts.Axiom.TheVariants.{Implies, Under}

abbrev pub sentence_of : Axiom → Sentence
sentence_of (Implies a) = implies (held a.left) (held a.right)
sentence_of (Under E S) = under E.code S.code

-- the first refusal, or else the second
abbrev pub first_refusal : Option Refusal → Option Refusal → Option Refusal
first_refusal (Some e) other = Some e
first_refusal None other = other

-- both sides have at most 8 items and rise, and the left one is looked through first
abbrev pub sides_refusal : List ℕ → List Literal → Option Refusal
sides_refusal left right = first_refusal (list_refusal nat_lt 8 left) (list_refusal literal_precedes 8 right)
