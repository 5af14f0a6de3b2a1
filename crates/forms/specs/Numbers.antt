-- What the numbers of literals and sides state, whether they are in range, and how they are ordered. Assumes nothing.
use Rattle.std.specs.Prelude.{ℕ, Bool, true, false, cond, ltb, List, map, None, Option, nat_lt}
use Rattle.terms.specs.Limits.{concepts, role_codes}
use Rattle.terms.specs.Shorts.{held}
use Rattle.terms.specs.declared.literals.Literal.{Literal}
use Rattle.terms.specs.declared.literals.Literal.TheVariants.{Concept, Exists, Forall}
use Rattle.terms.specs.declared.refusals.Refusal.{Refusal}
use Rattle.models.specs.Charts.{first_refusal}
use Rattle.models.specs.declared.axioms.ConceptAxiom.{ConceptAxiom}
use Rattle.forms.specs.Items.{items_refusal, range_refusal}
use Rattle.forms.specs.Limits.{clause_limit, list_limit}
use Rattle.forms.specs.declared.numbers.LiteralNumbers.{LiteralNumbers}
use Rattle.forms.specs.declared.numbers.LiteralNumbers.TheVariants as stated
use Rattle.forms.specs.declared.numbers.SideNumbers.{SideNumbers}
use Rattle.forms.specs.declared.sides.Side.{Side}

-- the numbers that state a literal
abbrev pub literal_numbers : Literal → LiteralNumbers
literal_numbers (Concept A) = stated.Concept A
literal_numbers (Exists E A) = stated.Exists E.code A
literal_numbers (Forall E A) = stated.Forall E.code A

-- each of them is to be in its range, and they are looked at from the left
abbrev pub literal_refused : LiteralNumbers → Option Refusal
literal_refused (stated.Concept A) = range_refusal concepts A
literal_refused (stated.Exists E A) = first_refusal (range_refusal role_codes E) (range_refusal concepts A)
literal_refused (stated.Forall E A) = first_refusal (range_refusal role_codes E) (range_refusal concepts A)

-- by the role code, and then by the concept
abbrev pub pair_precedes : ℕ → ℕ → ℕ → ℕ → Bool
pair_precedes E A F B = cond (nat_lt E F) true (cond (nat_lt F E) false (nat_lt A B))

-- concepts, then `some`, then `all`; among those of one kind by the role code, and then by the concept
abbrev pub numbers_precede : LiteralNumbers → LiteralNumbers → Bool
numbers_precede (stated.Concept A) (stated.Concept B) = nat_lt A B
numbers_precede (stated.Concept A) (stated.Exists F B) = true
numbers_precede (stated.Concept A) (stated.Forall F B) = true
numbers_precede (stated.Exists E A) (stated.Concept B) = false
numbers_precede (stated.Exists E A) (stated.Exists F B) = pair_precedes E A F B
numbers_precede (stated.Exists E A) (stated.Forall F B) = true
numbers_precede (stated.Forall E A) (stated.Concept B) = false
numbers_precede (stated.Forall E A) (stated.Exists F B) = false
numbers_precede (stated.Forall E A) (stated.Forall F B) = pair_precedes E A F B

-- the numbers that state a side, each of which is to be in its range
abbrev pub side_numbers : Side → SideNumbers
side_numbers s = record { clause = s.clause; role = s.role.code; concept = s.concept }

abbrev pub side_refused : SideNumbers → Option Refusal
side_refused n = first_refusal (range_refusal clause_limit n.clause) (first_refusal (range_refusal role_codes n.role) (range_refusal concepts n.concept))

-- ---- what keeps a list of each kind from being made

abbrev pub concepts_refusal : List ℕ → Option Refusal
concepts_refusal = items_refusal (range_refusal concepts) ltb list_limit None

abbrev pub clauses_refusal : List ℕ → Option Refusal
clauses_refusal = items_refusal (range_refusal clause_limit) (λ _ _. true) list_limit None

abbrev pub literals_refusal : ℕ → List LiteralNumbers → Option Refusal
literals_refusal limit = items_refusal literal_refused numbers_precede limit None

abbrev pub sides_refusal : List SideNumbers → Option Refusal
sides_refusal = items_refusal side_refused (λ _ _. true) list_limit None

-- the numbers of the two sides of a concept axiom, of which the left is looked at first
abbrev pub axiom_numbers : ConceptAxiom → List ℕ × List LiteralNumbers
axiom_numbers a = (held a.left, map literal_numbers (held a.right))

abbrev pub axiom_refusal : List ℕ × List LiteralNumbers → Option Refusal
axiom_refusal s = first_refusal (concepts_refusal s.0) (literals_refusal list_limit s.1)

abbrev pub subsumption_refusal : List ℕ × List ℕ → Option Refusal
subsumption_refusal s = first_refusal (concepts_refusal s.0) (concepts_refusal s.1)
