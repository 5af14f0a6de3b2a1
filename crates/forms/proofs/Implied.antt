-- Concept axioms made of lists that were not refused. Assumes nothing.
use Rattle.std.proofs.Common.{◌≡◌, ℕ, ◌≤◌, Bool, true, List, map, length, nat_lt, Some, None, Ok, Err, Result, sym, ap, ◌∙◌, MatchResult}
use Rattle.std.proofs.lemmas.List.{take_all}
use Rattle.std.proofs.lemmas.Bool.{cond-true, le-leb}
use Rattle.terms.specs.Lists.{rising}
use Rattle.terms.specs.Literals.{literal_precedes}
use Rattle.terms.specs.Shorts.{held, list_refusal}
use Rattle.terms.specs.declared.literals.Literal.{Literal}
use Rattle.terms.specs.declared.refusals.Refusal.{Refusal}
use Rattle.models.specs.Charts.{sides_refusal}
use Rattle.models.specs.declared.axioms.ConceptAxiom.{ConceptAxiom}
use Rattle.forms.specs.Items.{MadeOrRefused}
use Rattle.forms.specs.Numbers.{axiom_numbers, axiom_refusal, literal_numbers}
use Rattle.forms.specs.declared.numbers.LiteralNumbers.{LiteralNumbers}
use Rattle.forms.proofs.Passed.{some_none}
use Rattle.forms.proofs.Turns.{first_none}

list_passes : {X : Type 0} (lt : X → X → Bool) (limit : ℕ) (xs : List X) → length xs ≤ limit → rising lt xs ≡ true → list_refusal lt limit xs ≡ None
list_passes lt limit xs few rise = cond-true _ _ _ (ap (rising lt) (take_all limit xs few) ∙ rise) ∙ cond-true _ _ _ (le-leb _ _ few)

pub sides_pass : (left : List ℕ) (right : List Literal) → length left ≤ 8 → length right ≤ 8 → rising nat_lt left ≡ true → rising literal_precedes right ≡ true → sides_refusal left right ≡ None
sides_pass left right few few' rise rise' = first_none _ _ (list_passes nat_lt 8 left few rise) ∙ list_passes literal_precedes 8 right few' rise'

pub axiom_made : (stated : List ℕ × List LiteralNumbers) (left : List ℕ) (right : List Literal) (r : Result ConceptAxiom Refusal)
    → left ≡ stated.0 → map literal_numbers right ≡ stated.1 → axiom_refusal stated ≡ None → sides_refusal left right ≡ None
    → MatchResult r (λ a. (held a.left ≡ left) × (held a.right ≡ right) × (sides_refusal left right ≡ None)) (λ e. sides_refusal left right ≡ Some e)
    → MadeOrRefused axiom_numbers axiom_refusal stated r
axiom_made stated left right (Ok a) l r free pass made = (λ i. ((made.0 ∙ l) i, (ap (map literal_numbers) made.1 ∙ r) i), free)
axiom_made stated left right (Err e) l r free pass refused = absurd (some_none e (sym refused ∙ pass))
