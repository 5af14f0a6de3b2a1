-- What the lists of a form keep: concepts and literals rise, literals are as few as their list may hold, and the clauses of sides are in range.
-- Assumes nothing.
use Rattle.std.proofs.Common.{◌≡◌, ℕ, ◌<◌, ◌≤◌, true, List, map, length, nat_lt, refl}
use Rattle.std.proofs.lemmas.List.{length-map}
use Rattle.terms.specs.Limits.{concepts}
use Rattle.terms.specs.Lists.{◌∈◌, rising}
use Rattle.terms.specs.Literals.{literal_precedes}
use Rattle.terms.specs.declared.literals.Literal.{Literal}
use Rattle.terms.specs.declared.literals.Literal.TheVariants.{Concept, Exists, Forall}
use Rattle.forms.specs.Items.{listable, range_refusal}
use Rattle.forms.specs.Limits.{clause_limit}
use Rattle.forms.specs.Numbers.{literal_numbers, literal_refused, numbers_precede, side_numbers, side_refused}
use Rattle.forms.specs.declared.sides.Side.{Side}
use Rattle.forms.proofs.Passed.{both_none, each, few, in_map, in_range, rise}

pub concepts_rise : (limit : ℕ) (xs : List ℕ) → listable (range_refusal concepts) nat_lt limit (map (λ A. A) xs) ≡ true → rising nat_lt xs ≡ true
concepts_rise limit xs ok = rise (range_refusal concepts) nat_lt (λ A. A) nat_lt (λ x y. refl) limit xs ok

-- literals are ordered as their numbers are
pub agree : (x y : Literal) → numbers_precede (literal_numbers x) (literal_numbers y) ≡ literal_precedes x y
agree (Concept A) (Concept B) = refl
agree (Concept A) (Exists F B) = refl
agree (Concept A) (Forall F B) = refl
agree (Exists E A) (Concept B) = refl
agree (Exists E A) (Exists F B) = refl
agree (Exists E A) (Forall F B) = refl
agree (Forall E A) (Concept B) = refl
agree (Forall E A) (Exists F B) = refl
agree (Forall E A) (Forall F B) = refl

pub literals_rise : (limit : ℕ) (xs : List Literal) → listable literal_refused numbers_precede limit (map literal_numbers xs) ≡ true → rising literal_precedes xs ≡ true
literals_rise limit xs ok = rise literal_refused numbers_precede literal_numbers literal_precedes agree limit xs ok

pub literals_few : (limit : ℕ) (xs : List Literal) → listable literal_refused numbers_precede limit (map literal_numbers xs) ≡ true → length xs ≤ limit
literals_few limit xs ok = rw (← length-map xs literal_numbers) (few literal_refused numbers_precede limit (map literal_numbers xs) ok)

pub sides_in_range : (limit : ℕ) (xs : List Side) → listable side_refused (λ _ _. true) limit (map side_numbers xs) ≡ true → (s : Side) → s ∈ xs → s.clause < clause_limit
sides_in_range limit xs ok s m =
    let passes = each side_refused (λ _ _. true) limit (map side_numbers xs) ok (side_numbers s) (in_map side_numbers s xs m) in
    in_range clause_limit s.clause (both_none _ _ passes).0
