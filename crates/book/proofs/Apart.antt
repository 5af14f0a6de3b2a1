-- Where two lists first differ, as their pairs tell it. Assumes nothing.
use Rattle.std.specs.Prelude.{◌==◌}
use Rattle.std.proofs.Common.{◌≡◌, ℕ, ◌+◌, min, Bool, true, false, cond, not, List, [], ◌∷◌, length, Some, None, Option, sym, refl, ap, ◌∙◌, arith}
use Rattle.std.specs.Bool.{then_some}
use Rattle.std.specs.List.{position_from, zip}
use Rattle.std.specs.Option.{option_or}
use Rattle.std.proofs.lemmas.Bool.{both_ways, cond-false, cond-true, eq-eqb, eqb-true}
use Rattle.terms.specs.Lists.{alike}
use Rattle.calculus.specs.Fronts.{first_apart}

module _ {X : Type 0} (lt : X → X → Bool) where
  abbrev pub differ : X × X → Bool
  differ p = not (alike lt p.0 p.1)

  module _ (i : ℕ) (x y : X) (rest apart o : Option ℕ) where
    on : alike lt x y ≡ true → cond (differ (x, y)) (Some i) rest ≡ o → rest ≡ o
    on same h = sym (cond-false (differ (x, y)) (Some i) rest (ap not same)) ∙ h

    here : alike lt x y ≡ false → cond (differ (x, y)) (Some i) rest ≡ o → o ≡ cond (alike lt x y) apart (Some i)
    here other h = sym h ∙ cond-true (differ (x, y)) (Some i) rest (ap not other) ∙ sym (cond-false (alike lt x y) apart (Some i) other)

  by_test : {P : Type 0} (b : Bool) → (b ≡ true → P) → (b ≡ false → P) → P
  by_test true t f = t refl
  by_test false t f = f refl

  apart_at : (i j : ℕ) (xs ys : List X) → position_from differ i (zip xs ys) ≡ Some j → Some j ≡ first_apart lt i xs ys
  apart_at i j [] ys h = let z : ◌≡◌ {A = ℕ} 0 1 = cc in absurd (omega arith)
  apart_at i j (x ∷ xs) [] h = let z : ◌≡◌ {A = ℕ} 0 1 = cc in absurd (omega arith)
  apart_at i j (x ∷ xs) (y ∷ ys) h =
      by_test (alike lt x y)
      (λ same. apart_at (i + 1) j xs ys (on i x y _ None _ same h) ∙ sym (cond-true (alike lt x y) _ (Some i) same))
      (λ other. here i x y _ _ _ other h)

  apart_none : (i : ℕ) (xs ys : List X) → position_from differ i (zip xs ys) ≡ None → length xs ≡ length ys → None ≡ first_apart lt i xs ys
  apart_none i [] [] h e = refl
  apart_none i [] (y ∷ ys) h e = absurd (omega arith)
  apart_none i (x ∷ xs) [] h e = absurd (omega arith)
  apart_none i (x ∷ xs) (y ∷ ys) h e =
      by_test (alike lt x y)
      (λ same. apart_none (i + 1) xs ys (on i x y _ None _ same h) (omega arith) ∙ sym (cond-true (alike lt x y) _ (Some i) same))
      (λ other. here i x y _ _ _ other h)

  apart_end : (i k : ℕ) (xs ys : List X) → position_from differ i (zip xs ys) ≡ None → (length xs ≡ length ys → ⊥) → k ≡ i + min (length xs) (length ys) → Some k ≡ first_apart lt i xs ys
  apart_end i k [] [] h n e = absurd (n refl)
  apart_end i k [] (y ∷ ys) h n e = ap (λ (m : ℕ). Some m) (omega arith)
  apart_end i k (x ∷ xs) [] h n e = ap (λ (m : ℕ). Some m) (omega arith)
  apart_end i k (x ∷ xs) (y ∷ ys) h n e =
      by_test (alike lt x y)
      (λ same. apart_end (i + 1) k xs ys (on i x y _ None _ same h) (λ m. n (omega arith)) (omega arith) ∙ sym (cond-true (alike lt x y) _ (Some i) same))
      (λ other. let z : ◌≡◌ {A = Option ℕ} None (Some i) = sym h ∙ cond-true (differ (x, y)) (Some i) _ (ap not other) in let w : ◌≡◌ {A = ℕ} 0 1 = cc in absurd (omega arith))

  -- what is found among the pairs, or else where the shorter list ends
  pub apart_found : (xs ys : List X) (found : Option ℕ) → found ≡ position_from differ 0 (zip xs ys)
      → option_or found (then_some (not (length xs == length ys)) (min (length xs) (length ys))) ≡ first_apart lt 0 xs ys
  apart_found xs ys (Some j) e = apart_at 0 j xs ys (sym e)
  apart_found xs ys None e =
      by_test (length xs == length ys)
      (λ same. rw same (apart_none 0 xs ys (sym e) (eqb-true _ _ same)))
      (λ other. rw other (apart_end 0 (min (length xs) (length ys)) xs ys (sym e) (λ m. both_ways _ other (eq-eqb _ _ m)) (omega arith)))
