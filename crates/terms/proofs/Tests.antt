-- The tests on lists, as the library's methods make them. Assumes nothing.
use Rattle.std.proofs.Common.{◌≡◌, ℕ, zero, suc, ◌+◌, ◌<◌, Bool, true, false, ◌&&◌, ◌||◌, List, [], ◌∷◌, length, get_or, sym, refl, ap, arith, add-one}
use Rattle.std.specs.List.{AllAdjacentBelow, IsAllAdjacentAnswer, list_all, list_any, zip}
use Rattle.std.proofs.lemmas.Bool.{and_from}
use Rattle.terms.specs.Lists.{alike, contained, equal, member, rising}

module _ {X : Type 0} (lt : X → X → Bool) where
  pub member_any : (x : X) (xs : List X) → list_any (alike lt x) xs ≡ member lt x xs
  member_any x [] = refl
  member_any x (y ∷ ys) = ap (λ b. alike lt x y || b) (member_any x ys)

  pub contained_all : (xs ys : List X) → list_all (λ x. member lt x ys) xs ≡ contained lt xs ys
  contained_all [] ys = refl
  contained_all (x ∷ xs) ys = ap (λ b. member lt x ys && b) (contained_all xs ys)

  pub equal_all : (xs ys : List X) → length xs ≡ length ys → list_all (λ p. alike lt p.0 p.1) (zip xs ys) ≡ equal lt xs ys
  equal_all [] [] e = refl
  equal_all [] (y ∷ ys) e = absurd (omega arith)
  equal_all (x ∷ xs) [] e = absurd (omega arith)
  equal_all (x ∷ xs) (y ∷ ys) e = ap (λ b. alike lt x y && b) (equal_all xs ys (omega arith))

  rises : (xs : List X) → AllAdjacentBelow (λ x y. true ≡ lt x y) xs (length xs) → rising lt xs ≡ true
  rises [] h = refl
  rises (x ∷ []) h = refl
  rises (x ∷ (y ∷ ys)) h = and_from _ _ (sym (h 0 x (omega arith))) (rises (y ∷ ys) (λ k d p. simp add-one (simp add-one at (h (suc k) d (omega arith)))))

  fails_after : (a b : Bool) → b ≡ false → (a && b) ≡ false
  fails_after true b e = e
  fails_after false b e = refl

  falls : (xs : List X) (k : ℕ) → k + 1 < length xs → ((d : X) → false ≡ lt (get_or xs k d) (get_or xs (k + 1) d)) → rising lt xs ≡ false
  falls [] k p h = absurd (omega arith)
  falls (x ∷ []) k p h = absurd (omega arith)
  falls (x ∷ (y ∷ ys)) zero p h = ap (λ b. b && rising lt (y ∷ ys)) (sym (h x))
  falls (x ∷ (y ∷ ys)) (suc k) p h = fails_after (lt x y) _ (falls (y ∷ ys) k (omega arith) (λ d. simp add-one (simp add-one at (h d))))

  pub rising_answer : (xs : List X) (r : Bool) → IsAllAdjacentAnswer (λ x y b. b ≡ lt x y) xs r → r ≡ rising lt xs
  rising_answer xs true h = sym (rises xs h)
  rising_answer xs false h = sym (falls xs h.0 h.1 h.2)
