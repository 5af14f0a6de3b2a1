-- What is left of a list, one item on. Assumes nothing.
use Rattle.std.proofs.Common.{◌≡◌, ℕ, suc, ◌+◌, ◌<◌, Bool, true, false, List, [], ◌∷◌, length, get_or, drop, sym, refl, ap, ◌∙◌}
use Rattle.std.proofs.lemmas.List.{drop_more}
use Rattle.std.proofs.lemmas.Bool.{and_right, cond-true, cond-false}
use Rattle.terms.specs.Lists.{alike, equal, removal}

-- what is left of xs at i, where x was read
pub drop_read : {X : Type 0} (xs : List X) (i : ℕ) (x : X) → i < length xs → x ≡ get_or xs i x → drop i xs ≡ x ∷ drop (i + 1) xs
drop_read xs i x within read = drop_more xs i x within ∙ ap (λ y. y ∷ drop (i + 1) xs) (sym read)

module _ {X : Type 0} (lt : X → X → Bool) where
  pub equal_length : (xs ys : List X) → (length xs ≡ length ys → ⊥) → equal lt xs ys ≡ false
  equal_length [] [] n = absurd (n refl)
  equal_length [] (y ∷ ys) n = refl
  equal_length (x ∷ xs) [] n = refl
  equal_length (x ∷ xs) (y ∷ ys) n = and_right _ _ (equal_length xs ys (λ e. n (ap suc e)))

  -- ---- the removal, one item on

  pub removal_drops : (x y : X) (us vs : List X) → us ≡ y ∷ vs → alike lt x y ≡ true → removal lt x us ≡ removal lt x vs
  removal_drops x y us vs e h = ap (removal lt x) e ∙ cond-true _ _ _ h

  pub removal_keeps : (x y : X) (us vs : List X) → us ≡ y ∷ vs → alike lt x y ≡ false → removal lt x us ≡ y ∷ removal lt x vs
  removal_keeps x y us vs e h = ap (removal lt x) e ∙ cond-false _ _ _ h
