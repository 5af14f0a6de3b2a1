-- Searches that decide: there is such a number, such an item, or every item is such. Assumes nothing.
use Rattle.std.proofs.Common.{◌≡◌, ℕ, zero, suc, ◌+◌, ◌<◌, ◌≤◌, Bool, true, false, cond, ◌⊎◌, List, [], ◌∷◌, Option, Some, None, is_some, Decides, sym, refl, ap, subst, inl, inr, ⊎_elim, arith}
use mathlib.Core.Bool.{Bool-set}
use mathlib.Core.Logic.{∥∥₁_elim}
use Rattle.std.specs.List.{find, list_all, list_any, range_with_len}
use Rattle.std.proofs.lemmas.Bool.{and_parts, and_from, both_ways, cases_lt, or_cases, or_left, or_right, true≢false}
use Rattle.terms.specs.Lists.{◌∈◌}
use Rattle.models.specs.Judging.{lowest}

-- what a search finds: it passes, and none before it does
pub record Found (p : ℕ → Bool) (from end x : ℕ) : Type 0 where
  pub passes : p x ≡ true
  pub low : from ≤ x
  pub high : x < end
  pub first : (k : ℕ) → from ≤ k → k < x → p k ≡ false

module _ (p : ℕ → Bool) where
  first_more : (from k x : ℕ) → p from ≡ false → ((j : ℕ) → from + 1 ≤ j → j < x → p j ≡ false) → from ≤ k → k < x → p k ≡ false
  first_more from k x t rest a b = go (cases_lt from k)
    where
      go : (from < k) ⊎ (k ≤ from) → p k ≡ false
      go (inl more) = rest k (omega arith) b
      go (inr same) = let is : from ≡ k = omega arith in subst (λ j. p j ≡ false) is t

  pub found : (n from x : ℕ) → find p (range_with_len from n) ≡ Some x → Found p from (from + n) x
  found zero from x h = let z : ◌≡◌ {A = ℕ} 0 1 = cc in absurd (omega arith)
  found (suc n) from x h = go (found n (from + 1) x) (p from) refl h
    where
      go : (find p (range_with_len (from + 1) n) ≡ Some x → Found p (from + 1) (from + 1 + n) x) → (b : Bool) → p from ≡ b → cond b (Some from) (find p (range_with_len (from + 1) n)) ≡ Some x → Found p from (from + suc n) x
      go rec true t e =
          let is : from ≡ x = cc in
          record { passes = subst (λ k. p k ≡ true) is t; low = omega (arith, is); high = omega (arith, is); first = λ k a b. absurd (omega (arith, is)) }
      go rec false t e =
          let f = rec e in
          record { passes = f.passes; low = omega (arith, f.low); high = omega (arith, f.high); first = λ k a b. first_more from k x t f.first a b }

  pub none_found : (n from : ℕ) → find p (range_with_len from n) ≡ None → (k : ℕ) → from ≤ k → k < from + n → p k ≡ false
  none_found zero from h k a b = absurd (omega arith)
  none_found (suc n) from h k a b = go (none_found n (from + 1)) (p from) refl h
    where
      go : (find p (range_with_len (from + 1) n) ≡ None → (j : ℕ) → from + 1 ≤ j → j < from + 1 + n → p j ≡ false) → (c : Bool) → p from ≡ c → cond c (Some from) (find p (range_with_len (from + 1) n)) ≡ None → p k ≡ false
      go rec true t e = let z : ◌≡◌ {A = ℕ} 0 1 = cc in absurd (omega arith)
      go rec false t e = first_more from k (from + 1 + n) t (rec e) a (omega arith)

  pub cases_found : (o : Option ℕ) → ((x : ℕ) × (o ≡ Some x)) ⊎ (o ≡ None)
  cases_found (Some x) = inl (x, refl)
  cases_found None = inr refl

  pub some_found : (n k : ℕ) → k < n → p k ≡ true → is_some (lowest p n) ≡ true
  some_found n k h t = go (cases_found (lowest p n))
    where
      go : ((x : ℕ) × (lowest p n ≡ Some x)) ⊎ (lowest p n ≡ None) → is_some (lowest p n) ≡ true
      go (inl (x, e)) = ap is_some e
      go (inr e) = absurd (both_ways (p k) (none_found n 0 e k (omega arith) (omega arith)) t)

  -- a number that passes, if some number from `from` to the end does
  passing : (n from : ℕ) → list_any p (range_with_len from n) ≡ true → (k : ℕ) × (p k ≡ true)
  passing zero from h = absurd (true≢false (sym h))
  passing (suc n) from h = ⊎_elim (λ t. (from, t)) (passing n (from + 1)) (or_cases _ _ h)

  some_passes : (n from k : ℕ) → from ≤ k → k < from + n → p k ≡ true → list_any p (range_with_len from n) ≡ true
  some_passes zero from k a b t = absurd (omega arith)
  some_passes (suc n) from k a b t =
      ⊎_elim (λ lt. or_right _ _ (some_passes n (from + 1) k (omega arith) (omega arith) t)) (λ le. let is : k ≡ from = omega arith in or_left _ _ (subst (λ j. p j ≡ true) is t)) (cases_lt from k)

bool_prop : (b : Bool) (x y : b ≡ true) → x ≡ y
bool_prop b x y = Bool-set b true x y

-- there is a number that passes, where each that passes is below n
pub decides_lowest : (p : ℕ → Bool) (P : ℕ → Type 0) (each : (k : ℕ) → Decides (p k) (P k)) (n : ℕ) → ((k : ℕ) → P k → k < n) → Decides (is_some (lowest p n)) (∥ ((k : ℕ) × P k) ∥₁)
decides_lowest p P each n inside = (forth, λ h. ∥∥₁_elim h (bool_prop _) (λ w. some_found p n w.0 (inside w.0 w.1) ((each w.0).1 w.1)))
  where
    forth : is_some (lowest p n) ≡ true → ∥ ((k : ℕ) × P k) ∥₁
    forth h = go (cases_found p (lowest p n))
      where
        go : ((x : ℕ) × (lowest p n ≡ Some x)) ⊎ (lowest p n ≡ None) → ∥ ((k : ℕ) × P k) ∥₁
        go (inl (x, e)) = ∣ (x, (each x).0 (found p n 0 x e).passes) ∣₁
        go (inr e) = absurd (both_ways (is_some (lowest p n)) (ap is_some e) h)

-- the same, told by whether some number below n passes
pub decides_below : (p : ℕ → Bool) (P : ℕ → Type 0) (each : (k : ℕ) → Decides (p k) (P k)) (n : ℕ) → ((k : ℕ) → P k → k < n) → Decides (list_any p (range_with_len 0 n)) (∥ ((k : ℕ) × P k) ∥₁)
decides_below p P each n inside = (
  λ h. let w = passing p n 0 h in ∣ (w.0, (each w.0).0 w.1) ∣₁,
  λ h. ∥∥₁_elim h (bool_prop _) (λ w. let below = inside w.0 w.1 in some_passes p n 0 w.0 (omega arith) (omega arith) ((each w.0).1 w.1)),
)

module _ {X : Type 0} (p : X → Bool) (P : X → Type 0) (each : (x : X) → Decides (p x) (P x)) where
  pub decides_every : (xs : List X) → Decides (list_all p xs) ((z : X) → z ∈ xs → P z)
  decides_every [] = (λ h z m. absurd m, λ h. refl)
  decides_every (x ∷ xs) = (
    λ h z m. ⊎_elim (λ e. subst P (sym e) ((each x).0 (and_parts _ _ h).0)) (λ k. (decides_every xs).0 (and_parts _ _ h).1 z k) m,
    λ h. and_from _ _ ((each x).1 (h x (inl refl))) ((decides_every xs).1 (λ z m. h z (inr m))),
  )

  any_in : (xs : List X) (z : X) → z ∈ xs → P z → list_any p xs ≡ true
  any_in [] z m h = absurd m
  any_in (x ∷ xs) z (inl e) h = or_left _ _ ((each x).1 (subst P e h))
  any_in (x ∷ xs) z (inr m) h = or_right _ _ (any_in xs z m h)

  in_any : (xs : List X) → list_any p xs ≡ true → (z : X) × ((z ∈ xs) × P z)
  in_any [] h = absurd (true≢false (sym h))
  in_any (x ∷ xs) h = ⊎_elim (λ t. (x, (inl refl, (each x).0 t))) (λ t. let w = in_any xs t in (w.0, (inr w.1.0, w.1.1))) (or_cases _ _ h)

  pub decides_any : (xs : List X) → Decides (list_any p xs) (∥ ((z : X) × ((z ∈ xs) × P z)) ∥₁)
  decides_any xs = (λ h. ∣ in_any xs h ∣₁, λ h. ∥∥₁_elim h (bool_prop _) (λ w. any_in xs w.0 w.1.0 w.1.1))
