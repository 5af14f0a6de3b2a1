-- The tests of the judge decide what the semantics says of the interpretation that the sample is. Assumes nothing.
use Rattle.std.proofs.Common.{◌≡◌, ℕ, ◌<◌, ◌≤◌, max, Bool, true, false, cond, not, ◌⊎◌, List, Some, None, Decides, inl, inr, arith}
use mathlib.Core.Logic.{∥∥₁_elim}
use Rattle.std.proofs.lemmas.Bool.{and_parts, both_ways, cases_Bool, lt-ltb, ltb-true}
use Rattle.std.proofs.lemmas.Bool.Decides.{Decides-and, Decides-like, Decides-not, not_from_Decides}
use Rattle.terms.specs.Lists.{◌∈◌}
use Rattle.terms.specs.Roles.{backwards, name_of}
use Rattle.terms.specs.declared.literals.Literal.{Literal}
use Rattle.terms.specs.declared.literals.Literal.TheVariants.{Concept, Exists, Forall}
use Rattle.models.specs.Judging.{all_test, any_test, contradicts_test, fails_test, filler_at, filler_test, first_failure, literal_test, missing_at, missing_test, pair_test, some_test}
use Rattle.models.specs.Meanings.{Meaning, element_in, interpretation, linked}
use Rattle.models.specs.Semantics.{Contradicts, FailsAt, Implies, InAll, InSome, IsIn, Pair, Satisfies, Sentence, implies, turned, under}
use Rattle.models.proofs.Decided.{decides_any, decides_every, decides_below, found, none_found}

⊥_prop : (x y : ⊥) → x ≡ y
⊥_prop x y = absurd x

module _ (m : Meaning) where
  element_decides : (A x : ℕ) → Decides (element_in m A x) ((interpretation m).concept A x)
  element_decides A x = (λ h. h, λ h. h)

  -- ---- pairs

  pair_decides : (E x y : ℕ) → Decides (pair_test m E x y) (Pair (interpretation m) E x y)
  pair_decides E x y = go (backwards E)
    where
      go : (b : Bool) → Decides (cond b (linked m (name_of E) y x) (linked m (name_of E) x y)) (turned b ((interpretation m).role (name_of E)) x y)
      go true = (λ h. h, λ h. h)
      go false = (λ h. h, λ h. h)

  linked_below : (r x y : ℕ) → linked m r x y ≡ true → (x < m.size) × (y < m.size)
  linked_below r x y h = let both = and_parts _ _ (and_parts _ _ h).0 in (ltb-true _ _ both.0, ltb-true _ _ both.1)

  pair_below : (E x y : ℕ) → Pair (interpretation m) E x y → (x < m.size) × (y < m.size)
  pair_below E x y h = go (backwards E) h
    where
      go : (b : Bool) → turned b ((interpretation m).role (name_of E)) x y → (x < m.size) × (y < m.size)
      go true k = let p = linked_below (name_of E) y x k in (p.1, p.0)
      go false k = linked_below (name_of E) x y k

  -- ---- literals

  filler_decides : (E A x : ℕ) → Decides (filler_test m E A true x) (∥ ((y : ℕ) × (Pair (interpretation m) E x y × (interpretation m).concept A y)) ∥₁)
  filler_decides E A x =
      decides_below (filler_at m E A true x) (λ y. Pair (interpretation m) E x y × (interpretation m).concept A y)
      (λ y. Decides-and _ _ (pair_decides E x y) (element_decides A y)) m.size (λ y h. (pair_below E x y h.0).1)

  other_decides : (E A x : ℕ) → Decides (filler_test m E A false x) (∥ ((y : ℕ) × (Pair (interpretation m) E x y × ((interpretation m).concept A y → ⊥))) ∥₁)
  other_decides E A x =
      decides_below (filler_at m E A false x) (λ y. Pair (interpretation m) E x y × ((interpretation m).concept A y → ⊥))
      (λ y. Decides-and _ _ (pair_decides E x y) (Decides-not _ (element_decides A y))) m.size (λ y h. (pair_below E x y h.0).1)

  -- where no pair leads out of A, every pair leads into it
  none_out : (E A x : ℕ) → (∥ ((y : ℕ) × (Pair (interpretation m) E x y × ((interpretation m).concept A y → ⊥))) ∥₁ → ⊥) → (y : ℕ) → Pair (interpretation m) E x y → (interpretation m).concept A y
  none_out E A x n y h = go (cases_Bool (element_in m A y))
    where
      go : (element_in m A y ≡ true) ⊎ (element_in m A y ≡ false) → (interpretation m).concept A y
      go (inl t) = t
      go (inr f) = absurd (n ∣ (y, (h, both_ways (element_in m A y) f)) ∣₁)

  all_in : (E A x : ℕ) → ((y : ℕ) → Pair (interpretation m) E x y → (interpretation m).concept A y) → ∥ ((y : ℕ) × (Pair (interpretation m) E x y × ((interpretation m).concept A y → ⊥))) ∥₁ → ⊥
  all_in E A x f w = ∥∥₁_elim w ⊥_prop (λ v. v.1.1 (f v.0 v.1.0))

  literal_decides : (x : ℕ) (L : Literal) → Decides (literal_test m x L) (IsIn (interpretation m) x L)
  literal_decides x (Concept A) = element_decides A x
  literal_decides x (Exists E A) = filler_decides E.code A x
  literal_decides x (Forall E A) = Decides-like _ (none_out E.code A x) (all_in E.code A x) (Decides-not _ (other_decides E.code A x))

  all_decides : (x : ℕ) (K : List ℕ) → Decides (all_test m x K) (InAll (interpretation m) x K)
  all_decides x K = decides_every (λ A. element_in m A x) (λ A. (interpretation m).concept A x) (λ A. element_decides A x) K

  some_decides : (x : ℕ) (H : List Literal) → Decides (some_test m x H) (InSome (interpretation m) x H)
  some_decides x H = decides_any (literal_test m x) (IsIn (interpretation m) x) (literal_decides x) H

  -- x is in none of the concepts
  none_decides : (x : ℕ) (M : List ℕ) → Decides (not (any_test m x M)) ((B : ℕ) → B ∈ M → (interpretation m).concept B x → ⊥)
  none_decides x M =
      Decides-like _ (λ n B k h. n ∣ (B, (k, h)) ∣₁) (λ f w. ∥∥₁_elim w ⊥_prop (λ v. f v.0 v.1.0 v.1.1))
      (Decides-not _ (decides_any (λ A. element_in m A x) (λ A. (interpretation m).concept A x) (λ A. element_decides A x) M))

  -- ---- sentences

  missing_decides : (E S x : ℕ) → Decides (missing_test m E S x) (∥ ((y : ℕ) × (Pair (interpretation m) E x y × (Pair (interpretation m) S x y → ⊥))) ∥₁)
  missing_decides E S x =
      decides_below (missing_at m E S x) (λ y. Pair (interpretation m) E x y × (Pair (interpretation m) S x y → ⊥))
      (λ y. Decides-and _ _ (pair_decides E x y) (Decides-not _ (pair_decides S x y))) m.size (λ y h. (pair_below E x y h.0).1)

  module _ (ne : 1 ≤ m.size) where
    domain_below : (x : ℕ) → (interpretation m).domain x → x < m.size
    domain_below x h = omega (arith, ltb-true x (max 1 m.size) h)

    below_domain : (x : ℕ) → x < m.size → (interpretation m).domain x
    below_domain x h = lt-ltb x (max 1 m.size) (omega arith)

    -- at an element, the test is right
    pub fails_decides : (s : Sentence) (x : ℕ) → x < m.size → Decides (fails_test m s x) (FailsAt (interpretation m) x s)
    fails_decides (implies K H) x h =
        Decides-like _ (λ p. (below_domain x h, p)) (λ p. p.1) (Decides-and _ _ (all_decides x K) (Decides-not _ (some_decides x H)))
    fails_decides (under E S) x h = missing_decides E S x

    pub contradicts_decides : (K M : List ℕ) (x : ℕ) → x < m.size → Decides (contradicts_test m K M x) (Contradicts (interpretation m) K M x)
    contradicts_decides K M x h =
        Decides-like _ (λ p. (below_domain x h, p)) (λ p. p.1) (Decides-and _ _ (all_decides x K) (none_decides x M))

    pub contradicts_below : (K M : List ℕ) (x : ℕ) → Contradicts (interpretation m) K M x → x < m.size
    contradicts_below K M x h = domain_below x h.0

    -- ---- nothing fails, or something does

    implied : (K : List ℕ) (H : List Literal) → first_failure m (implies K H) ≡ None → Implies (interpretation m) K H
    implied K H e x d k = go (cases_Bool (some_test m x H))
      where
        go : (some_test m x H ≡ true) ⊎ (some_test m x H ≡ false) → InSome (interpretation m) x H
        go (inl t) = (some_decides x H).0 t
        go (inr f) =
            let passed = none_found (fails_test m (implies K H)) m.size 0 e x (omega arith) (omega (arith, domain_below x d)) in
            let fails = (Decides-and _ _ (all_decides x K) (Decides-not _ (some_decides x H))).1 (k, not_from_Decides _ (some_decides x H) f) in
            absurd (both_ways (fails_test m (implies K H) x) passed fails)

    included : (E S : ℕ) → first_failure m (under E S) ≡ None → (x y : ℕ) → Pair (interpretation m) E x y → Pair (interpretation m) S x y
    included E S e x y h = go (cases_Bool (pair_test m S x y))
      where
        go : (pair_test m S x y ≡ true) ⊎ (pair_test m S x y ≡ false) → Pair (interpretation m) S x y
        go (inl t) = (pair_decides S x y).0 t
        go (inr f) =
            let passed = none_found (fails_test m (under E S)) m.size 0 e x (omega arith) (omega (arith, (pair_below E x y h).0)) in
            let fails = (missing_decides E S x).1 ∣ (y, (h, not_from_Decides _ (pair_decides S x y) f)) ∣₁ in
            absurd (both_ways (fails_test m (under E S) x) passed fails)

    pub satisfied : (s : Sentence) → first_failure m s ≡ None → Satisfies (interpretation m) s
    satisfied (implies K H) e = implied K H e
    satisfied (under E S) e = included E S e

    fails_not : (s : Sentence) (x : ℕ) → Satisfies (interpretation m) s → FailsAt (interpretation m) x s → ⊥
    fails_not (implies K H) x sat f = f.1.1 (sat x f.0 f.1.0)
    fails_not (under E S) x sat f = ∥∥₁_elim f ⊥_prop (λ w. w.1.1 (sat x w.0 w.1.0))

    pub not_satisfied : (s : Sentence) (x : ℕ) → first_failure m s ≡ Some x → Satisfies (interpretation m) s → ⊥
    not_satisfied s x e sat =
        let f = found (fails_test m s) m.size 0 x e in
        fails_not s x sat ((fails_decides s x (omega (arith, f.high))).0 f.passes)
