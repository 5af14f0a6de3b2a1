-- Pairs of roles in any interpretation: of mirrors, and along chains of inclusions. Assumes nothing.
use Rattle.std.proofs.Common.{◌≡◌, ℕ, Bool, true, false, not, ◌↔◌, List, sym, ap, ◌∙◌, subst}
use Rattle.terms.specs.Lists.{◌∈◌}
use Rattle.terms.specs.Reaching.{Inclusion, Leads, Reaches, chain, here, listed, mirrored}
use Rattle.terms.specs.Roles.{backwards, mirror, name_of}
use Rattle.terms.specs.Codes.{mirror_name, mirror_way}
use Rattle.models.specs.Semantics.{Interpretation, Pair, Satisfies, turned, under}

module _ (I : Interpretation) where
  turned_not : (b : Bool) (pairs : ℕ → ℕ → Type 0) (x y : ℕ) → turned (not b) pairs x y ↔ turned b pairs y x
  turned_not true pairs x y = (λ h. h, λ h. h)
  turned_not false pairs x y = (λ h. h, λ h. h)

  -- the pair of the mirror, by the code's own reading
  as_not : (E x y : ℕ) → Pair I (mirror E) x y ≡ turned (not (backwards E)) (I.role (name_of E)) x y
  as_not E x y = ap (λ b. turned b (I.role (name_of (mirror E))) x y) (mirror_way E) ∙ ap (λ n. turned (not (backwards E)) (I.role n) x y) (mirror_name E)

  pub mirror_pairs : (E x y : ℕ) → Pair I (mirror E) x y ↔ Pair I E y x
  mirror_pairs E x y = (
    λ h. (turned_not (backwards E) (I.role (name_of E)) x y).0 (subst (λ (P : Type 0). P) (as_not E x y) h),
    λ h. subst (λ (P : Type 0). P) (sym (as_not E x y)) ((turned_not (backwards E) (I.role (name_of E)) x y).1 h),
  )

  module _ (l : List Inclusion) (all : (E F : ℕ) → (E, F) ∈ l → Satisfies I (under E F)) where
    -- one inclusion, as listed or of its mirrors
    one_step : (E F : ℕ) → Leads l E F → (x y : ℕ) → Pair I E x y → Pair I F x y
    one_step E F (listed m) x y h = all E F m x y h
    one_step E F (mirrored m) x y h = mirror_back F (all (mirror E) (mirror F) m y x ((mirror_pairs E y x).1 h))
      where
        mirror_back : (G : ℕ) → Pair I (mirror G) y x → Pair I G x y
        mirror_back G k = (mirror_pairs G y x).0 k

    pub along_chain : (E S : ℕ) → Reaches l E S → (x y : ℕ) → Pair I E x y → Pair I S x y
    along_chain E S here x y h = h
    along_chain E S (chain {F = F} s r) x y h = along_chain F S r x y (one_step E F s x y h)
