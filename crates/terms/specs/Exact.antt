-- `==`, as it is derived on an enum, decides sameness where it does so of the fields of each variant. Assumes nothing.
use Rattle.std.specs.Prelude.{◌≡◌, ℕ, Bool, true, false, ◌&&◌, ◌⊎◌, List, [], ◌∷◌, Decides, ◌==◌, refl}
use Rattle.std.proofs.Common.{sym, ap, subst, inl, inr}
use Rattle.std.proofs.lemmas.Bool.{false≢true, eqb-true, eq-eqb, and_parts, and_from}
use denote.Struct.Field.{Field}
use denote.Struct.Values.{Values}
use denote.Enum.Declared.{Record, Choice, values_one, left_or, right_or}
use denote.Enum.Compared.{Each, by}

-- the test of each variant decides whether its fields are the same
abbrev pub EachDecides : (Fss : List (List Field)) → Each Bool Fss → Type 0
EachDecides [] each = Unit {0}
EachDecides (Fs ∷ Fss) each = ((x y : Values Fs) → Decides (each.0 x y) (x ≡ y)) × EachDecides Fss each.1

abbrev OnLeft : {A B : Type 0} → A ⊎ B → Type 0
OnLeft (inl x) = Unit {0}
OnLeft (inr y) = ⊥

choice_decides : (Fss : List (List Field)) (each : Each Bool Fss) → EachDecides Fss each → (c d : Choice Fss) → Decides (by false false Fss each c d) (c ≡ d)
choice_decides [] each h c d = absurd c
choice_decides (Fs ∷ Fss) each h (inl x) (inl y) = (λ e. ap inl ((h.0 x y).0 e), λ e. (h.0 x y).1 (ap (left_or x) e))
choice_decides (Fs ∷ Fss) each h (inr c) (inr d) = let k = choice_decides Fss each.1 h.1 c d in (λ e. ap inr (k.0 e), λ e. k.1 (ap (right_or c) e))
choice_decides (Fs ∷ Fss) each h (inl x) (inr d) = (λ e. absurd (false≢true e), λ e. absurd (subst OnLeft e tt))
choice_decides (Fs ∷ Fss) each h (inr c) (inl y) = (λ e. absurd (false≢true e), λ e. absurd (subst OnLeft (sym e) tt))

pub enum_decides : (N : Record) (each : Each Bool N.parts) → EachDecides N.parts each → (x y : N.D) → Decides (by false false N.parts each (N.as_values x) (N.as_values y)) (x ≡ y)
enum_decides N each h x y =
    let k = choice_decides N.parts each h (N.as_values x) (N.as_values y) in
    (λ e. values_one N x y (k.0 e), λ e. k.1 (ap N.as_values e))

-- no field, one number, two numbers
pub none_decide : (x y : Unit {0}) → Decides true (x ≡ y)
none_decide x y = (λ _. refl, λ _. refl)

pub one_decides : (x y : ℕ × Unit {0}) → Decides (x.0 == y.0) (x ≡ y)
one_decides x y = (λ e. let p = eqb-true x.0 y.0 e in λ i. (p i, tt), λ e. eq-eqb x.0 y.0 (ap (λ (z : ℕ × Unit {0}). z.0) e))

pub two_decide : (x y : ℕ × (ℕ × Unit {0})) → Decides (x.0 == y.0 && x.1.0 == y.1.0) (x ≡ y)
two_decide x y = (
  λ e. let b = and_parts _ _ e in
      let p = eqb-true x.0 y.0 b.0 in
      let q = eqb-true x.1.0 y.1.0 b.1 in
      λ i. (p i, (q i, tt)),
  λ e. and_from _ _ (eq-eqb x.0 y.0 (ap (λ (z : ℕ × (ℕ × Unit {0})). z.0) e)) (eq-eqb x.1.0 y.1.0 (ap (λ (z : ℕ × (ℕ × Unit {0})). z.1.0) e)),
)
