-- What each rule yields is true wherever the axioms and the clauses are. Assumes nothing.
use Rattle.std.proofs.Common.{◌≡◌, ℕ, zero, suc, Bool, true, false, ◌⊎◌, List, [], ◌∷◌, length, Some, sym, refl, ap, subst, inl, inr, arith}
use mathlib.Core.Logic.{∥∥₁_elim, ∥∥₁_prop}
use Rattle.std.specs.List.{slice_get}
use Rattle.std.proofs.lemmas.Bool.{both_ways, cases_Bool}
use Rattle.terms.specs.Lists.{◌∈◌, alike}
use Rattle.terms.specs.Literals.{literal_precedes}
use Rattle.terms.specs.Reaching.{Inclusion}
use Rattle.terms.specs.Roles.{backwards, mirror, name_of}
use Rattle.terms.specs.declared.literals.Literal.{Literal}
use Rattle.terms.specs.declared.literals.Literal.TheVariants.{Concept, Exists, Forall}
use Rattle.terms.specs.declared.roles.Role.{Role}
use Rattle.terms.specs.Positions.{literal_order}
use Rattle.terms.proofs.Sets.{alike_refl, alike_same}
use Rattle.models.specs.Semantics.{Implies, InSome, Interpretation, IsIn, Models, Pair, Satisfies, Sentence, implies, turned, under}
use Rattle.models.proofs.Pairs.{along_chain, mirror_pairs}
use Rattle.calculus.specs.Register.{Core, Hyper, LeadsTo, Pred, Register, inclusions, pairs, side_literal}
use Rattle.calculus.specs.Truth.{ClausesHold, RulesHold}
use Rattle.forms.specs.declared.sides.Side.{Side}

-- ---- lists

module _ {X : Type 0} where
  nth_in : (xs : List X) (n : ℕ) (x : X) → slice_get xs n ≡ Some x → x ∈ xs
  nth_in [] n x e = let z : ◌≡◌ {A = ℕ} 0 1 = cc in absurd (omega arith)
  nth_in (y ∷ xs) zero x e = let is : x ≡ y = cc in inl is
  nth_in (y ∷ xs) (suc n) x e = inr (nth_in xs n x e)

  same_at : (xs : List X) (n : ℕ) (x y : X) → slice_get xs n ≡ Some x → slice_get xs n ≡ Some y → x ≡ y
  same_at xs n x y d e = cc

  -- where each item can be taken to have P on the way to the goal, all can
  gather : (P : X → Type 0) (G : Type 0) (xs : List X) → ((x : X) → x ∈ xs → (P x → G) → G) → (((x : X) → x ∈ xs → P x) → G) → G
  gather P G [] each goal = goal (λ x m. absurd m)
  gather P G (y ∷ xs) each goal = each y (inl refl) (λ py. gather P G xs (λ x m. each x (inr m)) (λ rest. goal (λ x m. both py rest x m)))
    where
      both : P y → ((x : X) → x ∈ xs → P x) → (x : X) → (x ≡ y) ⊎ (x ∈ xs) → P x
      both py rest x (inl e) = subst P (sym e) py
      both py rest x (inr m) = rest x m

-- as many premises as left concepts: each concept has its premise
partner : (A : ℕ) (left premises : List ℕ) → length premises ≡ length left → A ∈ left → (n : ℕ) × ((A, n) ∈ pairs left premises)
partner A [] premises e m = absurd m
partner A (B ∷ left) [] e m = absurd (omega arith)
partner A (B ∷ left) (n ∷ premises) e (inl is) = (n, inl (λ i. (is i, n)))
partner A (B ∷ left) (n ∷ premises) e (inr m) = let w = partner A left premises (omega arith) m in (w.0, inr w.1)

-- ---- literals can be told apart

abbrev Apart : Literal → Literal → Type 0
Apart L D = (L ≡ D) ⊎ (L ≡ D → ⊥)

told_apart : (L D : Literal) → Apart L D
told_apart L D = go (cases_Bool (alike literal_precedes L D))
  where
    go : (alike literal_precedes L D ≡ true) ⊎ (alike literal_precedes L D ≡ false) → Apart L D
    go (inl t) = inl (alike_same literal_precedes literal_order L D t)
    go (inr f) = inr (λ e. both_ways (alike literal_precedes L D) f (subst (λ w. alike literal_precedes L w ≡ true) e (alike_refl literal_precedes literal_order L)))

module _ (I : Interpretation) where
  -- ---- roles

  inclusion_holds : (axioms : List Sentence) → Models I axioms → (E F : ℕ) → (E, F) ∈ inclusions axioms → Satisfies I (under E F)
  inclusion_holds [] m E F k = absurd k
  inclusion_holds (implies K H ∷ rest) m E F k = inclusion_holds rest (λ s l. m s (inr l)) E F k
  inclusion_holds (under G S ∷ rest) m E F (inl e) =
      let is : under E F ≡ under G S = ap (λ (d : Inclusion). under d.0 d.1) e in
      subst (Satisfies I) (sym is) (m (under G S) (inl refl))
  inclusion_holds (under G S ∷ rest) m E F (inr k) = inclusion_holds rest (λ s l. m s (inr l)) E F k

  reached_pairs : (R : Register) → Models I R.axioms → (E S : ℕ) → LeadsTo R E S → (x y : ℕ) → Pair I E x y → Pair I S x y
  reached_pairs R m E S r = along_chain I (inclusions R.axioms) (inclusion_holds R.axioms m) E S r

  pair_inside : (E x y : ℕ) → Pair I E x y → I.domain y
  pair_inside E x y h = go (backwards E) h
    where
      go : (b : Bool) → turned b (I.role (name_of E)) x y → I.domain y
      go true k = (I.role_inside (name_of E) y x k).0
      go false k = (I.role_inside (name_of E) x y k).1

  -- x is in D, unless it is in another literal of H
  unless : (G : Type 0) (D : Literal) (H : List Literal) (x : ℕ) → InSome I x H
      → ((L : Literal) → L ∈ H → (L ≡ D → ⊥) → IsIn I x L → ∥ G ∥₁) → (IsIn I x D → ∥ G ∥₁) → ∥ G ∥₁
  unless G D H x t other this = ∥∥₁_elim t ∥∥₁_prop (λ s. go s.0 s.1.0 s.1.1 (told_apart s.0 D))
    where
      go : (L : Literal) → L ∈ H → IsIn I x L → Apart L D → ∥ G ∥₁
      go L l is (inl e) = this (subst (IsIn I x) e is)
      go L l is (inr n) = other L l n is

  abbrev Goal : List Literal → ℕ → Type 0
  Goal claim x = (L : Literal) × ((L ∈ claim) × IsIn I x L)

  -- ---- the rules

  core_true : (R : Register) (V A : ℕ) (claim : List Literal) (K : List ℕ) → slice_get R.contexts V ≡ Some K → Core R V A claim → Implies I K claim
  core_true R V A claim K context c x inside all_of =
      let same : c.K ≡ K = same_at R.contexts V c.K K c.context context in
      ∣ (Concept A, ((c.yields (Concept A)).1 refl, all_of A (subst (λ (k : List ℕ). A ∈ k) same c.within))) ∣₁

  module _ (R : Register) (m : Models I R.axioms) (sound : ClausesHold I R) where
    hyper_true : (V X : ℕ) (premises : List ℕ) (claim : List Literal) (K : List ℕ) → slice_get R.contexts V ≡ Some K → Hyper R V X premises claim → Implies I K claim
    hyper_true V X premises claim K context h x inside all_of =
        gather (λ A. I.concept A x) (∥ Goal claim x ∥₁) h.left each
        (λ lefts. ∥∥₁_elim (m (implies h.left h.right) (nth_in R.axioms X _ h.listed) x inside lefts) ∥∥₁_prop (λ s. ∣ (s.0, ((h.yields s.0).1 (inl s.1.0), s.1.1)) ∣₁))
      where
        each : (A : ℕ) → A ∈ h.left → (I.concept A x → ∥ Goal claim x ∥₁) → ∥ Goal claim x ∥₁
        each A k goal =
            let i = partner A h.left premises h.as_many k in
            let p = h.each A i.0 i.1 in
            unless (Goal claim x) (Concept A) p.0 x (sound i.0 V p.0 K p.1.stands context x inside all_of)
            (λ L l n is. ∣ (L, ((h.yields L).1 (inr (A, i.0, p.0, i.1, p.1, l, n)), is)) ∣₁)
            goal

    pred_true : (V P : ℕ) (E : Role) (A : ℕ) (sides : List Side) (Q : ℕ) (claim : List Literal) (K : List ℕ) → slice_get R.contexts V ≡ Some K → Pred R V P E A sides Q claim → Implies I K claim
    pred_true V P E A sides Q claim K context d x inside all_of =
        unless (Goal claim x) (Exists E A) d.H x (sound P V d.H K d.first.stands context x inside all_of)
        (λ L l n is. ∣ (L, ((d.yields L).1 (inl (l, n)), is)) ∣₁)
        (λ is. ∥∥₁_elim is ∥∥₁_prop (λ w. gather (λ s. I.concept s.concept w.0) (∥ Goal claim x ∥₁) sides (each w.0 w.1.0) (far w.0 w.1.0 w.1.1)))
      where
        each : (y : ℕ) → Pair I E.code x y → (s : Side) → s ∈ sides → (I.concept s.concept y → ∥ Goal claim x ∥₁) → ∥ Goal claim x ∥₁
        each y xy s l goal =
            let g = d.each s l in
            unless (Goal claim x) (side_literal s) g.0 x (sound s.clause V g.0 K g.1.premise.stands context x inside all_of)
            (λ L k n is. ∣ (L, ((d.yields L).1 (inr (inl (s, g.0, l, g.1, k, n))), is)) ∣₁)
            (λ is. goal (is y (reached_pairs R m E.code s.role.code g.1.reached x y xy)))

        back : (y : ℕ) → Pair I E.code x y → (L : Literal) × ((L ∈ d.far) × IsIn I y L) → ∥ Goal claim x ∥₁
        back y xy s =
            let b = d.back s.0 s.1.0 in
            let is : IsIn I y (Forall b.0 b.1) = subst (IsIn I y) b.2 s.1.1 in
            let l : Forall b.0 b.1 ∈ d.far = subst (λ (L : Literal). L ∈ d.far) b.2 s.1.0 in
            ∣ (Concept b.1, ((d.yields (Concept b.1)).1 (inr (inr (b.0, b.1, l, refl))), is x (reached_pairs R m (mirror E.code) b.0.code b.3 y x ((mirror_pairs I E.code y x).1 xy)))) ∣₁

        within : (y : ℕ) → I.concept A y → ((s : Side) → s ∈ sides → I.concept s.concept y) → (B : ℕ) → (B ≡ A) ⊎ ((s : Side) × (s ∈ sides) × (B ≡ s.concept)) → I.concept B y
        within y ya fillers B (inl e) = subst (λ (C : ℕ). I.concept C y) (sym e) ya
        within y ya fillers B (inr t) = subst (λ (C : ℕ). I.concept C y) (sym t.2) (fillers t.0 t.1)

        far : (y : ℕ) → Pair I E.code x y → I.concept A y → ((s : Side) → s ∈ sides → I.concept s.concept y) → ∥ Goal claim x ∥₁
        far y xy ya fillers =
            ∥∥₁_elim (sound Q d.U d.far d.K d.far_stands d.context y (pair_inside E.code x y xy) (λ B l. within y ya fillers B ((d.exact B).0 l))) ∥∥₁_prop (back y xy)

  pub rules_true : RulesHold I
  rules_true = record { core_holds = core_true; hyper_holds = hyper_true; pred_holds = pred_true }
