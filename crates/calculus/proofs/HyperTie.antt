-- A core or hyper step passes its checks exactly when the rule yields its claim. Assumes nothing.
use Rattle.std.proofs.Common.{◌≡◌, ℕ, ◌≤◌, true, eqb, ltb, ◌⊎◌, ◌↔◌, List, [], ◌∷◌, length, Ok, sym, refl, ap, ◌∙◌, subst, inl, inr, ⊎_elim, arith}
use Rattle.std.proofs.lemmas.Bool.{eq-eqb, eqb-true}
use Rattle.std.proofs.lemmas.Bool.Decides.{nat_tests}
use Rattle.std.specs.List.{slice_get}
use Rattle.terms.specs.Lists.{◌∈◌, TotalOrder, member, rising}
use Rattle.terms.specs.Literals.{literal_precedes}
use Rattle.terms.specs.declared.literals.Literal.{Literal}
use Rattle.terms.specs.declared.literals.Literal.TheVariants.{Concept}
use Rattle.terms.specs.declared.refusals.Refusal.TheVariants.{ContextNotOpened, CoreDiffers, NoConceptAxiom, PremisesMiscounted}
use Rattle.terms.specs.Positions.{literal_order}
use Rattle.terms.proofs.Sets.{member_means, removal_means, rising_same}
use Rattle.calculus.specs.Checks.{core_check, core_of, gathered, hyper_check, hyper_row, passes, premise_brings, premise_test, ready, required, sides_of}
use Rattle.calculus.specs.Fronts.{placed_all}
use Rattle.forms.specs.Limits.{head_limit}
use Rattle.calculus.specs.Register.{Core, Hyper, Premise, Ready, Register, pairs}
use Rattle.calculus.proofs.Passing.{and_then_ok, and_then_on, claimed_ok, claimed_yes, passes_ok, passes_yes, premise_ok, premise_yes, ready_ok, ready_yes, required_ok, sides_ok}
use Rattle.calculus.proofs.Placed.{placed_all_new, placed_all_only, rising_placed_all}
use Rattle.calculus.proofs.Walks.{walk_each, walk_has, walk_out, walk_rises}

-- ---- core

pub concept_order : TotalOrder ltb
concept_order = record {
  irreflexive = λ x. grind (arith, nat_tests);
  transitive = λ x y z p q. grind (arith, nat_tests);
  total = λ x y p q. grind (arith, nat_tests);
}

-- the claim of a core step is its concept alone
pub core_exactly : (R : Register) (scratch V A : ℕ) → (core_check R scratch V A ≡ Ok tt) ↔ (Ready R scratch × Core R V A (Concept A ∷ []))
core_exactly R scratch V A = (forth, back)
  where
    forth : core_check R scratch V A ≡ Ok tt → Ready R scratch × Core R V A (Concept A ∷ [])
    forth h =
        let a = and_then_ok (ready R scratch) _ tt h in
        let b = and_then_ok (core_of R V) _ tt a.2 in
        let K = b.0 in
        let within = (member_means ltb concept_order (member ltb A K) A K refl).0 (passes_ok (member ltb A K) (CoreDiffers V) tt b.2) in (
          ready_ok R scratch a.0 a.1,
          record {
            K = K;
            context = required_ok (ContextNotOpened V) (slice_get R.contexts V) K b.1;
            within = within;
            yields = λ L. (⊎_elim (λ e. e) (λ m. absurd m), inl);
          },
        )

    back : Ready R scratch × Core R V A (Concept A ∷ []) → core_check R scratch V A ≡ Ok tt
    back p =
        let c = p.1 in
        and_then_on (ready R scratch) _ tt (ready_yes R scratch p.0)
        ∙ and_then_on (core_of R V) _ c.K (ap (required (ContextNotOpened V)) c.context)
        ∙ passes_yes (member ltb A c.K) (CoreDiffers V) ((member_means ltb concept_order (member ltb A c.K) A c.K refl).1 c.within)

-- ---- hyper

module _ (R : Register) (V : ℕ) where
  abbrev Good : (ℕ × ℕ) → List Literal → Type 0
  Good p H = Premise R V p.1 (Concept p.0) H

  premise_sound : (i : ℕ) (p : ℕ × ℕ) (H : List Literal) → premise_test R.clauses V i p ≡ Ok H → Good p H
  premise_sound i p H h = let q = premise_ok R i V p.1 (Concept p.0) H h in record { stands = q.0; has = q.1 }

  premise_complete : (i : ℕ) (p : ℕ × ℕ) (H : List Literal) → Good p H → premise_test R.clauses V i p ≡ Ok H
  premise_complete i p H g = premise_yes R i V p.1 (Concept p.0) H g.stands g.has

  abbrev Adds : List ℕ → List ℕ → Literal → Type 0
  Adds left ns L = (A n : ℕ) × (H : List Literal) × ((A, n) ∈ pairs left ns) × Premise R V n (Concept A) H × (L ∈ H) × (L ≡ Concept A → ⊥)

  -- the gathered row has what the rule says
  yields_row : (left ns : List ℕ) (right out : List Literal) → gathered R.clauses V left ns (placed_all literal_precedes right []) ≡ Ok out → (L : Literal) → (L ∈ out) ↔ ((L ∈ right) ⊎ Adds left ns L)
  yields_row left ns right out h L =
      let w = walk_has (premise_test R.clauses V) premise_brings Good premise_sound premise_complete (pairs left ns) 0 (placed_all literal_precedes right []) out h L in (
        λ m. ⊎_elim (λ q. ⊎_elim inl (λ e. absurd e) (placed_all_only literal_precedes L right [] q)) (λ b. let k = (removal_means literal_precedes literal_order (Concept b.0.0) b.1 L).0 b.4 in inr (b.0.0, b.0.1, b.1, b.2, b.3, k.0, k.1)) (w.0 m),
        ⊎_elim (λ m. w.1 (inl (placed_all_new literal_precedes literal_order L right [] m))) (λ b. w.1 (inr ((b.0, b.1), b.2, b.3, b.4, (removal_means literal_precedes literal_order (Concept b.0) b.2 L).1 (b.5, b.6)))),
      )

module _ (R : Register) (scratch V X : ℕ) (ns : List ℕ) (claim : List Literal) where
  hyper_taken : hyper_check R scratch V X ns claim ≡ Ok tt → Ready R scratch × Hyper R V X ns claim
  hyper_taken h =
      let a = and_then_ok (ready R scratch) _ tt h in
      let b = and_then_ok (core_of R V) _ tt a.2 in
      let s = and_then_ok (sides_of (NoConceptAxiom X) (slice_get R.axioms X)) _ tt b.2 in
      let left = s.0.0 in
      let right = s.0.1 in
      let t = and_then_ok (hyper_row R V left ns right) _ tt s.2 in
      let n = and_then_ok (passes (eqb (length ns) (length left)) (PremisesMiscounted (length ns) (length left))) _ t.0 t.1 in
      let same = claimed_ok t.0 claim tt t.2 in (
        ready_ok R scratch a.0 a.1,
        record {
          K = b.0;
          context = required_ok (ContextNotOpened V) (slice_get R.contexts V) b.0 b.1;
          left = left;
          right = right;
          listed = sides_ok (NoConceptAxiom X) (slice_get R.axioms X) s.0 s.1;
          as_many = eqb-true (length ns) (length left) (passes_ok _ _ n.0 n.1);
          each = λ A m l. walk_each (premise_test R.clauses V) premise_brings (Good R V) (premise_sound R V) (premise_complete R V) (pairs left ns) 0 (placed_all literal_precedes right []) t.0 n.2 (A, m) l;
          yields = λ L. let y = yields_row R V left ns right t.0 n.2 L in (λ m. y.0 (subst (λ (l : List Literal). L ∈ l) (sym same) m), λ p. subst (λ (l : List Literal). L ∈ l) same (y.1 p));
        },
      )

  hyper_checked : length claim ≤ head_limit → rising literal_precedes claim ≡ true → Ready R scratch × Hyper R V X ns claim → hyper_check R scratch V X ns claim ≡ Ok tt
  hyper_checked few rise t =
      let s = t.1 in
      let left = s.left in
      let right = s.right in
      let o = walk_out (premise_test R.clauses V) premise_brings (Good R V) (premise_sound R V) (premise_complete R V) (pairs left ns) 0 (placed_all literal_precedes right []) (λ p l. s.each p.0 p.1 l) in
      let y = yields_row R V left ns right o.0 o.1 in
      let up = walk_rises (premise_test R.clauses V) premise_brings (pairs left ns) 0 (placed_all literal_precedes right []) o.0 o.1 (rising_placed_all literal_precedes literal_order right [] refl) in
      let same = rising_same literal_precedes literal_order o.0 claim up rise (λ L m. (s.yields L).1 ((y L).0 m)) (λ L m. (y L).1 ((s.yields L).0 m)) in
      let row : hyper_row R V left ns right ≡ Ok o.0 =
      and_then_on (passes (eqb (length ns) (length left)) (PremisesMiscounted (length ns) (length left))) _ tt (passes_yes (eqb (length ns) (length left)) (PremisesMiscounted (length ns) (length left)) (eq-eqb _ _ s.as_many)) ∙ o.1 in
      and_then_on (ready R scratch) _ tt (ready_yes R scratch t.0)
      ∙ and_then_on (core_of R V) _ s.K (ap (required (ContextNotOpened V)) s.context)
      ∙ and_then_on (sides_of (NoConceptAxiom X) (slice_get R.axioms X)) _ (left, right) (ap (sides_of (NoConceptAxiom X)) s.listed)
      ∙ and_then_on (hyper_row R V left ns right) _ o.0 row
      ∙ claimed_yes o.0 claim few same

  pub hyper_exactly : length claim ≤ head_limit → rising literal_precedes claim ≡ true → (hyper_check R scratch V X ns claim ≡ Ok tt) ↔ (Ready R scratch × Hyper R V X ns claim)
  hyper_exactly few rise = (hyper_taken, hyper_checked few rise)
