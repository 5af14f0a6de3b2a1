-- A pred step passes its checks exactly when the rule yields its claim. Assumes nothing.
use Rattle.std.proofs.Common.{◌≡◌, ℕ, ◌+◌, ◌≤◌, true, ◌&&◌, ltb, ◌⊎◌, ◌↔◌, List, [], ◌∷◌, map, length, Ok, sym, refl, ap, ◌∙◌, subst, inl, inr, ⊎_elim}
use Rattle.std.proofs.lemmas.Bool.{and_from, and_parts}
use Rattle.std.specs.List.{slice_get}
use Rattle.terms.specs.Lists.{◌∈◌, Subset, contained, removal, rising}
use Rattle.terms.specs.Literals.{literal_precedes}
use Rattle.terms.specs.Roles.{mirror}
use Rattle.terms.specs.declared.literals.Literal.{Literal}
use Rattle.terms.specs.declared.literals.Literal.TheVariants.{Concept, Exists, Forall}
use Rattle.terms.specs.declared.refusals.Refusal.TheVariants.{ClauseNotEntered, ContextNotOpened, CoreDiffers, LiteralUnfit, RoleNotReached}
use Rattle.terms.specs.declared.roles.Role.{Role}
use Rattle.terms.proofs.Chains.{reach_decided}
use Rattle.terms.specs.Positions.{literal_order}
use Rattle.terms.proofs.Sets.{contained_means, removal_means, rising_same}
use Rattle.calculus.specs.Checks.{back_brings, back_test, core_named, core_of, far_row, near_row, passes, pred_check, premise_head, reaches_test, ready, required, same_core, side_brings, side_head, side_test, walked}
use Rattle.calculus.specs.Fronts.{placed_all}
use Rattle.forms.specs.Limits.{head_limit}
use Rattle.calculus.specs.Register.{Clause, GoodSide, LeadsTo, Pred, Ready, Register, inclusions, side_literal}
use Rattle.forms.specs.declared.sides.Side.{Side}
use Rattle.calculus.proofs.HyperTie.{concept_order}
use Rattle.calculus.proofs.Passing.{and_then_ok, and_then_on, claimed_ok, claimed_yes, no_ok, ok_same, passes_ok, passes_yes, premise_ok, premise_yes, ready_ok, ready_yes, required_ok}
use Rattle.calculus.proofs.Placed.{placed_all_new, placed_all_only, rising_placed_all}
use Rattle.calculus.proofs.Walks.{walk_each, walk_has, walk_out, walk_rises}

-- ---- sides

module _ (R : Register) (V : ℕ) (E : Role) where
  side_ok : (i : ℕ) (s : Side) (H : List Literal) → side_head R i V E.code s ≡ Ok H → GoodSide R V E s H
  side_ok i s H h =
      let a = and_then_ok (premise_head R.clauses i V s.clause (side_literal s)) _ H h in
      let b = and_then_ok (passes (reaches_test R E.code s.role.code) (RoleNotReached i)) _ H a.2 in
      let p = premise_ok R i V s.clause (side_literal s) H (a.1 ∙ b.2) in
      record {
        premise = record { stands = p.0; has = p.1 };
        reached = (reach_decided (inclusions R.axioms) E.code s.role.code).0 (passes_ok _ _ b.0 b.1);
      }

  side_yes : (i : ℕ) (s : Side) (H : List Literal) → GoodSide R V E s H → side_head R i V E.code s ≡ Ok H
  side_yes i s H g =
      and_then_on (premise_head R.clauses i V s.clause (side_literal s)) _ H (premise_yes R i V s.clause (side_literal s) H g.premise.stands g.premise.has)
      ∙ and_then_on (passes (reaches_test R E.code s.role.code) (RoleNotReached i)) _ tt (passes_yes _ _ ((reach_decided (inclusions R.axioms) E.code s.role.code).1 g.reached))

-- ---- the far head

-- the literal of the far head brings C back
record BringsBack (R : Register) (E : ℕ) (L : Literal) (C : ℕ) : Type 0 where
  T : Role
  is : L ≡ Forall T C
  reached : LeadsTo R (mirror E) T.code

module _ (R : Register) (E : ℕ) where
  back_ok : (i : ℕ) (L : Literal) (C : ℕ) → back_test R E i L ≡ Ok C → BringsBack R E L C
  back_ok i (Concept B) C h = no_ok h
  back_ok i (Exists T B) C h = no_ok h
  back_ok i (Forall T B) C h =
      let a = and_then_ok (passes (reaches_test R (mirror E) T.code) (LiteralUnfit i)) _ C h in
      record { T = T; is = ap (Forall T) (ok_same a.2); reached = (reach_decided (inclusions R.axioms) (mirror E) T.code).0 (passes_ok _ _ a.0 a.1) }

  back_yes : (i : ℕ) (L : Literal) (C : ℕ) → BringsBack R E L C → back_test R E i L ≡ Ok C
  back_yes i L C b =
      ap (back_test R E i) b.is
      ∙ and_then_on (passes (reaches_test R (mirror E) b.T.code) (LiteralUnfit i)) _ tt (passes_yes _ _ ((reach_decided (inclusions R.axioms) (mirror E) b.T.code).1 b.reached))

-- ---- the core

named_exactly : (B A : ℕ) (sides : List Side) → (B ∈ core_named A sides) ↔ ((B ≡ A) ⊎ ((s : Side) × (s ∈ sides) × (B ≡ s.concept)))
named_exactly B A sides = (⊎_elim inl (λ m. inr (out sides m)), ⊎_elim inl (λ t. inr (into sides t.0 t.1 t.2)))
  where
    out : (ss : List Side) → B ∈ map (λ s. s.concept) ss → (s : Side) × (s ∈ ss) × (B ≡ s.concept)
    out [] m = absurd m
    out (s ∷ ss) (inl e) = (s, inl refl, e)
    out (s ∷ ss) (inr m) = let t = out ss m in (t.0, inr t.1, t.2)

    into : (ss : List Side) (s : Side) → s ∈ ss → B ≡ s.concept → B ∈ map (λ s. s.concept) ss
    into [] s m e = m
    into (t ∷ ss) s (inl d) e = inl (e ∙ ap (λ (u : Side). u.concept) d)
    into (t ∷ ss) s (inr m) e = inr (into ss s m e)

core_ok : (U : ℕ) (K names : List ℕ) (u : Unit {0}) → same_core U K names ≡ Ok u → Subset K names × Subset names K
core_ok U K names u h =
    let q = and_parts _ _ (passes_ok (contained ltb K names && contained ltb names K) (CoreDiffers U) u h) in
    ((contained_means ltb concept_order _ K names refl).0 q.0, (contained_means ltb concept_order _ names K refl).0 q.1)

core_yes : (U : ℕ) (K names : List ℕ) → Subset K names → Subset names K → same_core U K names ≡ Ok tt
core_yes U K names p q =
    passes_yes (contained ltb K names && contained ltb names K) (CoreDiffers U)
    (and_from _ _ ((contained_means ltb concept_order _ K names refl).1 p) ((contained_means ltb concept_order _ names K refl).1 q))

-- ---- the row

module _ (R : Register) (V : ℕ) (E : Role) where
  abbrev FromSide : List Side → Literal → Type 0
  FromSide sides L = (s : Side) × (G : List Literal) × (s ∈ sides) × GoodSide R V E s G × (L ∈ G) × (L ≡ side_literal s → ⊥)

  abbrev FromFar : List Literal → Literal → Type 0
  FromFar far L = (T : Role) × (C : ℕ) × (Forall T C ∈ far) × (L ≡ Concept C)

  abbrev Back : List Literal → Type 0
  Back far = (L : Literal) → L ∈ far → (T : Role) × (C : ℕ) × (L ≡ Forall T C) × LeadsTo R (mirror E.code) T.code

  module _ (A : ℕ) (sides : List Side) (H far row out : List Literal)
      (near : walked (side_test R V E.code) side_brings 0 sides (placed_all literal_precedes (removal literal_precedes (Exists E A) H) []) ≡ Ok row)
      (back : walked (back_test R E.code) back_brings 0 far row ≡ Ok out) where
    abbrev begun : List Literal
    begun = placed_all literal_precedes (removal literal_precedes (Exists E A) H) []

    sides_each : (s : Side) → s ∈ sides → (G : List Literal) × GoodSide R V E s G
    sides_each = walk_each (side_test R V E.code) side_brings (GoodSide R V E) (λ i. side_ok R V E (i + 1)) (λ i. side_yes R V E (i + 1)) sides 0 begun row near

    far_each : Back far
    far_each L m = let b = walk_each (back_test R E.code) back_brings (BringsBack R E.code) (back_ok R E.code) (back_yes R E.code) far 0 row out back L m in (b.1.T, b.0, b.1.is, b.1.reached)

    out_rises : rising literal_precedes out ≡ true
    out_rises =
        walk_rises (back_test R E.code) back_brings far 0 row out back
        (walk_rises (side_test R V E.code) side_brings sides 0 begun row near (rising_placed_all literal_precedes literal_order (removal literal_precedes (Exists E A) H) [] refl))

    brings : (T : Role) (C : ℕ) → Forall T C ∈ far → BringsBack R E.code (Forall T C) C
    brings T C m =
        let t = far_each (Forall T C) m in
        let e = t.2 in
        let same : t.0 ≡ T = cc in
        record { T = T; is = refl; reached = subst (λ (x : Role). LeadsTo R (mirror E.code) x.code) same t.3 }

    -- the row has what the rule says
    yields_row : (L : Literal) → (L ∈ out) ↔ (((L ∈ H) × (L ≡ Exists E A → ⊥)) ⊎ (FromSide sides L ⊎ FromFar far L))
    yields_row L =
        let f = walk_has (back_test R E.code) back_brings (BringsBack R E.code) (back_ok R E.code) (back_yes R E.code) far 0 row out back L in
        let n = walk_has (side_test R V E.code) side_brings (GoodSide R V E) (λ i. side_ok R V E (i + 1)) (λ i. side_yes R V E (i + 1)) sides 0 begun row near L in
        let gone = removal_means literal_precedes literal_order in (
          λ m. ⊎_elim
              (λ q. ⊎_elim
              (λ p. ⊎_elim (λ t. inl ((gone (Exists E A) H L).0 t)) (λ e. absurd e) (placed_all_only literal_precedes L (removal literal_precedes (Exists E A) H) [] p))
              (λ b. let k = (gone (side_literal b.0) b.1 L).0 b.4 in inr (inl (b.0, b.1, b.2, b.3, k.0, k.1)))
              (n.0 q))
              (λ b. inr (inr (b.3.T, b.1, subst (λ (x : Literal). x ∈ far) b.3.is b.2, ⊎_elim (λ e. e) (λ e. absurd e) b.4)))
              (f.0 m),
          ⊎_elim
              (λ p. f.1 (inl (n.1 (inl (placed_all_new literal_precedes literal_order L (removal literal_precedes (Exists E A) H) [] ((gone (Exists E A) H L).1 p))))))
              (⊎_elim
              (λ b. f.1 (inl (n.1 (inr (b.0, b.1, b.2, b.3, (gone (side_literal b.0) b.1 L).1 (b.4, b.5))))))
              (λ b. f.1 (inr (Forall b.0 b.1, b.1, b.2, brings b.0 b.1 b.2, inl b.3)))),
        )

-- ---- the tie

module _ (R : Register) (scratch V P : ℕ) (E : Role) (A : ℕ) (sides : List Side) (Q : ℕ) (claim : List Literal) where
  pred_taken : pred_check R scratch V P E A sides Q claim ≡ Ok tt → Ready R scratch × Pred R V P E A sides Q claim
  pred_taken h =
      let a = and_then_ok (ready R scratch) _ tt h in
      let b = and_then_ok (core_of R V) _ tt a.2 in
      let t = and_then_ok (near_row R V P E A sides) _ tt b.2 in
      let n = and_then_ok (premise_head R.clauses 0 V P (Exists E A)) _ t.0 t.1 in
      let c = and_then_ok (required (ClauseNotEntered (length sides + 1) Q) (slice_get R.clauses Q)) _ tt t.2 in
      let f = and_then_ok (far_row R E.code A sides c.0 t.0) _ tt c.2 in
      let k = and_then_ok (required (CoreDiffers c.0.context) (slice_get R.contexts c.0.context)) _ f.0 f.1 in
      let q = and_then_ok (same_core c.0.context k.0 (core_named A sides)) _ f.0 k.2 in
      let p = premise_ok R 0 V P (Exists E A) n.0 n.1 in
      let core = core_ok c.0.context k.0 (core_named A sides) q.0 q.1 in
      let same = claimed_ok f.0 claim tt f.2 in (
        ready_ok R scratch a.0 a.1,
        record {
          J = b.0;
          near = required_ok (ContextNotOpened V) (slice_get R.contexts V) b.0 b.1;
          H = n.0;
          first = record { stands = p.0; has = p.1 };
          each = sides_each R V E A sides n.0 c.0.head t.0 f.0 n.2 q.2;
          U = c.0.context;
          far = c.0.head;
          far_stands = required_ok _ (slice_get R.clauses Q) c.0 c.1;
          K = k.0;
          context = required_ok _ (slice_get R.contexts c.0.context) k.0 k.1;
          exact = λ B. (λ m. (named_exactly B A sides).0 (core.0 B m), λ m. core.1 B ((named_exactly B A sides).1 m));
          back = far_each R V E A sides n.0 c.0.head t.0 f.0 n.2 q.2;
          yields = λ L. let y = yields_row R V E A sides n.0 c.0.head t.0 f.0 n.2 q.2 L in (λ m. y.0 (subst (λ (l : List Literal). L ∈ l) (sym same) m), λ m. subst (λ (l : List Literal). L ∈ l) same (y.1 m));
        },
      )

  pred_checked : length claim ≤ head_limit → rising literal_precedes claim ≡ true → Ready R scratch × Pred R V P E A sides Q claim → pred_check R scratch V P E A sides Q claim ≡ Ok tt
  pred_checked few rise t =
      let s = t.1 in
      let start = placed_all literal_precedes (removal literal_precedes (Exists E A) s.H) [] in
      let r = walk_out (side_test R V E.code) side_brings (GoodSide R V E) (λ i. side_ok R V E (i + 1)) (λ i. side_yes R V E (i + 1)) sides 0 start s.each in
      let o = walk_out (back_test R E.code) back_brings (BringsBack R E.code) (back_ok R E.code) (back_yes R E.code) s.far 0 r.0 (λ L m. let b = s.back L m in (b.1, record { T = b.0; is = b.2; reached = b.3 })) in
      let y = yields_row R V E A sides s.H s.far r.0 o.0 r.1 o.1 in
      let up = out_rises R V E A sides s.H s.far r.0 o.0 r.1 o.1 in
      let same = rising_same literal_precedes literal_order o.0 claim up rise (λ L m. (s.yields L).1 ((y L).0 m)) (λ L m. (y L).1 ((s.yields L).0 m)) in
      let near : near_row R V P E A sides ≡ Ok r.0 = and_then_on (premise_head R.clauses 0 V P (Exists E A)) _ s.H (premise_yes R 0 V P (Exists E A) s.H s.first.stands s.first.has) ∙ r.1 in
      let c : Clause = record { context = s.U; head = s.far } in
      let far : far_row R E.code A sides c r.0 ≡ Ok o.0 =
      and_then_on (required (CoreDiffers s.U) (slice_get R.contexts s.U)) _ s.K (ap (required (CoreDiffers s.U)) s.context)
      ∙ and_then_on (same_core s.U s.K (core_named A sides)) _ tt (core_yes s.U s.K (core_named A sides) (λ B m. (named_exactly B A sides).1 ((s.exact B).0 m)) (λ B m. (s.exact B).1 ((named_exactly B A sides).0 m)))
      ∙ o.1 in
      and_then_on (ready R scratch) _ tt (ready_yes R scratch t.0)
      ∙ and_then_on (core_of R V) _ s.J (ap (required (ContextNotOpened V)) s.near)
      ∙ and_then_on (near_row R V P E A sides) _ r.0 near
      ∙ and_then_on (required (ClauseNotEntered (length sides + 1) Q) (slice_get R.clauses Q)) _ c (ap (required (ClauseNotEntered (length sides + 1) Q)) s.far_stands)
      ∙ and_then_on (far_row R E.code A sides c r.0) _ o.0 far
      ∙ claimed_yes o.0 claim few same

  pub pred_exactly : length claim ≤ head_limit → rising literal_precedes claim ≡ true → (pred_check R scratch V P E A sides Q claim ≡ Ok tt) ↔ (Ready R scratch × Pred R V P E A sides Q claim)
  pred_exactly few rise = (pred_taken, pred_checked few rise)
