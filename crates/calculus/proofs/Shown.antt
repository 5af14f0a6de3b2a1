-- What `shown` and `refuted` say of the register. Assumes nothing.
use Rattle.std.proofs.Common.{◌≡◌, ℕ, zero, suc, ◌+◌, ◌<◌, Bool, true, false, cond, ltb, ◌⊎◌, ◌↔◌, List, [], ◌∷◌, map, is_ok, Some, None, Ok, Err, Option, Result, sym, refl, ap, ◌∙◌, subst, inl, inr, arith}
use mathlib.Core.Logic.{∥∥₁_elim, ∥∥₁_prop}
use Rattle.std.proofs.lemmas.Bool.{and_from, and_parts, cases_order, true≢false}
use Rattle.std.specs.List.{slice_get}
use Rattle.terms.specs.Lists.{◌∈◌}
use Rattle.terms.specs.Literals.{literal_precedes}
use Rattle.terms.specs.declared.literals.Literal.{Literal}
use Rattle.terms.specs.declared.literals.Literal.TheVariants.{Concept}
use Rattle.terms.specs.declared.refusals.Refusal.{Refusal}
use Rattle.terms.specs.declared.refusals.Refusal.TheVariants.{BookOpen}
use Rattle.terms.specs.Positions.{literal_order}
use Rattle.terms.proofs.Sets.{contained_means}
use Rattle.models.specs.Judging.{contradiction, judged_from, unless_fault, verdict}
use Rattle.models.specs.Meanings.{Meaning, fault_of, interpretation}
use Rattle.models.specs.Semantics.{Interpretation, LowestContradiction, Models, Subsumes}
use Rattle.models.specs.declared.samples.Fault.{Fault}
use Rattle.models.proofs.Words.{contradiction_means, passes_exactly}
use Rattle.calculus.specs.Checks.{passes}
use Rattle.calculus.specs.Events.{Strengthens, ask, refute}
use Rattle.calculus.specs.Register.{Clause, Register}
use Rattle.calculus.specs.Replies.{check, covering, covering_by, granted, lowest_clause, refuted_by, reply, shown_by}
use Rattle.calculus.specs.Truth.{ClausesHold}
use Rattle.calculus.specs.declared.answers.Answer.TheVariants.{Refuted, Shown}
use Rattle.calculus.proofs.HyperTie.{concept_order}
use Rattle.calculus.proofs.Passing.{and_then_ok, and_then_on, no_ok, passes_ok, passes_yes}

-- ---- a clause that covers a subsumption

as_concept : (L : Literal) (M : List ℕ) → (L ∈ map Concept M) ↔ ((B : ℕ) × ((L ≡ Concept B) × (B ∈ M)))
as_concept L M = (out M, λ t. into M t.0 t.1.0 t.1.1)
  where
    out : (bs : List ℕ) → L ∈ map Concept bs → (B : ℕ) × ((L ≡ Concept B) × (B ∈ bs))
    out [] m = absurd m
    out (b ∷ bs) (inl e) = (b, (e, inl refl))
    out (b ∷ bs) (inr m) = let t = out bs m in (t.0, (t.1.0, inr t.1.1))

    into : (bs : List ℕ) (B : ℕ) → L ≡ Concept B → B ∈ bs → L ∈ map Concept bs
    into [] B e m = absurd m
    into (b ∷ bs) B e (inl d) = inl (e ∙ ap Concept d)
    into (b ∷ bs) B e (inr m) = inr (into bs B e m)

module _ (R : Register) (K M : List ℕ) where
  covers_if : (n : ℕ) (c : Clause) → slice_get R.clauses n ≡ Some c → covering R K M c ≡ true → Strengthens R K M n
  covers_if n c at t = go (slice_get R.contexts c.context) refl t
    where
      go : (o : Option (List ℕ)) → slice_get R.contexts c.context ≡ o → covering_by o c.head K M ≡ true → Strengthens R K M n
      go None e k = absurd (true≢false (sym k))
      go (Some C) e k =
          let q = and_parts _ _ k in
          record {
            V = c.context;
            head = c.head;
            core_concepts = C;
            stands = at;
            context = e;
            asks_less = (contained_means ltb concept_order _ C K refl).0 q.0;
            gives_more = λ L m. (as_concept L M).0 ((contained_means literal_precedes literal_order _ c.head (map Concept M) refl).0 q.1 L m);
          }

  covers_then : (n : ℕ) (c : Clause) → slice_get R.clauses n ≡ Some c → Strengthens R K M n → covering R K M c ≡ true
  covers_then n c at t =
      let both = and_from _ _ ((contained_means ltb concept_order _ t.core_concepts K refl).1 t.asks_less) ((contained_means literal_precedes literal_order _ t.head (map Concept M) refl).1 (λ L m. (as_concept L M).1 (t.gives_more L m))) in
      let same : ◌≡◌ {A = Clause} (record { context = t.V; head = t.head }) c = let e = t.stands in cc in
      subst (λ (d : Clause). covering R K M d ≡ true) same (ap (λ o. covering_by o t.head K M) t.context ∙ both)

  -- ---- the lowest of them

  -- the clause at place k of a list covers, and none before it does
  record First (cs : List Clause) (k : ℕ) : Type 0 where
    clause : Clause
    at : slice_get cs k ≡ Some clause
    covers : covering R K M clause ≡ true
    none_before : (j : ℕ) (d : Clause) → j < k → slice_get cs j ≡ Some d → covering R K M d ≡ true → ⊥

  first_here : (c : Clause) (cs : List Clause) → covering R K M c ≡ true → First (c ∷ cs) 0
  first_here c cs t = record { clause = c; at = refl; covers = t; none_before = λ j d b e q. omega arith }

  first_on : (c : Clause) (cs : List Clause) (k : ℕ) → covering R K M c ≡ false → First cs k → First (c ∷ cs) (suc k)
  first_on c cs k f r = record { clause = r.clause; at = r.at; covers = r.covers; none_before = below }
    where
      below : (j : ℕ) (d : Clause) → j < suc k → slice_get (c ∷ cs) j ≡ Some d → covering R K M d ≡ true → ⊥
      below zero d b e q = let is : d ≡ c = cc in true≢false (sym q ∙ ap (covering R K M) is ∙ f)
      below (suc j) d b e q = r.none_before j d (omega arith) e q

  lowest_is : (cs : List Clause) (i n : ℕ) → lowest_clause R K M i cs ≡ Some n → (k : ℕ) × ((n ≡ i + k) × First cs k)
  lowest_is [] i n h = let z : ◌≡◌ {A = ℕ} 0 1 = cc in absurd (omega arith)
  lowest_is (c ∷ cs) i n h = go (lowest_is cs (i + 1) n) (covering R K M c) refl h
    where
      go : (lowest_clause R K M (i + 1) cs ≡ Some n → (k : ℕ) × ((n ≡ i + 1 + k) × First cs k)) → (t : Bool) → covering R K M c ≡ t → cond t (Some i) (lowest_clause R K M (i + 1) cs) ≡ Some n → (k : ℕ) × ((n ≡ i + k) × First (c ∷ cs) k)
      go rec true p h = let e : i ≡ n = cc in (0, (omega (arith, e), first_here c cs p))
      go rec false p h = let r = rec h in (suc r.0, (omega (arith, r.1.0), first_on c cs r.0 p r.1.1))

  lowest_none : (cs : List Clause) (i : ℕ) → lowest_clause R K M i cs ≡ None → (j : ℕ) (d : Clause) → slice_get cs j ≡ Some d → covering R K M d ≡ true → ⊥
  lowest_none [] i h j d e q = let z : ◌≡◌ {A = ℕ} 0 1 = cc in omega arith
  lowest_none (c ∷ cs) i h j d e q = go (lowest_none cs (i + 1)) (covering R K M c) refl h j e
    where
      go : (lowest_clause R K M (i + 1) cs ≡ None → (j : ℕ) (d : Clause) → slice_get cs j ≡ Some d → covering R K M d ≡ true → ⊥) → (t : Bool) → covering R K M c ≡ t → cond t (Some i) (lowest_clause R K M (i + 1) cs) ≡ None → (j : ℕ) → slice_get (c ∷ cs) j ≡ Some d → ⊥
      go rec true p h j e = let z : ◌≡◌ {A = ℕ} 0 1 = cc in omega arith
      go rec false p h zero e = let is : d ≡ c = cc in true≢false (sym q ∙ ap (covering R K M) is ∙ p)
      go rec false p h (suc j) e = rec h j d e q

  abbrev pub Lowest : ℕ → Type 0
  Lowest n = Strengthens R K M n × ((k : ℕ) → k < n → Strengthens R K M k → ⊥)

  lowest_covers : (n : ℕ) → lowest_clause R K M 0 R.clauses ≡ Some n → Lowest n
  lowest_covers n h =
      let r = lowest_is R.clauses 0 n h in
      let f = r.1.1 in
      let e : r.0 ≡ n = omega (arith, r.1.0) in (
        subst (Strengthens R K M) e (covers_if r.0 f.clause f.at f.covers),
        λ k l t. f.none_before k (record { context = t.V; head = t.head }) (omega (arith, e)) t.stands (covers_then k _ t.stands t),
      )

  covers_lowest : (n : ℕ) → Lowest n → lowest_clause R K M 0 R.clauses ≡ Some n
  covers_lowest n l = go (lowest_clause R K M 0 R.clauses) refl
    where
      unique : (m : ℕ) → Lowest m → (m ≡ n) ⊎ ((m < n) ⊎ (n < m)) → m ≡ n
      unique m k (inl e) = e
      unique m k (inr (inl h)) = absurd (l.1 m h k.0)
      unique m k (inr (inr h)) = absurd (k.1 n h l.0)

      go : (o : Option ℕ) → lowest_clause R K M 0 R.clauses ≡ o → lowest_clause R K M 0 R.clauses ≡ Some n
      go (Some m) e = e ∙ ap (λ (k : ℕ). Some k) (unique m (lowest_covers m e) (cases_order m n))
      go None e = absurd (lowest_none R.clauses 0 e n (record { context = l.0.V; head = l.0.head }) l.0.stands (covers_then n _ l.0.stands l.0))

  -- a clause that holds shows what it strengthens
  pub strengthened : (I : Interpretation) → ClausesHold I R → (n : ℕ) → Strengthens R K M n → Subsumes I K M
  strengthened I holds n c x inside all_of =
      ∥∥₁_elim (holds n c.V c.head c.core_concepts c.stands c.context x inside (λ A m. all_of A (c.asks_less A m))) ∥∥₁_prop
      (λ t. ∣ (t.0, ((as_concept t.0 M).1 (c.gives_more t.0 t.1.0), t.1.1)) ∣₁)

  pub shown_reply : (n : ℕ) → (reply R (ask K M) ≡ Ok (Shown n)) ↔ ((R.closed ≡ true) × Strengthens R K M n × ((k : ℕ) → k < n → Strengthens R K M k → ⊥))
  shown_reply n = (
    λ h.
        let a = and_then_ok (passes R.closed BookOpen) _ (Shown n) h in
        let l = lowest_covers n (found (lowest_clause R K M 0 R.clauses) a.2) in
        (passes_ok R.closed BookOpen a.0 a.1, l.0, l.1),
    λ p. and_then_on (passes R.closed BookOpen) _ tt (passes_yes R.closed BookOpen p.0) ∙ ap shown_by (covers_lowest n (p.1, p.2)),
  )
    where
      found : (o : Option ℕ) → shown_by o ≡ Ok (Shown n) → o ≡ Some n
      found (Some k) h = let e : k ≡ n = cc in ap (λ (j : ℕ). Some j) e
      found None h = let z : ◌≡◌ {A = ℕ} 0 1 = cc in absurd (omega arith)

-- ---- refuted

faultless : (m : Meaning) (r : Result (Unit {0}) Refusal) → unless_fault (fault_of m) r ≡ Ok tt → fault_of m ≡ None
faultless m r h = go (fault_of m) refl h
  where
    go : (o : Option Fault) → fault_of m ≡ o → unless_fault o r ≡ Ok tt → fault_of m ≡ None
    go (Some f) e k = no_ok k
    go None e k = e

found_lowest : (m : Meaning) (K M : List ℕ) (x : ℕ) → fault_of m ≡ None → contradiction m K M ≡ Some x → LowestContradiction (interpretation m) K M x
found_lowest m K M x e h = contradiction_means m K M (Some x) (sym h) e

lowest_found : (m : Meaning) (K M : List ℕ) (x : ℕ) → fault_of m ≡ None → LowestContradiction (interpretation m) K M x → contradiction m K M ≡ Some x
lowest_found m K M x e l = go (contradiction m K M) refl
  where
    same : (y : ℕ) → LowestContradiction (interpretation m) K M y → (y ≡ x) ⊎ ((y < x) ⊎ (x < y)) → y ≡ x
    same y k (inl is) = is
    same y k (inr (inl b)) = absurd (l.1 y b k.0)
    same y k (inr (inr b)) = absurd (k.1 x b l.0)

    go : (o : Option ℕ) → contradiction m K M ≡ o → contradiction m K M ≡ Some x
    go (Some y) h = h ∙ ap (λ (k : ℕ). Some k) (same y (found_lowest m K M y e h) (cases_order y x))
    go None h = absurd (contradiction_means m K M None (sym h) e x l.0)

pub refuted_reply : (R : Register) (K M : List ℕ) (m : Meaning) (x : ℕ)
    → (reply R (refute K M m) ≡ Ok (Refuted x)) ↔ ((R.closed ≡ true) × (fault_of m ≡ None) × Models (interpretation m) R.axioms × LowestContradiction (interpretation m) K M x)
refuted_reply R K M m x = (forth, back)
  where
    found : (o : Option ℕ) → refuted_by o ≡ Ok (Refuted x) → o ≡ Some x
    found (Some k) h = let e : k ≡ x = cc in ap (λ (j : ℕ). Some j) e
    found None h = no_ok h

    forth : reply R (refute K M m) ≡ Ok (Refuted x) → (R.closed ≡ true) × (fault_of m ≡ None) × Models (interpretation m) R.axioms × LowestContradiction (interpretation m) K M x
    forth h =
        let a = and_then_ok (check R (refute K M m)) _ (Refuted x) h in
        let b = and_then_ok (passes R.closed BookOpen) (λ _. verdict m R.axioms) a.0 a.1 in
        let none = faultless m (judged_from m 0 R.axioms) b.2 in
        (passes_ok R.closed BookOpen b.0 b.1, none, (passes_exactly m R.axioms (verdict m R.axioms) refl none).0 (ap is_ok b.2), found_lowest m K M x none (found (contradiction m K M) a.2))

    good : (r : Result (Unit {0}) Refusal) → is_ok r ≡ true → r ≡ Ok tt
    good (Ok u) h = refl
    good (Err e) h = absurd (true≢false (sym h))

    back : (R.closed ≡ true) × (fault_of m ≡ None) × Models (interpretation m) R.axioms × LowestContradiction (interpretation m) K M x → reply R (refute K M m) ≡ Ok (Refuted x)
    back p =
        and_then_on (check R (refute K M m)) (λ _. granted R (refute K M m)) tt
        (and_then_on (passes R.closed BookOpen) (λ _. verdict m R.axioms) tt (passes_yes R.closed BookOpen p.0) ∙ good (verdict m R.axioms) ((passes_exactly m R.axioms (verdict m R.axioms) refl p.1).1 p.2))
        ∙ ap refuted_by (lowest_found m K M x p.1 p.3)
