-- Every clause of a book holds wherever the axioms do. Assumes nothing.
use Rattle.std.proofs.Common.{◌≡◌, ℕ, zero, suc, ◌⊎◌, List, [], ◌∷◌, ◌++◌, Some, sym, ap, subst, inl, inr, arith}
use Rattle.std.specs.List.{slice_get}
use Rattle.terms.specs.Lists.{◌∈◌}
use Rattle.terms.specs.declared.literals.Literal.{Literal}
use Rattle.terms.specs.declared.literals.Literal.TheVariants.{Concept}
use Rattle.models.specs.Semantics.{Implies, Interpretation, Models, Sentence}
use Rattle.calculus.specs.Events.{Event, Takes, ask, close, core, enter_axiom, enter_inclusion, grown, hyper, open_context, pred, refute, with_clause}
use Rattle.calculus.specs.Law.{Gives, Past, left, start, taken}
use Rattle.calculus.specs.Register.{Clause, Register, Stands}
use Rattle.calculus.specs.Truth.{ClausesHold}
use Rattle.calculus.proofs.Rules.{rules_true}

-- ---- one more item at the end

module _ {X : Type 0} where
  nth_old : (xs : List X) (y : X) (n : ℕ) (x : X) → slice_get xs n ≡ Some x → slice_get (xs ++ y ∷ []) n ≡ Some x
  nth_old [] y n x e = let z : ◌≡◌ {A = ℕ} 0 1 = cc in absurd (omega arith)
  nth_old (w ∷ xs) y zero x e = e
  nth_old (w ∷ xs) y (suc n) x e = nth_old xs y n x e

  nth_cases : (xs : List X) (y : X) (n : ℕ) (x : X) → slice_get (xs ++ y ∷ []) n ≡ Some x → (slice_get xs n ≡ Some x) ⊎ (x ≡ y)
  nth_cases [] y zero x e = let is : x ≡ y = cc in inr is
  nth_cases [] y (suc n) x e = let z : ◌≡◌ {A = ℕ} 0 1 = cc in absurd (omega arith)
  nth_cases (w ∷ xs) y zero x e = inl e
  nth_cases (w ∷ xs) y (suc n) x e = nth_cases xs y n x e

  in_old : (xs : List X) (y x : X) → x ∈ xs → x ∈ (xs ++ y ∷ [])
  in_old [] y x m = absurd m
  in_old (w ∷ xs) y x (inl e) = inl e
  in_old (w ∷ xs) y x (inr m) = inr (in_old xs y x m)

module _ (I : Interpretation) where
  -- each clause's context is open, and the clause holds over its core
  abbrev Sound : Register → Type 0
  Sound R = (n V : ℕ) (H : List Literal) → Stands R n V H → (K : List ℕ) × ((slice_get R.contexts V ≡ Some K) × Implies I K H)

  pub clauses_hold : (R : Register) → Sound R → ClausesHold I R
  clauses_hold R sound n V H K stands context =
      let s = sound n V H stands in
      let same : s.0 ≡ K = let e = s.1.0 in cc in
      subst (λ (k : List ℕ). Implies I k H) same s.1.1

  fewer : (axioms : List Sentence) (s : Sentence) → Models I (axioms ++ s ∷ []) → Models I axioms
  fewer axioms s m t k = m t (in_old axioms s t k)

  one_clause : (R : Register) (V : ℕ) (head : List Literal) → Sound R → (K : List ℕ) → slice_get R.contexts V ≡ Some K → Implies I K head → Sound (with_clause R V head)
  one_clause R V head sound K context holds n U H stands = go (nth_cases R.clauses (record { context = V; head = head }) n (record { context = U; head = H }) stands)
    where
      go : (slice_get R.clauses n ≡ Some (record { context = U; head = H })) ⊎ (◌≡◌ {A = Clause} (record { context = U; head = H }) (record { context = V; head = head })) → (J : List ℕ) × ((slice_get R.contexts U ≡ Some J) × Implies I J H)
      go (inl old) = sound n U H old
      go (inr is) =
          let same : V ≡ U = ap (λ (c : Clause). c.context) (sym is) in
          let heads : head ≡ H = ap (λ (c : Clause). c.head) (sym is) in
          (K, (subst (λ (k : ℕ). slice_get R.contexts k ≡ Some K) same context, subst (Implies I K) heads holds))

  grown_sound : (R : Register) (e : Event) → Models I (grown R e).axioms → (Models I R.axioms → Sound R) → Takes R e → Sound (grown R e)
  grown_sound R (enter_axiom l r) m sound t = sound (fewer R.axioms _ m)
  grown_sound R (enter_inclusion E S) m sound t = sound (fewer R.axioms _ m)
  grown_sound R close m sound t = sound m
  grown_sound R (open_context C) m sound t = λ n V H stands. let s = sound m n V H stands in (s.0, (nth_old R.contexts C V s.0 s.1.0, s.1.1))
  grown_sound R (core V A scratch) m sound t =
      let c = t.1 in
      one_clause R V (Concept A ∷ []) (sound m) c.K c.context ((rules_true I).core_holds R V A (Concept A ∷ []) c.K c.context c)
  grown_sound R (hyper V X premises claim scratch) m sound t =
      let h = t.1 in
      one_clause R V claim (sound m) h.K h.context ((rules_true I).hyper_holds R m (clauses_hold R (sound m)) V X premises claim h.K h.context h)
  grown_sound R (pred V P E A sides Q claim scratch) m sound t =
      let d = t.1 in
      one_clause R V claim (sound m) d.J d.near ((rules_true I).pred_holds R m (clauses_hold R (sound m)) V P E A sides Q claim d.J d.near d)
  grown_sound R (ask K M) m sound t = absurd t
  grown_sound R (refute K M sample) m sound t = absurd t

  pub past_sound : (p : Past) (R : Register) → Gives p R → Models I R.axioms → Sound R
  past_sound [] _ start m = λ n V H stands. let z : ◌≡◌ {A = ℕ} 0 1 = cc in absurd (omega arith)
  past_sound (_ ∷ p) _ (taken {R = R} s g t) m = grown_sound R s.call m (past_sound p R g) t
  past_sound (_ ∷ p) _ (left {R = R} s g n) m = past_sound p R g m
