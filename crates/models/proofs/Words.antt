-- The verdict and the lowest contradiction, in the words of the semantics. Assumes nothing.
use Rattle.std.proofs.Common.{◌≡◌, ℕ, zero, suc, ◌+◌, ◌<◌, ◌≤◌, Bool, true, false, cond, ◌&&◌, leb, List, [], ◌∷◌, is_ok, Some, None, Ok, Err, Decides, Option, Result, sym, refl, ap, ◌∙◌, subst, inl, inr, ⊎_elim, arith, MatchOption}
use Rattle.std.specs.List.{slice_get}
use Rattle.std.proofs.lemmas.Bool.{and_parts, both_ways, leb-true, true≢false}
use Rattle.terms.specs.declared.refusals.Refusal.{Refusal}
use Rattle.terms.specs.declared.refusals.Refusal.TheVariants.{AxiomFails}
use Rattle.models.specs.Judging.{contradiction, contradicts_test, fails_test, first_failure, judged_from, judged_one, unless_fault, verdict}
use Rattle.models.specs.Meanings.{Meaning, fault_of, interpretation}
use Rattle.models.specs.Semantics.{Contradicts, LowestContradiction, LowestFailure, Models, Satisfies, Sentence}
use Rattle.models.specs.declared.samples.Fault.TheVariants.{Misshapen}
use Rattle.models.proofs.Decided.{found, none_found}
use Rattle.models.proofs.Truth.{contradicts_below, contradicts_decides, fails_decides, not_satisfied, satisfied}

-- a sample without fault has an element
pub not_empty : (m : Meaning) → fault_of m ≡ None → 1 ≤ m.size
not_empty m e = go (leb 1 m.size && leb m.size 64) refl e
  where
    go : (b : Bool) → (leb 1 m.size && leb m.size 64) ≡ b → cond b m.fault (Some (Misshapen m.size)) ≡ None → 1 ≤ m.size
    go true t f = leb-true 1 m.size (and_parts _ _ t).0
    go false t f = let z : ◌≡◌ {A = ℕ} 0 1 = cc in absurd (omega arith)

module _ (m : Meaning) (ne : 1 ≤ m.size) where
  judged_ok : (ss : List Sentence) (i : ℕ) → judged_from m i ss ≡ Ok tt → Models (interpretation m) ss
  judged_ok [] i h = λ s k. absurd k
  judged_ok (t ∷ ss) i h = go (judged_ok ss (i + 1)) (first_failure m t) refl h
    where
      go : (judged_from m (i + 1) ss ≡ Ok tt → Models (interpretation m) ss) → (o : Option ℕ) → first_failure m t ≡ o → judged_one i o (judged_from m (i + 1) ss) ≡ Ok tt → Models (interpretation m) (t ∷ ss)
      go rec (Some x) e f = let z : ◌≡◌ {A = ℕ} 0 1 = cc in absurd (omega arith)
      go rec None e f = λ s k. ⊎_elim (λ is. subst (Satisfies (interpretation m)) (sym is) (satisfied m ne t e)) (λ l. rec f s l) k

  ok_judged : (ss : List Sentence) (i : ℕ) → Models (interpretation m) ss → judged_from m i ss ≡ Ok tt
  ok_judged [] i h = refl
  ok_judged (t ∷ ss) i h = go (first_failure m t) refl (ok_judged ss (i + 1) (λ s k. h s (inr k)))
    where
      go : (o : Option ℕ) → first_failure m t ≡ o → judged_from m (i + 1) ss ≡ Ok tt → judged_one i o (judged_from m (i + 1) ss) ≡ Ok tt
      go (Some x) e f = absurd (not_satisfied m ne t x e (h t (inl refl)))
      go None e f = f

  -- the sentence at which the judge stops is the first that fails, and the element the lowest at which it does
  stops_at : (t : Sentence) (ss : List Sentence) (x : ℕ) → first_failure m t ≡ Some x → LowestFailure (interpretation m) (t ∷ ss) 0 x
  stops_at t ss x e =
      let f = found (fails_test m t) m.size 0 x e in
      let high : x < m.size = omega (arith, f.high) in
      record {
        sentence = t;
        listed = refl;
        fails = (fails_decides m ne t x high).0 f.passes;
        not_below = λ y b h. both_ways (fails_test m t y) (f.first y (omega arith) b) ((fails_decides m ne t y (omega arith)).1 h);
        before = λ k s b h. absurd (omega arith);
      }

  passes_on : (t : Sentence) (ss : List Sentence) (j x : ℕ) → first_failure m t ≡ None → LowestFailure (interpretation m) ss j x → LowestFailure (interpretation m) (t ∷ ss) (suc j) x
  passes_on t ss j x e l = record { sentence = l.sentence; listed = l.listed; fails = l.fails; not_below = l.not_below; before = earlier }
    where
      earlier : (k : ℕ) (s : Sentence) → k < suc j → slice_get (t ∷ ss) k ≡ Some s → Satisfies (interpretation m) s
      earlier zero s b h = let is : t ≡ s = cc in subst (Satisfies (interpretation m)) is (satisfied m ne t e)
      earlier (suc k) s b h = l.before k s (omega arith) h

  judged_err : (ss : List Sentence) (i k x : ℕ) → judged_from m i ss ≡ Err (AxiomFails k x) → (j : ℕ) × ((k ≡ i + j) × LowestFailure (interpretation m) ss j x)
  judged_err [] i k x h = let z : ◌≡◌ {A = ℕ} 0 1 = cc in absurd (omega arith)
  judged_err (t ∷ ss) i k x h = go (judged_err ss (i + 1) k x) (first_failure m t) refl h
    where
      go : (judged_from m (i + 1) ss ≡ Err (AxiomFails k x) → (j : ℕ) × ((k ≡ i + 1 + j) × LowestFailure (interpretation m) ss j x)) → (o : Option ℕ) → first_failure m t ≡ o → judged_one i o (judged_from m (i + 1) ss) ≡ Err (AxiomFails k x)
          → (j : ℕ) × ((k ≡ i + j) × LowestFailure (interpretation m) (t ∷ ss) j x)
      go rec (Some y) e f =
          let at : i ≡ k = cc in
          let el : y ≡ x = cc in
          (0, (omega (arith, at), stops_at t ss x (e ∙ ap Some el)))
      go rec None e f = let w = rec f in (suc w.0, (omega (arith, w.1.0), passes_on t ss w.0 x e w.1.1))

ok_test : (r : Result (Unit {0}) Refusal) → is_ok r ≡ true → r ≡ Ok tt
ok_test (Ok u) h = refl
ok_test (Err e) h = absurd (true≢false (sym h))

-- ---- the verdict

module _ (m : Meaning) (ss : List Sentence) (r : Result (Unit {0}) Refusal) (is : r ≡ verdict m ss) where
  no_fault : fault_of m ≡ None → r ≡ judged_from m 0 ss
  no_fault e = is ∙ ap (λ o. unless_fault o (judged_from m 0 ss)) e

  pub passes_exactly : fault_of m ≡ None → Decides (is_ok r) (Models (interpretation m) ss)
  passes_exactly e = (
    λ h. judged_ok m (not_empty m e) ss 0 (sym (no_fault e) ∙ ok_test r h),
    λ h. ap is_ok (no_fault e ∙ ok_judged m (not_empty m e) ss 0 h),
  )

  pub fails_lowest : (i x : ℕ) → fault_of m ≡ None → r ≡ Err (AxiomFails i x) → LowestFailure (interpretation m) ss i x
  fails_lowest i x e h =
      let w = judged_err m (not_empty m e) ss 0 i x (sym (no_fault e) ∙ h) in
      let at : w.0 ≡ i = omega (arith, w.1.0) in
      subst (λ j. LowestFailure (interpretation m) ss j x) at w.1.1

-- ---- the lowest contradiction

abbrev pub ContradictionFound : Meaning → List ℕ → List ℕ → Option ℕ → Type 0
ContradictionFound m K M o = MatchOption o ((x : ℕ) → Contradicts (interpretation m) K M x → ⊥) (LowestContradiction (interpretation m) K M)

pub contradiction_means : (m : Meaning) (K M : List ℕ) (o : Option ℕ) → o ≡ contradiction m K M → fault_of m ≡ None → ContradictionFound m K M o
contradiction_means m K M None is e = λ x c.
    let ne = not_empty m e in
    let low = contradicts_below m ne K M x c in
    both_ways (contradicts_test m K M x) (none_found (contradicts_test m K M) m.size 0 (sym is) x (omega arith) (omega (arith, low))) ((contradicts_decides m ne K M x low).1 c)
contradiction_means m K M (Some x) is e =
    let ne = not_empty m e in
    let f = found (contradicts_test m K M) m.size 0 x (sym is) in
    let high : x < m.size = omega (arith, f.high) in (
      (contradicts_decides m ne K M x high).0 f.passes,
      λ y b c. both_ways (contradicts_test m K M y) (f.first y (omega arith) b) ((contradicts_decides m ne K M y (omega arith)).1 c),
    )
