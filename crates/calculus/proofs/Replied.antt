-- What each kind of answer says of the register. Assumes nothing.
use Rattle.std.proofs.Common.{◌≡◌, ℕ, false, not, ◌↔◌, Some, None, Ok, Option, sym, refl, ap, ◌∙◌, subst, arith}
use Rattle.std.proofs.lemmas.Bool.{not_from_false, not-true}
use Rattle.terms.specs.declared.refusals.Refusal.TheVariants.{BookClosed}
use Rattle.models.specs.Judging.{contradiction}
use Rattle.calculus.specs.Events.{Enters, Event, Takes, Well, ask, close, core, enter_axiom, enter_inclusion, hyper, number, open_context, pred, refute}
use Rattle.calculus.specs.Register.{Register}
use Rattle.calculus.specs.Replies.{check, granted, lowest_clause, refuted_by, reply, shown_by}
use Rattle.calculus.specs.declared.answers.Answer.TheVariants.{Closed, Entered}
use Rattle.calculus.proofs.Passing.{and_then_ok, and_then_on, no_ok, passes_ok, passes_yes}
use Rattle.calculus.proofs.Taking.{Changes, exactly}

-- ---- entered, and closed

-- an event that enters something is answered by its number, and by nothing else
entered_by : (R : Register) (e : Event) → Well e → Changes e → granted R e ≡ Ok (Entered (number R e)) → (n : ℕ) → (reply R e ≡ Ok (Entered n)) ↔ (Unit {0} × (n ≡ number R e) × Takes R e)
entered_by R e w c grants n = (
  λ h.
      let a = and_then_ok (check R e) _ (Entered n) h in
      let same : number R e ≡ n = let g = sym grants ∙ a.2 in cc in
      (tt, sym same, (exactly R e w c).0 a.1),
  λ p. and_then_on (check R e) _ tt ((exactly R e w c).1 p.2) ∙ grants ∙ ap (λ (k : ℕ). Ok (Entered k)) (sym p.1),
)

-- an answer that is not `entered` is none
never_entered : (R : Register) (e : Event) (n : ℕ) → (granted R e ≡ Ok (Entered n) → ⊥) → reply R e ≡ Ok (Entered n) → ⊥
never_entered R e n never h = never (and_then_ok (check R e) _ (Entered n) h).2

shown_not_entered : (o : Option ℕ) (n : ℕ) → shown_by o ≡ Ok (Entered n) → ⊥
shown_not_entered (Some k) n h = let z : ◌≡◌ {A = ℕ} 0 1 = cc in omega arith
shown_not_entered None n h = let z : ◌≡◌ {A = ℕ} 0 1 = cc in omega arith

refuted_not_entered : (o : Option ℕ) (n : ℕ) → refuted_by o ≡ Ok (Entered n) → ⊥
refuted_not_entered (Some k) n h = let z : ◌≡◌ {A = ℕ} 0 1 = cc in omega arith
refuted_not_entered None n h = no_ok h

pub entered_reply : (R : Register) (e : Event) → Well e → (n : ℕ) → (reply R e ≡ Ok (Entered n)) ↔ (Enters e × (n ≡ number R e) × Takes R e)
entered_reply R (enter_axiom l r) w n = entered_by R (enter_axiom l r) w tt refl n
entered_reply R (enter_inclusion E S) w n = entered_by R (enter_inclusion E S) w tt refl n
entered_reply R close w n = (λ h. absurd (never_entered R close n (λ e. let z : ◌≡◌ {A = ℕ} 0 1 = cc in omega arith) h), λ p. absurd p.0)
entered_reply R (open_context K) w n = entered_by R (open_context K) w tt refl n
entered_reply R (core V A s) w n = entered_by R (core V A s) w tt refl n
entered_reply R (hyper V X ns claim s) w n = entered_by R (hyper V X ns claim s) w tt refl n
entered_reply R (pred V P E A sides Q claim s) w n = entered_by R (pred V P E A sides Q claim s) w tt refl n
entered_reply R (ask K M) w n = (λ h. absurd (never_entered R (ask K M) n (shown_not_entered (lowest_clause R K M 0 R.clauses) n) h), λ p. absurd p.0)
entered_reply R (refute K M m) w n = (λ h. absurd (never_entered R (refute K M m) n (refuted_not_entered (contradiction m K M) n) h), λ p. absurd p.0)

shown_not_closed : (o : Option ℕ) → shown_by o ≡ Ok Closed → ⊥
shown_not_closed (Some k) h = let z : ◌≡◌ {A = ℕ} 0 1 = cc in omega arith
shown_not_closed None h = let z : ◌≡◌ {A = ℕ} 0 1 = cc in omega arith

refuted_not_closed : (o : Option ℕ) → refuted_by o ≡ Ok Closed → ⊥
refuted_not_closed (Some k) h = let z : ◌≡◌ {A = ℕ} 0 1 = cc in omega arith
refuted_not_closed None h = no_ok h

-- only closing is answered `closed`
only_close : (R : Register) (e : Event) → granted R e ≡ Ok Closed → e ≡ close
only_close R (enter_axiom l r) h = let z : ◌≡◌ {A = ℕ} 0 1 = cc in absurd (omega arith)
only_close R (enter_inclusion E S) h = let z : ◌≡◌ {A = ℕ} 0 1 = cc in absurd (omega arith)
only_close R close h = refl
only_close R (open_context K) h = let z : ◌≡◌ {A = ℕ} 0 1 = cc in absurd (omega arith)
only_close R (core V A s) h = let z : ◌≡◌ {A = ℕ} 0 1 = cc in absurd (omega arith)
only_close R (hyper V X ns claim s) h = let z : ◌≡◌ {A = ℕ} 0 1 = cc in absurd (omega arith)
only_close R (pred V P E A sides Q claim s) h = let z : ◌≡◌ {A = ℕ} 0 1 = cc in absurd (omega arith)
only_close R (ask K M) h = absurd (shown_not_closed (lowest_clause R K M 0 R.clauses) h)
only_close R (refute K M m) h = absurd (refuted_not_closed (contradiction m K M) h)

pub closed_reply : (R : Register) (e : Event) → (reply R e ≡ Ok Closed) ↔ ((e ≡ close) × (R.closed ≡ false))
closed_reply R e = (
  λ h.
      let a = and_then_ok (check R e) _ Closed h in
      let is = only_close R e a.2 in
      (is, not-true _ (passes_ok (not R.closed) BookClosed tt (subst (λ (d : Event). check R d ≡ Ok tt) is a.1))),
  λ p. subst (λ (d : Event). reply R d ≡ Ok Closed) (sym p.0) (and_then_on (check R close) (λ _. granted R close) tt (passes_yes (not R.closed) BookClosed (not_from_false _ p.1))),
)
