-- An event that changes the register passes its checks exactly when the register takes it. Assumes nothing.
use Rattle.std.proofs.Common.{◌≡◌, ℕ, ◌<◌, Bool, true, not, ltb, ◌⊎◌, ◌↔◌, length, Ok, Err, Result, refl, ◌∙◌, inl, inr}
use Rattle.std.proofs.lemmas.Bool.{lt-ltb, ltb-true, not_from_false, not-true}
use Rattle.terms.specs.declared.refusals.Refusal.{Refusal}
use Rattle.terms.specs.declared.refusals.Refusal.TheVariants.{BookClosed, BookOpen, NoPlaceFree}
use Rattle.calculus.specs.Checks.{and_then, passes}
use Rattle.calculus.specs.Events.{Event, Takes, Well, ask, close, core, enter_axiom, enter_inclusion, hyper, open_context, pred, refute}
use Rattle.forms.specs.Limits.{axiom_limit, context_limit}
use Rattle.calculus.specs.Register.{Register}
use Rattle.calculus.specs.Replies.{check, room}
use Rattle.calculus.proofs.HyperTie.{core_exactly, hyper_exactly}
use Rattle.calculus.proofs.Passing.{and_then_ok, and_then_on, passes_ok, passes_yes}
use Rattle.calculus.proofs.PredTie.{pred_exactly}

-- the event is no question
abbrev pub Changes : Event → Type 0
Changes (enter_axiom left right) = Unit {0}
Changes (enter_inclusion E S) = Unit {0}
Changes close = Unit {0}
Changes (open_context K) = Unit {0}
Changes (core V A scratch) = Unit {0}
Changes (hyper V X premises claim scratch) = Unit {0}
Changes (pred V P E A sides Q claim scratch) = Unit {0}
Changes (ask K M) = ⊥
Changes (refute K M sample) = ⊥

room_exactly : (used limit : ℕ) → (room used limit ≡ Ok tt) ↔ (used < limit)
room_exactly used limit = (λ h. ltb-true _ _ (passes_ok (ltb used limit) (NoPlaceFree limit) tt h), λ h. passes_yes (ltb used limit) (NoPlaceFree limit) (lt-ltb _ _ h))

-- first a test, and then room in a list
both_exactly : (b : Bool) (e : Refusal) (used limit : ℕ) → (and_then (passes b e) (λ _. room used limit) ≡ Ok tt) ↔ ((b ≡ true) × (used < limit))
both_exactly b e used limit = (
  λ h. let a = and_then_ok (passes b e) _ tt h in (passes_ok b e a.0 a.1, (room_exactly used limit).0 a.2),
  λ p. and_then_on (passes b e) _ tt (passes_yes b e p.0) ∙ (room_exactly used limit).1 p.1,
)

pub exactly : (R : Register) (e : Event) → Well e → Changes e → (check R e ≡ Ok tt) ↔ Takes R e
exactly R (enter_axiom left right) w c =
    let x = both_exactly (not R.closed) BookClosed (length R.axioms) axiom_limit in
    (λ h. let p = x.0 h in (not-true _ p.0, p.1), λ t. x.1 (not_from_false _ t.0, t.1))
exactly R (enter_inclusion E S) w c =
    let x = both_exactly (not R.closed) BookClosed (length R.axioms) axiom_limit in
    (λ h. let p = x.0 h in (not-true _ p.0, p.1), λ t. x.1 (not_from_false _ t.0, t.1))
exactly R close w c = (λ h. not-true _ (passes_ok (not R.closed) BookClosed tt h), λ t. passes_yes (not R.closed) BookClosed (not_from_false _ t))
exactly R (open_context K) w c = both_exactly R.closed BookOpen (length R.contexts) context_limit
exactly R (core V A scratch) w c = core_exactly R scratch V A
exactly R (hyper V X premises claim scratch) w c = hyper_exactly R scratch V X premises claim w.0 w.1
exactly R (pred V P E A sides Q claim scratch) w c = pred_exactly R scratch V P E A sides Q claim w.0 w.1
exactly R (ask K M) w c = absurd c
exactly R (refute K M sample) w c = absurd c

pub cases_result : (r : Result (Unit {0}) Refusal) → (r ≡ Ok tt) ⊎ ((e : Refusal) × (r ≡ Err e))
cases_result (Ok u) = inl refl
cases_result (Err e) = inr (e, refl)

pub changes_or_not : (e : Event) → Changes e ⊎ (Changes e → ⊥)
changes_or_not (enter_axiom left right) = inl tt
changes_or_not (enter_inclusion E S) = inl tt
changes_or_not close = inl tt
changes_or_not (open_context K) = inl tt
changes_or_not (core V A scratch) = inl tt
changes_or_not (hyper V X premises claim scratch) = inl tt
changes_or_not (pred V P E A sides Q claim scratch) = inl tt
changes_or_not (ask K M) = inr (λ c. c)
changes_or_not (refute K M sample) = inr (λ c. c)

-- a question is never taken, and leaves the register as it was
pub taken_changes : (R : Register) (e : Event) → Takes R e → Changes e
taken_changes R (enter_axiom left right) t = tt
taken_changes R (enter_inclusion E S) t = tt
taken_changes R close t = tt
taken_changes R (open_context K) t = tt
taken_changes R (core V A scratch) t = tt
taken_changes R (hyper V X premises claim scratch) t = tt
taken_changes R (pred V P E A sides Q claim scratch) t = tt
taken_changes R (ask K M) t = absurd t
taken_changes R (refute K M sample) t = absurd t
