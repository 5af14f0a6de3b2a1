-- Every past has exactly one register, and it is what the book holds. Assumes nothing.
use Rattle.std.proofs.Common.{◌≡◌, ◌⊎◌, [], ◌∷◌, Ok, Err, Result, sym, refl, ap, ◌∙◌, subst, inl, inr}
use Rattle.terms.specs.declared.refusals.Refusal.{Refusal}
use Rattle.calculus.specs.Events.{Event, Takes, Well, ask, close, core, enter_axiom, enter_inclusion, grown, hyper, open_context, pred, refute}
use Rattle.calculus.specs.Law.{Gives, Had, Moment, Past, Said, before, called, left, new, now, start, taken}
use Rattle.calculus.specs.Register.{Register}
use Rattle.calculus.specs.Replies.{after, check, held_after, reply}
use Rattle.calculus.proofs.Passing.{no_ok}
use Rattle.calculus.proofs.Taking.{Changes, cases_result, changes_or_not, exactly, taken_changes}

pub no_other : (p : Past) (R S : Register) → Gives p R → Gives p S → R ≡ S
no_other [] _ _ start start = refl
no_other (_ ∷ p) _ _ (taken {R = R} s g t) (taken {R = S} _ h u) = ap (λ (Q : Register). grown Q s.call) (no_other p R S g h)
no_other (_ ∷ p) _ _ (taken {R = R} s g t) (left {R = S} _ h n) = absurd (n (subst (λ (Q : Register). Takes Q s.call) (no_other p R S g h) t))
no_other (_ ∷ p) _ _ (left {R = R} s g n) (taken {R = S} _ h u) = absurd (n (subst (λ (Q : Register). Takes Q s.call) (sym (no_other p R S g h)) u))
no_other (_ ∷ p) _ _ (left {R = R} s g n) (left {R = S} _ h m) = no_other p R S g h

-- a question leaves the register as it was, whether it passes or not
pub question_leaves : (R : Register) (e : Event) → (Changes e → ⊥) → (r : Result (Unit {0}) Refusal) → held_after (grown R e) R r ≡ R
question_leaves R (enter_axiom l k) n r = absurd (n tt)
question_leaves R (enter_inclusion E S) n r = absurd (n tt)
question_leaves R close n r = absurd (n tt)
question_leaves R (open_context K) n r = absurd (n tt)
question_leaves R (core V A scratch) n r = absurd (n tt)
question_leaves R (hyper V X premises claim scratch) n r = absurd (n tt)
question_leaves R (pred V P E A sides Q claim scratch) n r = absurd (n tt)
question_leaves R (ask K M) n (Ok u) = refl
question_leaves R (ask K M) n (Err e) = refl
question_leaves R (refute K M sample) n (Ok u) = refl
question_leaves R (refute K M sample) n (Err e) = refl

-- what a call leaves is what the register comes to
pub one_more : (p : Past) (R S : Register) (s : Said) → Gives p R → Well s.call → S ≡ after R s.call → Gives (s ∷ p) S
one_more p R S s g w is = go (changes_or_not s.call) (cases_result (check R s.call))
  where
    go : Changes s.call ⊎ (Changes s.call → ⊥) → (check R s.call ≡ Ok tt) ⊎ ((e : Refusal) × (check R s.call ≡ Err e)) → Gives (s ∷ p) S
    go (inl c) (inl k) =
        subst (Gives (s ∷ p)) (sym (is ∙ ap (held_after (grown R s.call) R) k)) (taken s g ((exactly R s.call w c).0 k))
    go (inl c) (inr k) =
        subst (Gives (s ∷ p)) (sym (is ∙ ap (held_after (grown R s.call) R) k.1)) (left s g (λ t. no_ok (sym k.1 ∙ (exactly R s.call w c).1 t)))
    go (inr n) k =
        subst (Gives (s ∷ p)) (sym (is ∙ question_leaves R s.call n (check R s.call))) (left s g (λ t. n (taken_changes R s.call t)))

pub had_gives : (p : Past) (R : Register) → Had p R → Gives p R
had_gives [] _ new = start
had_gives (_ ∷ p) _ (called {R = R} s S h w a is) = one_more p R S s (had_gives p R h) w is

-- what the book held when a call came
pub record Then (s : Said) (q : Past) : Type 0 where
  pub book : Register
  pub had : Had q book
  pub well : Well s.call
  pub replied : s.answer ≡ reply book s.call

pub at_moment : (p : Past) (R : Register) (s : Said) (q : Past) → Had p R → Moment s q p → Then s q
at_moment _ _ s q new m = elim m [ ]
at_moment _ _ s q (called {R = R} _ S h w a is) now = record { book = R; had = h; well = w; replied = a }
at_moment (_ ∷ p) _ s q (called {R = R} _ S h w a is) (before t m) = at_moment p R s q h m

-- the book was what the register of the calls before is
pub same_then : (s : Said) (q : Past) (R : Register) → Gives q R → (t : Then s q) → s.answer ≡ reply R s.call
same_then s q R g t = t.replied ∙ ap (λ (Q : Register). reply Q s.call) (no_other q t.book R (had_gives q t.book t.had) g)
