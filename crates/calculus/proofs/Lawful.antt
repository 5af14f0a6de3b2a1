-- The law holds of every past of every book. Assumes nothing.
use Rattle.std.proofs.Common.{◌≡◌, ℕ, true, ◌↔◌, List, [], ◌∷◌, map, None, Ok, Result, sym, refl, ap, ◌∙◌, subst, inl, inr}
use mathlib.Core.Logic.{∥∥₁_elim}
use Rattle.std.proofs.lemmas.Bool.{true≢false}
use Rattle.terms.specs.Lists.{◌∈◌}
use Rattle.terms.specs.declared.literals.Literal.{Literal}
use Rattle.terms.specs.declared.literals.Literal.TheVariants.{Concept}
use Rattle.terms.specs.declared.refusals.Refusal.{Refusal}
use Rattle.models.specs.Meanings.{Meaning, fault_of, interpretation}
use Rattle.models.specs.Semantics.{Contradicts, Interpretation, IsIn, LowestContradiction, Models, Subsumes, of_tests}
use Rattle.calculus.specs.Events.{Event, Takes, Well, ask, close, core, enter_axiom, enter_inclusion, grown, hyper, open_context, pred, refute}
use Rattle.calculus.specs.Law.{EveryPast, Gives, Had, KeepsLaw, Law, Moment, OneRegister, Past, Said, before, called, left, now, taken}
use Rattle.calculus.specs.Register.{Register}
use Rattle.calculus.specs.Replies.{after, reply}
use Rattle.calculus.specs.declared.answers.Answer.{Answer}
use Rattle.calculus.specs.declared.answers.Answer.TheVariants.{Refuted, Shown}
use Rattle.calculus.proofs.Pasts.{at_moment, had_gives, no_other, same_then}
use Rattle.calculus.proofs.Replied.{closed_reply, entered_reply}
use Rattle.calculus.proofs.Shown.{refuted_reply, shown_reply, strengthened}
use Rattle.calculus.proofs.Standing.{clauses_hold, past_sound}

-- ---- once closed, the axioms stay

record Stays (Q R : Register) : Type 0 where
  closed : R.closed ≡ true
  axioms : R.axioms ≡ Q.axioms

one_call : (Q : Register) (e : Event) → Q.closed ≡ true → Takes Q e → Stays Q (grown Q e)
one_call Q (enter_axiom l r) c t = absurd (true≢false (sym c ∙ t.0))
one_call Q (enter_inclusion E S) c t = absurd (true≢false (sym c ∙ t.0))
one_call Q close c t = absurd (true≢false (sym c ∙ t))
one_call Q (open_context K) c t = record { closed = c; axioms = refl }
one_call Q (core V A s) c t = record { closed = c; axioms = refl }
one_call Q (hyper V X ns claim s) c t = record { closed = c; axioms = refl }
one_call Q (pred V P E A sides P' claim s) c t = record { closed = c; axioms = refl }
one_call Q (ask K M) c t = absurd t
one_call Q (refute K M m) c t = absurd t

-- over one more call
one_later : (s : Said) (p : Past) (Q R : Register) → Gives p Q → Gives (s ∷ p) R → Q.closed ≡ true → Stays Q R
one_later s p Q _ g (taken {R = R} _ h t) c =
    let same : R ≡ Q = no_other p R Q h g in
    subst (λ (O : Register). Stays Q (grown O s.call)) (sym same) (one_call Q s.call c (subst (λ (O : Register). Takes O s.call) same t))
one_later s p Q _ g (left {R = R} _ h n) c =
    let same : R ≡ Q = no_other p R Q h g in
    subst (Stays Q) (sym same) (record { closed = c; axioms = refl })

-- the register of the past before the last call
one_less : (s : Said) (p : Past) (R : Register) → Gives (s ∷ p) R → (Q : Register) × Gives p Q
one_less s p _ (taken {R = R} _ h t) = (R, h)
one_less s p _ (left {R = R} _ h n) = (R, h)

stays : (s : Said) (q : Past) (Q : Register) (p : Past) (R : Register) → Moment s q p → Gives q Q → Gives p R → Q.closed ≡ true → Stays Q R
stays s q Q _ R now g h c = one_later s q Q R g h c
stays s q Q (_ ∷ p) R (before t m) g h c =
    let w = one_less t p R h in
    let k = stays s q Q p w.0 m g w.1 c in
    let l = one_later t p w.0 R w.1 h k.closed in
    record { closed = l.closed; axioms = l.axioms ∙ k.axioms }

-- ---- shown and refuted do not meet

not_both : (I : Interpretation) (K M : List ℕ) (x : ℕ) → Subsumes I K M → Contradicts I K M x → ⊥
not_both I K M x shows c = ∥∥₁_elim (shows x c.0 c.1.0) (λ a b. absurd a) (λ t. in_none M t.0 t.1.0 t.1.1 c.1.1)
  where
    in_none : (bs : List ℕ) (L : Literal) → L ∈ map Concept bs → IsIn I x L → ((B : ℕ) → B ∈ bs → I.concept B x → ⊥) → ⊥
    in_none [] L m is none = m
    in_none (b ∷ bs) L (inl e) is none = none b (inl refl) (subst (IsIn I x) e is)
    in_none (b ∷ bs) L (inr m) is none = in_none bs L m is (λ B k. none B (inr k))

-- ---- the law

module _ (p : Past) (R : Register) (had : Had p R) where
  answered : (s : Said) (q : Past) (Q : Register) → Moment s q p → Gives q Q → s.answer ≡ reply Q s.call
  answered s q Q m g = same_then s q Q g (at_moment p R s q had m)

  asked : (s : Said) (q : Past) (Q : Register) (e : Event) → Moment s q p → Gives q Q → s.call ≡ e → s.answer ≡ reply Q e
  asked s q Q e m g is = answered s q Q m g ∙ ap (reply Q) is

  pub shows : (s : Said) (q : Past) (Q : Register) (K M : List ℕ) (n : ℕ) → Moment s q p → Gives q Q → s.call ≡ ask K M → s.answer ≡ Ok (Shown n)
      → (I : Interpretation) → Models I Q.axioms → Subsumes I K M
  shows s q Q K M n m g is a I models =
      let t = (shown_reply Q K M n).0 (sym (asked s q Q (ask K M) m g is) ∙ a) in
      strengthened Q K M I (clauses_hold I Q (past_sound I q Q g models)) n t.1

  refutes : (s : Said) (q : Past) (Q : Register) (K M : List ℕ) (m : Meaning) (x : ℕ) → Moment s q p → Gives q Q → s.call ≡ refute K M m
      → (s.answer ≡ Ok (Refuted x)) ↔ ((Q.closed ≡ true) × (fault_of m ≡ None) × Models (interpretation m) Q.axioms × LowestContradiction (interpretation m) K M x)
  refutes s q Q K M m x at g is =
      let b = refuted_reply Q K M m x in
      let a = asked s q Q (refute K M m) at g is in
      (λ h. b.0 (sym a ∙ h), λ h. a ∙ b.1 h)

  both_never : (s t : Said) (q r : Past) (K M : List ℕ) (m : Meaning) (n x : ℕ) → Moment s q p → Moment t r p
      → s.call ≡ ask K M → s.answer ≡ Ok (Shown n) → t.call ≡ refute K M m → t.answer ≡ Ok (Refuted x) → ⊥
  both_never s t q r K M m n x at-s at-t is-s a is-t b =
      let S = at_moment p R s q had at-s in
      let T = at_moment p R t r had at-t in
      let g = had_gives q S.book S.had in
      let h = had_gives r T.book T.had in
      let whole = had_gives p R had in
      let shown = (shown_reply S.book K M n).0 (sym (asked s q S.book (ask K M) at-s g is-s) ∙ a) in
      let refuted = (refutes t r T.book K M m x at-t h is-t).0 b in
      let from-s = stays s q S.book p R at-s g whole shown.0 in
      let from-t = stays t r T.book p R at-t h whole refuted.0 in
      let models : Models (interpretation m) S.book.axioms = subst (Models (interpretation m)) (sym from-t.axioms ∙ from-s.axioms) refuted.2 in
      not_both (interpretation m) K M x (shows s q S.book K M n at-s g is-s a (interpretation m) models) refuted.3.0

  pub registered : OneRegister p
  registered s q m = let t = at_moment p R s q had m in (t.book, had_gives q t.book t.had, λ S g. no_other q S t.book g (had_gives q t.book t.had))

  pub lawful : Law p
  lawful = record {
    shown_holds = λ s q Q K M n m g is a T. shows s q Q K M n m g is a (of_tests T);
    refuted_exactly = refutes;
    never_both = both_never;
    entered_exactly = λ s q Q n m g.
        let b = entered_reply Q s.call (at_moment p R s q had m).well n in
        let a = answered s q Q m g in
        (λ h. b.0 (sym a ∙ h), λ h. a ∙ b.1 h);
    closed_exactly = λ s q Q m g. let b = closed_reply Q s.call in let a = answered s q Q m g in (λ h. b.0 (sym a ∙ h), λ h. a ∙ b.1 h);
    shown_exactly = λ s q Q K M n m g is. let b = shown_reply Q K M n in let a = asked s q Q (ask K M) m g is in (λ h. b.0 (sym a ∙ h), λ h. a ∙ b.1 h);
  }

pub every_past : EveryPast
every_past = record { lawful = lawful; one_register = had_gives; no_other = no_other }

-- one call more
pub keeps_law : (R S : Register) (e : Event) (r : Result Answer Refusal) → Well e → r ≡ reply R e → S ≡ after R e → KeepsLaw R e r S
keeps_law R S e r well answer change p had =
    let more = called (record { call = e; answer = r }) S had well answer change in
    let q = record { call = e; answer = r } ∷ p in
    (more, lawful q S more, registered q S more)
