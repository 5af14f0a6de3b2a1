-- The law of every past: what the answers of a book mean, whatever was called before, in any order and number, refused calls included.
use Rattle.std.specs.Prelude.{◌≡◌, ℕ, ◌<◌, true, false, ◌↔◌, List, [], ◌∷◌, None, Ok, Result, ◌≢◌}
use Rattle.terms.specs.declared.refusals.Refusal.{Refusal}
use Rattle.models.specs.Meanings.{Meaning, fault_of, interpretation}
use Rattle.models.specs.Semantics.{Interpretation, LowestContradiction, Models, Subsumes, Tests, of_tests}
use Rattle.calculus.specs.Events.{Enters, Event, Strengthens, Takes, Well, ask, close, empty, grown, number, refute}
use Rattle.calculus.specs.Register.{Register}
use Rattle.calculus.specs.Replies.{after, reply}
use Rattle.calculus.specs.declared.answers.Answer.{Answer}
use Rattle.calculus.specs.declared.answers.Answer.TheVariants.{Closed, Entered, Refuted, Shown}

-- a call, and what it was answered
pub record Said : Type 0 where
  pub call : Event
  pub answer : Result Answer Refusal

-- all the calls of a book, the last one first
abbrev pub Past : Type 0
Past = List Said

-- R is the register of a past: it starts open and empty, grows by each call that it takes, and no other call changes it. Answers play no part.
pub data Gives : Past → Register → Type 0 where
  start : Gives [] empty
  taken : {p : Past} {R : Register} (s : Said) → Gives p R → Takes R s.call → Gives (s ∷ p) (grown R s.call)
  left : {p : Past} {R : Register} (s : Said) → Gives p R → (Takes R s.call → ⊥) → Gives (s ∷ p) R

-- at some moment of the past p, the call s came after the past q
pub data Moment (s : Said) (q : Past) : Past → Type 0 where
  now : Moment s q (s ∷ q)
  before : {p : Past} (t : Said) → Moment s q p → Moment s q (t ∷ p)

pub record Law (p : Past) : Type 0 where
  -- what is shown holds in every interpretation, finite or infinite, that satisfies the axioms
  pub shown_holds : (s : Said) (q : Past) (R : Register) (K M : List ℕ) (n : ℕ) → Moment s q p → Gives q R → s.call ≡ ask K M → s.answer ≡ Ok (Shown n)
      → (T : Tests) → Models (of_tests T) R.axioms → Subsumes (of_tests T) K M
  -- a closed book answers refuted x exactly when the sample has no fault and satisfies every axiom, and x is the lowest element that contradicts
  pub refuted_exactly : (s : Said) (q : Past) (R : Register) (K M : List ℕ) (m : Meaning) (x : ℕ) → Moment s q p → Gives q R → s.call ≡ refute K M m
      → (s.answer ≡ Ok (Refuted x)) ↔ ((R.closed ≡ true) × (fault_of m ≡ None) × Models (interpretation m) R.axioms × LowestContradiction (interpretation m) K M x)
  -- no subsumption is answered both shown and refuted, in either order and at any distance
  pub never_both : (s t : Said) (q r : Past) (K M : List ℕ) (m : Meaning) (n x : ℕ) → Moment s q p → Moment t r p
      → s.call ≡ ask K M → s.answer ≡ Ok (Shown n) → t.call ≡ refute K M m → t.answer ≢ Ok (Refuted x)
  -- something is entered under n exactly when the register of the calls before takes it, and n is its number there
  pub entered_exactly : (s : Said) (q : Past) (R : Register) (n : ℕ) → Moment s q p → Gives q R
      → (s.answer ≡ Ok (Entered n)) ↔ (Enters s.call × (n ≡ number R s.call) × Takes R s.call)
  -- the book is closed exactly when it is open and asked to close
  pub closed_exactly : (s : Said) (q : Past) (R : Register) → Moment s q p → Gives q R → (s.answer ≡ Ok Closed) ↔ ((s.call ≡ close) × (R.closed ≡ false))
  -- a closed book answers shown n exactly when n is the lowest clause that strengthens the subsumption
  pub shown_exactly : (s : Said) (q : Past) (R : Register) (K M : List ℕ) (n : ℕ) → Moment s q p → Gives q R → s.call ≡ ask K M
      → (s.answer ≡ Ok (Shown n)) ↔ ((R.closed ≡ true) × Strengthens R K M n × ((k : ℕ) → k < n → Strengthens R K M k → ⊥))

-- how a book came to hold R: it was new, and each call got its reply and left what it leaves
pub data Had : Past → Register → Type 0 where
  new : Had [] empty
  called : {p : Past} {R : Register} (s : Said) (S : Register) → Had p R → Well s.call → s.answer ≡ reply R s.call → S ≡ after R s.call → Had (s ∷ p) S

-- the calls before any moment have exactly one register
abbrev pub OneRegister : Past → Type 0
OneRegister p = (s : Said) (q : Past) → Moment s q p → (R : Register) × Gives q R × ((S : Register) → Gives q S → S ≡ R)

-- whatever past a book came by, it came by that past and this call to what it then holds; the law holds of the longer past, and each of its
-- moments has one register
abbrev pub KeepsLaw : Register → Event → Result Answer Refusal → Register → Type 0
KeepsLaw R e r S = (p : Past) → Had p R → let q = record { call = e; answer = r } ∷ p in Had q S × Law q × OneRegister q

-- the law holds of every past of every book, and every past has one register
pub record EveryPast : Type 0 where
  pub lawful : (p : Past) (R : Register) → Had p R → Law p
  pub one_register : (p : Past) (R : Register) → Had p R → Gives p R
  pub no_other : (p : Past) (R S : Register) → Gives p R → Gives p S → R ≡ S

-- what any book showed, at any moment of its past, holds in the interpretation I if I satisfies the axioms: as in the law, but I may be any
-- interpretation at all, whether or not its sets can be tested
abbrev pub ShownHolds : Interpretation → Type 0
ShownHolds I = (p : Past) (S : Register) → Had p S → (s : Said) (q : Past) (R : Register) (K M : List ℕ) (n : ℕ) → Moment s q p → Gives q R → s.call ≡ ask K M → s.answer ≡ Ok (Shown n)
    → Models I R.axioms → Subsumes I K M
