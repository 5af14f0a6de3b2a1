-- The law of a form's call. Assumes nothing.
use Rattle.std.proofs.Common.{◌≡◌, ℕ, ◌≤◌, length, Result, arith}
use Rattle.std.proofs.lemmas.List.{length-take-le}
use Rattle.terms.specs.Shorts.{held}
use Rattle.terms.specs.declared.bounded.Short.{Short}
use Rattle.terms.specs.declared.literals.Literal.{Literal}
use Rattle.terms.specs.declared.refusals.Refusal.{Refusal}
use Rattle.models.specs.Meanings.{Meaning}
use Rattle.forms.proofs.Listed.{literals_rise}
use Rattle.forms.specs.declared.formed.Form.{Form}
use Rattle.forms.specs.declared.formed.Form.TheVariants.{Ask, Axiom, Close, Context, Core, Hyper, Pred, Refute, Under}
use Rattle.calculus.specs.Events.{Well}
use Rattle.calculus.specs.Law.{KeepsLaw}
use Rattle.calculus.specs.Register.{Register}
use Rattle.calculus.specs.Replies.{after, reply}
use Rattle.calculus.specs.declared.answers.Answer.{Answer}
use Rattle.calculus.proofs.Lawful.{keeps_law}
use Rattle.book.specs.Offers.{call_of}

few : (s : Short Literal 12) → length (held s) ≤ 12
few s = omega (arith, s.few, s.full, length-take-le s.len s.items (omega (arith, s.few, s.full)))

-- the claim of every form rises and is short enough
well : (f : Form) (n : ℕ) (m : Meaning) → Well (call_of f n m)
well (Axiom a) n m = tt
well (Under E S) n m = tt
well Close n m = tt
well (Context K) n m = tt
well (Core s) n m = tt
well (Hyper s) n m = (few s.claim.list, literals_rise 12 (held s.claim.list) s.claim.ok)
well (Pred s) n m = (few s.claim.list, literals_rise 12 (held s.claim.list) s.claim.ok)
well (Ask s) n m = tt
well (Refute s) n m = tt

pub call_keeps_law : (R S : Register) (f : Form) (n : ℕ) (m : Meaning) (r : Result Answer Refusal) → r ≡ reply R (call_of f n m) → S ≡ after R (call_of f n m) → KeepsLaw R (call_of f n m) r S
call_keeps_law R S f n m r answer change = keeps_law R S (call_of f n m) r (well f n m) answer change
