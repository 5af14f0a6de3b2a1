-- The call that a form makes on a book, and what the memory lent to it then holds. Assumes nothing.
use Rattle.std.specs.Prelude.{◌≡◌, ℕ, List, map, length, replicate, Ok}
use Rattle.terms.specs.Shorts.{held}
use Rattle.terms.specs.declared.literals.Literal.{Literal}
use Rattle.terms.specs.declared.literals.Literal.TheVariants.{Concept}
use Rattle.models.specs.Meanings.{Meaning}
use Rattle.forms.specs.declared.formed.Form.{Form}
use Rattle.forms.specs.declared.formed.Form.TheVariants.{Ask, Axiom, Close, Context, Core, Hyper, Pred, Refute, Under}
use Rattle.forms.specs.declared.steps.CoreStep.{CoreStep}
use Rattle.forms.specs.declared.steps.HyperStep.{HyperStep}
use Rattle.forms.specs.declared.steps.PredStep.{PredStep}
use Rattle.forms.specs.declared.steps.Subsumption.{Subsumption}
use Rattle.calculus.specs.Events.{Event, ask, close, core, enter_axiom, enter_inclusion, hyper, open_context, pred, refute, grown, with_clause}
use Rattle.calculus.specs.Register.{Register}
use Rattle.calculus.specs.Replies.{granted}
use Rattle.calculus.specs.declared.answers.Answer.TheVariants.{Entered}
use Rattle.book.specs.declared.clauses.Clause.{Clause}

-- the calls of steps, with scratch of this length, and of questions, with a sample that means m
abbrev pub core_call : CoreStep → ℕ → Event
core_call s scratch = core s.context.number s.concept scratch

abbrev pub premise_numbers : HyperStep → List ℕ
premise_numbers s = map (λ n. n.number) (held s.premises.list)

abbrev pub hyper_call : HyperStep → ℕ → Event
hyper_call s scratch = hyper s.context.number s.axiom.number (premise_numbers s) (held s.claim.list) scratch

abbrev pub pred_call : PredStep → ℕ → Event
pred_call s scratch = pred s.context.number s.first.number s.role s.concept (held s.sides.list) s.far.number (held s.claim.list) scratch

abbrev pub ask_call : Subsumption → Event
ask_call s = ask (held s.left.list) (held s.right.list)

abbrev pub refute_call : Subsumption → Meaning → Event
refute_call s m = refute (held s.left.list) (held s.right.list) m

-- whatever the register and the scratch, the call that passes is told the next number, and enters this clause
abbrev pub EntersClause : (ℕ → Event) → Clause → Type 0
EntersClause call c = (R : Register) (scratch : ℕ) → (granted R (call scratch) ≡ Ok (Entered (length R.clauses))) × (grown R (call scratch) ≡ with_clause R c.context (held c.head))

-- the call of a form, with scratch of this length and a sample that means m
abbrev pub call_of : Form → ℕ → Meaning → Event
call_of (Axiom a) scratch m = enter_axiom (held a.left) (held a.right)
call_of (Under E S) scratch m = enter_inclusion E S
call_of Close scratch m = close
call_of (Context K) scratch m = open_context (held K.list)
call_of (Core s) scratch m = core_call s scratch
call_of (Hyper s) scratch m = hyper_call s scratch
call_of (Pred s) scratch m = pred_call s scratch
call_of (Ask s) scratch m = ask_call s
call_of (Refute s) scratch m = refute_call s m

-- each literal is concept 0
abbrev pub cleared : List Literal → List Literal
cleared scratch = replicate (length scratch) (Concept 0)

-- what scratch holds afterwards: a step clears it, whatever the answer, and any other call leaves it as it was
abbrev pub scratch_after : Event → List Literal → List Literal
scratch_after (enter_axiom left right) scratch = scratch
scratch_after (enter_inclusion E S) scratch = scratch
scratch_after close scratch = scratch
scratch_after (open_context K) scratch = scratch
scratch_after (core V A n) scratch = cleared scratch
scratch_after (hyper V X premises claim n) scratch = cleared scratch
scratch_after (pred V P E A sides Q claim n) scratch = cleared scratch
scratch_after (ask K M) scratch = scratch
scratch_after (refute K M sample) scratch = scratch
