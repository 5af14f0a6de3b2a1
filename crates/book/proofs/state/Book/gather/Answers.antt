use Rattle.std.proofs.Common.{◌≡◌, ℕ, length, drop, Ok, Err}
use Rattle.std.proofs.lemmas.Iterator.{YieldsList-from_slice, YieldsList-from_zip}
use Rattle.std.proofs.lemmas.Iterator.Consumers.{YieldsList-end, YieldsList-from_enumerate, YieldsList-turn}
use Rattle.std.proofs.lemmas.List.{length_push}
use Rattle.std.proofs.lemmas.Result.{err_from_is_err_and}
use Rattle.terms.specs.Shorts.{held}
use Rattle.calculus.specs.Checks.{premise_brings, premise_test}
use Rattle.calculus.specs.Register.{pairs}
use Rattle.forms.specs.declared.ranges.Below.{Below}
use Rattle.book.specs.Offers.{premise_numbers}
use Rattle.book.proofs.Gathers.{gather_ends, gather_on, gather_stops}
use Rattle.book.proofs.Pairs.{pairs_end, pairs_turn}
use Rattle.book.proofs.state.Book.gather.Goals as goal

pub returns-in_err-head : goal.returns-in_err-head
returns-in_err-head c =
    let step = c.args.step.now in
    let left = c.args.left.now in
    let all = pairs left (premise_numbers step) in
    let n = length c.loop-i.yielded in
    let test = premise_test c.args.self.now.clauses step.context.number in
    let t = pairs_turn (λ (k : Below 512). k.number) left (held step.premises.list) n c.in-Some.i (c.in-Some.concept.now, c.in-Some.premise.now) (YieldsList-turn (YieldsList-from_enumerate (YieldsList-from_zip (YieldsList-from_slice left (cc)) (YieldsList-from_slice (held step.premises.list) (cc))) (cc)) c.loop-i.yielded c.loop-i.i-iterator c.loop-i.yielded_by c.next.result c.next.new.self (c.in-Some.i, (c.in-Some.concept, c.in-Some.premise)) c.in-Some.is c.next.ensures.steps) in
    let p = err_from_is_err_and c.from_residual.result c.from_residual.ensures.1 in
    let stops : Err c.in_err-head.field-0.0 ≡ test n (c.in-Some.concept.now, c.in-Some.premise.now.number) = rw (← t.0, ← c.index-v.ensures.value, ← c.index.ensures.value) c.in_err-head.ensures in
    rw (p.1, p.2) (gather_stops test premise_brings all c.args.row.now c.loop-i.row n (drop n all) c.loop-i.invariant _ _ t.1 c.loop-i.row _ stops)

pub loop-i-preserved : goal.loop-i-preserved
loop-i-preserved c =
    let step = c.args.step.now in
    let left = c.args.left.now in
    let all = pairs left (premise_numbers step) in
    let n = length c.loop-i.yielded in
    let test = premise_test c.args.self.now.clauses step.context.number in
    let x : ℕ × ℕ = (c.in-Some.concept.now, c.in-Some.premise.now.number) in
    let t = pairs_turn (λ (k : Below 512). k.number) left (held step.premises.list) n c.in-Some.i (c.in-Some.concept.now, c.in-Some.premise.now) (YieldsList-turn (YieldsList-from_enumerate (YieldsList-from_zip (YieldsList-from_slice left (cc)) (YieldsList-from_slice (held step.premises.list) (cc))) (cc)) c.loop-i.yielded c.loop-i.i-iterator c.loop-i.yielded_by c.next.result c.next.new.self (c.in-Some.i, (c.in-Some.concept, c.in-Some.premise)) c.in-Some.is c.next.ensures.steps) in
    let passes : Ok (held c.in_ok-head.head) ≡ test n x = rw (← t.0, ← c.index-v.ensures.value, ← c.index.ensures.value) c.in_ok-head.ensures in
    rw (length_push c.loop-i.yielded (c.in-Some.i, (c.in-Some.concept, c.in-Some.premise)))
    (gather_on test premise_brings all c.args.row.now c.loop-i.row n (drop n all) c.loop-i.invariant x _ t.1 (held c.in_ok-head.head) c.put_all.new.self passes (rw (← c.as_slice.ensures.value) c.put_all.ensures))

pub returns : goal.returns
returns c =
    let step = c.args.step.now in
    let left = c.args.left.now in
    let all = pairs left (premise_numbers step) in
    let n = length c.loop-i.yielded in
    let t = YieldsList-end (YieldsList-from_enumerate (YieldsList-from_zip (YieldsList-from_slice left (cc)) (YieldsList-from_slice (held step.premises.list) (cc))) (cc)) c.loop-i.yielded c.loop-i.i-iterator c.loop-i.yielded_by c.next.result c.next.new.self c.in-None.is c.next.ensures.steps in
    gather_ends (premise_test c.args.self.now.clauses step.context.number) premise_brings all c.args.row.now c.loop-i.row n _ c.loop-i.invariant (pairs_end (λ (k : Below 512). k.number) left (held step.premises.list) n t.1)
