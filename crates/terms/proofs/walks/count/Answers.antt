use Rattle.std.proofs.Common.{◌≡◌, ◌+◌, ◌^◌, ◌≤◌, [], ◌∷◌, ◌++◌, length, rules, arith, ◌∙◌}
use Rattle.std.proofs.lemmas.Iterator.Consumers.{YieldsList-at, YieldsList-turn, YieldsList-end}
use Rattle.std.proofs.lemmas.List.{length-append}
use Rattle.terms.proofs.walks.count.Goals as goal

pub loop-init : goal.loop-init
loop-init g c = search rules

pub loop-preserved : goal.loop-preserved
loop-preserved g c =
    let more : length (c.loop.yielded ++ c.in-Some.field-0 ∷ []) ≡ length c.loop.yielded + 1 = length-append c.loop.yielded (c.in-Some.field-0 ∷ []) in
    let on = c.in-Some.ensures.goes.on c.loop.invariant.1 in
    (on.0, on.1, omega (arith, more, c.loop.invariant.2))

pub returns : goal.returns
returns g c =
    let e = YieldsList-at c.into_iter-iterator.ensures.into_iter_gives c.requires.1.1.0 in
    c.loop.invariant.2 ∙ (YieldsList-end e c.loop.yielded c.loop.iterator' c.loop.yielded_by c.next.result c.next.new.self c.in-None.is c.next.ensures.steps).1

pub returns-in_err-n : goal.returns-in_err-n
returns-in_err-n g c =
    let e = YieldsList-at c.into_iter-iterator.ensures.into_iter_gives c.requires.1.1.0 in
    let t = YieldsList-turn e c.loop.yielded c.loop.iterator' c.loop.yielded_by c.next.result c.next.new.self c.in-Some.field-0 c.in-Some.is c.next.ensures.steps in
    let over : 2 ^ 64 ≤ c.loop.n + 1 = search rules in
    let many : 2 ^ 64 ≤ length g.list = omega (arith, t.0, over, c.loop.invariant.2) in
    rw c.from_residual.ensures many
