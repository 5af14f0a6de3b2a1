use Rattle.std.proofs.Common.{length, sym, ap, arith}
use Rattle.std.proofs.lemmas.List.{drop_all}
use Rattle.terms.specs.Lists.{removal}
use Rattle.terms.proofs.Sets.{removal_length}
use Rattle.terms.proofs.Turns.{drop_read, removal_drops, removal_keeps}
use Rattle.terms.proofs.lists.without_len.Goals as goal
use Rattle.terms.proofs.lists.without_len.Goals.{then-not-same, else-not-same}

pub overflow_add-count : goal.overflow_add-count
overflow_add-count g c =
    let next = drop_read _ _ _ c.loop-y-test.true c.y-item.is in
    omega (arith, ap length (removal_keeps g.T.Ordered.precedes _ _ _ _ next (sym c.if-not-same.ensures)), c.loop-y.invariant, removal_length g.T.Ordered.precedes c.args.x.now c.args.xs.now)

pub loop-y-preserved : goal.loop-y-preserved
loop-y-preserved g c =
    let lt = g.T.Ordered.precedes in
    let next = drop_read _ _ _ c.loop-y-test.true c.y-item.is in
    elim c.if-not-same.branch [
      | then-not-same w ↦ omega (arith, w.count-is, ap length (removal_keeps lt _ _ _ _ next (sym w.if-not-same.ensures)), c.loop-y.invariant)
      | else-not-same w ↦ omega (arith, w.count-is, ap length (removal_drops lt _ _ _ _ next (sym w.if-not-same.ensures)), c.loop-y.invariant)
    ]

pub returns : goal.returns
returns g c =
    let none = ap (λ l. length (removal g.T.Ordered.precedes c.args.x.now l)) (drop_all _ c.args.xs.now c.loop-y-test.false) in
    omega (arith, none, c.loop-y.invariant)
