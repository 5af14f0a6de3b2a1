use Rattle.std.proofs.Common.{◌≡◌, ◌+◌, length, drop}
use Rattle.terms.specs.Lists.{removal}
use Rattle.terms.proofs.lists.without_len.Given as goal

-- what is counted, and what is left to count
abbrev pub invariant-loop-y : goal.invariant-loop-y
invariant-loop-y g l =
    let lt = g.T.Ordered.precedes in
    l.count + length (removal lt l.x (drop l.y-index l.xs)) ≡ length (removal lt l.x l.xs)
