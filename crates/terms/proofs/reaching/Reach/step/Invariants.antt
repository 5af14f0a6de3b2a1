use Rattle.std.proofs.Common.{◌≡◌, ◌++◌, map, take, drop}
use Rattle.terms.specs.Tables.{extend}
use Rattle.terms.proofs.reaching.Reach.step.Given as goal

abbrev pub invariant-loop-row : goal.invariant-loop-row
invariant-loop-row l =
    let rows = l.initial.row-items in
    l.row-items ≡ map (extend l.e.code l.target) (take l.row-index rows) ++ drop l.row-index rows
