use Rattle.std.proofs.Common.{◌≡◌, ◌++◌, take, drop}
use Rattle.calculus.specs.Fronts.{placed}
use Rattle.book.proofs.rows.push_in.Given as goal

-- what is passed, and the rest of the row with what is carried, is the row with x
abbrev pub invariant-loop-slot : goal.invariant-loop-slot
invariant-loop-slot g l =
    let lt = g.T.Ordered.precedes in
    take l.slot-index l.row ++ placed lt l.carry (drop l.slot-index l.row) ≡ placed lt l.initial.carry l.initial.row
