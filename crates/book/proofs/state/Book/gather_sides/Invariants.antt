use Rattle.std.proofs.Common.{drop}
use Rattle.calculus.specs.Checks.{side_brings, side_test}
use Rattle.book.proofs.Gathers.{Gathering}
use Rattle.book.proofs.state.Book.gather_sides.Given as goal

abbrev pub invariant-loop-i : goal.invariant-loop-i
invariant-loop-i l =
    Gathering (side_test l.self l.step.context.number l.step.role.code) side_brings l.sides l.initial.row l.row l.i (drop l.i l.sides)
