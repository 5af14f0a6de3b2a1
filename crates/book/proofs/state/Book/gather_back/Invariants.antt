use Rattle.std.proofs.Common.{drop}
use Rattle.calculus.specs.Checks.{back_brings, back_test}
use Rattle.book.proofs.Gathers.{Gathering}
use Rattle.book.proofs.state.Book.gather_back.Given as goal

abbrev pub invariant-loop-i : goal.invariant-loop-i
invariant-loop-i l =
    Gathering (back_test l.self l.e.code) back_brings l.far l.initial.row l.row l.i (drop l.i l.far)
