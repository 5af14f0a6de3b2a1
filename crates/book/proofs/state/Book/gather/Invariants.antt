use Rattle.std.proofs.Common.{length, drop}
use Rattle.calculus.specs.Checks.{premise_brings, premise_test}
use Rattle.calculus.specs.Register.{pairs}
use Rattle.book.specs.Offers.{premise_numbers}
use Rattle.book.proofs.Gathers.{Gathering}
use Rattle.book.proofs.state.Book.gather.Given as goal

abbrev pub invariant-loop-i : goal.invariant-loop-i
invariant-loop-i l =
    let all = pairs l.left (premise_numbers l.step) in
    Gathering (premise_test l.self.clauses l.step.context.number) premise_brings all l.initial.row l.row (length l.yielded) (drop (length l.yielded) all)
