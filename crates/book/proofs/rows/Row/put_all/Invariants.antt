use Rattle.std.proofs.Common.{drop}
use Rattle.terms.specs.Literals.{literal_precedes}
use Rattle.book.specs.Rows.{Keeps, spared}
use Rattle.book.proofs.Caps.{OnTheWay}
use Rattle.book.proofs.rows.Row.put_all.Given as goal

abbrev pub invariant-loop-literal : goal.invariant-loop-literal
invariant-loop-literal l =
    OnTheWay literal_precedes (Keeps l.initial.self) (Keeps l.self) (spared l.gone (drop l.literal-index l.literals)) (spared l.gone l.literals)
