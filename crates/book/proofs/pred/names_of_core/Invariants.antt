use Rattle.std.proofs.Common.{◌≡◌, ◌≤◌, length, take}
use Rattle.terms.specs.Shorts.{held}
use Rattle.calculus.specs.Checks.{core_named}
use Rattle.book.proofs.pred.names_of_core.Given as goal

abbrev pub invariant-loop-side : goal.invariant-loop-side
invariant-loop-side l = (l.side-index ≤ length l.sides) × (held l.names ≡ core_named l.step.concept (take l.side-index l.sides))
