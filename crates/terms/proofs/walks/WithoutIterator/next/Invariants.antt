use Rattle.std.proofs.Common.{◌≡◌, length}
use Rattle.terms.specs.Lists.{removal}
use Rattle.terms.proofs.walks.WithoutIterator.next.Given as goal

-- what is left of the list leaves the same items
abbrev pub invariant-loop-x : goal.invariant-loop-x
invariant-loop-x g l =
    let lt = g.T.Ordered.precedes in
    (l.self.gone ≡ l.initial.self.gone) × (removal lt l.self.gone l.self.xs.now ≡ removal lt l.initial.self.gone l.initial.self.xs.now)

abbrev pub decreases-loop-x : goal.decreases-loop-x
decreases-loop-x g l = length l.self.xs.now
