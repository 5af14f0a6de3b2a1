use Rattle.std.proofs.Common.{◌≡◌, length}
use Rattle.terms.proofs.walks.count.Given as goal

abbrev pub invariant-loop : goal.invariant-loop
invariant-loop g l = (goal.iterator-loop g).can_next l.iterator' × (goal.iterator-loop g).is_finite l.iterator' × (l.n ≡ length l.yielded)
