use Rattle.std.proofs.Common.{◌≡◌, length, drop}
use Rattle.terms.proofs.Fronts.{Part}
use Rattle.terms.proofs.walks.write.Given as goal

-- what is written, and then what is still to come, is the whole list
abbrev pub invariant-loop-item : goal.invariant-loop-item
invariant-loop-item g l =
    (goal.iterator-loop-item g).can_next l.item-iterator
    × (goal.iterator-loop-item g).is_finite l.item-iterator
    × (l.n ≡ length l.yielded)
    × Part l.initial.out l.out l.n (drop l.n g.list) g.list
