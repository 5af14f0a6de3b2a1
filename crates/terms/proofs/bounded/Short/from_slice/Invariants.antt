use Rattle.std.proofs.Common.{◌≡◌, ◌≤◌, length, take}
use Rattle.terms.specs.Shorts.{held}
use Rattle.terms.proofs.bounded.Short.from_slice.Given as goal

-- the items so far are held
abbrev pub invariant-loop-item : goal.invariant-loop-item
invariant-loop-item g l = (l.item-index ≤ length l.items) × (held l.list ≡ take l.item-index l.items)
