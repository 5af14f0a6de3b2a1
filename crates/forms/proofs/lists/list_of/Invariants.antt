use Rattle.std.proofs.Common.{◌≡◌, ◌≤◌, map, length, take}
use Rattle.terms.specs.Shorts.{held}
use Rattle.forms.proofs.Turns.{Decided}
use Rattle.forms.proofs.lists.list_of.Given as goal

-- the items so far are held, and what is left decides
abbrev pub invariant-loop-number : goal.invariant-loop-number
invariant-loop-number g l =
    (l.number-index ≤ length l.stated)
    × (map g.T.Numbered.numbers (held l.list) ≡ take l.number-index l.stated)
    × Decided g.T.Numbered.refused g.T.Numbered.follows g.row.N l.stated l.number-index
