use Rattle.std.proofs.Common.{◌≡◌, drop}
use Rattle.models.specs.Listed.{contents, fill_refusal, filled}
use Rattle.models.proofs.listed.List.add_all.Given as goal

-- what comes of the entries that are left is what comes of all
abbrev pub invariant-loop-item : goal.invariant-loop-item
invariant-loop-item l =
    (fill_refusal (contents l.self) (drop l.item-index l.entries) ≡ fill_refusal (contents l.initial.self) l.entries)
    × (filled (contents l.self) (drop l.item-index l.entries) ≡ filled (contents l.initial.self) l.entries)
    × (l.self.entries.ghost_name ≡ l.initial.self.entries.ghost_name)
