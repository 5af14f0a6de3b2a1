use Rattle.std.proofs.Common.{◌≡◌, map, drop}
use Rattle.models.specs.Listed.{list_meaning}
use Rattle.models.specs.Listed as listed
use Rattle.replay.specs.Offered.{after_all}
use Rattle.replay.proofs.Session.offer_all.Given as goal

-- what is left to offer leads to what all of it leads to
abbrev pub invariant-loop-line : goal.invariant-loop-line
invariant-loop-line g l =
    let m = list_meaning (listed.contents l.initial.self.sample) in
    (l.self.sample ≡ l.initial.self.sample)
    × (after_all m l.self.book (map (λ call. call.1) (drop l.line-index l.calls)) ≡ after_all m l.initial.self.book (map (λ call. call.1) l.calls))
