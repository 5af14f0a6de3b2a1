use Rattle.std.proofs.Common.{◌≡◌, ℕ, ◌<◌, ◌≤◌, get_or}
use Rattle.judge_bench.specs.Benching.{filled}
use Rattle.judge_bench.proofs.fill_table.Given as goal

-- the bytes before i are filled, and the others are as they were
abbrev pub invariant-loop-i : goal.invariant-loop-i
invariant-loop-i l =
    ((k : ℕ) → k < l.i → get_or l.bytes k 0 ≡ filled k (get_or l.initial.bytes k 0))
    × ((k : ℕ) → l.i ≤ k → get_or l.bytes k 0 ≡ get_or l.initial.bytes k 0)
