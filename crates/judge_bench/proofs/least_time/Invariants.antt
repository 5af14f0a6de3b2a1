use Rattle.std.proofs.Common.{◌≡◌, ◌-◌, ◌^◌, ◌<◌, map, Ok}
use Rattle.models.specs.Charts.{sentence_of}
use Rattle.models.specs.Judging.{verdict}
use Rattle.models.specs.Tables.{table_meaning}
use Rattle.judge_bench.proofs.least_time.Given as goal

-- before the first run the least time is the greatest number, and a run that is past has passed
abbrev pub invariant-loop : goal.invariant-loop
invariant-loop g l =
    (l.counter ≡ 0 → l.least ≡ 2 ^ 128 - 1)
    × (0 < l.counter → verdict (table_meaning l.table.bytes.now l.table.size) (map sentence_of l.axioms) ≡ Ok tt)
