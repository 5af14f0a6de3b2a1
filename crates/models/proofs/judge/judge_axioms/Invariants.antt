use Rattle.std.proofs.Common.{◌≡◌, map, drop}
use Rattle.models.specs.Charts.{sentence_of}
use Rattle.models.specs.Judging.{judged_from}
use Rattle.models.proofs.judge.judge_axioms.Given as goal

-- what is left decides
abbrev pub invariant-loop-i : goal.invariant-loop-i
invariant-loop-i g l =
    let m = g.S.Sample.meaning l.sample in
    judged_from m l.i (map sentence_of (drop l.i l.axioms)) ≡ judged_from m 0 (map sentence_of l.axioms)
