use Rattle.std.proofs.Common.{map, ap, ◌∙◌}
use Rattle.models.specs.Charts.{sentence_of}
use Rattle.models.specs.Judging.{judged_from, unless_fault}
use Rattle.models.proofs.Words.{fails_lowest, passes_exactly}
use Rattle.models.proofs.judge.judge.Goals as goal

pub returns : goal.returns
returns g c =
    let m = g.S.Sample.meaning c.args.sample.now in
    let ss = map sentence_of c.args.axioms.now in
    let v = c.judge_axioms.ensures ∙ ap (λ o. unless_fault o (judged_from m 0 ss)) c.in_default.ensures in
    record { value = v; passes = passes_exactly m ss _ v; fails = fails_lowest m ss _ v }
