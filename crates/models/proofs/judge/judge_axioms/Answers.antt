use Rattle.models.specs.Charts.{sentence_of}
use Rattle.models.proofs.Verdicts.{fails_here, holds_here}
use Rattle.models.proofs.judge.judge_axioms.Goals as goal

pub returns-in-Some : goal.returns-in-Some
returns-in-Some g c =
    fails_here (g.S.Sample.meaning c.args.sample.now) sentence_of c.args.axioms.now c.loop-i.i c.loop-i.invariant _ _ c.loop-i-test.true c.index-axioms-i.is c.in-Some.ensures

pub loop-i-preserved : goal.loop-i-preserved
loop-i-preserved g c =
    holds_here (g.S.Sample.meaning c.args.sample.now) sentence_of c.args.axioms.now c.loop-i.i c.loop-i.invariant _ c.loop-i-test.true c.index-axioms-i.is c.in_default.ensures
