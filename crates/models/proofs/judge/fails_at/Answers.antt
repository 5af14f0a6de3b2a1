use Rattle.std.proofs.Common.{not, ap, sym, ◌∙◌, rules, tests}
use Rattle.models.specs.Charts.{sentence_of}
use Rattle.models.specs.Judging.{fails_test, pair_test}
use Rattle.models.proofs.judge.fails_at.Goals as goal

pub returns-in-Under : goal.returns-in-Under
returns-in-Under g c =
    let m = g.S.Sample.meaning c.args.sample.now in
    c.some_pair.ensures (λ y. not (pair_test m c.in-Under.s.code c.args.x y)) (λ y r p. search (rules, tests)) ∙ sym (ap (λ a. fails_test m (sentence_of a) c.args.x) c.in-Under.is)
