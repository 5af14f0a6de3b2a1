use Rattle.std.proofs.Common.{◌&&◌, rules, tests}
use Rattle.std.proofs.lemmas.Iterator.{YieldsList-from_range}
use Rattle.std.proofs.lemmas.Iterator.Search.{any_from_yields_List}
use Rattle.models.specs.Judging.{pair_test}
use Rattle.models.proofs.judge.some_pair.Goals as goal

pub returns : goal.returns
returns g c = λ h k.
    let m = g.S.Sample.meaning c.args.sample.now in
    any_from_yields_List (λ y. pair_test m c.args.e.code c.args.x y && h y) _ _ c.any.result c.any.ensures.ran (YieldsList-from_range 0 m.size m.size (search rules) (search rules)) (λ x b q d. search (rules, tests))
