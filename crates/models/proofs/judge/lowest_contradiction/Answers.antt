use Rattle.std.proofs.Common.{◌≡◌, rules, sym, ◌∙◌, tests}
use Rattle.std.specs.Option.{option_map}
use Rattle.std.proofs.lemmas.Iterator.{YieldsList-from_range}
use Rattle.std.proofs.lemmas.Iterator.Search.{find_from_yields_List}
use Rattle.std.proofs.lemmas.Iterator.Adapters.{option_map_id}
use Rattle.models.specs.Judging.{contradiction, contradicts_test}
use Rattle.models.proofs.Words.{contradiction_means}
use Rattle.models.proofs.judge.lowest_contradiction.Goals as goal

pub returns-clause-means : goal.returns-clause-means
returns-clause-means g c =
    let m = g.S.Sample.meaning c.args.sample.now in
    let K = c.args.left.now in
    let M = c.args.right.now in
    let found : option_map (λ x. x) c.find.result ≡ contradiction m K M =
    find_from_yields_List (contradicts_test m K M) _ _ c.find.result c.find.ensures.ran (YieldsList-from_range 0 m.size m.size (search rules) (search rules)) (λ x b q k. search (rules, tests)) in
    contradiction_means m K M _ (sym (option_map_id c.find.result) ∙ found)
