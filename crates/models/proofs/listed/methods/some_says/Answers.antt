use Rattle.std.proofs.Common.{◌≡◌, rules, tests}
use Rattle.std.proofs.lemmas.Iterator.{YieldsList-from_slice}
use Rattle.std.proofs.lemmas.Iterator.Search.{any_from_yields_List}
use Rattle.models.specs.Facts.{fact_same}
use Rattle.models.specs.Listed.{says}
use Rattle.models.proofs.Sayings.{said}
use Rattle.models.proofs.listed.methods.some_says.Goals as goal

pub returns-clause-means : goal.returns-clause-means
returns-clause-means c =
    let es = c.args.entries.now in
    let value : c.any.result ≡ says es c.args.fact =
    any_from_yields_List (λ e. fact_same c.args.fact e.fact) _ _ c.any.result c.any.ensures.ran (YieldsList-from_slice es cc) (λ x b q k. search (rules, tests)) in
    said _ es c.args.fact value
