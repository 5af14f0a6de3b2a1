use Rattle.std.proofs.Common.{◌≡◌, rules, ◌∙◌}
use borrow.Author.Tests.{tests}
use Rattle.std.proofs.lemmas.Iterator.{YieldsList-from_slice}
use Rattle.std.proofs.lemmas.Iterator.Search.{all_from_yields_List}
use Rattle.terms.specs.Lists.{contained, member}
use Rattle.terms.proofs.Sets.{contained_means}
use Rattle.terms.proofs.Tests.{contained_all}
use Rattle.terms.proofs.lists.is_within.Goals as goal

pub returns : goal.returns
returns g c =
    let lt = g.T.Ordered.precedes in
    let xs = c.args.xs.now in
    let ys = c.args.ys.now in
    let v : c.all.result ≡ contained lt xs ys =
    all_from_yields_List (λ x. member lt x ys) _ _ c.all.result c.all.ensures.ran (YieldsList-from_slice xs cc) (λ y b q k. search (rules, tests)) ∙ contained_all lt xs ys in
    record { value = v; means = contained_means lt g.met.T.Ordered.order _ xs ys v }
