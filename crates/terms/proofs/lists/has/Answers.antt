use Rattle.std.proofs.Common.{◌≡◌, rules, ◌∙◌}
use borrow.Author.Tests.{tests}
use Rattle.std.proofs.lemmas.Iterator.{YieldsList-from_slice}
use Rattle.std.proofs.lemmas.Iterator.Search.{any_from_yields_List}
use Rattle.terms.specs.Lists.{alike, member}
use Rattle.terms.proofs.Sets.{member_means}
use Rattle.terms.proofs.Tests.{member_any}
use Rattle.terms.proofs.lists.has.Goals as goal

pub returns : goal.returns
returns g c =
    let lt = g.T.Ordered.precedes in
    let x = c.args.x.now in
    let xs = c.args.xs.now in
    let v : c.any.result ≡ member lt x xs =
    any_from_yields_List (alike lt x) _ _ c.any.result c.any.ensures.ran (YieldsList-from_slice xs cc) (λ y b q k. search (rules, tests)) ∙ member_any lt x xs in
    record { value = v; means = member_means lt g.met.T.Ordered.order _ x xs v }
