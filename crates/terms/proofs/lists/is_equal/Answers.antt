use Rattle.std.proofs.Common.{◌≡◌, rules, sym, ◌∙◌}
use borrow.Author.Tests.{tests}
use Rattle.std.specs.Slice.Iter.{iter_rest}
use Rattle.std.proofs.lemmas.Bool.{ne_eqb}
use Rattle.std.proofs.lemmas.Iterator.{YieldsList-from_slice, YieldsList-from_zip}
use Rattle.std.proofs.lemmas.Iterator.Search.{all_from_yields_List}
use Rattle.terms.specs.Lists.{alike, equal}
use Rattle.terms.proofs.Sets.{equal_means, equal_sets}
use Rattle.terms.proofs.Tests.{equal_all}
use Rattle.terms.proofs.Turns.{equal_length}
use Rattle.terms.proofs.lists.is_equal.Goals as goal

pub returns-then-xs-ys : goal.returns-then-xs-ys
returns-then-xs-ys g c =
    let lt = g.T.Ordered.precedes in
    let o = g.met.T.Ordered.order in
    let xs = c.args.xs.now in
    let ys = c.args.ys.now in
    let a : iter_rest c.zip.result.a ≡ xs = search rules in
    let b : iter_rest c.zip.result.b ≡ ys = search rules in
    let v : c.all.result ≡ equal lt xs ys =
    all_from_yields_List {s = c.zip.result} (λ p. alike lt p.0 p.1) c.all.new.self _ c.all.result c.all.ensures.ran (YieldsList-from_zip (YieldsList-from_slice {s = c.zip.result.a} xs a) (YieldsList-from_slice {s = c.zip.result.b} ys b)) (λ y b q k. search (rules, tests))
    ∙ equal_all lt xs ys c.if-xs-ys.true in
    let m = equal_means lt o _ xs ys v in
    record { value = v; means = m; sets = equal_sets lt o _ _ _ m }

pub returns-else-xs-ys : goal.returns-else-xs-ys
returns-else-xs-ys g c =
    let lt = g.T.Ordered.precedes in
    let o = g.met.T.Ordered.order in
    let xs = c.args.xs.now in
    let ys = c.args.ys.now in
    let v = ne_eqb _ _ c.if-xs-ys.false ∙ sym (equal_length lt xs ys c.if-xs-ys.false) in
    let m = equal_means lt o _ xs ys v in
    record { value = v; means = m; sets = equal_sets lt o _ _ _ m }
