use Rattle.std.proofs.Common.{◌≡◌, rules, ◌∙◌}
use borrow.Author.Tests.{tests}
use Rattle.std.specs.List.{position_from, zip}
use Rattle.std.specs.Slice.Iter.{iter_rest}
use Rattle.std.proofs.lemmas.Iterator.{YieldsList-from_slice, YieldsList-from_zip}
use Rattle.std.proofs.lemmas.Iterator.Adapters.{position_from-zero}
use Rattle.std.proofs.lemmas.Iterator.Search.{position_from_yields_List}
use Rattle.book.proofs.Apart.{apart_found, differ}
use Rattle.book.proofs.rows.first_difference.Goals as goal

pub returns : goal.returns
returns g c =
    let lt = g.T.Ordered.precedes in
    let xs = c.args.xs.now in
    let ys = c.args.ys.now in
    let a : iter_rest c.zip.result.a ≡ xs = search rules in
    let b : iter_rest c.zip.result.b ≡ ys = search rules in
    let pairs = YieldsList-from_zip (YieldsList-from_slice {s = c.zip.result.a} xs a) (YieldsList-from_slice {s = c.zip.result.b} ys b) in
    let found : c.position-apart.result ≡ position_from (differ lt) 0 (zip xs ys) =
    position_from_yields_List {s = c.zip.result} (differ lt) c.position-apart.new.self _ c.position-apart.result c.position-apart.ensures.ran pairs (λ y b q k. search (rules, tests)) ∙ position_from-zero (differ lt) (zip xs ys) in
    rw (c.or.ensures, c.then_some.ensures, c.min-end.ensures) (apart_found lt xs ys c.position-apart.result found)
