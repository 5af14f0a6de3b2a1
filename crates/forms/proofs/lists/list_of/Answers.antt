use Rattle.std.proofs.Common.{◌≡◌, ◌<◌, ◌≤◌, ◌∷◌, [], ◌++◌, true, map, length, is_ok, ap, sym, ◌∙◌, arith}
use Rattle.std.proofs.lemmas.Bool.{lt-ltb}
use Rattle.std.proofs.lemmas.List.{map_push, take_all, take_more}
use Rattle.std.proofs.lemmas.Result.{err_from_is_err_and}
use Rattle.terms.specs.Shorts.{held}
use Rattle.forms.proofs.Turns.{as_many, ending, ending_numbers, ends_at, falls_at, full_at, goes_on_at, outside_at}
use Rattle.forms.proofs.lists.list_of.Goals as goal

pub returns-then-len : goal.returns-then-len
returns-then-len g c =
    let l = c.loop-number in
    let count = as_many g.T.Numbered.numbers (held l.list) c.args.stated.now l.number-index l.invariant.0 l.invariant.1 in
    let full : g.row.N ≤ l.number-index = omega arith in
    full_at g.T.Numbered.refused g.T.Numbered.follows g.row.N c.args.stated.now l.number-index l.invariant.2 c.number-item.result c.loop-number-test.true c.number-item.is full

pub returns-in_err-item : goal.returns-in_err-item
returns-in_err-item g c =
    let l = c.loop-number in
    let count = as_many g.T.Numbered.numbers (held l.list) c.args.stated.now l.number-index l.invariant.0 l.invariant.1 in
    let room : l.number-index < g.row.N = omega arith in
    let p = err_from_is_err_and c.from_residual.result c.from_residual.ensures.1 in
    rw (p.1, p.2) (outside_at g.T.Numbered.refused g.T.Numbered.follows g.row.N c.args.stated.now l.number-index l.invariant.2 c.number-item.result c.loop-number-test.true c.number-item.is room
    c.in_err-item.field-0.0 c.in_err-item.ensures)

pub returns-then-not-may_stand : goal.returns-then-not-may_stand
returns-then-not-may_stand g c =
    let l = c.loop-number in
    let count = as_many g.T.Numbered.numbers (held l.list) c.args.stated.now l.number-index l.invariant.0 l.invariant.1 in
    let room : l.number-index < g.row.N = omega arith in
    let item = c.in_ok-item.ensures in
    let at : c.copied.result ≡ ending (held l.list) = cc in
    let last = ending_numbers g.T.Numbered.numbers c.copied.result (held l.list) _ at l.invariant.1 in
    let low = rw (last, item.0) at c.may_stand.ensures in
    falls_at g.T.Numbered.refused g.T.Numbered.follows g.row.N c.args.stated.now l.number-index l.invariant.2 c.number-item.result c.loop-number-test.true c.number-item.is room
    item.1 (sym low ∙ c.if-not-may_stand.true)

pub loop-number-preserved : goal.loop-number-preserved
loop-number-preserved g c =
    let l = c.loop-number in
    let within : l.number-index < length c.args.stated.now = c.loop-number-test.true in
    let count = as_many g.T.Numbered.numbers (held l.list) c.args.stated.now l.number-index l.invariant.0 l.invariant.1 in
    let room : l.number-index < g.row.N = omega arith in
    let item = c.in_ok-item.ensures in
    let at : c.copied.result ≡ ending (held l.list) = cc in
    let last = ending_numbers g.T.Numbered.numbers c.copied.result (held l.list) _ at l.invariant.1 in
    let high = rw (last, item.0) at c.may_stand.ensures in
    let free : length (held l.list) < g.row.N = omega arith in
    let put : is_ok c.push.result ≡ true = rw (c.push.ensures.answer, lt-ltb (length (held l.list)) g.row.N free) in
    let pushed : held c.push.new.self ≡ held l.list ++ c.in_ok-item.item ∷ [] = rw put at c.push.ensures.change in
    let more = take_more c.args.stated.now l.number-index c.number-item.result within in
    let grown = map_push g.T.Numbered.numbers (held l.list) c.in_ok-item.item in (
      omega arith,
      ap (map g.T.Numbered.numbers) pushed ∙ grown ∙ cc,
      goes_on_at g.T.Numbered.refused g.T.Numbered.follows g.row.N c.args.stated.now l.number-index l.invariant.2 c.number-item.result within c.number-item.is room
          item.1 (sym high ∙ c.if-not-may_stand.false),
    )

pub returns : goal.returns
returns g c =
    let l = c.loop-number in
    let done = c.loop-number-test.false in
    (l.invariant.1 ∙ take_all l.number-index c.args.stated.now done, ends_at g.T.Numbered.refused g.T.Numbered.follows g.row.N c.args.stated.now l.number-index l.invariant.2 done)
