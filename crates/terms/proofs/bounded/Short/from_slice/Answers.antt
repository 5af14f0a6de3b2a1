use Rattle.std.proofs.Common.{◌≡◌, ◌<◌, true, length, is_ok, Result, Some, Ok, Err, refl, sym, ◌∙◌, arith}
use Rattle.std.proofs.lemmas.List.{take_all, take_more}
use Rattle.std.specs.Result.{result_ok}
use Rattle.terms.proofs.bounded.Short.from_slice.Goals as goal

passed : {X E : Type 0} (r : Result X E) (x : X) → result_ok r ≡ Some x → is_ok r ≡ true
passed (Ok y) x h = refl
passed (Err e) x h = absurd (cc)

pub loop-item-preserved : goal.loop-item-preserved
loop-item-preserved g c =
    let xs = c.args.items.now in
    let i = c.loop-item.item-index in
    let within : i < length xs = omega arith in
    let more = take_more xs i c.item-item.result within in
    let ok = passed c.push.result c.in_ok-ok.field-0 (sym c.ok.ensures.value ∙ c.in_ok-ok.was) in
    let change = rw ok at c.push.ensures.change in
    (omega arith, cc)

pub returns : goal.returns
returns g c = c.loop-item.invariant.1 ∙ take_all _ _ c.loop-item-test.false
