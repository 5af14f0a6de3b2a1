use Rattle.std.proofs.Common.{◌≡◌, ℕ, ◌+◌, ◌<◌, List, [], ◌∷◌, ◌++◌, length, drop, get_or, arith, rules}
use Rattle.std.proofs.lemmas.Iterator.Consumers.{YieldsList-at, YieldsList-turn, YieldsList-end}
use Rattle.std.proofs.lemmas.List.{drop_all, length-append}
use Rattle.terms.proofs.Fronts.{part_memory, part_other, part_start, part_write}
use Rattle.terms.proofs.Turns.{drop_read}
use Rattle.terms.proofs.walks.write.Goals as goal

-- where the item that comes stands in the list
next_is : {X : Type 0} (list : List X) (k n : ℕ) (x : X) → n ≡ k → (k < length list) × (x ≡ get_or list k x) → (n < length list) × (drop n list ≡ x ∷ drop (n + 1) list)
next_is list k n x e t = rw e (t.0, drop_read list k x t.0 t.1)

pub loop-item-init : goal.loop-item-init
loop-item-init g c = (search rules, search rules, search rules, part_start _ _)

pub bounds-out-n : goal.bounds-out-n
bounds-out-n g c =
    let e = YieldsList-at c.into_iter-item-iterator.ensures.into_iter_gives c.requires.1.1.0.0 in
    let t = YieldsList-turn e c.loop-item.yielded c.loop-item.item-iterator c.loop-item.yielded_by c.next.result c.next.new.self c.in-Some.item c.in-Some.is c.next.ensures.steps in
    omega (arith, t.0, c.requires.1.1.1, c.loop-item.invariant.2, c.loop-item.auto.out)

pub overflow_add-n : goal.overflow_add-n
overflow_add-n g c =
    let e = YieldsList-at c.into_iter-item-iterator.ensures.into_iter_gives c.requires.1.1.0.0 in
    let t = YieldsList-turn e c.loop-item.yielded c.loop-item.item-iterator c.loop-item.yielded_by c.next.result c.next.new.self c.in-Some.item c.in-Some.is c.next.ensures.steps in
    omega (arith, t.0, c.requires.1.1.1, c.loop-item.invariant.2, c.loop-item.auto.out)

pub loop-item-preserved : goal.loop-item-preserved
loop-item-preserved g c =
    let e = YieldsList-at c.into_iter-item-iterator.ensures.into_iter_gives c.requires.1.1.0.0 in
    let t = YieldsList-turn e c.loop-item.yielded c.loop-item.item-iterator c.loop-item.yielded_by c.next.result c.next.new.self c.in-Some.item c.in-Some.is c.next.ensures.steps in
    let next = next_is g.list (length c.loop-item.yielded) c.loop-item.n c.in-Some.item c.loop-item.invariant.2 t in
    let room : c.loop-item.n < length c.loop-item.out = omega (arith, next.0, c.requires.1.1.1, c.loop-item.auto.out) in
    let more : length (c.loop-item.yielded ++ c.in-Some.item ∷ []) ≡ length c.loop-item.yielded + 1 = length-append c.loop-item.yielded (c.in-Some.item ∷ []) in
    let on = c.in-Some.ensures.goes.on c.loop-item.invariant.1 in
    (on.0, on.1, omega (arith, more, c.loop-item.invariant.2), part_write _ _ _ _ _ _ room (part_other _ _ _ _ _ _ next.1 c.loop-item.invariant.3))

pub returns : goal.returns
returns g c =
    let e = YieldsList-at c.into_iter-item-iterator.ensures.into_iter_gives c.requires.1.1.0.0 in
    let all = (YieldsList-end e c.loop-item.yielded c.loop-item.item-iterator c.loop-item.yielded_by c.next.result c.next.new.self c.in-None.is c.next.ensures.steps).1 in
    record {
      count = omega (arith, all, c.loop-item.invariant.2);
      memory = part_memory _ _ _ _ (part_other _ _ _ _ _ _ (drop_all _ g.list (omega (arith, all, c.loop-item.invariant.2))) c.loop-item.invariant.3);
    }
