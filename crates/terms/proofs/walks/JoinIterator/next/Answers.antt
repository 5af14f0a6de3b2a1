use Rattle.std.proofs.Common.{◌≡◌, List, [], ◌∷◌, length, refl, sym, ap, arith}
use Rattle.terms.specs.Lists.{union}
use Rattle.terms.proofs.Sets.{union_nil}
use Rattle.terms.proofs.walks.JoinIterator.next.Goals as goal

none : {X : Type 0} (xs : List X) → length xs ≡ 0 → xs ≡ []
none [] e = refl
none (x ∷ xs) e = absurd (omega arith)

pub returns-in_default-split_first-clause-steps : goal.returns-in_default-split_first-clause-steps
returns-in_default-split_first-clause-steps g c =
    let lt = g.T.Ordered.precedes in
    let ys = c.args.self.now.ys.now in
    let e = none ys c.in_default-split_first.ensures.cases in
    rw (c.in-Some.ensures.cases.0, e) (ap (λ l. c.in-Some.x.now ∷ l) (sym (union_nil lt c.in-Some.xs.now)))

pub returns-in_default-split_first-clause-goes : goal.returns-in_default-split_first-clause-goes
returns-in_default-split_first-clause-goes g c =
    let lt = g.T.Ordered.precedes in
    let ys = c.args.self.now.ys.now in
    let e = none ys c.in_default-split_first.ensures.cases in
    let s : union lt c.args.self.now.xs.now ys ≡ c.in-Some.x.now ∷ union lt c.in-Some.xs.now ys =
    rw (c.in-Some.ensures.cases.0, e) (ap (λ l. c.in-Some.x.now ∷ l) (sym (union_nil lt c.in-Some.xs.now))) in
    let k = ap length s in
    record { on = λ _. (tt, tt, omega (arith, k)); keeps = tt; rests = λ _. tt }
