use Rattle.std.proofs.Common.{◌≤◌, length, arith, refl, rules}
use Rattle.std.proofs.lemmas.Iterator.Consumers.{YieldsList-from_first}
use Rattle.terms.specs.Lists.{union}
use Rattle.terms.proofs.Sets.{rising_union, union_length, union_means}
use Rattle.terms.proofs.lists.join.Goals as goal

pub write-requires : goal.write-requires
write-requires g c =
    let lt = g.T.Ordered.precedes in
    let few : length (union lt c.args.xs.now c.args.ys.now) ≤ length c.args.out.now = omega (arith, union_length lt c.args.xs.now c.args.ys.now, c.if-ys-out.true, c.if-xs-out.true) in
    λ k h. (search rules, (search rules, ((YieldsList-from_first _ _ _ refl, tt, tt), few)))

pub count-requires : goal.count-requires
count-requires g c = λ k h. (search rules, (search rules, (YieldsList-from_first _ _ _ refl, tt, tt)))

pub write_out-requires : goal.write_out-requires
write_out-requires g c = λ k h. (search rules, (search rules, ((YieldsList-from_first _ _ _ refl, tt, tt), c.in-Some.ensures)))

pub returns-in_default-clause-means : goal.returns-in_default-clause-means
returns-in_default-clause-means g c = union_means g.T.Ordered.precedes g.met.T.Ordered.order _ _

pub returns-in_default-clause-rises : goal.returns-in_default-clause-rises
returns-in_default-clause-rises g c = rising_union g.T.Ordered.precedes g.met.T.Ordered.order c.args.xs.now c.args.ys.now

pub returns-then-xs-out-clause-means : goal.returns-then-xs-out-clause-means
returns-then-xs-out-clause-means g c = union_means g.T.Ordered.precedes g.met.T.Ordered.order _ _

pub returns-then-xs-out-clause-rises : goal.returns-then-xs-out-clause-rises
returns-then-xs-out-clause-rises g c = rising_union g.T.Ordered.precedes g.met.T.Ordered.order c.args.xs.now c.args.ys.now

pub returns-clause-means : goal.returns-clause-means
returns-clause-means g c = union_means g.T.Ordered.precedes g.met.T.Ordered.order _ _

pub returns-clause-rises : goal.returns-clause-rises
returns-clause-rises g c = rising_union g.T.Ordered.precedes g.met.T.Ordered.order c.args.xs.now c.args.ys.now
