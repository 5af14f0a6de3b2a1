use Rattle.std.proofs.Common.{◌≤◌, length, arith, refl, rules}
use Rattle.std.proofs.lemmas.Iterator.Consumers.{YieldsList-from_first}
use Rattle.terms.specs.Lists.{removal}
use Rattle.terms.proofs.Sets.{removal_length, rising_removal, removal_means}
use Rattle.terms.proofs.lists.without.Goals as goal

pub write-requires : goal.write-requires
write-requires g c =
    let lt = g.T.Ordered.precedes in
    let few : length (removal lt c.args.x.now c.args.xs.now) ≤ length c.args.out.now = omega (arith, removal_length lt c.args.x.now c.args.xs.now, c.if-xs-out.true) in
    λ k h. (search rules, (search rules, ((YieldsList-from_first _ _ _ refl, tt, tt), few)))

pub write_out-requires : goal.write_out-requires
write_out-requires g c = λ k h. (search rules, (search rules, ((YieldsList-from_first _ _ _ refl, tt, tt), c.without_len.ensures)))

pub returns-then-xs-out-clause-means : goal.returns-then-xs-out-clause-means
returns-then-xs-out-clause-means g c = removal_means g.T.Ordered.precedes g.met.T.Ordered.order _ _

pub returns-then-xs-out-clause-rises : goal.returns-then-xs-out-clause-rises
returns-then-xs-out-clause-rises g c = rising_removal g.T.Ordered.precedes g.met.T.Ordered.order c.args.x.now c.args.xs.now

pub returns-clause-means : goal.returns-clause-means
returns-clause-means g c = removal_means g.T.Ordered.precedes g.met.T.Ordered.order _ _

pub returns-clause-rises : goal.returns-clause-rises
returns-clause-rises g c = rising_removal g.T.Ordered.precedes g.met.T.Ordered.order c.args.x.now c.args.xs.now
