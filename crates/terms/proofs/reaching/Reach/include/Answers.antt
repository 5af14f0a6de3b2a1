use Rattle.terms.proofs.Rows.{included_by}
use Rattle.terms.proofs.reaching.Reach.include.Goals as goal

pub returns : goal.returns
returns c =
    included_by _ _ _ _ _ _ _ c.args.self.now.whole c.args.e.ok c.args.s.ok c.mirror.ensures.value c.mirror-2.ensures.value c.step.ensures c.step-2.ensures
