use Rattle.std.proofs.Common.{map, length, get_or, ap, ◌∙◌, arith}
use Rattle.std.proofs.lemmas.List.{length-map}
use Rattle.terms.proofs.Rows.{mapped_more, mapped_all}
use Rattle.terms.specs.Tables.{extend}
use Rattle.terms.proofs.reaching.Reach.step.Goals as goal

pub invariant_of-self : goal.invariant_of-self
invariant_of-self c =
    let n = c.args.self.now.whole in
    record { whole = ap length (mapped_all _ c.args.self.now.rows c.loop-row.row-items c.loop-row.row-index c.loop-row.invariant (omega arith)) ∙ length-map _ _ ∙ n }

pub loop-row-preserved : goal.loop-row-preserved
loop-row-preserved c =
    mapped_more _ c.args.self.now.rows c.loop-row.row-items c.loop-row.row-index c.loop-row.invariant c.extended.result (omega arith) c.extended.ensures

pub returns : goal.returns
returns c =
    mapped_all _ c.args.self.now.rows c.loop-row.row-items c.loop-row.row-index c.loop-row.invariant (omega arith)
    ∙ ap (λ k. map (extend c.args.e.code (get_or c.args.self.now.rows k 0)) c.args.self.now.rows) c.code.ensures.value
