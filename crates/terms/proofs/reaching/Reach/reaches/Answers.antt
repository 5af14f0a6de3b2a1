use Rattle.std.proofs.Common.{◌≡◌, get_or, ◌∙◌}
use Rattle.std.proofs.lemmas.Bool.Decides.{Decides-at}
use Rattle.terms.specs.Tables.{weight}
use Rattle.terms.proofs.Chains.{reach_decided}
use Rattle.terms.proofs.reaching.Reach.reaches.Goals as goal

pub returns : goal.returns
returns c =
    let e = c.args.e in
    let s = c.args.s in
    let by_codes = c.code.ensures.value in
    let by_codes-2 = c.code-2.ensures.value in
    let is : c.has_weight.result ≡ weight (get_or c.args.self.now.rows e.code 0) s.code = cc in
    record { value = is; means = λ l h. Decides-at _ _ (is ∙ h e.code s.code (e.ok, s.ok)) (reach_decided l e.code s.code) }
