use Rattle.std.proofs.Common.{not, ap, sym, ◌∙◌, rules, tests}
use Rattle.models.specs.Judging.{literal_test}
use Rattle.models.specs.Meanings.{element_in}
use Rattle.models.proofs.judge.is_in_literal.Goals as goal

pub returns-in-Exists : goal.returns-in-Exists
returns-in-Exists g c =
    let m = g.S.Sample.meaning c.args.sample.now in
    c.some_pair.ensures (element_in m c.in-Exists.a) (λ y r p. search (rules, tests)) ∙ sym (ap (literal_test m c.args.x) c.in-Exists.is)

pub returns-in-Forall : goal.returns-in-Forall
returns-in-Forall g c =
    let m = g.S.Sample.meaning c.args.sample.now in
    ap not (c.some_pair-in-Forall.ensures (λ y. not (element_in m c.in-Forall.a y)) (λ y r p. search (rules, tests))) ∙ sym (ap (literal_test m c.args.x) c.in-Forall.is)
