use Rattle.std.proofs.Common.{List, map, sym, ap, ◌∙◌}
use Rattle.terms.specs.Reaching.{Inclusion, reach_test}
use Rattle.terms.specs.Shorts.{held}
use Rattle.models.specs.Charts.{sentence_of}
use Rattle.calculus.specs.Register.{inclusions}
use Rattle.book.proofs.Included.{inclusion_added}
use Rattle.book.proofs.state.Book.enter_inclusion.Goals as goal

pub invariant_of-self-2 : goal.invariant_of-self-2
invariant_of-self-2 c =
    let old = held c.self.inside.axioms in
    let more = inclusion_added c.args.e c.args.s old (held c.enter.new.list) c.in_ok-entered.ensures.change in
    λ E S b. c.include.ensures (inclusions (map sentence_of old)) c.self.invariant E S b ∙ ap (λ (l : List Inclusion). reach_test l E S) (sym more)
