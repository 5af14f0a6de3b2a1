use Rattle.std.proofs.Common.{List, is_ok, sym, ap, ◌∙◌}
use Rattle.terms.specs.Reaching.{Inclusion, reach_test}
use Rattle.terms.specs.Shorts.{held}
use Rattle.book.proofs.Included.{no_inclusion_added}
use Rattle.book.proofs.state.Book.enter_axiom.Goals as goal

pub invariant_of-self : goal.invariant_of-self
invariant_of-self c =
    let same = no_inclusion_added c.args.implied (is_ok c.enter.result) (held c.self.inside.axioms) (held c.enter.new.list) c.enter.ensures.change in
    λ E S b. c.self.invariant E S b ∙ ap (λ (l : List Inclusion). reach_test l E S) (sym same)
