use Rattle.std.proofs.Common.{ap, ◌∙◌}
use Rattle.calculus.specs.Checks.{reaches_test}
use Rattle.calculus.specs.Register.{Register}
use Rattle.book.proofs.state.Book.reaches.Goals as goal

pub returns : goal.returns
returns c =
    c.reaches.ensures.value ∙ c.self.invariant c.args.e.code c.args.s.code (c.args.e.ok, c.args.s.ok) ∙ ap (λ (R : Register). reaches_test R c.args.e.code c.args.s.code) c.self.view_is
