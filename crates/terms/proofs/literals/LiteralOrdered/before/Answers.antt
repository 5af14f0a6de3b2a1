use Rattle.std.proofs.Common.{◌≡◌, ltb, sym, ◌∙◌}
use Rattle.terms.specs.Literals.{position}
use Rattle.terms.specs.Positions.{by_position}
use Rattle.terms.proofs.literals.LiteralOrdered.before.Goals as goal

pub returns : goal.returns
returns c =
    let x = c.args.self.now in
    let y = c.args.other.now in
    let a = c.position.ensures.value in
    let b = c.position-2.ensures.value in
    let r : ltb c.position.result c.position-2.result ≡ ltb (position x) (position y) = cc in
    record { value = r ∙ sym (by_position x y c.position.ensures.in_range c.position-2.ensures.in_range); by_position = r }
