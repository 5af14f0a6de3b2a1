use Rattle.std.proofs.Common.{◌≡◌, length, take, refl, arith}
use Rattle.std.proofs.lemmas.List.{length-take-le}
use Rattle.std.proofs.lemmas.Bool.{le-ltb}
use Rattle.terms.proofs.bounded.Short.push.Goals as goal

pub returns-then-self : goal.returns-then-self
returns-then-self g c =
    let full : length c.args.self.now.items ≡ g.row.N = omega arith in
    let long = length-take-le c.args.self.now.len c.args.self.now.items (omega arith) in
    record { answer = rw (le-ltb (length (take c.args.self.now.len c.args.self.now.items)) g.row.N (omega arith)) refl; change = refl }
