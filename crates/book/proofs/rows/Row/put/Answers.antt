use Rattle.std.proofs.Common.{arith}
use Rattle.terms.specs.Literals.{literal_precedes}
use Rattle.book.proofs.Caps.{keeps_most, keeps_whole}
use Rattle.book.proofs.rows.Row.put.Goals as goal

pub returns-else-len-self : goal.returns-else-len-self
returns-else-len-self c =
    let r = c.args.self.now in
    keeps_most literal_precedes r.memory.now r.len c.args.x c.push_in.new.row (omega arith) c.push_in.auto.row c.in-Some.last c.in-Some.ensures c.if-len-self.false

pub returns-in_default : goal.returns-in_default
returns-in_default c =
    let r = c.args.self.now in
    keeps_whole literal_precedes r.memory.now r.len c.args.x c.push_in.new.row (omega arith) c.push_in.auto.row c.in_default.ensures
