use Rattle.std.proofs.Common.{◌≡◌, ◌/◌, ◌^◌, ◌≤◌, arith}
use Rattle.std.proofs.Math.Nat.{div-eq_of_lt}
use Rattle.std.proofs.Math.Pow.{pow_mono}
use Rattle.std.proofs.lemmas.Bool.{le-ltb}
use Rattle.terms.proofs.Bits.{and_weight}
use Rattle.terms.proofs.weights.has_weight.Goals as goal

pub returns-then-x-lt64 : goal.returns-then-x-lt64
returns-then-x-lt64 c = and_weight c.args.row c.args.x

pub returns-else-x-lt64 : goal.returns-else-x-lt64
returns-else-x-lt64 c =
    let up : 2 ^ 64 ≤ 2 ^ c.args.x = pow_mono c.if-x-lt64.false in
    let none : c.args.row / 2 ^ c.args.x ≡ 0 = div-eq_of_lt (omega (arith, up)) in
    rw none (le-ltb _ _ c.if-x-lt64.false)
