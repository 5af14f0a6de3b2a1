use Rattle.std.proofs.Common.{ap, ◌∙◌, arith}
use Rattle.std.proofs.lemmas.Nat.{xor_lt}
use Rattle.terms.specs.Roles.{backwards, mirror, name_of}
use Rattle.terms.specs.Codes.{mirror_name, mirror_twice, mirror_way, xor_mirror}
use Rattle.terms.proofs.roles.Role.mirror.Goals as goal

pub invariant_of-result : goal.invariant_of-result
invariant_of-result c = record { ok = xor_lt 6 c.args.self.code _ c.args.self.ok (omega arith) }

pub returns : goal.returns
returns c =
    let E = c.args.self.code in
    record {
      value = xor_mirror E;
      same_name = ap name_of (xor_mirror E) ∙ mirror_name E;
      other_way = ap backwards (xor_mirror E) ∙ mirror_way E;
      twice = ap mirror (xor_mirror E) ∙ mirror_twice E;
    }
