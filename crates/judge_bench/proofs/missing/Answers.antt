use Rattle.std.proofs.Common.{ap}
use Rattle.terms.specs.Codes.{role_same}
use Rattle.terms.specs.declared.literals.Literal.TheVariants.{Exists}
use Rattle.terms.specs.Roles.{role_of}
use Rattle.judge_bench.proofs.missing.Goals as goal

pub returns : goal.returns
returns c = λ below. let E = c.args.code in ap (λ role. Exists role 200) (role_same c.in_ok-new.field-0 (role_of E below) c.in_ok-new.ensures)
