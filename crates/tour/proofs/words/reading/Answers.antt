use Rattle.std.proofs.Common.{◌≤◌, length, codes, sym, arith}
use Rattle.std.proofs.lemmas.List.{get_or_past}
use Rattle.tour.specs.Words.{verbs}
use Rattle.tour.proofs.words.reading.Goals as goal

pub returns-in_default : goal.returns-in_default
returns-in_default c = let past : length verbs ≤ c.args.role.code = omega arith in sym (get_or_past verbs c.args.role.code (codes "has another role to") past)
