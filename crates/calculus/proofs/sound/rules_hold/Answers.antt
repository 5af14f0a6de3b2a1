use Rattle.calculus.proofs.Rules.{rules_true}
use Rattle.calculus.proofs.sound.rules_hold.Goals as goal

pub returns : goal.returns
returns g c = rules_true g.I.Interpreted.meaning
