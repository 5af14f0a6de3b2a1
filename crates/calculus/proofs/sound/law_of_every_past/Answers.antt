use Rattle.calculus.proofs.Lawful.{every_past}
use Rattle.calculus.proofs.sound.law_of_every_past.Goals as goal

pub returns : goal.returns
returns c = every_past
