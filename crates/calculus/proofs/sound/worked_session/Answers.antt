use Rattle.std.proofs.Common.{refl}
use Rattle.calculus.proofs.sound.worked_session.Goals as goal

pub returns : goal.returns
returns c = refl
