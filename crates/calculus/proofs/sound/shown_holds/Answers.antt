use Rattle.calculus.proofs.Lawful.{shows}
use Rattle.calculus.proofs.sound.shown_holds.Goals as goal

pub returns : goal.returns
returns g c = λ p S had s q R K M n m gives is shown models. shows p S had s q R K M n m gives is shown g.I.Interpreted.meaning models
