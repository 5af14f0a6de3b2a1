use Rattle.calculus.proofs.HyperTie.{core_exactly, hyper_exactly}
use Rattle.calculus.proofs.PredTie.{pred_exactly}
use Rattle.calculus.proofs.sound.steps_are_exact.Goals as goal

pub returns : goal.returns
returns c = record {
  core_exact = core_exactly;
  hyper_exact = λ R scratch V X ns claim ok. hyper_exactly R scratch V X ns claim ok.0 ok.1;
  pred_exact = λ R scratch V P E A sides Q claim ok. pred_exactly R scratch V P E A sides Q claim ok.0 ok.1;
}
