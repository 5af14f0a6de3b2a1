use Rattle.models.proofs.Pairs.{along_chain, mirror_pairs}
use Rattle.models.proofs.interpreted.pairs_follow_reach.Goals as goal

pub returns : goal.returns
returns g c = record { mirrored = mirror_pairs g.I.Interpreted.meaning; along = along_chain g.I.Interpreted.meaning }
