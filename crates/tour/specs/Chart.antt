-- The chart of the tour. Assumes nothing.
use Rattle.std.specs.Prelude.{List, [], ◌∷◌}
use Rattle.std.proofs.Common.{lit<}
use Rattle.terms.specs.declared.literals.Literal.TheVariants.{Exists, Forall}
use Rattle.terms.specs.Roles.{role_of}
use Rattle.models.specs.Semantics.{Sentence, implies}

-- what is in 1 has a pair of 0 into 2; what is in 2 has its pairs of 1 into 3 alone
abbrev pub tour_chart : List Sentence
tour_chart = implies (1 ∷ []) (Exists (role_of 0 (lit< tt)) 2 ∷ []) ∷ implies (2 ∷ []) (Forall (role_of 1 (lit< tt)) 3 ∷ []) ∷ []
