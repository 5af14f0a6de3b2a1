-- What entries say, and their ranges. Assumes nothing.
use Rattle.std.specs.Prelude.{Bool, false, ◌&&◌, ◌==◌, nat_lt}
use Rattle.models.specs.declared.facts.Fact.{Fact}
use Rattle.models.specs.declared.facts.Fact.TheVariants.{In, Link}

abbrev pub fact_same : Fact → Fact → Bool
fact_same (In A x) (In B y) = A == B && x == y
fact_same (In A x) (Link r y z) = false
fact_same (Link q u v) (In B y) = false
fact_same (Link q u v) (Link r x y) = q == r && u == x && v == y

-- elements are 0 to 63, and role names 0 to 31
abbrev pub fact_in_range : Fact → Bool
fact_in_range (In A x) = nat_lt x 64
fact_in_range (Link r x y) = nat_lt r 32 && nat_lt x 64 && nat_lt y 64
