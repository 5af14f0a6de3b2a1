-- What a role reaches by a chain of role inclusions. Assumes nothing.
use Rattle.std.specs.Prelude.{ℕ, Bool, ◌&&◌, ◌||◌, List, [], ◌∷◌, ◌==◌}
use Rattle.terms.specs.Lists.{◌∈◌}
use Rattle.terms.specs.Roles.{mirror}

-- an inclusion of the role code E under the role code S, as (E, S)
abbrev pub Inclusion : Type 0
Inclusion = ℕ × ℕ

-- One inclusion leads from E to F: it is listed, or the inclusion of the mirror of E under the mirror of F is.
pub data Leads (l : List Inclusion) (E F : ℕ) : Type 0 where
  listed : (E, F) ∈ l → Leads l E F
  mirrored : (mirror E, mirror F) ∈ l → Leads l E F

-- E reaches S: a chain of zero or more inclusions leads from E to S.
pub data Reaches (l : List Inclusion) : ℕ → ℕ → Type 0 where
  here : {E : ℕ} → Reaches l E E
  chain : {E F S : ℕ} → Leads l E F → Reaches l F S → Reaches l E S

-- ---- the same as a test; that it decides `Reaches` is proved, and stands on `Reach::reaches`

-- each inclusion, and the inclusion of its mirrors
abbrev pub both_ways_round : List Inclusion → List Inclusion
both_ways_round [] = []
both_ways_round (d ∷ l) = d ∷ (mirror d.0, mirror d.1) ∷ both_ways_round l

-- whether a way leads from E to S that takes each step at most once
abbrev pub way : List Inclusion → ℕ → ℕ → Bool
way [] E S = E == S
way (d ∷ ds) E S = way ds E S || (way ds E d.0 && way ds d.1 S)

abbrev pub reach_test : List Inclusion → ℕ → ℕ → Bool
reach_test l E S = way (both_ways_round l) E S
