-- The table of reach: weight 2 ^ S of row E says whether E reaches S.
use Rattle.std.specs.Prelude.{◌≡◌, ℕ, ◌/◌, ◌%◌, ◌^◌, ◌<◌, Bool, cond, List, map, ◌==◌, bit_or, slice_index}
use Rattle.terms.specs.Limits.{role_codes}
use Rattle.terms.specs.Reaching.{Inclusion, reach_test}
use Rattle.terms.specs.declared.reaching.Reach.{Reach}

-- whether the number w has the weight 2 ^ s
abbrev pub weight : ℕ → ℕ → Bool
weight w s = w / 2 ^ s % 2 == 1

-- the row w once it takes in the row t if it reaches e
abbrev pub extend : ℕ → ℕ → ℕ → ℕ
extend e t w = cond (weight w e) (bit_or w t) w

-- the rows once a step from e to s is in: what reaches e reaches all that s does
abbrev pub stepped : List ℕ → ℕ → ℕ → List ℕ
stepped rows e s = map (extend e (slice_index rows s)) rows

-- the table shows exactly what the listed inclusions make each role code reach
abbrev pub Shows : Reach → List Inclusion → Type 0
Shows t l = (E S : ℕ) → (E < role_codes) × (S < role_codes) → weight (slice_index t.rows E) S ≡ reach_test l E S
