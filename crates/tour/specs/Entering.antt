-- Inclusions entered by role code. Assumes nothing.
use Rattle.std.specs.Prelude.{ℕ, Bool, cond, ◌&&◌, List, [], ◌∷◌, ◌++◌, nat_lt}
use Rattle.terms.specs.Limits.{role_codes}
use Rattle.terms.specs.Reaching.{Inclusion}

-- both numbers are role codes
abbrev pub are_codes : ℕ → ℕ → Bool
are_codes e s = nat_lt e role_codes && nat_lt s role_codes

-- the inclusions once e is entered under s: as they were where one of the two is no role code
abbrev pub included : List Inclusion → ℕ → ℕ → List Inclusion
included l e s = cond (are_codes e s) (l ++ (e, s) ∷ []) l
