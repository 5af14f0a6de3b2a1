-- Role codes: 2 × n is the role name n read forwards, 2 × n + 1 the same name read backwards. Assumes nothing.
use Rattle.std.specs.Prelude.{◌≡◌, ℕ, ◌+◌, ◌-◌, ◌/◌, ◌%◌, ◌<◌, ◌≤◌, Bool, cond, Result, MatchResult, ◌==◌}
use Rattle.terms.specs.Limits.{role_codes}
use Rattle.terms.specs.declared.refusals.Refusal.{Refusal}
use Rattle.terms.specs.declared.refusals.Refusal.TheVariants.{OutOfRange}
use Rattle.terms.specs.declared.roles.Role.{Role}

-- the role of a code
abbrev pub role_of : (E : ℕ) → E < role_codes → Role
role_of E below = record { code = E; ok = below }

-- the role name of a code
abbrev pub name_of : ℕ → ℕ
name_of E = E / 2

-- whether a code reads its role name backwards
abbrev pub backwards : ℕ → Bool
backwards E = E % 2 == 1

-- the code of the same role name, read the other way
abbrev pub mirror : ℕ → ℕ
mirror E = cond (backwards E) (E - 1) (E + 1)

-- the answer where a role of the code E is asked for and a number n was to be below `limit`
abbrev pub RoleOrRefusal : Result Role Refusal → ℕ → ℕ → ℕ → Type 0
RoleOrRefusal r E n limit = MatchResult r (λ role. role.code ≡ E) (λ refusal. (limit ≤ n) × (refusal ≡ OutOfRange 0))
