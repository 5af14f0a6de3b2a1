-- The axiom and the table of the benchmark. Assumes nothing.
use Rattle.std.specs.Prelude.{ℕ, ◌<◌, Bool, cond, ◌||◌, [], ◌∷◌, nat_le, nat_lt}
use Rattle.std.proofs.Common.{lit<}
use Rattle.terms.specs.Limits.{role_codes}
use Rattle.terms.specs.declared.literals.Literal.{Literal}
use Rattle.terms.specs.declared.literals.Literal.TheVariants.{Exists, Forall}
use Rattle.terms.specs.Roles.{role_of}
use Rattle.models.specs.Semantics.{Sentence, implies}

-- what has a filler of E in the concept 200, which has no element
abbrev pub missing : (E : ℕ) → E < role_codes → Literal
missing E below = Exists (role_of E below) 200

-- what is in the concepts 0 to 7 is in one of the six, or has all its pairs of 12 into the concept 0
abbrev pub slow_sentence : Sentence
slow_sentence =
    implies
    (0 ∷ 1 ∷ 2 ∷ 3 ∷ 4 ∷ 5 ∷ 6 ∷ 7 ∷ [])
    (missing 0 (lit< tt) ∷ missing 1 (lit< tt) ∷ missing 2 (lit< tt) ∷ missing 3 (lit< tt) ∷ missing 4 (lit< tt) ∷ missing 5 (lit< tt) ∷ Forall (role_of 12 (lit< tt)) 0 ∷ [])

-- byte i stands in a row of the concepts 0 to 7 or of a role name
abbrev pub is_filled : ℕ → Bool
is_filled i = nat_lt i 64 || nat_le 2048 i

-- byte i of the full table, which held b before
abbrev pub filled : ℕ → ℕ → ℕ
filled i b = cond (is_filled i) 255 b
