-- Literals: their order and their positions. Assumes nothing.
use Rattle.std.specs.Prelude.{ℕ, ◌+◌, ◌*◌, ◌<◌, Bool, true, false, cond, nat_lt}
use Rattle.terms.specs.Limits.{concepts}
use Rattle.terms.specs.declared.roles.Role.{Role}
use Rattle.terms.specs.declared.literals.Literal.{Literal}
use Rattle.terms.specs.declared.literals.Literal.TheVariants.{Concept, Exists, Forall}

-- where a literal stands among all: first the concepts, then `some E A` by E and A, then `all E A` by E and A
abbrev pub position : Literal → ℕ
position (Concept A) = A
position (Exists E A) = 256 + 256 * E.code + A
position (Forall E A) = 16640 + 256 * E.code + A

-- by the role, and then by the concept
abbrev pub pair_precedes : Role → ℕ → Role → ℕ → Bool
pair_precedes E A F B = cond (nat_lt E.code F.code) true (cond (nat_lt F.code E.code) false (nat_lt A B))

-- concepts, then `some`, then `all`; among those of one kind by the role, and then by the concept
abbrev pub literal_precedes : Literal → Literal → Bool
literal_precedes (Concept A) (Concept B) = nat_lt A B
literal_precedes (Concept A) (Exists F B) = true
literal_precedes (Concept A) (Forall F B) = true
literal_precedes (Exists E A) (Concept B) = false
literal_precedes (Exists E A) (Exists F B) = pair_precedes E A F B
literal_precedes (Exists E A) (Forall F B) = true
literal_precedes (Forall E A) (Concept B) = false
literal_precedes (Forall E A) (Exists F B) = false
literal_precedes (Forall E A) (Forall F B) = pair_precedes E A F B

-- the concept in a literal
abbrev pub concept_of : Literal → ℕ
concept_of (Concept A) = A
concept_of (Exists E A) = A
concept_of (Forall E A) = A

-- the literal's concept is in its range, as that of every literal in the code is
abbrev pub InRange : Literal → Type 0
InRange x = concept_of x < concepts
