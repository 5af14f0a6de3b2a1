-- The roles of the tour as verbs. Assumes nothing.
use Rattle.std.specs.Prelude.{ℕ, List, [], ◌∷◌, codes, slice_index_or}

-- the verbs of the role codes 0 to 5
abbrev pub verbs : List (List ℕ)
verbs = codes "settles" ∷ codes "is settled by" ∷ codes "pays" ∷ codes "is paid by" ∷ codes "relates to" ∷ codes "is related to by" ∷ []

-- the verb of a role code, the same for every code that the tour does not use
abbrev pub verb : ℕ → List ℕ
verb E = slice_index_or verbs E (codes "has another role to")
