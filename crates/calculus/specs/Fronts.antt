-- What is put into a rising row, and where two lists first differ. Assumes nothing.
use Rattle.std.specs.Prelude.{ℕ, ◌+◌, Bool, cond, List, [], ◌∷◌, Some, None, Option}
use Rattle.terms.specs.Lists.{alike}

-- the row with x at its place, and as it was where x is in it
abbrev pub placed : {X : Type 0} → (X → X → Bool) → X → List X → List X
placed lt x [] = x ∷ []
placed lt x (y ∷ ys) = cond (lt x y) (x ∷ placed lt y ys) (cond (lt y x) (y ∷ placed lt x ys) (y ∷ ys))

-- the row with each of xs at its place
abbrev pub placed_all : {X : Type 0} → (X → X → Bool) → List X → List X → List X
placed_all lt [] row = row
placed_all lt (x ∷ xs) row = placed_all lt xs (placed lt x row)

-- the first place, counted from i, at which the two lists differ, or where the shorter ends
abbrev pub first_apart : {X : Type 0} → (X → X → Bool) → ℕ → List X → List X → Option ℕ
first_apart lt i [] [] = None
first_apart lt i [] (y ∷ ys) = Some i
first_apart lt i (x ∷ xs) [] = Some i
first_apart lt i (x ∷ xs) (y ∷ ys) = cond (alike lt x y) (first_apart lt (i + 1) xs ys) (Some i)
