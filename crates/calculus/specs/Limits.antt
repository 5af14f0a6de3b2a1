-- The limits of the steps of a book; the others are those of its forms.
use Rattle.std.specs.Prelude.{ℕ}

-- the literals of scratch that a step is to be lent
abbrev pub scratch_needed : ℕ
scratch_needed = 111
