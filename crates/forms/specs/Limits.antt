-- The limits of a book and of the lists in its forms, each stated once.
use Rattle.std.specs.Prelude.{ℕ}

abbrev pub axiom_limit : ℕ
axiom_limit = 256

abbrev pub context_limit : ℕ
context_limit = 64

abbrev pub clause_limit : ℕ
clause_limit = 512

-- the most literals of a head, and so of a claim
abbrev pub head_limit : ℕ
head_limit = 12

-- the most items of every other list in a form
abbrev pub list_limit : ℕ
list_limit = 8
