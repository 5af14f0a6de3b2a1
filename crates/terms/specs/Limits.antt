-- The limits of this layer, each stated once.
use Rattle.std.specs.Prelude.{ℕ}

-- role names are 0 to 31, and each has two codes
abbrev pub role_names : ℕ
role_names = 32

abbrev pub role_codes : ℕ
role_codes = 64

-- concepts are 0 to 255
abbrev pub concepts : ℕ
concepts = 256

-- literals: the concepts, and for each role code the concepts twice
abbrev pub literal_positions : ℕ
literal_positions = 33024
