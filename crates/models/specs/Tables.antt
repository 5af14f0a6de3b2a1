-- What a table of bits means: row A holds the elements of the concept A, and row 256 + r × n + x those to which the role name r links x.
use Rattle.std.specs.Prelude.{ℕ, ◌+◌, ◌-◌, ◌*◌, ◌/◌, ◌%◌, ◌^◌, Bool, cond, ◌&&◌, leb, List, length, take, drop, Some, Option, ◌==◌, nat_lt, slice_index}
use Rattle.std.specs.Option.{option_map}
use Rattle.std.specs.Int.Digits.{number_from_digits}
use Rattle.terms.specs.Tables.{weight}
use Rattle.models.specs.Judging.{lowest}
use Rattle.models.specs.Meanings.{Meaning, is_sample_size}
use Rattle.models.specs.declared.samples.Fault.TheVariants.{Misshapen, Outside}

-- row k is the number that its eight bytes write, the highest byte first
abbrev pub row : List ℕ → ℕ → ℕ
row bytes k = number_from_digits 256 (take 8 (drop (8 * k) bytes))

-- as many bytes as the size asks for, and a size from 1 to 64
abbrev pub is_shaped : List ℕ → ℕ → Bool
is_shaped bytes n = is_sample_size n && length bytes == 8 * (256 + 32 * n)

-- the lowest row with a weight from 2 ^ n up, which stands for no element
abbrev pub lowest_stray : List ℕ → ℕ → Option ℕ
lowest_stray bytes n = lowest (λ k. leb (2 ^ n) (row bytes k)) (256 + 32 * n)

abbrev pub table_meaning : List ℕ → ℕ → Meaning
table_meaning bytes n = record {
  fault = cond (is_shaped bytes n) (option_map Outside (lowest_stray bytes n)) (Some (Misshapen n));
  size = n;
  has_element = λ A x. is_shaped bytes n && weight (row bytes A) x;
  has_link = λ r x y. is_shaped bytes n && nat_lt r 32 && weight (row bytes (256 + r * n + x)) y;
}

-- which bit decides about element x of row k: bit x % 8 of byte 8 × k + 7 − x / 8, so that the highest byte comes first
abbrev pub row_bit : List ℕ → ℕ → ℕ → Bool
row_bit bytes k x = weight (slice_index bytes (8 * k + (7 - x / 8))) (x % 8)
