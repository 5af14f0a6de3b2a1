-- Lent memory that a list is written to. Assumes nothing.
use Rattle.std.specs.Prelude.{ℕ, ◌-◌, ◌^◌, min, cond, List, ◌++◌, length, drop, Option, Ok, Err, Result, nat_le}
use Rattle.std.specs.Iterator.{Count, IsFinite}
use Rattle.std.proofs.lemmas.Iterator.{YieldsList}
use Rattle.terms.specs.declared.refusals.Refusal.{Refusal}
use Rattle.terms.specs.declared.refusals.Refusal.TheVariants.{MemoryTooShort}

-- a length as a refusal can name it, in 64 bits
abbrev pub nameable : ℕ → ℕ
nameable n = min n (2 ^ 64 - 1)

-- what is answered where `row` is to be written to memory for n items: its length, or that it does not fit
abbrev pub room_for : {X : Type 0} → List X → ℕ → Result ℕ Refusal
room_for row n = cond (nat_le (length row) n) (Ok (length row)) (Err (MemoryTooShort (nameable (length row))))

-- the memory afterwards: `row` at its front and the rest as it was, or all as it was where `row` does not fit
abbrev pub written : {X : Type 0} → List X → List X → List X
written row before = cond (nat_le (length row) (length before)) (row ++ drop (length row) before) before

-- an iterator in the state s may be asked for its items, which are this list, and ends
abbrev pub Gives : {S A : Type 0} → (S → Type 0) → (S → Option A → S → Type 0) → (S → Count) → S → List A → Type 0
Gives can steps left s list = YieldsList steps (λ x. x) s list × can s × IsFinite (left s)
