-- A list that is written to the front of lent memory, item by item. Assumes nothing.
use Rattle.std.proofs.Common.{◌≡◌, ℕ, ◌+◌, ◌<◌, ◌≤◌, ◌⊎◌, List, [], ◌∷◌, ◌++◌, length, take, drop, set, Ok, Err, sym, refl, ap, ◌∙◌, inl, inr, arith}
use Rattle.std.proofs.lemmas.List.{append-nil, append_assoc, drop-drop, drop-set-lt, length-append, length-set, length-take-le, take-append-drop, take_at, take_more_set}
use Rattle.std.proofs.lemmas.Bool.{cases_lt, cond-true, cond-false, le-leb, lt-leb}
use Rattle.terms.specs.declared.refusals.Refusal.{Refusal}
use Rattle.terms.specs.Writing.{room_for, written}

-- n items of `whole` are written over `before`, which has become `out`, and `rest` is still to come
pub record Part {X : Type 0} (before out : List X) (n : ℕ) (rest whole : List X) : Type 0 where
  pub room : n ≤ length out
  pub kept : drop n out ≡ drop n before
  pub so_far : take n out ++ rest ≡ whole

module _ {X : Type 0} where
  pub part_start : (before whole : List X) → Part before before 0 whole whole
  part_start before whole = record { room = omega arith; kept = refl; so_far = refl }

  -- where more is to come of what fits, there is room for it
  pub part_room : (before out : List X) (n : ℕ) (y : X) (rest whole : List X) → length whole ≤ length out → Part before out n (y ∷ rest) whole → n < length out
  part_room before out n y rest whole fits p =
      omega (arith, ap length p.so_far, length-append (take n out) (y ∷ rest), length-take-le n out p.room)

  pub part_write : (before out : List X) (n : ℕ) (y : X) (rest whole : List X) → n < length out → Part before out n (y ∷ rest) whole → Part before (set out n y) (n + 1) rest whole
  part_write before out n y rest whole within p = record {
    room = omega (arith, length-set out n y);
    kept =
        drop-set-lt (n + 1) out n y (omega arith) ∙ sym (drop-drop 1 n out) ∙ ap (drop 1) p.kept ∙ drop-drop 1 n before;
    so_far =
        ap (λ l. l ++ rest) (take_more_set out n y within) ∙ append_assoc (take n out) (y ∷ []) rest ∙ p.so_far;
  }

  -- what is to come, in other words
  pub part_other : (before out : List X) (n : ℕ) (rest other whole : List X) → rest ≡ other → Part before out n rest whole → Part before out n other whole
  part_other before out n rest other whole e p = record { room = p.room; kept = p.kept; so_far = ap (λ l. take n out ++ l) (sym e) ∙ p.so_far }

  -- the same, of values that a way through the code gave
  pub part_is : (before out out' : List X) (n n' : ℕ) (rest whole : List X) → out' ≡ out → n' ≡ n → Part before out n rest whole → Part before out' n' rest whole
  part_is before out out' n n' rest whole d e p = rw (d, e) p

  front_whole : (before out : List X) (n : ℕ) (whole : List X) → Part before out n [] whole → take n out ≡ whole
  front_whole before out n whole p = sym (append-nil (take n out)) ∙ p.so_far

  pub part_count : (before out : List X) (n : ℕ) (whole : List X) → Part before out n [] whole → n ≡ length whole
  part_count before out n whole p = sym (length-take-le n out p.room) ∙ ap length (front_whole before out n whole p)

  pub part_memory : (before out : List X) (n : ℕ) (whole : List X) → Part before out n [] whole → out ≡ whole ++ drop (length whole) before
  part_memory before out n whole p =
      sym (take-append-drop n out) ∙ ap (λ l. l ++ drop n out) (front_whole before out n whole p) ∙ ap (λ l. whole ++ l) p.kept
      ∙ ap (λ k. whole ++ drop k before) (part_count before out n whole p)

  -- ---- what a caller learns from the answer

  pub room_ok : (row : List X) (n k : ℕ) → Ok k ≡ room_for row n → (k ≡ length row) × (length row ≤ n)
  room_ok row n k e = go (cases_lt n (length row))
    where
      go : (n < length row) ⊎ (length row ≤ n) → (k ≡ length row) × (length row ≤ n)
      go (inl lt) = let f = e ∙ cond-false _ _ _ (lt-leb _ _ lt) in let z : ◌≡◌ {A = ℕ} 0 1 = cc in absurd (omega arith)
      go (inr le) = let f = e ∙ cond-true _ _ _ (le-leb _ _ le) in let z : k ≡ length row = cc in (z, le)

  pub room_err : (row : List X) (n : ℕ) (d : Refusal) → Err d ≡ room_for row n → n < length row
  room_err row n d e = go (cases_lt n (length row))
    where
      go : (n < length row) ⊎ (length row ≤ n) → n < length row
      go (inl lt) = lt
      go (inr le) = let f = e ∙ cond-true _ _ _ (le-leb _ _ le) in let z : ◌≡◌ {A = ℕ} 0 1 = cc in absurd (omega arith)

  -- what was written stands at the front
  pub front_written : (row before after : List X) (k : ℕ) → Ok k ≡ room_for row (length before) → after ≡ written row before → take k after ≡ row
  front_written row before after k e is =
      let f = room_ok row (length before) k e in
      ap (take k) (is ∙ cond-true _ _ _ (le-leb _ _ f.1)) ∙ take_at row (drop (length row) before) k (sym f.0)
