-- Rows of eight bytes, and which bit of which byte an element of a row is. Assumes nothing.
use Rattle.std.proofs.Common.{◌≡◌, ℕ, zero, suc, ◌+◌, ◌-◌, ◌*◌, ◌/◌, ◌%◌, ◌^◌, ◌<◌, ◌≤◌, Bool, true, false, cond, not, ◌&&◌, eqb, leb, ◌⊎◌, List, [], ◌∷◌, length, get_or, take, drop, Some, refl, sym, ap, ◌∙◌, inl, inr, arith, pow_mono}
use Rattle.std.specs.Int.Digits.{number_from_digits}
use Rattle.std.specs.List.{find, position_from, range_with_len}
use Rattle.std.specs.Simd.{first_chunks}
use Rattle.std.proofs.lemmas.Nat.{pow_pos, div_below, le-div, shr-shr, shr_high}
use Rattle.std.proofs.lemmas.Int.Digits.{number_more}
use Rattle.std.proofs.lemmas.List.{drop-drop, get_or-drop, length-drop}
use Rattle.std.proofs.lemmas.Bool.{and_parts, cases_lt, eqb-true, le-leb, leb-true, lt-leb, ne_eqb}
use Rattle.terms.specs.Tables.{weight}
use Rattle.models.specs.Judging.{lowest}
use Rattle.models.specs.Tables.{is_shaped, row, row_bit}

-- ---- stray weights

pub shifted_strays : (w n : ℕ) → not (eqb (w / 2 ^ n) 0) ≡ leb (2 ^ n) w
shifted_strays w n = go (cases_lt w (2 ^ n))
  where
    go : (w < 2 ^ n) ⊎ (2 ^ n ≤ w) → not (eqb (w / 2 ^ n) 0) ≡ leb (2 ^ n) w
    go (inl lt) =
        let z : w / 2 ^ n ≡ 0 = omega (arith, div_below w (2 ^ n) 1 (pow_pos n) (omega arith)) in
        rw z (sym (lt-leb (2 ^ n) w lt))
    go (inr le) =
        let q : 1 ≤ w / 2 ^ n = le-div 1 w (2 ^ n) (pow_pos n) (omega arith) in
        ap not (ne_eqb (w / 2 ^ n) 0 (λ e. omega arith)) ∙ sym (le-leb (2 ^ n) w le)

pub never_strays : (w n : ℕ) → w < 2 ^ 64 → 64 ≤ n → false ≡ leb (2 ^ n) w
never_strays w n h m = sym (lt-leb (2 ^ n) w (omega (arith, pow_mono {i = 64} {j = n} m)))

-- ---- rows

-- row k of the bytes is what chunk k writes
pub chunk_row : (n k : ℕ) (bytes : List ℕ) → k < n → get_or (first_chunks 8 n bytes) k [] ≡ take 8 (drop (8 * k) bytes)
chunk_row zero k bytes lt = absurd (omega arith)
chunk_row (suc n) zero bytes lt = refl
chunk_row (suc n) (suc k) bytes lt =
    let e : 8 + 8 * k ≡ 8 * suc k = omega arith in
    chunk_row n k (drop 8 bytes) (omega arith) ∙ ap (take 8) (drop-drop (8 * k) 8 bytes) ∙ ap (λ i. take 8 (drop i bytes)) e

-- the first item that passes p is at the lowest index that passes q, where q tests the item at an index
module _ {X : Type 0} (p : X → Bool) (q : ℕ → Bool) (d : X) where
  found_from : (xs : List X) (a : ℕ) → ((k i : ℕ) → a + k ≡ i → k < length xs → p (get_or xs k d) ≡ q i) → position_from p a xs ≡ find q (range_with_len a (length xs))
  found_from [] a so = refl
  found_from (x ∷ xs) a so =
      let here : p x ≡ q a = so 0 a (omega arith) (omega arith) in
      let rest = found_from xs (a + 1) (λ k i e lt. so (suc k) i (omega arith) (omega arith)) in
      ap (λ b. cond b (Some a) (position_from p (a + 1) xs)) here ∙ ap (cond (q a) (Some a)) rest

chunks_len : (n : ℕ) (bytes : List ℕ) → length (first_chunks 8 n bytes) ≡ n
chunks_len zero bytes = refl
chunks_len (suc n) bytes = ap suc (chunks_len n (drop 8 bytes))

-- the first chunk whose number passes is the lowest such row
pub lowest_row : (p : ℕ → Bool) (n : ℕ) (bytes : List ℕ) → position_from (λ chunk. p (number_from_digits 256 chunk)) 0 (first_chunks 8 n bytes) ≡ lowest (λ k. p (row bytes k)) n
lowest_row p n bytes =
    found_from (λ chunk. p (number_from_digits 256 chunk)) (λ k. p (row bytes k)) [] (first_chunks 8 n bytes) 0
    (λ k i e lt. let is : k ≡ i = omega arith in
    let below : k < n = omega (arith, chunks_len n bytes) in
    ap (λ chunk. p (number_from_digits 256 chunk)) (chunk_row n k bytes below) ∙ ap (λ j. p (row bytes j)) is)
    ∙ ap (λ m. find (λ k. p (row bytes k)) (range_with_len 0 m)) (chunks_len n bytes)

-- ---- which bit of which byte

low : (N d x : ℕ) → x < 8 → (N * 256 + d) / 2 ^ x % 2 ≡ d / 2 ^ x % 2
low N d zero h = omega arith
low N d (suc zero) h = omega arith
low N d (suc (suc zero)) h = omega arith
low N d (suc (suc (suc zero))) h = omega arith
low N d (suc (suc (suc (suc zero)))) h = omega arith
low N d (suc (suc (suc (suc (suc zero))))) h = omega arith
low N d (suc (suc (suc (suc (suc (suc zero)))))) h = omega arith
low N d (suc (suc (suc (suc (suc (suc (suc zero))))))) h = omega arith
low N d (suc (suc (suc (suc (suc (suc (suc (suc x)))))))) h = absurd (omega arith)

high : (N d x : ℕ) → d < 256 → (N * 256 + d) / 2 ^ (8 + x) ≡ N / 2 ^ x
high N d x h = sym (shr-shr (N * 256 + d) 8 x) ∙ ap (λ n. n / 2 ^ x) (shr_high N 8 d h)

module _ (ds : List ℕ) (fit : (i : ℕ) → i < length ds → get_or ds i 0 < 256) where
  place : (m x : ℕ) → m ≤ length ds → x < 8 * m → weight (number_from_digits 256 (take m ds)) x ≡ weight (get_or ds (m - 1 - x / 8) 0) (x % 8)
  place zero x h lt = absurd (omega arith)
  place (suc m) x h lt = go (λ y. place m y (omega arith)) (cases_lt x 8)
    where
      more : number_from_digits 256 (take (suc m) ds) ≡ number_from_digits 256 (take m ds) * 256 + get_or ds m 0
      more = let e : suc m ≡ m + 1 = omega arith in ap (λ k. number_from_digits 256 (take k ds)) e ∙ number_more 256 ds m (omega arith)

      go : ((y : ℕ) → y < 8 * m → weight (number_from_digits 256 (take m ds)) y ≡ weight (get_or ds (m - 1 - y / 8) 0) (y % 8))
          → (x < 8) ⊎ (8 ≤ x) → weight (number_from_digits 256 (take (suc m) ds)) x ≡ weight (get_or ds (suc m - 1 - x / 8) 0) (x % 8)
      go below (inl s) =
          let i : suc m - 1 - x / 8 ≡ m = omega arith in
          let j : x % 8 ≡ x = omega arith in
          ap (λ w. weight w x) more ∙ ap (λ n. eqb n 1) (low (number_from_digits 256 (take m ds)) (get_or ds m 0) x s) ∙ sym (ap (λ n. weight (get_or ds n 0) (x % 8)) i ∙ ap (weight (get_or ds m 0)) j)
      go below (inr b) =
          let y = x - 8 in
          let e : x ≡ 8 + y = omega arith in
          let i : suc m - 1 - x / 8 ≡ m - 1 - y / 8 = omega arith in
          let j : x % 8 ≡ y % 8 = omega arith in
          ap (λ w. weight w x) more ∙ ap (weight (number_from_digits 256 (take m ds) * 256 + get_or ds m 0)) e
          ∙ ap (λ n. eqb (n % 2) 1) (high (number_from_digits 256 (take m ds)) (get_or ds m 0) y (fit m (omega arith)))
          ∙ below y (omega arith) ∙ sym (ap (λ n. weight (get_or ds n 0) (x % 8)) i ∙ ap (weight (get_or ds (m - 1 - y / 8) 0)) j)

pub row_place : (bytes : List ℕ) (k x : ℕ) → ((i : ℕ) → i < length bytes → get_or bytes i 0 < 256) → 8 * k + 8 ≤ length bytes → x < 64 → weight (row bytes k) x ≡ row_bit bytes k x
row_place bytes k x fit room lt =
    place (drop (8 * k) bytes) (λ i h. rw get_or-drop (fit (8 * k + i) (omega (arith, length-drop (8 * k) bytes)))) 8 x (simp length-drop (omega arith)) lt
    ∙ ap (λ b. weight b (x % 8)) (get_or-drop (8 * k) bytes (7 - x / 8) 0)

-- what the test of the shape tells
pub shape_told : (bytes : List ℕ) (n : ℕ) → is_shaped bytes n ≡ true → (1 ≤ n) × (n ≤ 64) × (length bytes ≡ 8 * (256 + 32 * n))
shape_told bytes n t =
    let both = and_parts (leb 1 n && leb n 64) (eqb (length bytes) (8 * (256 + 32 * n))) t in
    let ends = and_parts (leb 1 n) (leb n 64) both.0 in
    (leb-true 1 n ends.0, leb-true n 64 ends.1, eqb-true (length bytes) (8 * (256 + 32 * n)) both.1)
