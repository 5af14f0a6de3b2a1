-- A row kept in room that may be too small for it. Assumes nothing.
use Rattle.std.proofs.Common.{◌≡◌, ℕ, zero, suc, ◌≤◌, Bool, true, false, cond, List, [], ◌∷◌, ◌++◌, length, take, drop, sym, refl, ap, ◌∙◌, arith}
use Rattle.std.proofs.lemmas.List.{length-append, length-drop, length-take-le, take_all, take-append-le, take-take}
use Rattle.calculus.specs.Fronts.{placed, placed_all}

module _ {X : Type 0} (lt : X → X → Bool) where
  pub placed_longer : (x : X) (row : List X) → length row ≤ length (placed lt x row)
  placed_longer x [] = omega arith
  placed_longer x (y ∷ ys) = go (lt x y) (lt y x) (placed_longer x ys) (placed_longer y ys)
    where
      go : (a b : Bool) → length ys ≤ length (placed lt x ys) → length ys ≤ length (placed lt y ys) → length (y ∷ ys) ≤ length (cond a (x ∷ placed lt y ys) (cond b (y ∷ placed lt x ys) (y ∷ ys)))
      go true b h k = omega arith
      go false true h k = omega arith
      go false false h k = omega arith

  -- the first items of the row with x are drawn from x and the first items of the row
  placed_take : (k : ℕ) (x : X) (row : List X) → take k (placed lt x (take k row)) ≡ take k (placed lt x row)
  placed_take zero x [] = refl
  placed_take zero x (y ∷ ys) = go (placed lt x []) (placed lt x (y ∷ ys))
    where
      go : (us vs : List X) → take 0 us ≡ take 0 vs
      go [] [] = refl
      go [] (v ∷ vs) = refl
      go (u ∷ us) [] = refl
      go (u ∷ us) (v ∷ vs) = refl
  placed_take (suc k) x [] = refl
  placed_take (suc k) x (y ∷ ys) = go (lt x y) (lt y x) (placed_take k y ys) (placed_take k x ys)
    where
      go : (a b : Bool) → take k (placed lt y (take k ys)) ≡ take k (placed lt y ys) → take k (placed lt x (take k ys)) ≡ take k (placed lt x ys)
          → take (suc k) (cond a (x ∷ placed lt y (take k ys)) (cond b (y ∷ placed lt x (take k ys)) (y ∷ take k ys))) ≡ take (suc k) (cond a (x ∷ placed lt y ys) (cond b (y ∷ placed lt x ys) (y ∷ ys)))
      go true b h k = ap (λ l. x ∷ l) h
      go false true h k = ap (λ l. y ∷ l) k
      go false false h j = ap (λ l. y ∷ l) (take-take k k ys (omega arith))

  -- the row in the front of `memory` is given over for x, and `front` is what it then is
  module _ (memory : List X) (n : ℕ) (x : X) (front : List X) (fits : n ≤ length memory) (same : length front ≡ length (take n memory)) where
    abbrev pub now : List X
    now = front ++ drop n memory

    abbrev pub KeepsOn : List X → ℕ → Type 0
    KeepsOn after end = (row : List X) → take n memory ≡ take (length memory) row → take end after ≡ take (length after) (placed lt x row)

    long : length front ≡ n
    long = same ∙ length-take-le n memory fits

    as_long : length now ≡ length memory
    as_long = omega (arith, long, length-append front (drop n memory), length-drop n memory)

    kept_now : take n now ≡ front
    kept_now = take-append-le n front (drop n memory) (omega (arith, long)) ∙ take_all n front (omega (arith, long))

    keeps_on : (after : List X) (end : ℕ) → length after ≡ length memory → take end after ≡ take (length memory) (placed lt x (take n memory)) → KeepsOn after end
    keeps_on after end e h row k =
        h ∙ ap (λ (l : List X). take (length memory) (placed lt x l)) k ∙ placed_take (length memory) x row ∙ ap (λ (m : ℕ). take m (placed lt x row)) (sym e)

    -- where nothing is left over
    pub keeps_whole : front ≡ placed lt x (take n memory) → KeepsOn now n
    keeps_whole e = keeps_on now n as_long (kept_now ∙ e ∙ sym (take_all (length memory) _ (omega (arith, long, ap length e))))

    module _ (last : X) (e : front ++ last ∷ [] ≡ placed lt x (take n memory)) where
      -- where the last item has no room
      pub keeps_most : length now ≤ n → KeepsOn now n
      keeps_most full =
          let all : n ≡ length memory = omega (arith, as_long) in
          keeps_on now n as_long (kept_now ∙ sym (take-append-le n front (last ∷ []) (omega (arith, long)) ∙ take_all n front (omega (arith, long))) ∙ ap (take n) e ∙ ap (λ (m : ℕ). take m (placed lt x (take n memory))) all)

  -- the rest of xs, put into the row that is kept, is what all of xs puts into the row that was kept first
  abbrev pub OnTheWay : (Before Now : List X → Type 0) (rest all : List X) → Type 0
  OnTheWay Before Now rest all = (row : List X) → Before row → (now : List X) × Now now × (placed_all lt rest now ≡ placed_all lt all row)
