-- Two lists read side by side, by numbered pairs. Assumes nothing.
use Rattle.std.proofs.Common.{◌≡◌, ℕ, ◌+◌, ◌<◌, List, [], ◌∷◌, map, length, get_or, drop, refl, ap, ◌∙◌, arith}
use Rattle.std.specs.List.{enumerate_from, zip}
use Rattle.std.proofs.lemmas.List.{drop_all, drop-map}
use Rattle.std.proofs.lemmas.List.FromFn.{get_or-enumerate_from, length-enumerate_from}
use Rattle.terms.proofs.Turns.{drop_read}
use Rattle.calculus.specs.Register.{pairs}

-- f says what is told of an item of the second list
module _ {X Y Z : Type 0} (f : Y → Z) where
  abbrev told : X × Y → X × Z
  told p = (p.0, f p.1)

  pairs_zip : (xs : List X) (ys : List Y) → map told (zip xs ys) ≡ pairs xs (map f ys)
  pairs_zip [] ys = refl
  pairs_zip (x ∷ xs) [] = refl
  pairs_zip (x ∷ xs) (y ∷ ys) = ap (λ l. (x, f y) ∷ l) (pairs_zip xs ys)

  module _ (xs : List X) (ys : List Y) (n : ℕ) where
    -- the pair that was read at place n has the number n
    pub pairs_turn : (i : ℕ) (p : X × Y) → (n < length (enumerate_from 0 (zip xs ys))) × ((i, p) ≡ get_or (enumerate_from 0 (zip xs ys)) n (i, p)) → (i ≡ n) × (drop n (pairs xs (map f ys)) ≡ (p.0, f p.1) ∷ drop (n + 1) (pairs xs (map f ys)))
    pairs_turn i p t =
        let within : n < length (zip xs ys) = omega (arith, t.0, length-enumerate_from 0 (zip xs ys)) in
        let read : ◌≡◌ {A = ℕ × (X × Y)} (i, p) (0 + n, get_or (zip xs ys) n p) = t.1 ∙ get_or-enumerate_from 0 (zip xs ys) n (i, p) within in (
          ap (λ (q : ℕ × (X × Y)). q.0) read ∙ omega arith,
          rw (← pairs_zip xs ys, drop-map told n (zip xs ys), drop-map told (n + 1) (zip xs ys)) (ap (map told) (drop_read (zip xs ys) n p within (ap (λ (q : ℕ × (X × Y)). q.1) read))),
        )

    pub pairs_end : n ≡ length (enumerate_from 0 (zip xs ys)) → drop n (pairs xs (map f ys)) ≡ []
    pairs_end e =
        rw (← pairs_zip xs ys, drop-map told n (zip xs ys)) (ap (map told) (drop_all n (zip xs ys) (omega (arith, e, length-enumerate_from 0 (zip xs ys)))))
