-- Single weights of a number. Assumes nothing.
use Rattle.std.proofs.Common.{◌≡◌, ℕ, ◌+◌, ◌-◌, ◌/◌, ◌%◌, ◌^◌, ◌<◌, true, false, ◌&&◌, ◌||◌, eqb, ◌⊎◌, sym, ap, ◌∙◌, inl, inr, one-mul, arith}
use mathlib.Core.Bool.{or-false}
use lib.Bits.{bit_and, bit_or, and_mask, or_shr, or_mod}
use Rattle.std.proofs.lemmas.Nat.{pow-add, pow_pos, pow_below, mod_below, div_below, shl-shr}
use Rattle.std.proofs.lemmas.Bool.{eq-eqb, ne_eqb, cases_order, cases_Bool}
use Rattle.terms.specs.Tables.{extend, weight}
use Rattle.terms.specs.Codes.{two}

pub and_weight : (w s : ℕ) → eqb (bit_and (w / 2 ^ s) 1) 1 ≡ weight w s
and_weight w s = ap (λ n. eqb n 1) (and_mask (w / 2 ^ s) 1)

or_two : (a b : ℕ) → a < 2 → b < 2 → eqb (bit_or a b) 1 ≡ (eqb a 1 || eqb b 1)
or_two a b p q = go (two a p) (two b q)
  where
    go : (a ≡ 0) ⊎ (a ≡ 1) → (b ≡ 0) ⊎ (b ≡ 1) → eqb (bit_or a b) 1 ≡ (eqb a 1 || eqb b 1)
    go (inl x) (inl y) = rw (x, y)
    go (inl x) (inr y) = rw (x, y)
    go (inr x) (inl y) = rw (x, y)
    go (inr x) (inr y) = rw (x, y)

or_weight : (a b s : ℕ) → weight (bit_or a b) s ≡ (weight a s || weight b s)
or_weight a b s =
    ap (λ n. eqb (n % 2) 1) (or_shr a b s) ∙ ap (λ n. eqb n 1) (or_mod (a / 2 ^ s) (b / 2 ^ s) 1)
    ∙ or_two (a / 2 ^ s % 2) (b / 2 ^ s % 2) (mod_below _ 2 (omega arith)) (mod_below _ 2 (omega arith))

pub one_weight : (x s : ℕ) → weight (2 ^ x) s ≡ eqb x s
one_weight x s = go (cases_order x s)
  where
    go : (x ≡ s) ⊎ ((x < s) ⊎ (s < x)) → weight (2 ^ x) s ≡ eqb x s
    go (inl e) =
        let q : 2 ^ x / 2 ^ s ≡ 1 = rw e (ap (λ n. n / 2 ^ s) (sym (one-mul (2 ^ s))) ∙ shl-shr 1 s) in
        rw q (sym (eq-eqb x s e))
    go (inr (inl lt)) =
        let q : 2 ^ x / 2 ^ s ≡ 0 = omega (arith, div_below (2 ^ x) (2 ^ s) 1 (pow_pos s) (omega (arith, pow_below x s lt))) in
        rw q (sym (ne_eqb x s (λ e. omega arith)))
    go (inr (inr gt)) =
        let k = x - (s + 1) in
        let e : x ≡ (k + 1) + s = omega arith in
        let q : 2 ^ x / 2 ^ s ≡ 2 ^ (k + 1) = ap (λ n. 2 ^ n / 2 ^ s) e ∙ ap (λ n. n / 2 ^ s) (pow-add 2 (k + 1) s) ∙ shl-shr (2 ^ (k + 1)) s in
        let r : 2 ^ x / 2 ^ s % 2 ≡ 0 = omega (arith, q, pow-add 2 k 1) in
        rw r (sym (ne_eqb x s (λ e. omega arith)))

-- one row, once it takes in another where it has a weight
pub extended_weight : (w t e s : ℕ) → weight (extend e t w) s ≡ (weight w s || (weight w e && weight t s))
extended_weight w t e s = go (cases_Bool (weight w e))
  where
    go : (weight w e ≡ true) ⊎ (weight w e ≡ false) → weight (extend e t w) s ≡ (weight w s || (weight w e && weight t s))
    go (inl h) = rw h (or_weight w t s)
    go (inr h) = rw h (sym (or-false (weight w s)))
