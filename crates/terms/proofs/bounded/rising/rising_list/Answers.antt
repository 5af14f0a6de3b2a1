use Rattle.std.proofs.Common.{◌≡◌, ℕ, ◌<◌, ◌≤◌, min, Bool, true, false, ◌⊎◌, List, length, take, Option, Some, None, MatchOption, MatchResult, sym, ap, ◌∙◌, inl, inr, arith}
use Rattle.std.proofs.lemmas.List.{length-take-le, take_all}
use Rattle.std.proofs.lemmas.Bool.{cases_lt, cond-true, cond-false, le-leb, lt-leb}
use Rattle.std.specs.Option.{ok_or}
use Rattle.terms.specs.Lists.{rising}
use Rattle.terms.specs.Shorts.{held, list_refusal}
use Rattle.terms.specs.declared.bounded.Short.{Short}
use Rattle.terms.specs.declared.refusals.Refusal.TheVariants.{TooLong}
use Rattle.terms.proofs.bounded.rising.rising_list.Goals as goal

-- the front that is looked through
front : {X : Type 0} (xs : List X) (n k : ℕ) → k ≡ min (length xs) n → take k xs ≡ take n xs
front xs n k e = go (cases_lt n (length xs))
  where
    go : (n < length xs) ⊎ (length xs ≤ n) → take k xs ≡ take n xs
    go (inl lt) = let is : k ≡ n = omega arith in ap (λ m. take m xs) is
    go (inr le) = take_all k xs (omega arith) ∙ sym (take_all n xs le)

-- what the test of the front tells of the whole list
told : {X : Type 0} (lt : X → X → Bool) (xs : List X) (n k : ℕ) (t : Bool) → k ≡ min (length xs) n → t ≡ rising lt (take k xs) → rising lt (take n xs) ≡ t
told lt xs n k t e h = sym (h ∙ ap (rising lt) (front xs n k e))

pub returns-then-not-is_rising : goal.returns-then-not-is_rising
returns-then-not-is_rising g c =
    cond-false _ _ _ (told g.T.Ordered.precedes c.args.items.now g.row.N c.min.result false c.min.ensures c.if-not-is_rising.ensures)

-- a list made of all the items, or too many of them
made : {X : Type 0} (lt : X → X → Bool) (n : ℕ) (xs : List X) (found : Option (Short X n)) → rising lt (take n xs) ≡ true
    → MatchOption found (n < length xs) (λ s. held s ≡ xs)
    → MatchResult (ok_or found (TooLong 0)) (λ s. (held s ≡ xs) × (list_refusal lt n xs ≡ None)) (λ e. list_refusal lt n xs ≡ Some e)
made lt n xs None rises many = cond-true _ _ _ rises ∙ cond-false _ _ _ (lt-leb _ _ many)
made lt n xs (Some s) rises is =
    let long = length-take-le s.len s.items (omega arith) in
    let few : length xs ≤ n = omega (arith, ap length is) in
    (is, cond-true _ _ _ rises ∙ cond-true _ _ _ (le-leb _ _ few))

pub returns : goal.returns
returns g c =
    let lt = g.T.Ordered.precedes in
    let rises = told lt c.args.items.now g.row.N c.min.result true c.min.ensures c.if-not-is_rising.ensures in
    let m = made lt g.row.N c.args.items.now c.from_slice.result rises c.from_slice.ensures in
    rw c.ok_or.ensures.value m
