-- What keeps a number, or a list of items that numbers state, from being part of a form. Assumes nothing.
use Rattle.std.specs.Prelude.{◌≡◌, ℕ, ◌-◌, Bool, true, cond, List, [], ◌∷◌, Some, None, Option, Result, MatchResult, is_none, ◌==◌, nat_lt}
use Rattle.terms.specs.declared.refusals.Refusal.{Refusal}
use Rattle.terms.specs.declared.refusals.Refusal.TheVariants.{NotRising, OutOfRange, TooLong}
use Rattle.models.specs.Charts.{first_refusal}

-- the number is to be below the limit
abbrev pub range_refusal : ℕ → ℕ → Option Refusal
range_refusal limit n = cond (nat_lt n limit) None (Some (OutOfRange 0))

-- what was made of the numbers n is stated by just these, which get no refusal; or it is their refusal
abbrev pub MadeOrRefused : {X Y : Type 0} → (X → Y) → (Y → Option Refusal) → Y → Result X Refusal → Type 0
MadeOrRefused numbers refused n r = MatchResult r (λ x. (numbers x ≡ n) × (refused n ≡ None)) (λ e. refused n ≡ Some e)

-- y may stand after the last item, if there is one
abbrev pub may_stand : {Y : Type 0} → (Y → Y → Bool) → Option Y → Y → Bool
may_stand follows None y = true
may_stand follows (Some x) y = follows x y

-- items are looked at from the first on, as in a line: one past the room that is left is too many; then its numbers are to be in their ranges; then
-- it is to stand above the item before it, where its list rises
abbrev pub items_refusal : {Y : Type 0} → (Y → Option Refusal) → (Y → Y → Bool) → ℕ → Option Y → List Y → Option Refusal
items_refusal refused follows room last [] = None
items_refusal refused follows room last (y ∷ ys) =
    cond (room == 0) (Some (TooLong 0)) (first_refusal (refused y) (cond (may_stand follows last y) (items_refusal refused follows (room - 1) (Some y) ys) (Some (NotRising 0))))

-- the numbers state a list of at most `limit` items
abbrev pub listable : {Y : Type 0} → (Y → Option Refusal) → (Y → Y → Bool) → ℕ → List Y → Bool
listable refused follows limit ys = is_none (items_refusal refused follows limit None ys)
