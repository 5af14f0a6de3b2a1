-- What a bounded list holds: every contract on one speaks of this alone. And what keeps a list from being made.
use Rattle.std.specs.Prelude.{ℕ, Bool, cond, List, length, take, Some, None, Option, Ok, Err, Result, nat_le, nat_lt}
use Rattle.terms.specs.Lists.{rising}
use Rattle.terms.specs.declared.bounded.Short.{Short}
use Rattle.terms.specs.declared.full.Full.{Full}
use Rattle.terms.specs.declared.refusals.Refusal.{Refusal}
use Rattle.terms.specs.declared.refusals.Refusal.TheVariants.{NotRising, TooLong}

abbrev pub held : {T : Type 0} {N : ℕ} → Short T N → List T
held s = take s.len s.items

-- what is answered where an item is to be put after these, of which there may be `limit`
abbrev pub place_or_full : {X : Type 0} → ℕ → List X → Result (Unit {0}) Full
place_or_full limit items = cond (nat_lt (length items) limit) (Ok tt) (Err (record { limit = limit }))

-- a list of at most `limit` items is to rise, and is looked through from its first item on: an item that does not stand above the one
-- before it is refused, and so is the first item past the limit
abbrev pub list_refusal : {X : Type 0} → (X → X → Bool) → ℕ → List X → Option Refusal
list_refusal lt limit items = cond (rising lt (take limit items)) (cond (nat_le (length items) limit) None (Some (TooLong 0))) (Some (NotRising 0))
