-- A list that takes one more, or is full; and what a call that passes, or is refused, is answered and leaves. Assumes nothing.
use Rattle.std.proofs.Common.{◌≡◌, ℕ, Bool, true, false, ltb, List, map, length, Ok, Err, Result, sym, ap, ◌∙◌}
use Rattle.std.proofs.lemmas.List.{length-map}
use Rattle.std.proofs.lemmas.Bool.{cond-false, cond-true}
use Rattle.terms.specs.declared.refusals.Refusal.{Refusal}
use Rattle.terms.specs.declared.refusals.Refusal.TheVariants.{NoPlaceFree}
use Rattle.calculus.specs.Checks.{and_then, passes}
use Rattle.calculus.specs.Events.{Event, grown}
use Rattle.calculus.specs.Register.{Register}
use Rattle.calculus.specs.Replies.{after, check, granted, held_after, reply, room}
use Rattle.calculus.proofs.Passing.{and_then_on, passes_yes}

-- the book is in the phase that the call is for, and the list of f of xs has the limit
module _ {X Y : Type 0} (f : X → Y) (xs : List X) (limit : ℕ) (timely : Bool) (untimely : Refusal) (now : timely ≡ true) where
  as_many : {b : Bool} → b ≡ ltb (length xs) limit → ltb (length (map f xs)) limit ≡ b
  as_many h = ap (λ (n : ℕ). ltb n limit) (length-map xs f) ∙ sym h

  past_phase : and_then (passes timely untimely) (λ _. room (length (map f xs)) limit) ≡ room (length (map f xs)) limit
  past_phase = and_then_on (passes timely untimely) _ tt (passes_yes timely untimely now)

  pub room_yes : true ≡ ltb (length xs) limit → and_then (passes timely untimely) (λ _. room (length (map f xs)) limit) ≡ Ok tt
  room_yes h = past_phase ∙ cond-true _ _ _ (as_many h)

  pub room_no : false ≡ ltb (length xs) limit → and_then (passes timely untimely) (λ _. room (length (map f xs)) limit) ≡ Err (NoPlaceFree limit)
  room_no h = past_phase ∙ cond-false _ _ _ (as_many h)

module _ (R : Register) (e : Event) where
  abbrev ComesTo : Result (Unit {0}) Refusal → Type 0
  ComesTo r = check R e ≡ r

  pub granted_reply : ComesTo (Ok tt) → granted R e ≡ reply R e
  granted_reply h = sym (ap (λ (r : Result (Unit {0}) Refusal). and_then r (λ _. granted R e)) h)

  pub granted_after : ComesTo (Ok tt) → grown R e ≡ after R e
  granted_after h = sym (ap (held_after (grown R e) R) h)

  module _ (x : Refusal) where
    pub refused_reply : ComesTo (Err x) → Err x ≡ reply R e
    refused_reply h = sym (ap (λ (r : Result (Unit {0}) Refusal). and_then r (λ _. granted R e)) h)

    pub refused_after : ComesTo (Err x) → R ≡ after R e
    refused_after h = sym (ap (held_after (grown R e) R) h)
