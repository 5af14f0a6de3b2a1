-- What holds of items that are not refused. Assumes nothing.
use Rattle.std.proofs.Common.{◌≡◌, ℕ, ◌-◌, ◌<◌, ◌≤◌, Bool, true, false, cond, eqb, ltb, List, [], ◌∷◌, map, length, Some, None, Option, is_none, refl, sym, ap, ◌∙◌, inl, inr, arith}
use Rattle.std.proofs.lemmas.Bool.{and_from, ltb-true}
use Rattle.std.proofs.lemmas.Bool.Decides.{nat_tests}
use Rattle.terms.specs.Lists.{◌∈◌, leads, rising}
use Rattle.terms.specs.declared.refusals.Refusal.{Refusal}
use Rattle.models.specs.Charts.{first_refusal}
use Rattle.forms.specs.Items.{items_refusal, listable, may_stand, range_refusal}

pub some_none : {A : Type 0} (x : A) → Some x ≡ None → ⊥
some_none x h = cc

passed_over : {A : Type 0} (b : Bool) (e : A) (x : Option A) → cond b (Some e) x ≡ None → (b ≡ false) × (x ≡ None)
passed_over true e x h = (cc, cc)
passed_over false e x h = (refl, h)

passed_by : {A : Type 0} (b : Bool) (e : A) (x : Option A) → cond b x (Some e) ≡ None → (b ≡ true) × (x ≡ None)
passed_by true e x h = (refl, h)
passed_by false e x h = (cc, cc)

pub both_none : (a b : Option Refusal) → first_refusal a b ≡ None → (a ≡ None) × (b ≡ None)
both_none (Some e) b h = (cc, cc)
both_none None b h = (refl, h)

pub in_map : {X Y : Type 0} (f : X → Y) (x : X) (xs : List X) → x ∈ xs → f x ∈ map f xs
in_map f x [] m = absurd m
in_map f x (y ∷ xs) (inl e) = inl (ap f e)
in_map f x (y ∷ xs) (inr m) = inr (in_map f x xs m)

pub in_range : (limit n : ℕ) → range_refusal limit n ≡ None → n < limit
in_range limit n h = ltb-true n limit (passed_by (ltb n limit) _ None h).0

module _ {Y : Type 0} (refused : Y → Option Refusal) (follows : Y → Y → Bool) where
  -- what one item that passes tells
  one : (room : ℕ) (last : Option Y) (y : Y) (ys : List Y) → items_refusal refused follows room last (y ∷ ys) ≡ None
      → (eqb room 0 ≡ false) × (refused y ≡ None) × (may_stand follows last y ≡ true) × (items_refusal refused follows (room - 1) (Some y) ys ≡ None)
  one room last y ys h =
      let over = passed_over (eqb room 0) _ _ h in
      let parts = both_none (refused y) _ over.1 in
      let on = passed_by (may_stand follows last y) _ (items_refusal refused follows (room - 1) (Some y) ys) parts.1 in
      (over.0, parts.0, on.0, on.1)

  few_from : (room : ℕ) (last : Option Y) (ys : List Y) → items_refusal refused follows room last ys ≡ None → length ys ≤ room
  few_from room last [] h = omega arith
  few_from room last (y ∷ ys) h =
      let o = one room last y ys h in
      let rest = few_from (room - 1) (Some y) ys o.3 in
      let free = o.0 in
      grind (arith, nat_tests)

  pub each_passes : (room : ℕ) (last : Option Y) (ys : List Y) → items_refusal refused follows room last ys ≡ None → (y : Y) → y ∈ ys → refused y ≡ None
  each_passes room last [] h y m = absurd m
  each_passes room last (z ∷ ys) h y (inl e) = ap refused e ∙ (one room last z ys h).1
  each_passes room last (z ∷ ys) h y (inr m) = each_passes (room - 1) (Some z) ys (one room last z ys h).3 y m

  -- items whose order is that of their numbers rise
  module _ {X : Type 0} (numbers : X → Y) (lt : X → X → Bool) (agree : (x y : X) → follows (numbers x) (numbers y) ≡ lt x y) where
    leading : (room : ℕ) (x : X) (xs : List X) → items_refusal refused follows room (Some (numbers x)) (map numbers xs) ≡ None → leads lt x xs ≡ true
    leading room x [] h = refl
    leading room x (y ∷ ys) h = sym (agree x y) ∙ (one room (Some (numbers x)) (numbers y) (map numbers ys) h).2

    pub rises : (room : ℕ) (last : Option Y) (xs : List X) → items_refusal refused follows room last (map numbers xs) ≡ None → rising lt xs ≡ true
    rises room last [] h = refl
    rises room last (x ∷ xs) h =
        let rest = (one room last (numbers x) (map numbers xs) h).3 in
        and_from (leads lt x xs) (rising lt xs) (leading (room - 1) x xs rest) (rises (room - 1) (Some (numbers x)) xs rest)

-- nothing refuses what can be listed
pub unrefused : {Y : Type 0} (refused : Y → Option Refusal) (follows : Y → Y → Bool) (limit : ℕ) (ys : List Y)
    → listable refused follows limit ys ≡ true → items_refusal refused follows limit None ys ≡ None
unrefused refused follows limit ys ok = none_from (items_refusal refused follows limit None ys) ok
  where
    none_from : (o : Option Refusal) → is_none o ≡ true → o ≡ None
    none_from None h = refl
    none_from (Some e) h = cc

pub few : {Y : Type 0} (refused : Y → Option Refusal) (follows : Y → Y → Bool) (limit : ℕ) (ys : List Y)
    → listable refused follows limit ys ≡ true → length ys ≤ limit
few refused follows limit ys ok = few_from refused follows limit None ys (unrefused refused follows limit ys ok)

pub each : {Y : Type 0} (refused : Y → Option Refusal) (follows : Y → Y → Bool) (limit : ℕ) (ys : List Y)
    → listable refused follows limit ys ≡ true → (y : Y) → y ∈ ys → refused y ≡ None
each refused follows limit ys ok = each_passes refused follows limit None ys (unrefused refused follows limit ys ok)

pub rise : {X Y : Type 0} (refused : Y → Option Refusal) (follows : Y → Y → Bool) (numbers : X → Y) (lt : X → X → Bool)
    → ((x y : X) → follows (numbers x) (numbers y) ≡ lt x y) → (limit : ℕ) (xs : List X)
    → listable refused follows limit (map numbers xs) ≡ true → rising lt xs ≡ true
rise refused follows numbers lt agree limit xs ok =
    rises refused follows numbers lt agree limit None xs (unrefused refused follows limit (map numbers xs) ok)
