-- One turn of the loop over the numbers of a list: what is left decides. Assumes nothing.
use Rattle.std.proofs.Common.{◌≡◌, ℕ, ◌+◌, ◌-◌, ◌<◌, ◌≤◌, Bool, true, false, eqb, List, [], ◌∷◌, ◌++◌, map, length, take, drop, get_or, Some, None, Option, refl, sym, ap, ◌∙◌, arith}
use Rattle.std.proofs.lemmas.List.{drop_all, get_or_push, length-append, length-map, length-take-le, take_more}
use Rattle.std.proofs.lemmas.Option.{slice_get-get_or, slice_get-map}
use Rattle.std.proofs.lemmas.Bool.{cond-false, cond-true, eq-eqb, ne_eqb}
use Rattle.std.specs.List.{slice_get}
use Rattle.std.specs.Option.{option_map}
use Rattle.terms.specs.declared.refusals.Refusal.{Refusal}
use Rattle.terms.specs.declared.refusals.Refusal.TheVariants.{NotRising, TooLong}
use Rattle.models.specs.Charts.{first_refusal}
use Rattle.forms.specs.Items.{items_refusal, may_stand}
use Rattle.terms.proofs.Turns.{drop_read}

pub first_some : (a b : Option Refusal) (e : Refusal) → a ≡ Some e → first_refusal a b ≡ Some e
first_some a b e h = ap (λ (o : Option Refusal). first_refusal o b) h

pub first_none : (a b : Option Refusal) → a ≡ None → first_refusal a b ≡ b
first_none a b h = ap (λ (o : Option Refusal). first_refusal o b) h

module _ {Y : Type 0} (refused : Y → Option Refusal) (follows : Y → Y → Bool) (room : ℕ) (last : Option Y) (us : List Y) (whole : Option Refusal) (way : items_refusal refused follows room last us ≡ whole) where
  pub at_end : us ≡ [] → whole ≡ None
  at_end none = sym way ∙ ap (items_refusal refused follows room last) none

  module _ (y : Y) (rest : List Y) (here : us ≡ y ∷ rest) where
    opened : whole ≡ items_refusal refused follows room last (y ∷ rest)
    opened = sym way ∙ ap (items_refusal refused follows room last) here

    pub too_many : eqb room 0 ≡ true → whole ≡ Some (TooLong 0)
    too_many full = opened ∙ cond-true _ _ _ full

    pub outside : (e : Refusal) → eqb room 0 ≡ false → refused y ≡ Some e → whole ≡ Some e
    outside e free out = opened ∙ cond-false _ _ _ free ∙ first_some _ _ e out

    pub falls : eqb room 0 ≡ false → refused y ≡ None → may_stand follows last y ≡ false → whole ≡ Some (NotRising 0)
    falls free inside low = opened ∙ cond-false _ _ _ free ∙ first_none _ _ inside ∙ cond-false _ _ _ low

    pub goes_on : eqb room 0 ≡ false → refused y ≡ None → may_stand follows last y ≡ true → items_refusal refused follows (room - 1) (Some y) rest ≡ whole
    goes_on free inside high = sym (opened ∙ cond-false _ _ _ free ∙ first_none _ _ inside ∙ cond-true _ _ _ high)

-- as many are held as were read
pub as_many : {X Y : Type 0} (f : X → Y) (held : List X) (xs : List Y) (i : ℕ) → i ≤ length xs → map f held ≡ take i xs → length held ≡ i
as_many f held xs i within same = sym (length-map held f) ∙ ap length same ∙ length-take-le i xs within

-- the last item, if there is one
abbrev pub ending : {Y : Type 0} → List Y → Option Y
ending ys = slice_get ys (length ys - 1)

pub ending_numbers : {X Y : Type 0} (f : X → Y) (last : Option X) (held : List X) (ys : List Y) → last ≡ ending held → map f held ≡ ys → option_map f last ≡ ending ys
ending_numbers f last held ys at same =
    ap (option_map f) at ∙ sym (slice_get-map f held (length held - 1)) ∙ ap (λ n. slice_get (map f held) (n - 1)) (sym (length-map held f)) ∙ ap ending same

ending_push : {Y : Type 0} (ys : List Y) (y : Y) → ending (ys ++ y ∷ []) ≡ Some y
ending_push ys y =
    let last : length (ys ++ y ∷ []) - 1 ≡ length ys = simp length-append (omega arith) in
    let within : length ys < length (ys ++ y ∷ []) = simp length-append (omega arith) in
    rw last (slice_get-get_or (ys ++ y ∷ []) (length ys) y within ∙ ap Some (get_or_push ys y y (length ys) refl))

module _ {Y : Type 0} (refused : Y → Option Refusal) (follows : Y → Y → Bool) (limit : ℕ) (stated : List Y) where
  abbrev whole : Option Refusal
  whole = items_refusal refused follows limit None stated

  -- what is left at i, after the items before it, decides
  abbrev pub Decided : ℕ → Type 0
  Decided i = items_refusal refused follows (limit - i) (ending (take i stated)) (drop i stated) ≡ items_refusal refused follows limit None stated

  module _ (i : ℕ) (left : Decided i) where
    pub ends_at : length stated ≤ i → whole ≡ None
    ends_at done = at_end refused follows _ _ _ _ left (drop_all i stated done)

    module _ (y : Y) (within : i < length stated) (read : y ≡ get_or stated i y) where
      next : drop i stated ≡ y ∷ drop (i + 1) stated
      next = drop_read stated i y within read

      pub full_at : limit ≤ i → whole ≡ Some (TooLong 0)
      full_at full = let none : limit - i ≡ 0 = omega arith in too_many refused follows _ _ _ _ left y _ next (eq-eqb _ _ none)

      module _ (room : i < limit) where
        free : eqb (limit - i) 0 ≡ false
        free = ne_eqb _ _ (λ (e : limit - i ≡ 0). omega arith)

        pub outside_at : (e : Refusal) → refused y ≡ Some e → whole ≡ Some e
        outside_at e out = outside refused follows _ _ _ _ left y _ next e free out

        pub falls_at : refused y ≡ None → may_stand follows (ending (take i stated)) y ≡ false → whole ≡ Some (NotRising 0)
        falls_at inside low = falls refused follows _ _ _ _ left y _ next free inside low

        pub goes_on_at : refused y ≡ None → may_stand follows (ending (take i stated)) y ≡ true → Decided (i + 1)
        goes_on_at inside high =
            let last : ending (take (i + 1) stated) ≡ Some y = ap ending (take_more stated i y within) ∙ ending_push (take i stated) (get_or stated i y) ∙ ap Some (sym read) in
            let less : limit - (i + 1) ≡ limit - i - 1 = omega arith in
            rw (last, less) (goes_on refused follows _ _ _ _ left y _ next free inside high)
