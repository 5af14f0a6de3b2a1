-- A walk whose row is kept in room that may be too small for it: the turns of its loop. Assumes nothing.
use Rattle.std.proofs.Common.{◌≡◌, ℕ, ◌+◌, List, [], ◌∷◌, Ok, Err, Result}
use Rattle.terms.specs.Literals.{literal_precedes}
use Rattle.terms.specs.declared.literals.Literal.{Literal}
use Rattle.terms.specs.declared.refusals.Refusal.{Refusal}
use Rattle.calculus.specs.Checks.{walked}
use Rattle.calculus.specs.Fronts.{placed_all}
use Rattle.calculus.proofs.Walks.{walk_ends, walk_on, walk_stops}
use Rattle.book.specs.Rows.{Keeps, RowIn}
use Rattle.book.specs.declared.rows.Row.{Row}

module _ {X Y : Type 0} (test : ℕ → X → Result Y Refusal) (brings : X → Y → List Literal) (all : List X) (before : Row) where
  -- the walk over what is left, from the row that is kept, comes to what the walk over all comes to from the row that was kept first
  abbrev pub Gathering : (now : Row) (i : ℕ) (us : List X) → Type 0
  Gathering now i us = (start : List Literal) → Keeps before start → (row : List Literal) × Keeps now row × (walked test brings i us row ≡ walked test brings 0 all start)

  module _ (now : Row) (i : ℕ) (us : List X) (way : Gathering now i us) where
    module _ (x : X) (rest : List X) (here : us ≡ x ∷ rest) where
      pub gather_on : (y : Y) (after : Row) → Ok y ≡ test i x → ((row : List Literal) → Keeps now row → Keeps after (placed_all literal_precedes (brings x y) row)) → Gathering after (i + 1) rest
      gather_on y after e put start k =
          let w = way start k in
          (placed_all literal_precedes (brings x y) w.0, put w.0 w.1, walk_on test brings us i w.0 _ w.2 x rest here y e)

      pub gather_stops : (after : Row) (e : Refusal) → Err e ≡ test i x → (start : List Literal) → Keeps before start → RowIn after (Err e) (walked test brings 0 all start)
      gather_stops after e h start k = let w = way start k in walk_stops test brings us i w.0 _ w.2 x rest here e h

    pub gather_ends : us ≡ [] → (start : List Literal) → Keeps before start → RowIn now (Ok tt) (walked test brings 0 all start)
    gather_ends none start k = let w = way start k in (w.0, walk_ends test brings us i w.0 _ w.2 none, w.1)
