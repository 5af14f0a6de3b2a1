-- A loop that tests each item and puts what it brings into a row: its turns, and what the row then has. Assumes nothing.
use Rattle.std.proofs.Common.{◌≡◌, ℕ, ◌+◌, true, ◌⊎◌, ◌↔◌, List, [], ◌∷◌, Ok, Err, Result, sym, refl, ap, ◌∙◌, subst, inl, inr, ⊎_elim}
use Rattle.terms.specs.Literals.{literal_precedes}
use Rattle.terms.specs.Lists.{◌∈◌, rising}
use Rattle.calculus.specs.Fronts.{placed_all}
use Rattle.terms.specs.declared.literals.Literal.{Literal}
use Rattle.terms.specs.Positions.{literal_order}
use Rattle.calculus.proofs.Placed.{placed_all_only, placed_all_old, placed_all_new, rising_placed_all}
use Rattle.calculus.specs.Checks.{and_then, walked}
use Rattle.terms.specs.declared.refusals.Refusal.{Refusal}
use Rattle.calculus.proofs.Passing.{and_then_ok, and_then_on, ok_same}

module _ {X Y : Type 0} (test : ℕ → X → Result Y Refusal) (brings : X → Y → List Literal) where
  -- ---- the turns

  module _ (us : List X) (i : ℕ) (row : List Literal) (o : Result (List Literal) Refusal) (so : walked test brings i us row ≡ o) where
    module _ (x : X) (rest : List X) (here : us ≡ x ∷ rest) where
      opened : walked test brings i (x ∷ rest) row ≡ o
      opened = ap (λ l. walked test brings i l row) (sym here) ∙ so

      pub walk_on : (y : Y) → Ok y ≡ test i x → walked test brings (i + 1) rest (placed_all literal_precedes (brings x y) row) ≡ o
      walk_on y e = ap (λ r. and_then r (λ z. walked test brings (i + 1) rest (placed_all literal_precedes (brings x z) row))) e ∙ opened

      pub walk_stops : (r : Refusal) → Err r ≡ test i x → Err r ≡ o
      walk_stops r e = ap (λ r. and_then r (λ z. walked test brings (i + 1) rest (placed_all literal_precedes (brings x z) row))) e ∙ opened

    pub walk_ends : us ≡ [] → Ok row ≡ o
    walk_ends h = sym (ap (λ l. walked test brings i l row) h) ∙ so

  -- ---- what it comes to

  pub walk_rises : (xs : List X) (i : ℕ) (row out : List Literal) → walked test brings i xs row ≡ Ok out → rising literal_precedes row ≡ true → rising literal_precedes out ≡ true
  walk_rises [] i row out h r = subst (λ l. rising literal_precedes l ≡ true) (ok_same h) r
  walk_rises (x ∷ xs) i row out h r =
      let s = and_then_ok (test i x) _ out h in
      walk_rises xs (i + 1) _ out s.2 (rising_placed_all literal_precedes literal_order (brings x s.0) row r)

  walk_kept : (xs : List X) (i : ℕ) (row out : List Literal) → walked test brings i xs row ≡ Ok out → (L : Literal) → (L ∈ row) → (L ∈ out)
  walk_kept [] i row out h L m = subst (λ (l : List Literal). L ∈ l) (ok_same h) m
  walk_kept (x ∷ xs) i row out h L m =
      let s = and_then_ok (test i x) _ out h in
      walk_kept xs (i + 1) _ out s.2 L (placed_all_old literal_precedes literal_order L (brings x s.0) row m)

  module _ (Good : X → Y → Type 0) (sound : (i : ℕ) (x : X) (y : Y) → test i x ≡ Ok y → Good x y) (complete : (i : ℕ) (x : X) (y : Y) → Good x y → test i x ≡ Ok y) where
    abbrev pub Brought : List X → Literal → Type 0
    Brought xs L = (x : X) × (y : Y) × (x ∈ xs) × Good x y × (L ∈ (brings x y))

    pub walk_each : (xs : List X) (i : ℕ) (row out : List Literal) → walked test brings i xs row ≡ Ok out → (x : X) → (x ∈ xs) → (y : Y) × Good x y
    walk_each [] i row out h x m = absurd m
    walk_each (w ∷ xs) i row out h x (inl e) = let s = and_then_ok (test i w) _ out h in (s.0, subst (λ z. Good z s.0) (sym e) (sound i w s.0 s.1))
    walk_each (w ∷ xs) i row out h x (inr m) = let s = and_then_ok (test i w) _ out h in walk_each xs (i + 1) _ out s.2 x m

    pub walk_out : (xs : List X) (i : ℕ) (row : List Literal) → ((x : X) → (x ∈ xs) → (y : Y) × Good x y) → (out : List Literal) × (walked test brings i xs row ≡ Ok out)
    walk_out [] i row each = (row, refl)
    walk_out (x ∷ xs) i row each =
        let p = each x (inl refl) in
        let rest = walk_out xs (i + 1) (placed_all literal_precedes (brings x p.0) row) (λ w m. each w (inr m)) in
        (rest.0, and_then_on (test i x) _ p.0 (complete i x p.0 p.1) ∙ rest.1)

    walk_only : (xs : List X) (i : ℕ) (row out : List Literal) → walked test brings i xs row ≡ Ok out → (L : Literal) → (L ∈ out) → (L ∈ row) ⊎ Brought xs L
    walk_only [] i row out h L m = inl (subst (λ (l : List Literal). L ∈ l) (sym (ok_same h)) m)
    walk_only (x ∷ xs) i row out h L m =
        let s = and_then_ok (test i x) _ out h in
        ⊎_elim
        (λ q. ⊎_elim (λ t. inr (x, s.0, inl refl, sound i x s.0 s.1, t)) inl (placed_all_only literal_precedes L (brings x s.0) row q))
        (λ a. inr (a.0, a.1, inr a.2, a.3, a.4))
        (walk_only xs (i + 1) _ out s.2 L m)

    walk_added : (xs : List X) (i : ℕ) (row out : List Literal) → walked test brings i xs row ≡ Ok out → (L : Literal) (x : X) (y : Y) → (x ∈ xs) → Good x y → (L ∈ (brings x y)) → (L ∈ out)
    walk_added [] i row out h L x y m g l = absurd m
    walk_added (w ∷ xs) i row out h L x y (inl e) g l =
        let s = and_then_ok (test i w) _ out h in
        let same : y ≡ s.0 = ok_same (sym (complete i w y (subst (λ z. Good z y) e g)) ∙ s.1) in
        walk_kept xs (i + 1) _ out s.2 L (placed_all_new literal_precedes literal_order L (brings w s.0) row (subst (λ (l : List Literal). L ∈ l) (ap (λ z. brings z y) e ∙ ap (brings w) same) l))
    walk_added (w ∷ xs) i row out h L x y (inr m) g l =
        let s = and_then_ok (test i w) _ out h in
        walk_added xs (i + 1) _ out s.2 L x y m g l

    -- the row has what it had, and what each item brings
    pub walk_has : (xs : List X) (i : ℕ) (row out : List Literal) → walked test brings i xs row ≡ Ok out → (L : Literal) → (L ∈ out) ↔ ((L ∈ row) ⊎ Brought xs L)
    walk_has xs i row out h L =
        (walk_only xs i row out h L, ⊎_elim (walk_kept xs i row out h L) (λ a. walk_added xs i row out h L a.0 a.1 a.2 a.3 a.4))
