-- What is in a row after items were put into it, under a total order. Assumes nothing.
use Rattle.std.proofs.Common.{◌≡◌, ℕ, ◌+◌, Bool, true, false, cond, ◌⊎◌, List, [], ◌∷◌, Some, None, sym, refl, ◌∙◌, subst, inl, inr, ⊎_elim, arith}
use Rattle.std.proofs.lemmas.Bool.{and_from, cond-true}
use Rattle.terms.specs.Lists.{◌∈◌, TotalOrder, alike, leads, rising}
use Rattle.calculus.specs.Fronts.{first_apart, placed, placed_all}
use Rattle.terms.proofs.Sets.{rising_tail, rising_leads, alike_refl, alike_same}

module _ {X : Type 0} (lt : X → X → Bool) where
  pub placed_only : (z x : X) (row : List X) → (z ∈ (placed lt x row)) → (z ≡ x) ⊎ (z ∈ row)
  placed_only z x [] h = h
  placed_only z x (y ∷ ys) h = go (lt x y) (lt y x) (placed_only z y ys) (placed_only z x ys) h
    where
      go : (a b : Bool) → ((z ∈ (placed lt y ys)) → (z ∈ (y ∷ ys))) → ((z ∈ (placed lt x ys)) → (z ∈ (x ∷ ys))) → (z ∈ (cond a (x ∷ placed lt y ys) (cond b (y ∷ placed lt x ys) (y ∷ ys)))) → (z ≡ x) ⊎ (z ∈ (y ∷ ys))
      go true b f g (inl e) = inl e
      go true b f g (inr k) = inr (f k)
      go false true f g (inl e) = inr (inl e)
      go false true f g (inr k) = ⊎_elim inl (λ p. inr (inr p)) (g k)
      go false false f g k = inr k

  pub placed_all_only : (z : X) (xs row : List X) → (z ∈ (placed_all lt xs row)) → (z ∈ xs) ⊎ (z ∈ row)
  placed_all_only z [] row h = inr h
  placed_all_only z (x ∷ xs) row h = ⊎_elim (λ k. inl (inr k)) (λ k. ⊎_elim (λ e. inl (inl e)) inr (placed_only z x row k)) (placed_all_only z xs (placed lt x row) h)

  leads_placed : (w x : X) (row : List X) → lt w x ≡ true → leads lt w row ≡ true → leads lt w (placed lt x row) ≡ true
  leads_placed w x [] p q = p
  leads_placed w x (y ∷ ys) p q = go (lt x y) (lt y x)
    where
      go : (a b : Bool) → leads lt w (cond a (x ∷ placed lt y ys) (cond b (y ∷ placed lt x ys) (y ∷ ys))) ≡ true
      go true b = p
      go false true = q
      go false false = q

  module _ (o : TotalOrder lt) where
    pub placed_new : (x : X) (row : List X) → (x ∈ (placed lt x row))
    placed_new x [] = inl refl
    placed_new x (y ∷ ys) = go (lt x y) (lt y x) refl refl (placed_new x ys)
      where
        go : (a b : Bool) → lt x y ≡ a → lt y x ≡ b → (x ∈ (placed lt x ys)) → (x ∈ (cond a (x ∷ placed lt y ys) (cond b (y ∷ placed lt x ys) (y ∷ ys))))
        go true b p q k = inl refl
        go false true p q k = inr k
        go false false p q k = inl (o.total x y p q)

    pub placed_old : (z x : X) (row : List X) → (z ∈ row) → (z ∈ (placed lt x row))
    placed_old z x [] h = absurd h
    placed_old z x (y ∷ ys) h = go (lt x y) (lt y x) (placed_old z y ys) (placed_old z x ys) (placed_new y ys) h
      where
        go : (a b : Bool) → ((z ∈ ys) → (z ∈ (placed lt y ys))) → ((z ∈ ys) → (z ∈ (placed lt x ys))) → (y ∈ (placed lt y ys)) → (z ∈ (y ∷ ys)) → (z ∈ (cond a (x ∷ placed lt y ys) (cond b (y ∷ placed lt x ys) (y ∷ ys))))
        go true b f g k (inl e) = inr (subst (λ w. (w ∈ (placed lt y ys))) (sym e) k)
        go true b f g k (inr m) = inr (f m)
        go false true f g k (inl e) = inl e
        go false true f g k (inr m) = inr (g m)
        go false false f g k m = m

    pub placed_all_old : (z : X) (xs row : List X) → (z ∈ row) → (z ∈ (placed_all lt xs row))
    placed_all_old z [] row h = h
    placed_all_old z (x ∷ xs) row h = placed_all_old z xs (placed lt x row) (placed_old z x row h)

    pub placed_all_new : (z : X) (xs row : List X) → (z ∈ xs) → (z ∈ (placed_all lt xs row))
    placed_all_new z [] row h = absurd h
    placed_all_new z (x ∷ xs) row (inl e) = placed_all_old z xs (placed lt x row) (subst (λ w. (w ∈ (placed lt x row))) (sym e) (placed_new x row))
    placed_all_new z (x ∷ xs) row (inr h) = placed_all_new z xs (placed lt x row) h

    leads_past : (w y : X) (ys : List X) → lt w y ≡ true → leads lt y ys ≡ true → leads lt w ys ≡ true
    leads_past w y [] p q = refl
    leads_past w y (z ∷ zs) p q = o.transitive w y z p q

    pub rising_placed : (x : X) (row : List X) → rising lt row ≡ true → rising lt (placed lt x row) ≡ true
    rising_placed x [] r = refl
    rising_placed x (y ∷ ys) r = go (lt x y) (lt y x) refl refl (rising_placed x ys (rising_tail lt y ys r)) (rising_placed y ys (rising_tail lt y ys r))
      where
        go : (a b : Bool) → lt x y ≡ a → lt y x ≡ b → rising lt (placed lt x ys) ≡ true → rising lt (placed lt y ys) ≡ true → rising lt (cond a (x ∷ placed lt y ys) (cond b (y ∷ placed lt x ys) (y ∷ ys))) ≡ true
        go true b p q f g = and_from _ _ (leads_placed x y ys p (leads_past x y ys p (rising_leads lt y ys r))) g
        go false true p q f g = and_from _ _ (leads_placed y x ys q (rising_leads lt y ys r)) f
        go false false p q f g = r

    pub rising_placed_all : (xs row : List X) → rising lt row ≡ true → rising lt (placed_all lt xs row) ≡ true
    rising_placed_all [] row r = r
    rising_placed_all (x ∷ xs) row r = rising_placed_all xs (placed lt x row) (rising_placed x row r)

    pub apart_none_same : (i : ℕ) (xs ys : List X) → first_apart lt i xs ys ≡ None → xs ≡ ys
    apart_none_same i [] [] h = refl
    apart_none_same i [] (y ∷ ys) h = let z : ◌≡◌ {A = ℕ} 0 1 = cc in absurd (omega arith)
    apart_none_same i (x ∷ xs) [] h = let z : ◌≡◌ {A = ℕ} 0 1 = cc in absurd (omega arith)
    apart_none_same i (x ∷ xs) (y ∷ ys) h = go (alike lt x y) refl h (apart_none_same (i + 1) xs ys)
      where
        go : (a : Bool) → alike lt x y ≡ a → cond a (first_apart lt (i + 1) xs ys) (Some i) ≡ None → (first_apart lt (i + 1) xs ys ≡ None → xs ≡ ys) → x ∷ xs ≡ y ∷ ys
        go true p k f = let d : x ≡ y = alike_same lt o x y p in let e : xs ≡ ys = f k in cc
        go false p k f = let z : ◌≡◌ {A = ℕ} 0 1 = cc in absurd (omega arith)

    pub same_apart_none : (i : ℕ) (xs : List X) → first_apart lt i xs xs ≡ None
    same_apart_none i [] = refl
    same_apart_none i (x ∷ xs) = cond-true _ _ _ (alike_refl lt o x) ∙ same_apart_none (i + 1) xs
