-- What the tests on lists, the join and the removal mean for sets, under a total order. Assumes nothing.
use Rattle.std.proofs.Common.{◌≡◌, ◌+◌, ◌≤◌, Bool, true, false, cond, ◌⊎◌, List, [], ◌∷◌, length, Decides, sym, refl, ◌∙◌, subst, inl, inr, ⊎_elim, arith}
use Rattle.std.proofs.lemmas.Bool.{and_parts, and_from, or_cases, or_left, or_right, both_ways, true≢false}
use Rattle.terms.specs.Lists.{◌∈◌, IsRemoval, IsUnion, SameItems, Subset, TotalOrder, alike, contained, equal, leads, member, removal, rising, union, union_from}
use Rattle.terms.specs.Positions.{alike_decides_sameness}

cons_same : {X : Type 0} {x y : X} {xs ys : List X} → x ≡ y → xs ≡ ys → (x ∷ xs) ≡ (y ∷ ys)
cons_same d e = cc

module _ {X : Type 0} (lt : X → X → Bool) where
  pub union_nil : (xs : List X) → union lt xs [] ≡ xs
  union_nil [] = refl
  union_nil (x ∷ xs) = refl

  pub rising_tail : (x : X) (xs : List X) → rising lt (x ∷ xs) ≡ true → rising lt xs ≡ true
  rising_tail x xs h = (and_parts _ _ h).1

  pub rising_leads : (x : X) (xs : List X) → rising lt (x ∷ xs) ≡ true → leads lt x xs ≡ true
  rising_leads x xs h = (and_parts _ _ h).0

  -- ---- the join has no other items, and those of the first list

  union_from_only : (z x : X) (xs : List X) (more : List X → List X) → ((ys : List X) → z ∈ more ys → (z ∈ xs) ⊎ (z ∈ ys)) → (ys : List X) → z ∈ union_from lt x xs more ys → (z ∈ (x ∷ xs)) ⊎ (z ∈ ys)
  union_from_only z x xs more ih [] h = inl h
  union_from_only z x xs more ih (y ∷ ys) h = go (union_from_only z x xs more ih ys) (lt x y) (lt y x) h
    where
      go : (z ∈ union_from lt x xs more ys → (z ∈ (x ∷ xs)) ⊎ (z ∈ ys)) → (a b : Bool) → z ∈ cond a (x ∷ more (y ∷ ys)) (cond b (y ∷ union_from lt x xs more ys) (x ∷ more ys)) → (z ∈ (x ∷ xs)) ⊎ (z ∈ (y ∷ ys))
      go rec true b (inl e) = inl (inl e)
      go rec true b (inr k) = ⊎_elim (λ p. inl (inr p)) (λ p. inr p) (ih (y ∷ ys) k)
      go rec false true (inl e) = inr (inl e)
      go rec false true (inr k) = ⊎_elim (λ p. inl p) (λ p. inr (inr p)) (rec k)
      go rec false false (inl e) = inl (inl e)
      go rec false false (inr k) = ⊎_elim (λ p. inl (inr p)) (λ p. inr (inr p)) (ih ys k)

  union_only : (z : X) (xs ys : List X) → z ∈ union lt xs ys → (z ∈ xs) ⊎ (z ∈ ys)
  union_only z [] ys h = inr h
  union_only z (x ∷ xs) ys h = union_from_only z x xs (union lt xs) (union_only z xs) ys h

  union_from_first : (z x : X) (xs : List X) (more : List X → List X) → ((ys : List X) → z ∈ xs → z ∈ more ys) → (ys : List X) → z ∈ (x ∷ xs) → z ∈ union_from lt x xs more ys
  union_from_first z x xs more ih [] h = h
  union_from_first z x xs more ih (y ∷ ys) h = go (union_from_first z x xs more ih ys h) (lt x y) (lt y x) h
    where
      go : z ∈ union_from lt x xs more ys → (a b : Bool) → z ∈ (x ∷ xs) → z ∈ cond a (x ∷ more (y ∷ ys)) (cond b (y ∷ union_from lt x xs more ys) (x ∷ more ys))
      go rec true b (inl e) = inl e
      go rec true b (inr k) = inr (ih (y ∷ ys) k)
      go rec false true k = inr rec
      go rec false false (inl e) = inl e
      go rec false false (inr k) = inr (ih ys k)

  union_first : (z : X) (xs ys : List X) → z ∈ xs → z ∈ union lt xs ys
  union_first z [] ys h = absurd h
  union_first z (x ∷ xs) ys h = union_from_first z x xs (union lt xs) (union_first z xs) ys h

  leads_union : (w : X) (xs ys : List X) → leads lt w xs ≡ true → leads lt w ys ≡ true → leads lt w (union lt xs ys) ≡ true
  leads_union w [] ys p q = q
  leads_union w (x ∷ xs) [] p q = p
  leads_union w (x ∷ xs) (y ∷ ys) p q = go (lt x y) (lt y x)
    where
      go : (a b : Bool) → leads lt w (cond a (x ∷ union lt xs (y ∷ ys)) (cond b (y ∷ union lt (x ∷ xs) ys) (x ∷ union lt xs ys))) ≡ true
      go true b = p
      go false true = q
      go false false = p

  -- ---- how long a join can be

  union_from_length : (x : X) (xs : List X) (more : List X → List X) → ((ys : List X) → length (more ys) ≤ length xs + length ys) → (ys : List X) → length (union_from lt x xs more ys) ≤ length (x ∷ xs) + length ys
  union_from_length x xs more ih [] = omega arith
  union_from_length x xs more ih (y ∷ ys) = go (union_from_length x xs more ih ys) (ih (y ∷ ys)) (ih ys) (lt x y) (lt y x)
    where
      go : length (union_from lt x xs more ys) ≤ length (x ∷ xs) + length ys → length (more (y ∷ ys)) ≤ length xs + length (y ∷ ys) → length (more ys) ≤ length xs + length ys → (a b : Bool) → length (cond a (x ∷ more (y ∷ ys)) (cond b (y ∷ union_from lt x xs more ys) (x ∷ more ys))) ≤ length (x ∷ xs) + length (y ∷ ys)
      go p q r true b = omega arith
      go p q r false true = omega arith
      go p q r false false = omega arith

  pub union_length : (xs ys : List X) → length (union lt xs ys) ≤ length xs + length ys
  union_length [] ys = omega arith
  union_length (x ∷ xs) ys = union_from_length x xs (union lt xs) (union_length xs) ys

  pub removal_length : (x : X) (xs : List X) → length (removal lt x xs) ≤ length xs
  removal_length x [] = omega arith
  removal_length x (y ∷ ys) = go (removal_length x ys) (alike lt x y)
    where
      go : length (removal lt x ys) ≤ length ys → (a : Bool) → length (cond a (removal lt x ys) (y ∷ removal lt x ys)) ≤ length (y ∷ ys)
      go p true = omega arith
      go p false = omega arith

  module _ (o : TotalOrder lt) where
    pub alike_same : (x y : X) → alike lt x y ≡ true → x ≡ y
    alike_same x y = (alike_decides_sameness lt o x y).0

    pub alike_refl : (x : X) → alike lt x x ≡ true
    alike_refl x = (alike_decides_sameness lt o x x).1 refl

    -- ---- membership and containment

    in_from_member : (x : X) (xs : List X) → member lt x xs ≡ true → x ∈ xs
    in_from_member x [] h = absurd (true≢false (sym h))
    in_from_member x (y ∷ ys) h =
        ⊎_elim (λ e. inl (alike_same x y e)) (λ e. inr (in_from_member x ys e)) (or_cases _ _ h)

    member_from_in : (x : X) (xs : List X) → x ∈ xs → member lt x xs ≡ true
    member_from_in x [] h = absurd h
    member_from_in x (y ∷ ys) (inl e) = or_left _ _ (subst (λ w. alike lt x w ≡ true) e (alike_refl x))
    member_from_in x (y ∷ ys) (inr h) = or_right _ _ (member_from_in x ys h)

    pub member_means : (r : Bool) (x : X) (xs : List X) → r ≡ member lt x xs → Decides r (x ∈ xs)
    member_means r x xs e = (λ h. in_from_member x xs (sym e ∙ h), λ h. e ∙ member_from_in x xs h)

    contained_subset : (xs ys : List X) → contained lt xs ys ≡ true → Subset xs ys
    contained_subset [] ys h z m = absurd m
    contained_subset (x ∷ xs) ys h z (inl e) = subst (λ w. w ∈ ys) (sym e) (in_from_member x ys (and_parts _ _ h).0)
    contained_subset (x ∷ xs) ys h z (inr m) = contained_subset xs ys (and_parts _ _ h).1 z m

    subset_contained : (xs ys : List X) → Subset xs ys → contained lt xs ys ≡ true
    subset_contained [] ys h = refl
    subset_contained (x ∷ xs) ys h =
        and_from _ _ (member_from_in x ys (h x (inl refl))) (subset_contained xs ys (λ z m. h z (inr m)))

    pub contained_means : (r : Bool) (xs ys : List X) → r ≡ contained lt xs ys → Decides r (Subset xs ys)
    contained_means r xs ys e = (λ h. contained_subset xs ys (sym e ∙ h), λ h. e ∙ subset_contained xs ys h)

    -- ---- the join

    union_from_second : (z x : X) (xs : List X) (more : List X → List X) → ((ys : List X) → z ∈ ys → z ∈ more ys) → (ys : List X) → z ∈ ys → z ∈ union_from lt x xs more ys
    union_from_second z x xs more ih [] h = absurd h
    union_from_second z x xs more ih (y ∷ ys) h = go (union_from_second z x xs more ih ys) (lt x y) (lt y x) refl refl h
      where
        go : (z ∈ ys → z ∈ union_from lt x xs more ys) → (a b : Bool) → lt x y ≡ a → lt y x ≡ b → z ∈ (y ∷ ys) → z ∈ cond a (x ∷ more (y ∷ ys)) (cond b (y ∷ union_from lt x xs more ys) (x ∷ more ys))
        go rec true b p q k = inr (ih (y ∷ ys) k)
        go rec false true p q (inl e) = inl e
        go rec false true p q (inr k) = inr (rec k)
        go rec false false p q (inl e) = inl (e ∙ sym (o.total x y p q))
        go rec false false p q (inr k) = inr (ih ys k)

    union_second : (z : X) (xs ys : List X) → z ∈ ys → z ∈ union lt xs ys
    union_second z [] ys h = h
    union_second z (x ∷ xs) ys h = union_from_second z x xs (union lt xs) (union_second z xs) ys h

    pub union_means : (xs ys : List X) → IsUnion xs ys (union lt xs ys)
    union_means xs ys z = (union_only z xs ys, ⊎_elim (union_first z xs ys) (union_second z xs ys))

    rising_union_from : (x : X) (xs : List X) → ((ys : List X) → rising lt ys ≡ true → rising lt (union lt xs ys) ≡ true) → rising lt (x ∷ xs) ≡ true → (ys : List X) → rising lt ys ≡ true → rising lt (union lt (x ∷ xs) ys) ≡ true
    rising_union_from x xs ih p [] q = p
    rising_union_from x xs ih p (y ∷ ys) q = go (rising_union_from x xs ih p ys) (lt x y) (lt y x) refl refl
      where
        go : (rising lt ys ≡ true → rising lt (union lt (x ∷ xs) ys) ≡ true) → (a b : Bool) → lt x y ≡ a → lt y x ≡ b → rising lt (cond a (x ∷ union lt xs (y ∷ ys)) (cond b (y ∷ union lt (x ∷ xs) ys) (x ∷ union lt xs ys))) ≡ true
        go rec true b d e = and_from _ _ (leads_union x xs (y ∷ ys) (rising_leads x xs p) d) (ih (y ∷ ys) q)
        go rec false true d e = and_from _ _ (leads_union y (x ∷ xs) ys e (rising_leads y ys q)) (rec (rising_tail y ys q))
        go rec false false d e =
            and_from _ _
            (leads_union x xs ys (rising_leads x xs p) (subst (λ w. leads lt w ys ≡ true) (sym (o.total x y d e)) (rising_leads y ys q)))
            (ih ys (rising_tail y ys q))

    pub rising_union : (xs ys : List X) → rising lt xs ≡ true → rising lt ys ≡ true → rising lt (union lt xs ys) ≡ true
    rising_union [] ys p q = q
    rising_union (x ∷ xs) ys p q = rising_union_from x xs (λ zs. rising_union xs zs (rising_tail x xs p)) p ys q

    -- ---- the removal

    removal_only : (x z : X) (xs : List X) → z ∈ removal lt x xs → (z ∈ xs) × (z ≡ x → ⊥)
    removal_only x z [] h = absurd h
    removal_only x z (y ∷ ys) h = go (removal_only x z ys) (alike lt x y) refl h
      where
        go : (z ∈ removal lt x ys → (z ∈ ys) × (z ≡ x → ⊥)) → (a : Bool) → alike lt x y ≡ a → z ∈ cond a (removal lt x ys) (y ∷ removal lt x ys) → (z ∈ (y ∷ ys)) × (z ≡ x → ⊥)
        go rec true p k = let q = rec k in (inr q.0, q.1)
        go rec false p (inl e) = (inl e, λ is. both_ways (alike lt x y) p (subst (λ w. alike lt x w ≡ true) (sym is ∙ e) (alike_refl x)))
        go rec false p (inr k) = let q = rec k in (inr q.0, q.1)

    removal_kept : (x z : X) (xs : List X) → z ∈ xs → (z ≡ x → ⊥) → z ∈ removal lt x xs
    removal_kept x z [] h n = absurd h
    removal_kept x z (y ∷ ys) h n = go (λ m. removal_kept x z ys m n) (alike lt x y) refl h
      where
        go : (z ∈ ys → z ∈ removal lt x ys) → (a : Bool) → alike lt x y ≡ a → z ∈ (y ∷ ys) → z ∈ cond a (removal lt x ys) (y ∷ removal lt x ys)
        go rec true p (inl e) = absurd (n (e ∙ sym (alike_same x y p)))
        go rec true p (inr k) = rec k
        go rec false p (inl e) = inl e
        go rec false p (inr k) = inr (rec k)

    pub removal_means : (x : X) (xs : List X) → IsRemoval x xs (removal lt x xs)
    removal_means x xs z = (removal_only x z xs, λ p. removal_kept x z xs p.0 p.1)

    -- the first item of a rising list stands before each other
    pub first_below : (x : X) (xs : List X) → rising lt (x ∷ xs) ≡ true → (z : X) → z ∈ xs → lt x z ≡ true
    first_below x [] h z m = absurd m
    first_below x (y ∷ ys) h z (inl e) = subst (λ w. lt x w ≡ true) (sym e) (rising_leads x (y ∷ ys) h)
    first_below x (y ∷ ys) h z (inr m) =
        o.transitive x y z (rising_leads x (y ∷ ys) h) (first_below y ys (rising_tail x (y ∷ ys) h) z m)

    leads_all : (x : X) (xs : List X) → ((z : X) → z ∈ xs → lt x z ≡ true) → leads lt x xs ≡ true
    leads_all x [] h = refl
    leads_all x (y ∷ ys) h = h y (inl refl)

    pub rising_removal : (x : X) (xs : List X) → rising lt xs ≡ true → rising lt (removal lt x xs) ≡ true
    rising_removal x [] h = refl
    rising_removal x (y ∷ ys) h = go (rising_removal x ys (rising_tail y ys h)) (alike lt x y)
      where
        go : rising lt (removal lt x ys) ≡ true → (a : Bool) → rising lt (cond a (removal lt x ys) (y ∷ removal lt x ys)) ≡ true
        go rec true = rec
        go rec false = and_from _ _ (leads_all y (removal lt x ys) (λ z m. first_below y ys h z (removal_only x z ys m).0)) rec

    -- ---- equality

    equal_same : (xs ys : List X) → equal lt xs ys ≡ true → xs ≡ ys
    equal_same [] [] h = refl
    equal_same [] (y ∷ ys) h = absurd (true≢false (sym h))
    equal_same (x ∷ xs) [] h = absurd (true≢false (sym h))
    equal_same (x ∷ xs) (y ∷ ys) h =
        cons_same (alike_same x y (and_parts _ _ h).0) (equal_same xs ys (and_parts _ _ h).1)

    equal_refl : (xs : List X) → equal lt xs xs ≡ true
    equal_refl [] = refl
    equal_refl (x ∷ xs) = and_from _ _ (alike_refl x) (equal_refl xs)

    pub equal_means : (r : Bool) (xs ys : List X) → r ≡ equal lt xs ys → Decides r (xs ≡ ys)
    equal_means r xs ys e = (λ h. equal_same xs ys (sym e ∙ h), λ h. e ∙ subst (λ l. equal lt xs l ≡ true) h (equal_refl xs))

    first_same : (x y : X) (xs ys : List X) → rising lt (x ∷ xs) ≡ true → rising lt (y ∷ ys) ≡ true → x ∈ (y ∷ ys) → y ∈ (x ∷ xs) → x ≡ y
    first_same x y xs ys p q (inl e) m = e
    first_same x y xs ys p q (inr l) (inl e) = sym e
    first_same x y xs ys p q (inr l) (inr m) = absurd (both_ways (lt x x) (o.irreflexive x) (o.transitive x y x (first_below x xs p y m) (first_below y ys q x l)))

    rest_subset : (x y : X) (xs ys : List X) → rising lt (x ∷ xs) ≡ true → x ≡ y → Subset (x ∷ xs) (y ∷ ys) → Subset xs ys
    rest_subset x y xs ys p e h z m = go (h z (inr m))
      where
        go : z ∈ (y ∷ ys) → z ∈ ys
        go (inl d) = absurd (both_ways (lt x x) (o.irreflexive x) (subst (λ w. lt x w ≡ true) (d ∙ sym e) (first_below x xs p z m)))
        go (inr l) = l

    -- a rising list is known by its items
    pub rising_same : (xs ys : List X) → rising lt xs ≡ true → rising lt ys ≡ true → Subset xs ys → Subset ys xs → xs ≡ ys
    rising_same [] [] p q h k = refl
    rising_same [] (y ∷ ys) p q h k = absurd (k y (inl refl))
    rising_same (x ∷ xs) [] p q h k = absurd (h x (inl refl))
    rising_same (x ∷ xs) (y ∷ ys) p q h k =
        let d : x ≡ y = first_same x y xs ys p q (h x (inl refl)) (k y (inl refl)) in
        cons_same d (rising_same xs ys (rising_tail x xs p) (rising_tail y ys q) (rest_subset x y xs ys p d h) (rest_subset y x ys xs q (sym d) k))

    pub equal_sets : (r : Bool) (xs ys : List X) → Decides r (xs ≡ ys) → rising lt xs ≡ true → rising lt ys ≡ true → Decides r (SameItems xs ys)
    equal_sets r xs ys d p q = (
      λ h z. (subst (λ l. z ∈ l) (d.0 h), subst (λ l. z ∈ l) (sym (d.0 h))),
      λ same. d.1 (rising_same xs ys p q (λ z. (same z).0) (λ z. (same z).1)),
    )
