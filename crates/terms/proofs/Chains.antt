-- The test of reach decides reach by chains, and does not depend on the order of the list. Assumes nothing.
use Rattle.std.proofs.Common.{◌≡◌, ℕ, ◌⊎◌, List, [], ◌∷◌, ◌++◌, Decides, sym, refl, ap, ◌∙◌, subst, inl, inr}
use Rattle.std.proofs.lemmas.Bool.Decides.{Decides-eqb, Decides-or, Decides-and, Decides-like, same_from_decides}
use Rattle.terms.specs.Lists.{◌∈◌, Subset}
use Rattle.terms.specs.Roles.{mirror}
use Rattle.terms.specs.Reaching.{Inclusion, Leads, listed, mirrored, Reaches, here, chain, way, both_ways_round, reach_test}
use Rattle.terms.specs.Codes.{mirror_twice}

-- a way along steps, each taken at most once
abbrev Way : List Inclusion → ℕ → ℕ → Type 0
Way [] E S = E ≡ S
Way (d ∷ ds) E S = Way ds E S ⊎ (Way ds E d.0 × Way ds d.1 S)

-- what is reached depends on what is listed alone
module _ {l k : List Inclusion} (all : Subset l k) where
  as_listed : {E F : ℕ} → Leads l E F → Leads k E F
  as_listed (listed m) = listed (all _ m)
  as_listed (mirrored m) = mirrored (all _ m)

  pub reaches_more : {E F : ℕ} → Reaches l E F → Reaches k E F
  reaches_more here = here
  reaches_more (chain s r) = chain (as_listed s) (reaches_more r)

on : {l : List Inclusion} {E F S : ℕ} → Reaches l E F → Reaches l F S → Reaches l E S
on here r = r
on (chain s q) r = chain s (on q r)

way_here : (ds : List Inclusion) (E : ℕ) → Way ds E E
way_here [] E = refl
way_here (d ∷ ds) E = inl (way_here ds E)

way_on : (ds : List Inclusion) (E F S : ℕ) → Way ds E F → Way ds F S → Way ds E S
way_on [] E F S p q = p ∙ q
way_on (d ∷ ds) E F S (inl p) (inl q) = inl (way_on ds E F S p q)
way_on (d ∷ ds) E F S (inl p) (inr q) = inr (way_on ds E F d.0 p q.0, q.1)
way_on (d ∷ ds) E F S (inr p) (inl q) = inr (p.0, way_on ds d.1 F S p.1 q)
way_on (d ∷ ds) E F S (inr p) (inr q) = inr (p.0, q.1)

way_first : (d : Inclusion) (ds : List Inclusion) → Way (d ∷ ds) d.0 d.1
way_first d ds = inr (way_here ds d.0, way_here ds d.1)

-- ---- a chain gives a way

listed_way : (l : List Inclusion) (E F : ℕ) → (E, F) ∈ l → Way (both_ways_round l) E F
listed_way [] E F m = absurd m
listed_way (d ∷ l) E F (inl e) =
    subst (λ (k : Inclusion). Way (both_ways_round (d ∷ l)) k.0 k.1) (sym e) (way_first d ((mirror d.0, mirror d.1) ∷ both_ways_round l))
listed_way (d ∷ l) E F (inr k) = inl (inl (listed_way l E F k))

mirrors_back : (d : Inclusion) (E F : ℕ) → ◌≡◌ {A = Inclusion} (mirror E, mirror F) d → ◌≡◌ {A = Inclusion} (mirror d.0, mirror d.1) (E, F)
mirrors_back d E F e = λ i. ((ap (λ (k : Inclusion). mirror k.0) (sym e) ∙ mirror_twice E) i, (ap (λ (k : Inclusion). mirror k.1) (sym e) ∙ mirror_twice F) i)

mirrored_way : (l : List Inclusion) (E F : ℕ) → (mirror E, mirror F) ∈ l → Way (both_ways_round l) E F
mirrored_way [] E F m = absurd m
mirrored_way (d ∷ l) E F (inl e) =
    inl (subst (λ (k : Inclusion). Way ((mirror d.0, mirror d.1) ∷ both_ways_round l) k.0 k.1) (mirrors_back d E F e) (way_first (mirror d.0, mirror d.1) (both_ways_round l)))
mirrored_way (d ∷ l) E F (inr k) = inl (inl (mirrored_way l E F k))

reaches_way : {l : List Inclusion} {E S : ℕ} → Reaches l E S → Way (both_ways_round l) E S
reaches_way {l} (here {E}) = way_here (both_ways_round l) E
reaches_way {l} (chain {E} {F} {S} (listed m) r) = way_on (both_ways_round l) E F S (listed_way l E F m) (reaches_way r)
reaches_way {l} (chain {E} {F} {S} (mirrored m) r) = way_on (both_ways_round l) E F S (mirrored_way l E F m) (reaches_way r)

-- ---- a way gives a chain

module _ (d : Inclusion) (l : List Inclusion) (in_rest : (E S : ℕ) → Way (both_ways_round l) E S → Reaches (d ∷ l) E S) where
  turned : Reaches (d ∷ l) (mirror d.0) (mirror d.1)
  turned = chain (mirrored (inl (λ i. (mirror_twice d.0 i, mirror_twice d.1 i)))) here

  low : (E S : ℕ) → Way ((mirror d.0, mirror d.1) ∷ both_ways_round l) E S → Reaches (d ∷ l) E S
  low E S (inl w) = in_rest E S w
  low E S (inr w) = on (in_rest E (mirror d.0) w.0) (on turned (in_rest (mirror d.1) S w.1))

  whole : (E S : ℕ) → Way (both_ways_round (d ∷ l)) E S → Reaches (d ∷ l) E S
  whole E S (inl w) = low E S w
  whole E S (inr w) = on (low E d.0 w.0) (chain (listed (inl refl)) (low d.1 S w.1))

way_reaches : (l : List Inclusion) (E S : ℕ) → Way (both_ways_round l) E S → Reaches l E S
way_reaches [] E S e = subst (Reaches [] E) e here
way_reaches (d ∷ l) E S w = whole d l (λ E S w. reaches_more (λ _ m. inr m) (way_reaches l E S w)) E S w

way_decided : (ds : List Inclusion) (E S : ℕ) → Decides (way ds E S) (Way ds E S)
way_decided [] E S = Decides-eqb E S
way_decided (d ∷ ds) E S = Decides-or _ _ (way_decided ds E S) (Decides-and _ _ (way_decided ds E d.0) (way_decided ds d.1 S))

pub reach_decided : (l : List Inclusion) (E S : ℕ) → Decides (reach_test l E S) (Reaches l E S)
reach_decided l E S = Decides-like _ (way_reaches l E S) reaches_way (way_decided (both_ways_round l) E S)

-- ---- an inclusion listed last counts as one listed first

last_in : (d : Inclusion) (l : List Inclusion) → d ∈ (l ++ d ∷ [])
last_in d [] = inl refl
last_in d (e ∷ l) = inr (last_in d l)

rest_in : (d : Inclusion) (l : List Inclusion) → Subset l (l ++ d ∷ [])
rest_in d [] c m = absurd m
rest_in d (e ∷ l) c (inl is) = inl is
rest_in d (e ∷ l) c (inr m) = inr (rest_in d l c m)

in_append : (d : Inclusion) (l : List Inclusion) → Subset (d ∷ l) (l ++ d ∷ [])
in_append d l c (inl is) = subst (λ (k : Inclusion). k ∈ (l ++ d ∷ [])) (sym is) (last_in d l)
in_append d l c (inr m) = rest_in d l c m

from_append : (d : Inclusion) (l : List Inclusion) → Subset (l ++ d ∷ []) (d ∷ l)
from_append d [] c m = m
from_append d (e ∷ l) c (inl is) = inr (inl is)
from_append d (e ∷ l) c (inr m) = go (from_append d l c m)
  where
    go : c ∈ (d ∷ l) → c ∈ (d ∷ e ∷ l)
    go (inl is) = inl is
    go (inr k) = inr (inr k)

pub listed_last : (l : List Inclusion) (d : Inclusion) (E S : ℕ) → reach_test (l ++ d ∷ []) E S ≡ reach_test (d ∷ l) E S
listed_last l d E S =
    same_from_decides _ _ (reach_decided (l ++ d ∷ []) E S)
    (Decides-like _ (reaches_more (in_append d l)) (reaches_more (from_append d l)) (reach_decided (d ∷ l) E S))
