-- The rows of the table of reach, and the ways along the inclusions. Assumes nothing.
use Rattle.std.proofs.Common.{◌≡◌, ℕ, ◌+◌, ◌^◌, ◌<◌, ◌≤◌, ◌&&◌, ◌||◌, List, [], ◌∷◌, ◌++◌, map, length, get_or, take, drop, set, sym, ap, ◌∙◌, subst, arith}
use Rattle.std.proofs.lemmas.List.Edits.{map_over_more}
use Rattle.std.proofs.lemmas.List.{get_or-map, get_or_default, length-map, take_all, drop_all, append-nil, length-append, take-append-drop}
use Rattle.terms.specs.Tables.{extend, stepped, weight}
use Rattle.terms.specs.Reaching.{Inclusion, both_ways_round, way}
use Rattle.terms.specs.Roles.{mirror}
use Rattle.terms.proofs.Chains.{listed_last}
use Rattle.terms.specs.Codes.{mirror_below}
use Rattle.terms.proofs.Bits.{one_weight, extended_weight}

-- the rows tell where a way leads
abbrev Tells : List ℕ → List Inclusion → Type 0
Tells rows ds = (E S : ℕ) → (E < 64) × (S < 64) → weight (get_or rows E 0) S ≡ way ds E S

one_step : (rows : List ℕ) → length rows ≡ 64 → (ds : List Inclusion) (e s : ℕ) → e < 64 → s < 64 → Tells rows ds → Tells (stepped rows e s) ((e, s) ∷ ds)
one_step rows n ds e s he hs t E S (hE, hS) =
    ap (λ w. weight w S) (get_or-map (extend e (get_or rows s 0)) rows E 0 0 (omega arith)) ∙ extended_weight (get_or rows E 0) (get_or rows s 0) e S
    ∙ ap (λ b. b || (weight (get_or rows E 0) e && weight (get_or rows s 0) S)) (t E S (hE, hS))
    ∙ ap (λ b. way ds E S || (b && weight (get_or rows s 0) S)) (t E e (hE, he))
    ∙ ap (λ b. way ds E S || (way ds E e && b)) (t s S (hs, hS))

abbrev Right : List ℕ → List Inclusion → Type 0
Right rows l = Tells rows (both_ways_round l)

pub included_by : (old mid new : List ℕ) (f t e s : ℕ) → length old ≡ 64 → e < 64 → s < 64 → f ≡ mirror e → t ≡ mirror s
    → mid ≡ stepped old f t → new ≡ stepped mid e s → (l : List Inclusion) → Right old l → Right new (l ++ (e, s) ∷ [])
included_by old mid new f t e s n he hs is_f is-t is-mid is-new l h E S b =
    let both : List ℕ = stepped old (mirror e) (mirror s) in
    let is : new ≡ stepped both e s = is-new ∙ ap (λ m. stepped m e s) (is-mid ∙ ap (λ k. stepped old k t) is_f ∙ ap (stepped old (mirror e)) is-t) in
    let first = one_step old n (both_ways_round l) (mirror e) (mirror s) (mirror_below e he) (mirror_below s hs) h in
    let m : length both ≡ 64 = length-map old _ ∙ n in
    ap (λ rows. weight (get_or rows E 0) S) is ∙ one_step both m ((mirror e, mirror s) ∷ both_ways_round l) e s he hs first E S b ∙ sym (listed_last l (e, s) E S)

pub fresh : (rows : List ℕ) → ((k : ℕ) → k < 64 → get_or rows k 0 ≡ 2 ^ k) → Right rows []
fresh rows f E S b = ap (λ w. weight w S) (f E b.0) ∙ one_weight E S

-- a loop that writes f w over each row w
module _ (f : ℕ → ℕ) (xs ys : List ℕ) (i : ℕ) (so : ys ≡ map f (take i xs) ++ drop i xs) where
  same : length ys ≡ length xs
  same = ap length so ∙ length-append (map f (take i xs)) (drop i xs) ∙ ap (λ n. n + length (drop i xs)) (length-map (take i xs) f)
      ∙ sym (length-append (take i xs) (drop i xs)) ∙ ap length (take-append-drop i xs)

  pub mapped_more : (v : ℕ) → i < length xs → v ≡ f (get_or ys i 0) → set ys i v ≡ map f (take (i + 1) xs) ++ drop (i + 1) xs
  mapped_more v h e = ap (set ys i) e ∙ map_over_more f xs ys i (get_or ys i 0) h so (get_or_default ys i 0 _ (subst (λ n. i < n) (sym same) h))

  pub mapped_all : length xs ≤ i → ys ≡ map f xs
  mapped_all h = so ∙ ap (λ l. map f l ++ drop i xs) (take_all i xs h) ∙ ap (λ l. map f xs ++ l) (drop_all i xs h) ∙ append-nil (map f xs)
