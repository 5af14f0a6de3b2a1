-- Lists of items under an order `lt`, read as sets. Assumes nothing: what needs `lt` to be a total order says so.
use Rattle.std.specs.Prelude.{◌≡◌, Bool, true, false, cond, not, ◌&&◌, ◌||◌, ◌⊎◌, ◌↔◌, List, [], ◌∷◌, ◌≢◌}

infix 4 ◌∈◌
-- x is one of the items
abbrev pub ◌∈◌ : {X : Type 0} → X → List X → Type 0
x ∈ [] = ⊥
x ∈ (y ∷ ys) = (x ≡ y) ⊎ (x ∈ ys)

-- what every order owes: strict, and of two different items one stands before the other
pub record TotalOrder {X : Type 0} (lt : X → X → Bool) : Type 0 where
  pub irreflexive : (x : X) → lt x x ≡ false
  pub transitive : (x y z : X) → lt x y ≡ true → lt y z ≡ true → lt x z ≡ true
  pub total : (x y : X) → lt x y ≡ false → lt y x ≡ false → x ≡ y

-- neither stands before the other
abbrev pub alike : {X : Type 0} → (X → X → Bool) → X → X → Bool
alike lt x y = not (lt x y) && not (lt y x)

-- x stands before the first item, if there is one
abbrev pub leads : {X : Type 0} → (X → X → Bool) → X → List X → Bool
leads lt x [] = true
leads lt x (y ∷ ys) = lt x y

-- each item stands before the next
abbrev pub rising : {X : Type 0} → (X → X → Bool) → List X → Bool
rising lt [] = true
rising lt (x ∷ xs) = leads lt x xs && rising lt xs

-- some item is like x
abbrev pub member : {X : Type 0} → (X → X → Bool) → X → List X → Bool
member lt x [] = false
member lt x (y ∷ ys) = alike lt x y || member lt x ys

-- every item of the first list has its like in the second
abbrev pub contained : {X : Type 0} → (X → X → Bool) → List X → List X → Bool
contained lt [] ys = true
contained lt (x ∷ xs) ys = member lt x ys && contained lt xs ys

-- the two lists are alike, item by item
abbrev pub equal : {X : Type 0} → (X → X → Bool) → List X → List X → Bool
equal lt [] [] = true
equal lt [] (y ∷ ys) = false
equal lt (x ∷ xs) [] = false
equal lt (x ∷ xs) (y ∷ ys) = alike lt x y && equal lt xs ys

-- x ∷ xs joined with a list, where `more` joins xs with any list
abbrev pub union_from : {X : Type 0} → (X → X → Bool) → X → List X → (List X → List X) → List X → List X
union_from lt x xs more [] = x ∷ xs
union_from lt x xs more (y ∷ ys) = cond (lt x y) (x ∷ more (y ∷ ys)) (cond (lt y x) (y ∷ union_from lt x xs more ys) (x ∷ more ys))

-- the join of two lists: at each turn the lesser of the two first items, and one of them where they are alike
abbrev pub union : {X : Type 0} → (X → X → Bool) → List X → List X → List X
union lt [] ys = ys
union lt (x ∷ xs) ys = union_from lt x xs (union lt xs) ys

-- the list without the items like x
abbrev pub removal : {X : Type 0} → (X → X → Bool) → X → List X → List X
removal lt x [] = []
removal lt x (y ∷ ys) = cond (alike lt x y) (removal lt x ys) (y ∷ removal lt x ys)

-- ---- what these mean for sets

-- every item of xs is one of ys
abbrev pub Subset : {X : Type 0} → List X → List X → Type 0
Subset {X} xs ys = (z : X) → z ∈ xs → z ∈ ys

-- xs and ys have the same items
abbrev pub SameItems : {X : Type 0} → List X → List X → Type 0
SameItems {X} xs ys = (z : X) → (z ∈ xs) ↔ (z ∈ ys)

-- zs has the items of xs and those of ys, and no other
abbrev pub IsUnion : {X : Type 0} → List X → List X → List X → Type 0
IsUnion {X} xs ys zs = (z : X) → (z ∈ zs) ↔ ((z ∈ xs) ⊎ (z ∈ ys))

-- zs has the items of xs but for x
abbrev pub IsRemoval : {X : Type 0} → X → List X → List X → Type 0
IsRemoval {X} x xs zs = (z : X) → (z ∈ zs) ↔ ((z ∈ xs) × (z ≢ x))
