-- The register: what a book holds, in lists, and what the rules yield from it, in the words of sets. Nothing here speaks of refusals, of
-- memory, or of the order in which a book looks at things. Assumes nothing.
use Rattle.std.specs.Prelude.{◌≡◌, ℕ, ◌<◌, ◌≤◌, Bool, true, ◌⊎◌, ◌↔◌, List, [], ◌∷◌, length, Some, ◌≢◌}
use Rattle.std.specs.List.{slice_get}
use Rattle.terms.specs.Lists.{◌∈◌}
use Rattle.terms.specs.Reaching.{Inclusion, Reaches}
use Rattle.terms.specs.Roles.{mirror}
use Rattle.terms.specs.declared.literals.Literal.{Literal}
use Rattle.terms.specs.declared.literals.Literal.TheVariants.{Concept, Exists, Forall}
use Rattle.terms.specs.declared.roles.Role.{Role}
use Rattle.models.specs.Semantics.{Sentence, implies, under}
use Rattle.forms.specs.Limits.{clause_limit}
use Rattle.calculus.specs.Limits.{scratch_needed}
use Rattle.forms.specs.declared.sides.Side.{Side}

-- a clause: each element in all of the core of its context is in at least one literal of its head
pub record Clause : Type 0 where
  pub context : ℕ
  pub head : List Literal

-- what has been entered, each list numbered from 0 in the order of entry; a context is its core
pub record Register : Type 0 where
  pub closed : Bool
  pub axioms : List Sentence
  pub contexts : List (List ℕ)
  pub clauses : List Clause

-- the inclusions among the axioms
abbrev pub inclusions : List Sentence → List Inclusion
inclusions [] = []
inclusions (implies K H ∷ rest) = inclusions rest
inclusions (under E S ∷ rest) = (E, S) ∷ inclusions rest

-- E reaches S by the inclusions entered
abbrev pub LeadsTo : Register → ℕ → ℕ → Type 0
LeadsTo R E S = Reaches (inclusions R.axioms) E S

-- clause number n is of context V and has the head H
abbrev pub Stands : Register → ℕ → ℕ → List Literal → Type 0
Stands R n V H = slice_get R.clauses n ≡ Some (record { context = V; head = H })

-- the literals of the list are just those of which P holds
abbrev pub IsSet : List Literal → (Literal → Type 0) → Type 0
IsSet H P = (L : Literal) → (L ∈ H) ↔ P L

-- each item of the first list with the one of the second at its place
abbrev pub pairs : {X Y : Type 0} → List X → List Y → List (X × Y)
pairs [] ys = []
pairs (x ∷ xs) [] = []
pairs (x ∷ xs) (y ∷ ys) = (x, y) ∷ pairs xs ys

-- what every step needs: a closed register, room for one more clause, and scratch of the length that is asked for
pub record Ready (R : Register) (scratch : ℕ) : Type 0 where
  pub closed : R.closed ≡ true
  pub room : length R.clauses < clause_limit
  pub long : scratch_needed ≤ scratch

-- ---- core: A is in the core of V; the head is A alone

pub record Core (R : Register) (V A : ℕ) (claim : List Literal) : Type 0 where
  pub K : List ℕ
  pub context : slice_get R.contexts V ≡ Some K
  pub within : A ∈ K
  pub yields : IsSet claim (λ L. L ≡ Concept A)

-- ---- hyper: axiom X has left concepts, and for each of them there is a premise

-- clause n is a premise for the literal D: a clause of V that has D in its head H
pub record Premise (R : Register) (V n : ℕ) (D : Literal) (H : List Literal) : Type 0 where
  pub stands : Stands R n V H
  pub has : D ∈ H

-- premise i goes with left concept i; the head joins the right literals and each premise's head without its own concept
pub record Hyper (R : Register) (V X : ℕ) (premises : List ℕ) (claim : List Literal) : Type 0 where
  pub K : List ℕ
  pub context : slice_get R.contexts V ≡ Some K
  pub left : List ℕ
  pub right : List Literal
  pub listed : slice_get R.axioms X ≡ Some (implies left right)
  pub as_many : length premises ≡ length left
  pub each : (A n : ℕ) → (A, n) ∈ pairs left premises → (H : List Literal) × Premise R V n (Concept A) H
  pub yields : IsSet claim (λ L. (L ∈ right)
      ⊎ ((A n : ℕ) × (H : List Literal) × ((A, n) ∈ pairs left premises) × Premise R V n (Concept A) H × (L ∈ H) × (L ≢ Concept A)))

-- ---- pred: from `some E A` in clause P of V, through the sides, to clause Q of a context U, and back

-- the literal that a side names
abbrev pub side_literal : Side → Literal
side_literal s = Forall s.role s.concept

-- the side names a clause of V with that literal, and E reaches the side's role
pub record GoodSide (R : Register) (V : ℕ) (E : Role) (s : Side) (H : List Literal) : Type 0 where
  pub premise : Premise R V s.clause (side_literal s) H
  pub reached : LeadsTo R E.code s.role.code

-- the core of U is exactly the set of A and every side's concept; each literal of Q's head is `all T C` with the mirror of E reaching T; the
-- head joins P's head without `some E A`, each side's head without its own literal, and each C as a concept
pub record Pred (R : Register) (V P : ℕ) (E : Role) (A : ℕ) (sides : List Side) (Q : ℕ) (claim : List Literal) : Type 0 where
  pub J : List ℕ
  pub near : slice_get R.contexts V ≡ Some J
  pub H : List Literal
  pub first : Premise R V P (Exists E A) H
  pub each : (s : Side) → s ∈ sides → (G : List Literal) × GoodSide R V E s G
  pub U : ℕ
  pub far : List Literal
  pub far_stands : Stands R Q U far
  pub K : List ℕ
  pub context : slice_get R.contexts U ≡ Some K
  pub exact : (B : ℕ) → (B ∈ K) ↔ ((B ≡ A) ⊎ ((s : Side) × (s ∈ sides) × (B ≡ s.concept)))
  pub back : (L : Literal) → L ∈ far → (T : Role) × (C : ℕ) × (L ≡ Forall T C) × LeadsTo R (mirror E.code) T.code
  pub yields : IsSet claim (λ L. ((L ∈ H) × (L ≢ Exists E A))
      ⊎ (((s : Side) × (G : List Literal) × (s ∈ sides) × GoodSide R V E s G × (L ∈ G) × (L ≢ side_literal s))
      ⊎ ((T : Role) × (C : ℕ) × (Forall T C ∈ far) × (L ≡ Concept C))))
