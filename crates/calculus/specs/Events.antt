-- What a book is asked, when its register takes it, and what the register then is. All of it is drawn from the arguments of the calls. Assumes nothing.
use Rattle.std.specs.Prelude.{◌≡◌, ℕ, ◌<◌, true, false, List, [], ◌∷◌, ◌++◌, length, Some}
use Rattle.std.specs.List.{slice_get}
use Rattle.terms.specs.Lists.{◌∈◌, Subset}
use Rattle.terms.specs.declared.literals.Literal.{Literal}
use Rattle.terms.specs.declared.literals.Literal.TheVariants.{Concept}
use Rattle.terms.specs.declared.roles.Role.{Role}
use Rattle.models.specs.Meanings.{Meaning}
use Rattle.models.specs.Semantics.{Sentence, implies, under}
use Rattle.calculus.specs.Exactness.{IsClaim}
use Rattle.forms.specs.Limits.{axiom_limit, context_limit}
use Rattle.calculus.specs.Register.{Core, Hyper, Pred, Ready, Register, Stands}
use Rattle.forms.specs.declared.sides.Side.{Side}

-- a call; a step carries the length of the scratch that it is lent, and a refutation what its sample means
pub data Event : Type 0 where
  enter_axiom : (left : List ℕ) (right : List Literal) → Event
  enter_inclusion : (E S : Role) → Event
  close : Event
  open_context : (core_concepts : List ℕ) → Event
  core : (V A scratch : ℕ) → Event
  hyper : (V X : ℕ) (premises : List ℕ) (claim : List Literal) (scratch : ℕ) → Event
  pred : (V P : ℕ) (E : Role) (A : ℕ) (sides : List Side) (Q : ℕ) (claim : List Literal) (scratch : ℕ) → Event
  ask : (K M : List ℕ) → Event
  refute : (K M : List ℕ) (sample : Meaning) → Event

-- what the code's types already say of a call: claims rise, and have at most 12 literals
abbrev pub Well : Event → Type 0
Well (enter_axiom left right) = Unit {0}
Well (enter_inclusion E S) = Unit {0}
Well close = Unit {0}
Well (open_context K) = Unit {0}
Well (core V A scratch) = Unit {0}
Well (hyper V X premises claim scratch) = IsClaim claim
Well (pred V P E A sides Q claim scratch) = IsClaim claim
Well (ask K M) = Unit {0}
Well (refute K M sample) = Unit {0}

-- a new register is open and empty
abbrev pub empty : Register
empty = record { closed = false; axioms = []; contexts = []; clauses = [] }

-- the register adds, or closes: while open it takes axioms, inclusions and its closing, once closed contexts and steps; nothing joins a full list
abbrev pub Takes : Register → Event → Type 0
Takes R (enter_axiom left right) = (R.closed ≡ false) × (length R.axioms < axiom_limit)
Takes R (enter_inclusion E S) = (R.closed ≡ false) × (length R.axioms < axiom_limit)
Takes R close = R.closed ≡ false
Takes R (open_context K) = (R.closed ≡ true) × (length R.contexts < context_limit)
Takes R (core V A scratch) = Ready R scratch × Core R V A (Concept A ∷ [])
Takes R (hyper V X premises claim scratch) = Ready R scratch × Hyper R V X premises claim
Takes R (pred V P E A sides Q claim scratch) = Ready R scratch × Pred R V P E A sides Q claim
Takes R (ask K M) = ⊥
Takes R (refute K M sample) = ⊥

abbrev pub with_axiom : Register → Sentence → Register
with_axiom R s = record { closed = R.closed; axioms = R.axioms ++ s ∷ []; contexts = R.contexts; clauses = R.clauses }

abbrev pub with_clause : Register → ℕ → List Literal → Register
with_clause R V head = record { closed = R.closed; axioms = R.axioms; contexts = R.contexts; clauses = R.clauses ++ record { context = V; head = head } ∷ [] }

-- the register after an event that it takes
abbrev pub grown : Register → Event → Register
grown R (enter_axiom left right) = with_axiom R (implies left right)
grown R (enter_inclusion E S) = with_axiom R (under E.code S.code)
grown R close = record { closed = true; axioms = R.axioms; contexts = R.contexts; clauses = R.clauses }
grown R (open_context K) = record { closed = R.closed; axioms = R.axioms; contexts = R.contexts ++ K ∷ []; clauses = R.clauses }
grown R (core V A scratch) = with_clause R V (Concept A ∷ [])
grown R (hyper V X premises claim scratch) = with_clause R V claim
grown R (pred V P E A sides Q claim scratch) = with_clause R V claim
grown R (ask K M) = R
grown R (refute K M sample) = R

-- the number that what an event enters gets, and whether it enters something
abbrev pub number : Register → Event → ℕ
number R (enter_axiom left right) = length R.axioms
number R (enter_inclusion E S) = length R.axioms
number R close = 0
number R (open_context K) = length R.contexts
number R (core V A scratch) = length R.clauses
number R (hyper V X premises claim scratch) = length R.clauses
number R (pred V P E A sides Q claim scratch) = length R.clauses
number R (ask K M) = 0
number R (refute K M sample) = 0

abbrev pub Enters : Event → Type 0
Enters (enter_axiom left right) = Unit {0}
Enters (enter_inclusion E S) = Unit {0}
Enters close = ⊥
Enters (open_context K) = Unit {0}
Enters (core V A scratch) = Unit {0}
Enters (hyper V X premises claim scratch) = Unit {0}
Enters (pred V P E A sides Q claim scratch) = Unit {0}
Enters (ask K M) = ⊥
Enters (refute K M sample) = ⊥

-- clause number n strengthens the subsumption of K by M: its core is contained in K, and each literal of its head is a concept of M
pub record Strengthens (R : Register) (K M : List ℕ) (n : ℕ) : Type 0 where
  pub V : ℕ
  pub head : List Literal
  pub core_concepts : List ℕ
  pub stands : Stands R n V head
  pub context : slice_get R.contexts V ≡ Some core_concepts
  pub asks_less : Subset core_concepts K
  pub gives_more : (L : Literal) → L ∈ head → (B : ℕ) × ((L ≡ Concept B) × (B ∈ M))
