-- What concepts, roles, literals and axioms mean: the standard (OWL 2 Direct) semantics of the description logic ALCHI.
-- An interpretation may be finite or infinite, and its sets are arbitrary predicates. Assumes nothing.
use Rattle.std.specs.Prelude.{◌≡◌, ℕ, ◌<◌, Bool, true, false, List, map, Some}
use Rattle.std.specs.List.{slice_get}
use Rattle.terms.specs.Lists.{◌∈◌}
use Rattle.terms.specs.Roles.{backwards, name_of}
use Rattle.terms.specs.declared.literals.Literal.{Literal}
use Rattle.terms.specs.declared.literals.Literal.TheVariants.{Concept, Exists, Forall}

-- What a chart states.
pub data Sentence : Type 0 where
  -- a concept axiom: each element in all the left concepts is in at least one right literal
  implies : List ℕ → List Literal → Sentence
  -- a role inclusion: every pair of the first role code is a pair of the second
  under : ℕ → ℕ → Sentence

-- An interpretation: a non-empty set of whole numbers, the domain; a set of its elements for each concept; and a set of pairs of its
-- elements for each role name.
pub record Interpretation : Type 1 where
  pub domain : ℕ → Type 0
  pub concept : ℕ → ℕ → Type 0
  pub role : ℕ → ℕ → ℕ → Type 0
  pub not_empty : ∥ ((x : ℕ) × domain x) ∥₁
  pub concept_inside : (A x : ℕ) → concept A x → domain x
  pub role_inside : (r x y : ℕ) → role r x y → domain x × domain y

-- a set of pairs as it is, or turned round
abbrev pub turned : Bool → (ℕ → ℕ → Type 0) → ℕ → ℕ → Type 0
turned true pairs x y = pairs y x
turned false pairs x y = pairs x y

-- (x, y) is a pair of the role code E: a pair of its role name, turned round where E reads the name backwards
abbrev pub Pair : Interpretation → ℕ → ℕ → ℕ → Type 0
Pair I E x y = turned (backwards E) (I.role (name_of E)) x y

-- x is in the literal: in the concept; or has a pair of E whose second element is in A; or has only such pairs of E
abbrev pub IsIn : Interpretation → ℕ → Literal → Type 0
IsIn I x (Concept A) = I.concept A x
IsIn I x (Exists E A) = ∥ ((y : ℕ) × (Pair I E.code x y × I.concept A y)) ∥₁
IsIn I x (Forall E A) = (y : ℕ) → Pair I E.code x y → I.concept A y

-- x is in all the concepts K
abbrev pub InAll : Interpretation → ℕ → List ℕ → Type 0
InAll I x K = (A : ℕ) → A ∈ K → I.concept A x

-- x is in at least one of the literals H
abbrev pub InSome : Interpretation → ℕ → List Literal → Type 0
InSome I x H = ∥ ((L : Literal) × ((L ∈ H) × IsIn I x L)) ∥₁

-- each element in all of K is in at least one of H
abbrev pub Implies : Interpretation → List ℕ → List Literal → Type 0
Implies I K H = (x : ℕ) → I.domain x → InAll I x K → InSome I x H

-- the interpretation satisfies the sentence
abbrev pub Satisfies : Interpretation → Sentence → Type 0
Satisfies I (implies K H) = Implies I K H
Satisfies I (under E S) = (x y : ℕ) → Pair I E x y → Pair I S x y

-- it satisfies every sentence
abbrev pub Models : Interpretation → List Sentence → Type 0
Models I sentences = (s : Sentence) → s ∈ sentences → Satisfies I s

-- x is an element at which the sentence fails
abbrev pub FailsAt : Interpretation → ℕ → Sentence → Type 0
FailsAt I x (implies K H) = I.domain x × (InAll I x K × (InSome I x H → ⊥))
FailsAt I x (under E S) = ∥ ((y : ℕ) × (Pair I E x y × (Pair I S x y → ⊥))) ∥₁

-- sentence number i fails at x, at no lower element, and every sentence before it is satisfied
pub record LowestFailure (I : Interpretation) (sentences : List Sentence) (i x : ℕ) : Type 0 where
  pub sentence : Sentence
  pub listed : slice_get sentences i ≡ Some sentence
  pub fails : FailsAt I x sentence
  pub not_below : (y : ℕ) → y < x → FailsAt I y sentence → ⊥
  pub before : (k : ℕ) (s : Sentence) → k < i → slice_get sentences k ≡ Some s → Satisfies I s

-- the subsumption of K by M, both lists of concepts, holds as a concept axiom would
abbrev pub Subsumes : Interpretation → List ℕ → List ℕ → Type 0
Subsumes I K M = Implies I K (map Concept M)

-- x contradicts it: it is in all of K and in none of M
abbrev pub Contradicts : Interpretation → List ℕ → List ℕ → ℕ → Type 0
Contradicts I K M x = I.domain x × (InAll I x K × ((B : ℕ) → B ∈ M → I.concept B x → ⊥))

-- x contradicts it, and no lower element does
abbrev pub LowestContradiction : Interpretation → List ℕ → List ℕ → ℕ → Type 0
LowestContradiction I K M x = Contradicts I K M x × ((y : ℕ) → y < x → Contradicts I K M y → ⊥)

-- ---- interpretations whose sets are given by tests

pub record Tests : Type 0 where
  pub domain : ℕ → Bool
  pub concept : ℕ → ℕ → Bool
  pub role : ℕ → ℕ → ℕ → Bool
  pub element : ℕ
  pub not_empty : domain element ≡ true
  pub concept_inside : (A x : ℕ) → concept A x ≡ true → domain x ≡ true
  pub role_inside : (r x y : ℕ) → role r x y ≡ true → (domain x ≡ true) × (domain y ≡ true)

abbrev pub of_tests : Tests → Interpretation
of_tests S = record {
  domain = λ x. S.domain x ≡ true;
  concept = λ A x. S.concept A x ≡ true;
  role = λ r x y. S.role r x y ≡ true;
  not_empty = ∣ (S.element, S.not_empty) ∣₁;
  concept_inside = S.concept_inside;
  role_inside = S.role_inside;
}
