-- What answers a question: concepts among literals, and the lowest clause. Assumes nothing.
use Rattle.std.proofs.Common.{◌≡◌, ℕ, ◌+◌, Bool, false, cond, ◌||◌, ltb, List, [], ◌∷◌, map, Some, Option, sym, refl, ap, ◌∙◌}
use Rattle.std.specs.List.{position_from}
use Rattle.terms.specs.Lists.{alike, member}
use Rattle.terms.specs.Literals.{literal_precedes}
use Rattle.terms.specs.declared.literals.Literal.{Literal}
use Rattle.terms.specs.declared.literals.Literal.TheVariants.{Concept, Exists, Forall}
use Rattle.terms.specs.declared.roles.Role.{Role}
use Rattle.calculus.specs.Register.{Register}
use Rattle.calculus.specs.Replies.{covering, lowest_clause}
use Rattle.book.specs.Contents.{clause_of}
use Rattle.book.specs.declared.clauses.Clause.{Clause}

concept_among : (a : ℕ) (ms : List ℕ) → member ltb a ms ≡ member literal_precedes (Concept a) (map Concept ms)
concept_among a [] = refl
concept_among a (m ∷ ms) = ap (λ (b : Bool). alike ltb a m || b) (concept_among a ms)

-- the same of a literal that is the concept a
pub among_as : (l : Literal) (a : ℕ) (ms : List ℕ) → l ≡ Concept a → member ltb a ms ≡ member literal_precedes l (map Concept ms)
among_as l a ms is = concept_among a ms ∙ ap (λ (k : Literal). member literal_precedes k (map Concept ms)) (sym is)

exists_not_among : (E : Role) (a : ℕ) (ms : List ℕ) → false ≡ member literal_precedes (Exists E a) (map Concept ms)
exists_not_among E a [] = refl
exists_not_among E a (m ∷ ms) = exists_not_among E a ms

forall_not_among : (E : Role) (a : ℕ) (ms : List ℕ) → false ≡ member literal_precedes (Forall E a) (map Concept ms)
forall_not_among E a [] = refl
forall_not_among E a (m ∷ ms) = forall_not_among E a ms

pub others_not_among : (l : Literal) (ms : List ℕ) → ((a : ℕ) → l ≡ Concept a → ⊥) → false ≡ member literal_precedes l (map Concept ms)
others_not_among (Concept a) ms other = absurd (other a refl)
others_not_among (Exists E a) ms other = exists_not_among E a ms
others_not_among (Forall E a) ms other = forall_not_among E a ms

pub lowest_position : (R : Register) (K M : List ℕ) (i : ℕ) (cs : List Clause) → position_from (λ c. covering R K M (clause_of c)) i cs ≡ lowest_clause R K M i (map clause_of cs)
lowest_position R K M i [] = refl
lowest_position R K M i (c ∷ cs) = ap (λ (o : Option ℕ). cond (covering R K M (clause_of c)) (Some i) o) (lowest_position R K M (i + 1) cs)
