-- The inclusions among the axioms, once an axiom is added. Assumes nothing.
use Rattle.std.proofs.Common.{◌≡◌, ℕ, Bool, true, false, cond, List, [], ◌∷◌, ◌++◌, map, refl, ap, ◌∙◌}
use Rattle.std.proofs.lemmas.List.{map_push}
use Rattle.terms.specs.Reaching.{Inclusion}
use Rattle.terms.specs.declared.literals.Literal.{Literal}
use Rattle.terms.specs.declared.roles.Role.{Role}
use Rattle.models.specs.Charts.{sentence_of}
use Rattle.models.specs.Semantics.{Sentence, implies, under}
use Rattle.models.specs.declared.axioms.ConceptAxiom.{ConceptAxiom}
use Rattle.models.specs.declared.charts.Axiom.{Axiom}
use Rattle.models.specs.declared.charts.Axiom.TheVariants.{Implies, Under}
use Rattle.calculus.specs.Register.{inclusions}

after_under : (E S : ℕ) (xs : List Sentence) → inclusions (xs ++ under E S ∷ []) ≡ inclusions xs ++ (E, S) ∷ []
after_under E S [] = refl
after_under E S (implies K H ∷ xs) = after_under E S xs
after_under E S (under F T ∷ xs) = ap (λ (l : List Inclusion). (F, T) ∷ l) (after_under E S xs)

after_implies : (K : List ℕ) (H : List Literal) (xs : List Sentence) → inclusions (xs ++ implies K H ∷ []) ≡ inclusions xs
after_implies K H [] = refl
after_implies K H (implies J G ∷ xs) = after_implies K H xs
after_implies K H (under F T ∷ xs) = ap (λ (l : List Inclusion). (F, T) ∷ l) (after_implies K H xs)

pub inclusion_added : (E S : Role) (old new : List Axiom) → new ≡ old ++ Under E S ∷ [] → inclusions (map sentence_of new) ≡ inclusions (map sentence_of old) ++ (E.code, S.code) ∷ []
inclusion_added E S old new e = ap (λ (l : List Axiom). inclusions (map sentence_of l)) e ∙ ap inclusions (map_push sentence_of old (Under E S)) ∙ after_under E.code S.code (map sentence_of old)

-- an axiom that is taken, or not, is no inclusion
pub no_inclusion_added : (a : ConceptAxiom) (r : Bool) (old new : List Axiom) → new ≡ cond r (old ++ Implies a ∷ []) old → inclusions (map sentence_of new) ≡ inclusions (map sentence_of old)
no_inclusion_added a true old new e = ap (λ (l : List Axiom). inclusions (map sentence_of l)) e ∙ ap inclusions (map_push sentence_of old (Implies a)) ∙ after_implies _ _ (map sentence_of old)
no_inclusion_added a false old new e = ap (λ (l : List Axiom). inclusions (map sentence_of l)) e
