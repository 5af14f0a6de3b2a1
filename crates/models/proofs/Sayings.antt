-- What the entries of a list say. Assumes nothing.
use Rattle.std.proofs.Common.{◌≡◌, ℕ, Bool, List, [], ◌∷◌, map, Decides, sym, arith}
use Rattle.std.proofs.lemmas.Bool.{true≢false}
use Rattle.std.proofs.lemmas.Bool.Decides.{Decides-and, Decides-at, Decides-eqb, Decides-like, Decides-or}
use Rattle.terms.specs.Lists.{◌∈◌}
use Rattle.models.specs.Facts.{fact_same}
use Rattle.models.specs.Listed.{fact_of, says}
use Rattle.models.specs.declared.entries.Entry.{Entry}
use Rattle.models.specs.declared.facts.Fact.{Fact}
use Rattle.models.specs.declared.facts.Fact.TheVariants.{In, Link}

pub same_decides : (f g : Fact) → Decides (fact_same f g) (f ≡ g)
same_decides (In A x) (In B y) =
    Decides-like _ (λ p. let a = p.0 in let b = p.1 in cc) (λ e. (let a : A ≡ B = cc in a, let b : x ≡ y = cc in b)) (Decides-and _ _ (Decides-eqb A B) (Decides-eqb x y))
same_decides (In A x) (Link r y z) = (λ h. absurd (true≢false (sym h)), λ e. let z : ◌≡◌ {A = ℕ} 0 1 = cc in absurd (omega arith))
same_decides (Link q u v) (In B y) = (λ h. absurd (true≢false (sym h)), λ e. let z : ◌≡◌ {A = ℕ} 0 1 = cc in absurd (omega arith))
same_decides (Link q u v) (Link r x y) =
    Decides-like _ (λ p. let a = p.0.0 in let b = p.0.1 in let d = p.1 in cc)
    (λ e. ((let a : q ≡ r = cc in a, let b : u ≡ x = cc in b), let d : v ≡ y = cc in d))
    (Decides-and _ _ (Decides-and _ _ (Decides-eqb q r) (Decides-eqb u x)) (Decides-eqb v y))

says_decides : (es : List Entry) (f : Fact) → Decides (says es f) (f ∈ map fact_of es)
says_decides [] f = (λ h. absurd (true≢false (sym h)), λ h. absurd h)
says_decides (e ∷ es) f = Decides-or _ _ (same_decides f e.fact) (says_decides es f)

pub said : (r : Bool) (es : List Entry) (f : Fact) → r ≡ says es f → Decides r (f ∈ map fact_of es)
said r es f e = Decides-at r (says es f) e (says_decides es f)
