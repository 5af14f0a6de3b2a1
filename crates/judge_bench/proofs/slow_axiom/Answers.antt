use Rattle.std.proofs.Common.{◌≡◌, [], ◌∷◌, ◌∙◌, ap, sym, lit<}
use Rattle.terms.specs.Codes.{role_same}
use Rattle.terms.specs.declared.literals.Literal.{Literal}
use Rattle.terms.specs.declared.literals.Literal.TheVariants.{Forall}
use Rattle.models.specs.Charts.{sides_refusal}
use Rattle.models.specs.Semantics.{implies}
use Rattle.terms.specs.Roles.{role_of}
use Rattle.judge_bench.specs.Benching.{missing}
use Rattle.judge_bench.proofs.slow_axiom.Goals as goal

-- seven literals that are those of the slow axiom
same_right : (a b c d e f g : Literal) → a ≡ missing 0 (lit< tt) → b ≡ missing 1 (lit< tt) → c ≡ missing 2 (lit< tt) → d ≡ missing 3 (lit< tt) → e ≡ missing 4 (lit< tt) → f ≡ missing 5 (lit< tt) → g ≡ Forall (role_of 12 (lit< tt)) 0
    → a ∷ b ∷ c ∷ d ∷ e ∷ f ∷ g ∷ [] ≡ missing 0 (lit< tt) ∷ missing 1 (lit< tt) ∷ missing 2 (lit< tt) ∷ missing 3 (lit< tt) ∷ missing 4 (lit< tt) ∷ missing 5 (lit< tt) ∷ Forall (role_of 12 (lit< tt)) 0 ∷ []
same_right a b c d e f g p q r s t u v = λ i. p i ∷ q i ∷ r i ∷ s i ∷ t i ∷ u i ∷ v i ∷ []

pub returns-in_err-new-2 : goal.returns-in_err-new-2
returns-in_err-new-2 c =
    let last = ap (λ role. Forall role 0) (role_same c.in_ok-new.field-0 (role_of 12 (lit< tt)) c.in_ok-new.ensures) in
    let right = same_right _ _ _ _ _ _ _ (c.in_ok-missing.ensures (lit< tt)) (c.in_ok-missing-2.ensures (lit< tt)) (c.in_ok-missing-3.ensures (lit< tt)) (c.in_ok-missing-4.ensures (lit< tt)) (c.in_ok-missing-5.ensures (lit< tt)) (c.in_ok-missing-6.ensures (lit< tt)) last in
    let none = sym (ap (sides_refusal (0 ∷ 1 ∷ 2 ∷ 3 ∷ 4 ∷ 5 ∷ 6 ∷ 7 ∷ [])) right) ∙ c.in_err-new-2.ensures in
    cc

pub returns : goal.returns
returns c =
    let last = ap (λ role. Forall role 0) (role_same c.in_ok-new.field-0 (role_of 12 (lit< tt)) c.in_ok-new.ensures) in
    let right = same_right _ _ _ _ _ _ _ (c.in_ok-missing.ensures (lit< tt)) (c.in_ok-missing-2.ensures (lit< tt)) (c.in_ok-missing-3.ensures (lit< tt)) (c.in_ok-missing-4.ensures (lit< tt)) (c.in_ok-missing-5.ensures (lit< tt)) (c.in_ok-missing-6.ensures (lit< tt)) last in
    let sides = c.in_ok-new-2.ensures in
    let whole = sides.1 ∙ right in
    λ i. implies (sides.0 i) (whole i)
