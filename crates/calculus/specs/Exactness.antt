-- That the checks of a step pass exactly when the rule yields its claim. A claim rises and has at most 12 literals, as every claim in the code does.
use Rattle.std.specs.Prelude.{◌≡◌, ℕ, ◌≤◌, true, ◌↔◌, List, [], ◌∷◌, length, Ok}
use Rattle.terms.specs.Lists.{rising}
use Rattle.terms.specs.Literals.{literal_precedes}
use Rattle.terms.specs.declared.literals.Literal.{Literal}
use Rattle.terms.specs.declared.literals.Literal.TheVariants.{Concept}
use Rattle.terms.specs.declared.roles.Role.{Role}
use Rattle.calculus.specs.Checks.{core_check, hyper_check, pred_check}
use Rattle.forms.specs.Limits.{head_limit}
use Rattle.calculus.specs.Register.{Core, Hyper, Pred, Ready, Register}
use Rattle.forms.specs.declared.sides.Side.{Side}

abbrev pub IsClaim : List Literal → Type 0
IsClaim claim = (length claim ≤ head_limit) × (rising literal_precedes claim ≡ true)

pub record StepsExact : Type 0 where
  pub core_exact : (R : Register) (scratch V A : ℕ) → (core_check R scratch V A ≡ Ok tt) ↔ (Ready R scratch × Core R V A (Concept A ∷ []))
  pub hyper_exact : (R : Register) (scratch V X : ℕ) (premises : List ℕ) (claim : List Literal) → IsClaim claim
      → (hyper_check R scratch V X premises claim ≡ Ok tt) ↔ (Ready R scratch × Hyper R V X premises claim)
  pub pred_exact : (R : Register) (scratch V P : ℕ) (E : Role) (A : ℕ) (sides : List Side) (Q : ℕ) (claim : List Literal) → IsClaim claim
      → (pred_check R scratch V P E A sides Q claim ≡ Ok tt) ↔ (Ready R scratch × Pred R V P E A sides Q claim)
