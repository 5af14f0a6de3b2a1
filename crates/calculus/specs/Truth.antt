-- That the rules yield what is true: stated for any interpretation, finite or infinite.
use Rattle.std.specs.Prelude.{◌≡◌, ℕ, List, Some}
use Rattle.std.specs.List.{slice_get}
use Rattle.terms.specs.declared.literals.Literal.{Literal}
use Rattle.terms.specs.declared.roles.Role.{Role}
use Rattle.models.specs.Semantics.{Implies, Interpretation, Models}
use Rattle.calculus.specs.Register.{Core, Hyper, Pred, Register, Stands}
use Rattle.forms.specs.declared.sides.Side.{Side}

-- every clause holds over the core of its context
abbrev pub ClausesHold : Interpretation → Register → Type 0
ClausesHold I R = (n V : ℕ) (H : List Literal) (K : List ℕ) → Stands R n V H → slice_get R.contexts V ≡ Some K → Implies I K H

-- where an interpretation satisfies the axioms and every clause holds, so does what each rule yields, over the core of the step's context
pub record RulesHold (I : Interpretation) : Type 0 where
  pub core_holds : (R : Register) (V A : ℕ) (claim : List Literal) (K : List ℕ) → slice_get R.contexts V ≡ Some K → Core R V A claim → Implies I K claim
  pub hyper_holds : (R : Register) → Models I R.axioms → ClausesHold I R → (V X : ℕ) (premises : List ℕ) (claim : List Literal) (K : List ℕ)
      → slice_get R.contexts V ≡ Some K → Hyper R V X premises claim → Implies I K claim
  pub pred_holds : (R : Register) → Models I R.axioms → ClausesHold I R → (V P : ℕ) (E : Role) (A : ℕ) (sides : List Side) (Q : ℕ) (claim : List Literal) (K : List ℕ)
      → slice_get R.contexts V ≡ Some K → Pred R V P E A sides Q claim → Implies I K claim
