-- What a form of the code says.
use Rattle.std.specs.Prelude.{ℕ, List, map, Result}
use Rattle.terms.specs.Shorts.{held}
use Rattle.terms.specs.declared.refusals.Refusal.{Refusal}
use Rattle.forms.specs.Items.{MadeOrRefused}
use Rattle.forms.specs.Numbers.{literal_numbers, side_numbers}
use Rattle.forms.specs.Statements.{Statement, ask_form, axiom_form, close_form, context_form, core_form, hyper_form, pred_form, refute_form, statement_refusal, under_form}
use Rattle.forms.specs.declared.formed.Form.{Form}
use Rattle.forms.specs.declared.formed.Form.TheVariants.{Ask, Axiom, Close, Context, Core, Hyper, Pred, Refute, Under}
use Rattle.forms.specs.declared.steps.Subsumption.{Subsumption}

-- what a form says
abbrev pub statement_of : Form → Statement
statement_of (Axiom a) = axiom_form (held a.left) (map literal_numbers (held a.right))
statement_of (Under E S) = under_form E.code S.code
statement_of Close = close_form
statement_of (Context K) = context_form (held K.list)
statement_of (Core s) = core_form s.context.number s.concept
statement_of (Hyper s) = hyper_form s.context.number s.axiom.number (map (λ n. n.number) (held s.premises.list)) (map literal_numbers (held s.claim.list))
statement_of (Pred s) =
    pred_form s.context.number s.first.number s.role.code s.concept (map side_numbers (held s.sides.list)) s.far.number (map literal_numbers (held s.claim.list))
statement_of (Ask s) = ask_form (held s.left.list) (held s.right.list)
statement_of (Refute s) = refute_form (held s.left.list) (held s.right.list)

-- the form says just this, which gets no refusal; or it is its refusal
abbrev pub FormOrRefusal : Statement → Result Form Refusal → Type 0
FormOrRefusal s r = MadeOrRefused statement_of statement_refusal s r

-- the concepts of the two sides of a subsumption, of which the left are looked at first
abbrev pub subsumption_numbers : Subsumption → List ℕ × List ℕ
subsumption_numbers s = (held s.left.list, held s.right.list)
