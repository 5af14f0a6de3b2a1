-- What a form says, in plain numbers: one constructor for each kind of form; and what keeps a form from being made of numbers. Assumes nothing.
use Rattle.std.specs.Prelude.{ℕ, List, None, Option}
use Rattle.terms.specs.Limits.{concepts, role_codes}
use Rattle.terms.specs.declared.refusals.Refusal.{Refusal}
use Rattle.models.specs.Charts.{first_refusal}
use Rattle.forms.specs.Items.{range_refusal}
use Rattle.forms.specs.Limits.{axiom_limit, clause_limit, context_limit, head_limit}
use Rattle.forms.specs.Numbers.{axiom_refusal, clauses_refusal, concepts_refusal, literals_refusal, sides_refusal}
use Rattle.forms.specs.declared.numbers.LiteralNumbers.{LiteralNumbers}
use Rattle.forms.specs.declared.numbers.SideNumbers.{SideNumbers}

pub data Statement : Type 0 where
  -- each element in all the left concepts is in at least one right literal
  axiom_form : (left : List ℕ) (right : List LiteralNumbers) → Statement
  -- every pair of the role code E is a pair of S
  under_form : (E S : ℕ) → Statement
  close_form : Statement
  -- a context with this core
  context_form : (core_concepts : List ℕ) → Statement
  -- the concept A of the core of context V
  core_form : (V A : ℕ) → Statement
  -- in context V, from axiom X and a premise for each of its left concepts
  hyper_form : (V X : ℕ) (premises : List ℕ) (claim : List LiteralNumbers) → Statement
  -- in context V, from `some E A` in clause P, the sides, and clause Q of the far context
  pred_form : (V P E A : ℕ) (sides : List SideNumbers) (Q : ℕ) (claim : List LiteralNumbers) → Statement
  -- the subsumption of K by M, for the clauses and for a sample
  ask_form : (K M : List ℕ) → Statement
  refute_form : (K M : List ℕ) → Statement

-- the numbers are looked at from the left, as a line would be read
abbrev pub statement_refusal : Statement → Option Refusal
statement_refusal (axiom_form left right) = axiom_refusal (left, right)
statement_refusal (under_form E S) = first_refusal (range_refusal role_codes E) (range_refusal role_codes S)
statement_refusal close_form = None
statement_refusal (context_form K) = concepts_refusal K
statement_refusal (core_form V A) = first_refusal (range_refusal context_limit V) (range_refusal concepts A)
statement_refusal (hyper_form V X premises claim) =
    first_refusal (range_refusal context_limit V) (first_refusal (range_refusal axiom_limit X) (first_refusal (clauses_refusal premises) (literals_refusal head_limit claim)))
statement_refusal (pred_form V P E A sides Q claim) =
    first_refusal (range_refusal context_limit V) (first_refusal (range_refusal clause_limit P) (first_refusal (range_refusal role_codes E) (first_refusal (range_refusal concepts A)
    (first_refusal (sides_refusal sides) (first_refusal (range_refusal clause_limit Q) (literals_refusal head_limit claim))))))
statement_refusal (ask_form K M) = first_refusal (concepts_refusal K) (concepts_refusal M)
statement_refusal (refute_form K M) = first_refusal (concepts_refusal K) (concepts_refusal M)
