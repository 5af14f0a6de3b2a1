-- What a book answers to each call, and what it then holds, as a computation. Assumes nothing.
use Rattle.std.specs.Prelude.{ℕ, ◌+◌, Bool, false, cond, not, ◌&&◌, ltb, List, [], ◌∷◌, map, length, Some, None, Ok, Err, Option, Result, nat_lt}
use Rattle.std.specs.List.{slice_get}
use Rattle.terms.specs.Lists.{contained}
use Rattle.terms.specs.Literals.{literal_precedes}
use Rattle.terms.specs.declared.literals.Literal.{Literal}
use Rattle.terms.specs.declared.literals.Literal.TheVariants.{Concept}
use Rattle.terms.specs.declared.refusals.Refusal.{Refusal}
use Rattle.terms.specs.declared.refusals.Refusal.TheVariants.{BookClosed, BookOpen, NoPlaceFree, NoneContradicts}
use Rattle.models.specs.Judging.{contradiction, verdict}
use Rattle.calculus.specs.Checks.{and_then, core_check, hyper_check, passes, pred_check}
use Rattle.calculus.specs.Events.{Event, ask, close, core, enter_axiom, enter_inclusion, grown, hyper, number, open_context, pred, refute}
use Rattle.forms.specs.Limits.{axiom_limit, context_limit}
use Rattle.calculus.specs.Register.{Clause, Register}
use Rattle.calculus.specs.declared.answers.Answer.{Answer}
use Rattle.calculus.specs.declared.answers.Answer.TheVariants.{Closed, Entered, Refuted, Shown, Unshown}

-- a list with a limit has a place free
abbrev pub room : ℕ → ℕ → Result (Unit {0}) Refusal
room used limit = passes (nat_lt used limit) (NoPlaceFree limit)

-- the event passes its checks
abbrev pub check : Register → Event → Result (Unit {0}) Refusal
check R (enter_axiom left right) = and_then (passes (not R.closed) BookClosed) (λ _. room (length R.axioms) axiom_limit)
check R (enter_inclusion E S) = and_then (passes (not R.closed) BookClosed) (λ _. room (length R.axioms) axiom_limit)
check R close = passes (not R.closed) BookClosed
check R (open_context K) = and_then (passes R.closed BookOpen) (λ _. room (length R.contexts) context_limit)
check R (core V A scratch) = core_check R scratch V A
check R (hyper V X premises claim scratch) = hyper_check R scratch V X premises claim
check R (pred V P E A sides Q claim scratch) = pred_check R scratch V P E A sides Q claim
check R (ask K M) = passes R.closed BookOpen
check R (refute K M sample) = and_then (passes R.closed BookOpen) (λ _. verdict sample R.axioms)

-- the clause's core is contained in K, and its head in M
abbrev pub covering_by : Option (List ℕ) → List Literal → List ℕ → List ℕ → Bool
covering_by None head K M = false
covering_by (Some core_concepts) head K M = contained ltb core_concepts K && contained literal_precedes head (map Concept M)

abbrev pub covering : Register → List ℕ → List ℕ → Clause → Bool
covering R K M c = covering_by (slice_get R.contexts c.context) c.head K M

-- the lowest of the clauses, counted from i, that covers the subsumption
abbrev pub lowest_clause : Register → List ℕ → List ℕ → ℕ → List Clause → Option ℕ
lowest_clause R K M i [] = None
lowest_clause R K M i (c ∷ cs) = cond (covering R K M c) (Some i) (lowest_clause R K M (i + 1) cs)

abbrev pub shown_by : Option ℕ → Result Answer Refusal
shown_by (Some n) = Ok (Shown n)
shown_by None = Ok Unshown

abbrev pub refuted_by : Option ℕ → Result Answer Refusal
refuted_by (Some x) = Ok (Refuted x)
refuted_by None = Err NoneContradicts

-- the answer to an event that passes
abbrev pub granted : Register → Event → Result Answer Refusal
granted R (enter_axiom left right) = Ok (Entered (number R (enter_axiom left right)))
granted R (enter_inclusion E S) = Ok (Entered (number R (enter_inclusion E S)))
granted R close = Ok Closed
granted R (open_context K) = Ok (Entered (number R (open_context K)))
granted R (core V A scratch) = Ok (Entered (number R (core V A scratch)))
granted R (hyper V X premises claim scratch) = Ok (Entered (number R (hyper V X premises claim scratch)))
granted R (pred V P E A sides Q claim scratch) = Ok (Entered (number R (pred V P E A sides Q claim scratch)))
granted R (ask K M) = shown_by (lowest_clause R K M 0 R.clauses)
granted R (refute K M sample) = refuted_by (contradiction sample K M)

abbrev pub reply : Register → Event → Result Answer Refusal
reply R e = and_then (check R e) (λ _. granted R e)

-- what is held where the check passed, and else as it was
abbrev pub held_after : Register → Register → Result (Unit {0}) Refusal → Register
held_after new old (Ok u) = new
held_after new old (Err e) = old

abbrev pub after : Register → Event → Register
after R e = held_after (grown R e) R (check R e)
