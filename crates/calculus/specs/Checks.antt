-- Whether a step is entered, as a book finds it out: the checks in the order of their refusals, and the head that is gathered on the way. That a
-- step passes exactly when the rule yields its claim is proved. Assumes nothing.
use Rattle.std.specs.Prelude.{ℕ, ◌+◌, ◌-◌, Bool, cond, ◌&&◌, ltb, List, [], ◌∷◌, map, length, Some, None, Ok, Err, Option, Result, ◌==◌, nat_lt}
use Rattle.std.specs.List.{slice_get}
use Rattle.terms.specs.Lists.{contained, member, removal}
use Rattle.terms.specs.Literals.{literal_precedes}
use Rattle.terms.specs.Reaching.{reach_test}
use Rattle.terms.specs.Roles.{mirror}
use Rattle.terms.specs.declared.literals.Literal.{Literal}
use Rattle.terms.specs.declared.literals.Literal.TheVariants.{Concept, Exists, Forall}
use Rattle.terms.specs.declared.refusals.Refusal.{Refusal}
use Rattle.terms.specs.declared.refusals.Refusal.TheVariants.{BookOpen, ClaimDiffers, ClauseNotEntered, ContextNotOpened, CoreDiffers, HeadTooLong, LiteralAbsent, LiteralUnfit, MemoryTooShort, NoConceptAxiom, NoPlaceFree, OtherContext, PremisesMiscounted, RoleNotReached}
use Rattle.terms.specs.declared.roles.Role.{Role}
use Rattle.models.specs.Semantics.{Sentence, implies, under}
use Rattle.calculus.specs.Fronts.{first_apart, placed_all}
use Rattle.forms.specs.Limits.{clause_limit, head_limit}
use Rattle.calculus.specs.Limits.{scratch_needed}
use Rattle.calculus.specs.Register.{Clause, Register, inclusions, pairs, side_literal}
use Rattle.forms.specs.declared.sides.Side.{Side}

-- ---- chains of checks

-- go on with what was found, or stop at the refusal
abbrev pub and_then : {X Y : Type 0} → Result X Refusal → (X → Result Y Refusal) → Result Y Refusal
and_then (Ok x) f = f x
and_then (Err e) f = Err e

-- what is there, or a refusal
abbrev pub required : {X : Type 0} → Refusal → Option X → Result X Refusal
required e (Some x) = Ok x
required e None = Err e

-- nothing where the test passes, or a refusal
abbrev pub passes : Bool → Refusal → Result (Unit {0}) Refusal
passes b e = cond b (Ok tt) (Err e)

-- E reaches S, as the book's table tells
abbrev pub reaches_test : Register → ℕ → ℕ → Bool
reaches_test R E S = reach_test (inclusions R.axioms) E S

-- ---- what every step checks first, and last

-- the book is closed, the scratch is long enough, and a place for a clause is free
abbrev pub ready : Register → ℕ → Result (Unit {0}) Refusal
ready R scratch =
    and_then (passes R.closed BookOpen) (λ _. and_then (passes (nat_lt (scratch_needed - 1) scratch) (MemoryTooShort scratch_needed)) (λ _.
    passes (nat_lt (length R.clauses) clause_limit) (NoPlaceFree clause_limit)))

-- the core of V
abbrev pub core_of : Register → ℕ → Result (List ℕ) Refusal
core_of R V = required (ContextNotOpened V) (slice_get R.contexts V)

abbrev pub no_difference : Option ℕ → Result (Unit {0}) Refusal
no_difference None = Ok tt
no_difference (Some i) = Err (ClaimDiffers i)

-- the row is short enough for a head, and it is the claim
abbrev pub claimed : List Literal → List Literal → Result (Unit {0}) Refusal
claimed row claim = and_then (passes (nat_lt (length row) (head_limit + 1)) (HeadTooLong head_limit)) (λ _. no_difference (first_apart literal_precedes 0 row claim))

-- the head of premise i, which is to be a clause of V that has D
abbrev pub head_at : ℕ → ℕ → Literal → Clause → Result (List Literal) Refusal
head_at i V D c = and_then (passes (c.context == V) (OtherContext i c.context)) (λ _. and_then (passes (member literal_precedes D c.head) (LiteralAbsent i)) (λ _. Ok c.head))

abbrev pub premise_head : List Clause → ℕ → ℕ → ℕ → Literal → Result (List Literal) Refusal
premise_head clauses i V n D = and_then (required (ClauseNotEntered i n) (slice_get clauses n)) (head_at i V D)

-- ---- gathering a row

-- the row with what each of xs brings, where each passes its test; they are counted from i
abbrev pub walked : {X Y : Type 0} → (ℕ → X → Result Y Refusal) → (X → Y → List Literal) → ℕ → List X → List Literal → Result (List Literal) Refusal
walked test brings i [] row = Ok row
walked test brings i (x ∷ xs) row = and_then (test i x) (λ y. walked test brings (i + 1) xs (placed_all literal_precedes (brings x y) row))

-- ---- core

abbrev pub core_check : Register → ℕ → ℕ → ℕ → Result (Unit {0}) Refusal
core_check R scratch V A = and_then (ready R scratch) (λ _. and_then (core_of R V) (λ K. passes (member ltb A K) (CoreDiffers V)))

-- ---- hyper

-- an axiom's two sides, if it is a concept axiom
abbrev pub sides_of : Refusal → Option Sentence → Result (List ℕ × List Literal) Refusal
sides_of e None = Err e
sides_of e (Some (implies left right)) = Ok (left, right)
sides_of e (Some (under E S)) = Err e

-- premise i for the concept and the clause that stand at place i
abbrev pub premise_test : List Clause → ℕ → ℕ → (ℕ × ℕ) → Result (List Literal) Refusal
premise_test clauses V i p = premise_head clauses i V p.1 (Concept p.0)

abbrev pub premise_brings : (ℕ × ℕ) → List Literal → List Literal
premise_brings p H = removal literal_precedes (Concept p.0) H

abbrev pub gathered : List Clause → ℕ → List ℕ → List ℕ → List Literal → Result (List Literal) Refusal
gathered clauses V left premises row = walked (premise_test clauses V) premise_brings 0 (pairs left premises) row

-- there are as many premises as left concepts
abbrev pub counted : ℕ → ℕ → Result (Unit {0}) Refusal
counted premises left = passes (premises == left) (PremisesMiscounted premises left)

abbrev pub hyper_row : Register → ℕ → List ℕ → List ℕ → List Literal → Result (List Literal) Refusal
hyper_row R V left premises right =
    and_then (counted (length premises) (length left)) (λ _. gathered R.clauses V left premises (placed_all literal_precedes right []))

abbrev pub hyper_check : Register → ℕ → ℕ → ℕ → List ℕ → List Literal → Result (Unit {0}) Refusal
hyper_check R scratch V X premises claim =
    and_then (ready R scratch) (λ _. and_then (core_of R V) (λ _. and_then (sides_of (NoConceptAxiom X) (slice_get R.axioms X)) (λ s.
    and_then (hyper_row R V s.0 premises s.1) (λ row. claimed row claim))))

-- ---- pred

-- the head of a side's clause, if E reaches the side's role
abbrev pub side_head : Register → ℕ → ℕ → ℕ → Side → Result (List Literal) Refusal
side_head R i V E s =
    and_then (premise_head R.clauses i V s.clause (side_literal s)) (λ H. and_then (passes (reaches_test R E s.role.code) (RoleNotReached i)) (λ _. Ok H))

-- sides are counted from 1, after the first premise
abbrev pub side_test : Register → ℕ → ℕ → ℕ → Side → Result (List Literal) Refusal
side_test R V E i s = side_head R (i + 1) V E s

abbrev pub side_brings : Side → List Literal → List Literal
side_brings s H = removal literal_precedes (side_literal s) H

-- what the clauses of V give: the first premise without `some E A`, and each side without its own literal
abbrev pub near_row : Register → ℕ → ℕ → Role → ℕ → List Side → Result (List Literal) Refusal
near_row R V P E A sides =
    and_then (premise_head R.clauses 0 V P (Exists E A)) (λ H. walked (side_test R V E.code) side_brings 0 sides (placed_all literal_precedes (removal literal_precedes (Exists E A) H) []))

-- the concepts that the core of the far context is to be
abbrev pub core_named : ℕ → List Side → List ℕ
core_named A sides = A ∷ map (λ s. s.concept) sides

abbrev pub same_core : ℕ → List ℕ → List ℕ → Result (Unit {0}) Refusal
same_core U K names = passes (contained ltb K names && contained ltb names K) (CoreDiffers U)

-- the concept that literal i of the far head brings back
abbrev pub back_test : Register → ℕ → ℕ → Literal → Result ℕ Refusal
back_test R E i (Concept C) = Err (LiteralUnfit i)
back_test R E i (Exists T C) = Err (LiteralUnfit i)
back_test R E i (Forall T C) = and_then (passes (reaches_test R (mirror E) T.code) (LiteralUnfit i)) (λ _. Ok C)

abbrev pub back_brings : Literal → ℕ → List Literal
back_brings L C = Concept C ∷ []

-- the row with what the far clause brings back
abbrev pub far_row : Register → ℕ → ℕ → List Side → Clause → List Literal → Result (List Literal) Refusal
far_row R E A sides c row =
    and_then (required (CoreDiffers c.context) (slice_get R.contexts c.context)) (λ K. and_then (same_core c.context K (core_named A sides)) (λ _.
    walked (back_test R E) back_brings 0 c.head row))

abbrev pub pred_check : Register → ℕ → ℕ → ℕ → Role → ℕ → List Side → ℕ → List Literal → Result (Unit {0}) Refusal
pred_check R scratch V P E A sides Q claim =
    and_then (ready R scratch) (λ _. and_then (core_of R V) (λ _. and_then (near_row R V P E A sides) (λ row.
    and_then (required (ClauseNotEntered (length sides + 1) Q) (slice_get R.clauses Q)) (λ c. and_then (far_row R E.code A sides c row) (λ whole. claimed whole claim)))))
