-- When chains of checks pass. Assumes nothing.
use Rattle.std.proofs.Common.{◌≡◌, ℕ, ◌≤◌, Bool, true, false, eqb, ltb, List, length, Some, None, Ok, Err, Option, Result, refl, ap, ◌∙◌, subst, arith}
use Rattle.std.proofs.lemmas.Bool.{cond-true, eq-eqb, eqb-true, lt-ltb, ltb-true}
use Rattle.std.specs.List.{slice_get}
use Rattle.terms.specs.Lists.{◌∈◌, member}
use Rattle.terms.specs.Literals.{literal_precedes}
use Rattle.terms.specs.declared.literals.Literal.{Literal}
use Rattle.terms.specs.declared.refusals.Refusal.{Refusal}
use Rattle.terms.specs.declared.refusals.Refusal.TheVariants.{BookOpen, ClauseNotEntered, HeadTooLong, LiteralAbsent, MemoryTooShort, NoPlaceFree, OtherContext}
use Rattle.terms.specs.Positions.{literal_order}
use Rattle.terms.proofs.Sets.{member_means}
use Rattle.models.specs.Semantics.{Sentence, implies, under}
use Rattle.calculus.specs.Checks.{and_then, claimed, head_at, no_difference, passes, premise_head, ready, required, sides_of}
use Rattle.calculus.specs.Fronts.{first_apart}
use Rattle.forms.specs.Limits.{clause_limit, head_limit}
use Rattle.calculus.specs.Limits.{scratch_needed}
use Rattle.calculus.specs.Register.{Ready, Register, Stands}
use Rattle.calculus.proofs.Placed.{apart_none_same, same_apart_none}

pub no_ok : {X A : Type 0} {e : Refusal} {x : X} → Err e ≡ Ok x → A
no_ok h = let z : ◌≡◌ {A = ℕ} 0 1 = cc in absurd (omega arith)

pub ok_same : {X : Type 0} {x y : X} → ◌≡◌ {A = Result X Refusal} (Ok x) (Ok y) → x ≡ y
ok_same h = cc

module _ {X Y : Type 0} where
  pub and_then_ok : (r : Result X Refusal) (f : X → Result Y Refusal) (y : Y) → and_then r f ≡ Ok y → (x : X) × (r ≡ Ok x) × (f x ≡ Ok y)
  and_then_ok (Ok x) f y h = (x, refl, h)
  and_then_ok (Err e) f y h = no_ok h

  pub and_then_on : (r : Result X Refusal) (f : X → Result Y Refusal) (x : X) → r ≡ Ok x → and_then r f ≡ f x
  and_then_on r f x e = ap (λ s. and_then s f) e

-- ---- single checks

pub passes_ok : (b : Bool) (e : Refusal) (u : Unit {0}) → passes b e ≡ Ok u → b ≡ true
passes_ok true e u h = refl
passes_ok false e u h = no_ok h

pub passes_yes : (b : Bool) (e : Refusal) → b ≡ true → passes b e ≡ Ok tt
passes_yes b e h = cond-true _ _ _ h

pub required_ok : {X : Type 0} (e : Refusal) (o : Option X) (x : X) → required e o ≡ Ok x → o ≡ Some x
required_ok e (Some y) x h = ap (λ z. Some z) (ok_same h)
required_ok e None x h = no_ok h

pub sides_ok : (e : Refusal) (o : Option Sentence) (s : List ℕ × List Literal) → sides_of e o ≡ Ok s → o ≡ Some (implies s.0 s.1)
sides_ok e None s h = no_ok h
sides_ok e (Some (implies left right)) s h = ap (λ (t : List ℕ × List Literal). Some (implies t.0 t.1)) (ok_same h)
sides_ok e (Some (under E S)) s h = no_ok h

-- ---- what every step checks

pub ready_ok : (R : Register) (scratch : ℕ) (u : Unit {0}) → ready R scratch ≡ Ok u → Ready R scratch
ready_ok R scratch u h =
    let a = and_then_ok (passes R.closed BookOpen) _ u h in
    let b = and_then_ok (passes (ltb 110 scratch) (MemoryTooShort scratch_needed)) _ u a.2 in
    record {
      closed = passes_ok R.closed BookOpen a.0 a.1;
      room = ltb-true _ _ (passes_ok (ltb (length R.clauses) clause_limit) (NoPlaceFree clause_limit) u b.2);
      long = omega (arith, ltb-true _ _ (passes_ok (ltb 110 scratch) (MemoryTooShort scratch_needed) b.0 b.1));
    }

pub ready_yes : (R : Register) (scratch : ℕ) → Ready R scratch → ready R scratch ≡ Ok tt
ready_yes R scratch k =
    let long = k.long in
    and_then_on (passes R.closed BookOpen) _ tt (passes_yes R.closed BookOpen k.closed)
    ∙ and_then_on (passes (ltb 110 scratch) (MemoryTooShort scratch_needed)) _ tt (passes_yes (ltb 110 scratch) (MemoryTooShort scratch_needed) (lt-ltb 110 scratch (omega arith)))
    ∙ passes_yes (ltb (length R.clauses) clause_limit) (NoPlaceFree clause_limit) (lt-ltb _ _ k.room)

pub difference_ok : (row claim : List Literal) (u : Unit {0}) → no_difference (first_apart literal_precedes 0 row claim) ≡ Ok u → row ≡ claim
difference_ok row claim u h = go (first_apart literal_precedes 0 row claim) refl h
  where
    go : (o : Option ℕ) → first_apart literal_precedes 0 row claim ≡ o → no_difference o ≡ Ok u → row ≡ claim
    go None e k = apart_none_same literal_precedes literal_order 0 row claim e
    go (Some i) e k = no_ok k

pub claimed_ok : (row claim : List Literal) (u : Unit {0}) → claimed row claim ≡ Ok u → row ≡ claim
claimed_ok row claim u h = let a = and_then_ok (passes (ltb (length row) 13) (HeadTooLong head_limit)) _ u h in difference_ok row claim u a.2

pub claimed_yes : (row claim : List Literal) → length claim ≤ head_limit → row ≡ claim → claimed row claim ≡ Ok tt
claimed_yes row claim few e =
    ap (λ l. claimed l claim) e
    ∙ and_then_on (passes (ltb (length claim) 13) (HeadTooLong head_limit)) _ tt (passes_yes (ltb (length claim) 13) (HeadTooLong head_limit) (lt-ltb (length claim) 13 (omega arith)))
    ∙ ap no_difference (same_apart_none literal_precedes literal_order 0 claim)

-- ---- a premise

module _ (R : Register) (i V n : ℕ) (D : Literal) (H : List Literal) where
  pub premise_ok : premise_head R.clauses i V n D ≡ Ok H → Stands R n V H × (D ∈ H)
  premise_ok h =
      let s = and_then_ok (required (ClauseNotEntered i n) (slice_get R.clauses n)) (head_at i V D) H h in
      let c = s.0 in
      let at = required_ok (ClauseNotEntered i n) (slice_get R.clauses n) c s.1 in
      let a = and_then_ok (passes (eqb c.context V) (OtherContext i c.context)) _ H s.2 in
      let b = and_then_ok (passes (member literal_precedes D c.head) (LiteralAbsent i)) _ H a.2 in
      let d : c.context ≡ V = eqb-true c.context V (passes_ok _ _ a.0 a.1) in
      let e : c.head ≡ H = ok_same b.2 in
      let m = (member_means literal_precedes literal_order (member literal_precedes D c.head) D c.head refl).0 (passes_ok _ _ b.0 b.1) in
      (at ∙ (λ j. Some (record { context = d j; head = e j })), subst (λ (l : List Literal). D ∈ l) e m)

  pub premise_yes : Stands R n V H → D ∈ H → premise_head R.clauses i V n D ≡ Ok H
  premise_yes at m =
      ap (λ o. and_then (required (ClauseNotEntered i n) o) (head_at i V D)) at
      ∙ and_then_on (passes (eqb V V) (OtherContext i V)) _ tt (passes_yes (eqb V V) (OtherContext i V) (eq-eqb V V refl))
      ∙ and_then_on (passes (member literal_precedes D H) (LiteralAbsent i)) _ tt (passes_yes (member literal_precedes D H) (LiteralAbsent i) ((member_means literal_precedes literal_order (member literal_precedes D H) D H refl).1 m))
