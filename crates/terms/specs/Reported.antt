-- A refusal is known by its number and its two values. Assumes nothing.
use Rattle.std.specs.Prelude.{◌≡◌, ℕ, Bool, cond, ◌&&◌, ◌==◌, Decides, refl}
use Rattle.std.proofs.Common.{sym, ap, ◌∙◌}
use Rattle.std.proofs.lemmas.Bool.{eqb-true, eq-eqb, and_parts, and_from}
use Rattle.terms.specs.declared.refusals.Refusal.{Refusal}
use Rattle.terms.specs.declared.refusals.Refusal.TheVariants.{WrongByte, OutOfRange, NotRising, TooLong, BookClosed, BookOpen, NoPlaceFree, ContextNotOpened, NoConceptAxiom, ClauseNotEntered, PremisesMiscounted, OtherContext, LiteralAbsent, RoleNotReached, CoreDiffers, LiteralUnfit, HeadTooLong, ClaimDiffers, SampleMisshapen, ElementOutside, AxiomFails, NoneContradicts, MemoryTooShort}
use Rattle.terms.specs.Refusals.{first_value, number, reported, second_value}

-- whether two refusals are reported alike
abbrev pub reported_alike : Refusal → Refusal → Bool
reported_alike x y = number x == number y && first_value x == first_value y && second_value x == second_value y

-- the refusal with a number and two values
refusal_reported : ℕ × ℕ × ℕ → Refusal
refusal_reported r =
    cond (r.0 == 1) (WrongByte r.1) (
    cond (r.0 == 2) (OutOfRange r.1) (
    cond (r.0 == 3) (NotRising r.1) (
    cond (r.0 == 4) (TooLong r.1) (
    cond (r.0 == 5) BookClosed (
    cond (r.0 == 6) BookOpen (
    cond (r.0 == 7) (NoPlaceFree r.1) (
    cond (r.0 == 8) (ContextNotOpened r.1) (
    cond (r.0 == 9) (NoConceptAxiom r.1) (
    cond (r.0 == 10) (ClauseNotEntered r.1 r.2) (
    cond (r.0 == 11) (PremisesMiscounted r.1 r.2) (
    cond (r.0 == 12) (OtherContext r.1 r.2) (
    cond (r.0 == 13) (LiteralAbsent r.1) (
    cond (r.0 == 14) (RoleNotReached r.1) (
    cond (r.0 == 15) (CoreDiffers r.1) (
    cond (r.0 == 16) (LiteralUnfit r.1) (
    cond (r.0 == 17) (HeadTooLong r.1) (
    cond (r.0 == 18) (ClaimDiffers r.1) (
    cond (r.0 == 19) (SampleMisshapen r.1) (
    cond (r.0 == 20) (ElementOutside r.1) (
    cond (r.0 == 21) (AxiomFails r.1 r.2) (
    cond (r.0 == 22) NoneContradicts (
    MemoryTooShort r.1))))))))))))))))))))))

refusal_reported-reported : (x : Refusal) → refusal_reported (reported x) ≡ x
unfolding refusal_reported
refusal_reported-reported (WrongByte a) = refl
refusal_reported-reported (OutOfRange a) = refl
refusal_reported-reported (NotRising a) = refl
refusal_reported-reported (TooLong a) = refl
refusal_reported-reported BookClosed = refl
refusal_reported-reported BookOpen = refl
refusal_reported-reported (NoPlaceFree a) = refl
refusal_reported-reported (ContextNotOpened a) = refl
refusal_reported-reported (NoConceptAxiom a) = refl
refusal_reported-reported (ClauseNotEntered a b) = refl
refusal_reported-reported (PremisesMiscounted a b) = refl
refusal_reported-reported (OtherContext a b) = refl
refusal_reported-reported (LiteralAbsent a) = refl
refusal_reported-reported (RoleNotReached a) = refl
refusal_reported-reported (CoreDiffers a) = refl
refusal_reported-reported (LiteralUnfit a) = refl
refusal_reported-reported (HeadTooLong a) = refl
refusal_reported-reported (ClaimDiffers a) = refl
refusal_reported-reported (SampleMisshapen a) = refl
refusal_reported-reported (ElementOutside a) = refl
refusal_reported-reported (AxiomFails a b) = refl
refusal_reported-reported NoneContradicts = refl
refusal_reported-reported (MemoryTooShort a) = refl

pub same_report : (x y : Refusal) → reported x ≡ reported y → x ≡ y
same_report x y e = sym (refusal_reported-reported x) ∙ ap refusal_reported e ∙ refusal_reported-reported y

pub reported_alike_decides : (x y : Refusal) → Decides (reported_alike x y) (x ≡ y)
reported_alike_decides x y = (
  λ h. let p = and_parts _ _ h in
      let q = and_parts _ _ p.0 in
      let a = eqb-true _ _ q.0 in
      let b = eqb-true _ _ q.1 in
      let c = eqb-true _ _ p.1 in
      same_report x y (λ i. (a i, b i, c i)),
  λ e. let same = λ (f : Refusal → ℕ). eq-eqb (f x) (f y) (ap f e) in
      and_from _ _ (and_from _ _ (same number) (same first_value)) (same second_value),
)
