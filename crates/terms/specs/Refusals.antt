-- The number of each refusal, and the two values A and B that go with it, 0 where none is named. Assumes nothing.
use Rattle.std.specs.Prelude.{ℕ}
use Rattle.terms.specs.declared.refusals.Refusal.{Refusal}
use Rattle.terms.specs.declared.refusals.Refusal.TheVariants.{WrongByte, OutOfRange, NotRising, TooLong, BookClosed, BookOpen, NoPlaceFree, ContextNotOpened, NoConceptAxiom, ClauseNotEntered, PremisesMiscounted, OtherContext, LiteralAbsent, RoleNotReached, CoreDiffers, LiteralUnfit, HeadTooLong, ClaimDiffers, SampleMisshapen, ElementOutside, AxiomFails, NoneContradicts, MemoryTooShort}

-- a refusal as it is reported: its number, A and B
abbrev pub reported : Refusal → ℕ × ℕ × ℕ
reported (WrongByte offset) = (1, offset, 0)
reported (OutOfRange offset) = (2, offset, 0)
reported (NotRising offset) = (3, offset, 0)
reported (TooLong offset) = (4, offset, 0)
reported BookClosed = (5, 0, 0)
reported BookOpen = (6, 0, 0)
reported (NoPlaceFree limit) = (7, limit, 0)
reported (ContextNotOpened context) = (8, context, 0)
reported (NoConceptAxiom number) = (9, number, 0)
reported (ClauseNotEntered premise clause) = (10, premise, clause)
reported (PremisesMiscounted given needed) = (11, given, needed)
reported (OtherContext premise context) = (12, premise, context)
reported (LiteralAbsent premise) = (13, premise, 0)
reported (RoleNotReached premise) = (14, premise, 0)
reported (CoreDiffers context) = (15, context, 0)
reported (LiteralUnfit index) = (16, index, 0)
reported (HeadTooLong limit) = (17, limit, 0)
reported (ClaimDiffers index) = (18, index, 0)
reported (SampleMisshapen size) = (19, size, 0)
reported (ElementOutside element) = (20, element, 0)
reported (AxiomFails number element) = (21, number, element)
reported NoneContradicts = (22, 0, 0)
reported (MemoryTooShort needed) = (23, needed, 0)

abbrev pub number : Refusal → ℕ
number x = (reported x).0

abbrev pub first_value : Refusal → ℕ
first_value x = (reported x).1

abbrev pub second_value : Refusal → ℕ
second_value x = (reported x).2
