-- How a sample is judged, as a computation over its meaning. That it agrees with the semantics is proved, and stands on `judge` and
-- `lowest_contradiction`. Assumes nothing.
use Rattle.std.specs.Prelude.{◌≡◌, ℕ, ◌+◌, Bool, true, false, cond, not, ◌&&◌, List, [], ◌∷◌, Some, None, Ok, Err, Option, Result}
use Rattle.std.specs.Fn.{AnyResult, Shared}
use Rattle.std.specs.List.{find, list_all, list_any, range_with_len}
use Rattle.terms.specs.Roles.{backwards, name_of}
use Rattle.terms.specs.declared.literals.Literal.{Literal}
use Rattle.terms.specs.declared.literals.Literal.TheVariants.{Concept, Exists, Forall}
use Rattle.terms.specs.declared.refusals.Refusal.{Refusal}
use Rattle.terms.specs.declared.refusals.Refusal.TheVariants.{AxiomFails}
use Rattle.models.specs.Meanings.{Meaning, element_in, fault_of, linked, refusal_of}
use Rattle.models.specs.Semantics.{Sentence, implies, under}
use Rattle.models.specs.declared.samples.Fault.{Fault}

-- the lowest number below n that passes
abbrev pub lowest : (ℕ → Bool) → ℕ → Option ℕ
lowest p n = find p (range_with_len 0 n)

-- (x, y) is a pair of the role code E
abbrev pub pair_test : Meaning → ℕ → ℕ → ℕ → Bool
pair_test m E x y = cond (backwards E) (linked m (name_of E) y x) (linked m (name_of E) x y)

-- some pair (x, y) of E has a y that passes
abbrev pub has_pair : Meaning → ℕ → ℕ → (ℕ → Bool) → Bool
has_pair m E x test = list_any (λ y. pair_test m E x y && test y) (range_with_len 0 m.size)

-- a call of f at a number answers what `test` gives
abbrev pub Computes : {F : Type 0} → Shared F (ℕ × Unit {0}) Bool → F → (ℕ → Bool) → Type 0
Computes g f test = (y : ℕ) → AnyResult g f (y, tt) (λ r. r ≡ test y)

-- (x, y) is a pair of E, and y is in A, or where `wanted` is false, not in A
abbrev pub filler_at : Meaning → ℕ → ℕ → Bool → ℕ → ℕ → Bool
filler_at m E A wanted x y = pair_test m E x y && cond wanted (element_in m A y) (not (element_in m A y))

-- some y is such
abbrev pub filler_test : Meaning → ℕ → ℕ → Bool → ℕ → Bool
filler_test m E A wanted x = list_any (filler_at m E A wanted x) (range_with_len 0 m.size)

abbrev pub literal_test : Meaning → ℕ → Literal → Bool
literal_test m x (Concept A) = element_in m A x
literal_test m x (Exists E A) = filler_test m E.code A true x
literal_test m x (Forall E A) = not (filler_test m E.code A false x)

-- x is in all the concepts; in some of the concepts; in some of the literals
abbrev pub all_test : Meaning → ℕ → List ℕ → Bool
all_test m x K = list_all (λ A. element_in m A x) K

abbrev pub any_test : Meaning → ℕ → List ℕ → Bool
any_test m x M = list_any (λ A. element_in m A x) M

abbrev pub some_test : Meaning → ℕ → List Literal → Bool
some_test m x H = list_any (literal_test m x) H

-- (x, y) is a pair of E and not one of S
abbrev pub missing_at : Meaning → ℕ → ℕ → ℕ → ℕ → Bool
missing_at m E S x y = pair_test m E x y && not (pair_test m S x y)

-- some y is such
abbrev pub missing_test : Meaning → ℕ → ℕ → ℕ → Bool
missing_test m E S x = list_any (missing_at m E S x) (range_with_len 0 m.size)

-- the sentence fails at x
abbrev pub fails_test : Meaning → Sentence → ℕ → Bool
fails_test m (implies K H) x = all_test m x K && not (some_test m x H)
fails_test m (under E S) x = missing_test m E S x

-- the lowest element at which the sentence fails
abbrev pub first_failure : Meaning → Sentence → Option ℕ
first_failure m s = lowest (fails_test m s) m.size

-- `rest` where the sentence number i fails nowhere, and else what it gets
abbrev pub judged_one : ℕ → Option ℕ → Result (Unit {0}) Refusal → Result (Unit {0}) Refusal
judged_one i (Some x) rest = Err (AxiomFails i x)
judged_one i None rest = rest

-- the sentences, numbered from i on, in order
abbrev pub judged_from : Meaning → ℕ → List Sentence → Result (Unit {0}) Refusal
judged_from m i [] = Ok tt
judged_from m i (s ∷ rest) = judged_one i (first_failure m s) (judged_from m (i + 1) rest)

-- `rest` where there is no fault
abbrev pub unless_fault : Option Fault → Result (Unit {0}) Refusal → Result (Unit {0}) Refusal
unless_fault (Some f) rest = Err (refusal_of f)
unless_fault None rest = rest

-- the verdict on a sample: its own fault, or the lowest sentence that fails and the lowest element at which it does, or none
abbrev pub verdict : Meaning → List Sentence → Result (Unit {0}) Refusal
verdict m sentences = unless_fault (fault_of m) (judged_from m 0 sentences)

-- x is in all of K and in none of M
abbrev pub contradicts_test : Meaning → List ℕ → List ℕ → ℕ → Bool
contradicts_test m K M x = all_test m x K && not (any_test m x M)

-- the lowest element that contradicts the subsumption
abbrev pub contradiction : Meaning → List ℕ → List ℕ → Option ℕ
contradiction m K M = lowest (contradicts_test m K M) m.size
