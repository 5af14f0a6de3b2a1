-- What a sample means: its fault if it has one, its size, and its facts as tests. A fact counts only between elements of the
-- domain, which are 0 to the size less 1. Assumes nothing.
use Rattle.std.specs.Prelude.{◌≡◌, ℕ, max, Bool, true, cond, ◌&&◌, None, Some, Option, nat_le, nat_lt}
use Rattle.std.proofs.Common.{arith}
use Rattle.std.proofs.lemmas.Bool.{and_parts, lt-ltb, ltb-true}
use Rattle.terms.specs.declared.refusals.Refusal.{Refusal}
use Rattle.terms.specs.declared.refusals.Refusal.TheVariants.{ElementOutside, SampleMisshapen}
use Rattle.models.specs.Semantics.{Interpretation, Tests, of_tests}
use Rattle.models.specs.declared.samples.Fault.{Fault}
use Rattle.models.specs.declared.samples.Fault.TheVariants.{Misshapen, Outside}

pub record Meaning : Type 0 where
  pub fault : Option Fault
  pub size : ℕ
  pub has_element : ℕ → ℕ → Bool
  pub has_link : ℕ → ℕ → ℕ → Bool

-- the refusal that a fault gets
abbrev pub refusal_of : Fault → Refusal
refusal_of (Misshapen size) = SampleMisshapen size
refusal_of (Outside row) = ElementOutside row

-- a sample has from 1 to 64 elements
abbrev pub is_sample_size : ℕ → Bool
is_sample_size n = nat_le 1 n && nat_le n 64

-- the fault of a size
abbrev pub fault_of_size : ℕ → Option Fault
fault_of_size n = cond (is_sample_size n) None (Some (Misshapen n))

-- a sample of another size has the fault that says so
abbrev pub fault_of : Meaning → Option Fault
fault_of m = cond (is_sample_size m.size) m.fault (Some (Misshapen m.size))

-- x is in the concept A
abbrev pub element_in : Meaning → ℕ → ℕ → Bool
element_in m A x = nat_lt x m.size && m.has_element A x

-- the role name r links x to y
abbrev pub linked : Meaning → ℕ → ℕ → ℕ → Bool
linked m r x y = nat_lt x m.size && nat_lt y m.size && m.has_link r x y

-- ---- the interpretation that a sample is

-- x is an element: a domain has at least one, and a sample without fault has as many as its size says
abbrev pub in_domain : Meaning → ℕ → Bool
in_domain m x = nat_lt x (max 1 m.size)

pub below_size : (n x : ℕ) → nat_lt x n ≡ true → nat_lt x (max 1 n) ≡ true
below_size n x h = lt-ltb x (max 1 n) (omega (arith, ltb-true x n h))

pub has_zero : (n : ℕ) → nat_lt 0 (max 1 n) ≡ true
has_zero n = lt-ltb 0 (max 1 n) (omega arith)

abbrev pub tests_of : Meaning → Tests
tests_of m = record {
  domain = in_domain m;
  concept = element_in m;
  role = linked m;
  element = 0;
  not_empty = has_zero m.size;
  concept_inside = λ A x h. below_size m.size x (and_parts _ _ h).0;
  role_inside = λ r x y h. let both = and_parts _ _ (and_parts _ _ h).0 in (below_size m.size x both.0, below_size m.size y both.1);
}

abbrev pub interpretation : Meaning → Interpretation
interpretation m = of_tests (tests_of m)
