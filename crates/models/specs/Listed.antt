-- What a list of entries holds: each place of the memory that was lent, how many places are taken, and the size of the sample. Assumes nothing.
use Rattle.std.specs.Prelude.{ℕ, ◌+◌, min, Bool, cond, List, [], ◌∷◌, length, take, Some, None, Ok, Err, Option, Result, nat_lt, slice_set}
use Rattle.std.specs.List.{list_any}
use Rattle.terms.specs.declared.refusals.Refusal.{Refusal}
use Rattle.terms.specs.declared.refusals.Refusal.TheVariants.{ElementOutside, NoPlaceFree, SampleMisshapen}
use Rattle.models.specs.Charts.{first_refusal}
use Rattle.models.specs.Facts.{fact_same}
use Rattle.models.specs.Meanings.{Meaning, is_sample_size}
use Rattle.models.specs.declared.entries.Entry.{Entry}
use Rattle.models.specs.declared.facts.Fact.{Fact}
use Rattle.models.specs.declared.facts.Fact.TheVariants.{In, Link}
use Rattle.models.specs.declared.listed.List.{List as EntryList}

pub record Kept : Type 0 where
  pub memory : List Entry
  pub count : ℕ
  pub size : ℕ

abbrev pub contents : EntryList → Kept
contents l = record { memory = l.entries.now; count = l.count; size = l.size }

-- a new list: no entries, and one element
abbrev pub empty : List Entry → Kept
empty memory = record { memory = memory; count = 0; size = 1 }

-- at most 1,024 entries, or fewer where the memory is shorter
abbrev pub entry_limit : Kept → ℕ
entry_limit k = min 1024 (length k.memory)

-- what an answer is where nothing, or something, is refused
abbrev pub unless_refused : Option Refusal → Result (Unit {0}) Refusal
unless_refused None = Ok tt
unless_refused (Some e) = Err e

-- `after` where nothing is refused, and else as it was
abbrev pub changed_unless : Option Refusal → Kept → Kept → Kept
changed_unless None after before = after
changed_unless (Some e) after before = before

-- ---- starting again

abbrev pub start_refusal : ℕ → Option Refusal
start_refusal n = cond (is_sample_size n) None (Some (SampleMisshapen n))

-- counting from none again
abbrev pub started : Kept → ℕ → Kept
started k n = record { memory = k.memory; count = 0; size = n }

-- ---- adding an entry

-- the first element of the fact that is not below the size
abbrev pub outside : ℕ → Fact → Option ℕ
outside n (In A x) = cond (nat_lt x n) None (Some x)
outside n (Link r x y) = cond (nat_lt x n) (cond (nat_lt y n) None (Some y)) (Some x)

abbrev pub place_refusal : Kept → Option ℕ → Option Refusal
place_refusal k (Some x) = Some (ElementOutside x)
place_refusal k None = cond (nat_lt k.count (entry_limit k)) None (Some (NoPlaceFree (entry_limit k)))

-- an element outside comes before want of a place
abbrev pub add_refusal : Kept → Entry → Option Refusal
add_refusal k e = place_refusal k (outside k.size e.fact)

-- only the place after the last entry is written
abbrev pub added : Kept → Entry → Kept
added k e = record { memory = slice_set k.memory k.count e; count = k.count + 1; size = k.size }

-- ---- adding entries one by one

-- the first refusal, if an entry is refused
abbrev pub fill_refusal : Kept → List Entry → Option Refusal
fill_refusal k [] = None
fill_refusal k (e ∷ rest) = first_refusal (add_refusal k e) (fill_refusal (added k e) rest)

-- the list afterwards: the entries before the first that is refused are added
abbrev pub filled : Kept → List Entry → Kept
filled k [] = k
filled k (e ∷ rest) = changed_unless (add_refusal k e) (filled (added k e) rest) k

-- ---- what the list means

-- the entries that are held
abbrev pub held_entries : Kept → List Entry
held_entries k = take k.count k.memory

-- what an entry says
abbrev pub fact_of : Entry → Fact
fact_of e = e.fact

-- one of the entries says the fact
abbrev pub says : List Entry → Fact → Bool
says entries f = list_any (λ e. fact_same f e.fact) entries

abbrev pub list_meaning : Kept → Meaning
list_meaning k = record {
  fault = None;
  size = k.size;
  has_element = λ A x. says (held_entries k) (In A x);
  has_link = λ r x y. says (held_entries k) (Link r x y);
}
