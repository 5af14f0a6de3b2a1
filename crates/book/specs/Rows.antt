-- What a row keeps, and what is put into it. Assumes nothing.
use Rattle.std.specs.Prelude.{◌≡◌, List, length, take, Some, None, Ok, Err, Option, Result}
use Rattle.terms.specs.Lists.{removal}
use Rattle.terms.specs.Literals.{literal_precedes}
use Rattle.terms.specs.declared.literals.Literal.{Literal}
use Rattle.terms.specs.declared.refusals.Refusal.{Refusal}
use Rattle.book.specs.declared.rows.Row.{Row}

-- the literals in the front of the memory
abbrev pub kept : Row → List Literal
kept r = take r.len r.memory.now

-- the row keeps these literals in this order, or as many of the first of them as it has room for
abbrev pub Keeps : Row → List Literal → Type 0
Keeps r row = kept r ≡ take (length r.memory.now) row

-- the list without the literal that is to go, if one is
abbrev pub spared : Option Literal → List Literal → List Literal
spared None xs = xs
spared (Some gone) xs = removal literal_precedes gone xs

-- the row keeps what is found, and a refusal is the same refusal
abbrev pub RowIn : Row → Result (Unit {0}) Refusal → Result (List Literal) Refusal → Type 0
RowIn r (Ok u) found = (row : List Literal) × (Ok row ≡ found) × Keeps r row
RowIn r (Err e) found = Err e ≡ found
