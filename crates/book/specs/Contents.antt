-- The phase and the clauses of a book as its register has them. Every contract on a book speaks of the register. Assumes nothing.
use Rattle.std.specs.Prelude.{Bool, true, false}
use Rattle.terms.specs.Shorts.{held}
use Rattle.calculus.specs.Register as register
use Rattle.book.specs.declared.clauses.Clause.{Clause}
use Rattle.book.specs.declared.clauses.Phase.{Phase}
use Rattle.book.specs.declared.clauses.Phase.TheVariants.{Open, Closed}

-- an open book takes axioms, a closed one what is drawn from them
abbrev pub is_closed : Phase → Bool
is_closed Open = false
is_closed Closed = true

-- the head is the list that is held
abbrev pub clause_of : Clause → register.Clause
clause_of c = record { context = c.context; head = held c.head }
