use Rattle.std.proofs.Common.{◌≡◌, [], sym, subst, rules}
use Rattle.calculus.specs.Events.{empty}
use Rattle.calculus.specs.Law.{Had, new}
use Rattle.calculus.specs.Register.{Register}
use Rattle.book.proofs.state.Book.new.Goals as goal

-- a book that holds nothing has the empty past
starts : (R : Register) → R ≡ empty → Had [] R
starts R is = subst (Had []) (sym is) new

pub returns : goal.returns
returns c = record { value = search rules; past = starts _ (search rules) }
