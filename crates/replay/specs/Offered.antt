-- What a book holds once the forms are offered in their order, with a sample that means m. Assumes nothing.
use Rattle.std.specs.Prelude.{List, [], ◌∷◌}
use Rattle.models.specs.Meanings.{Meaning}
use Rattle.forms.specs.declared.formed.Form.{Form}
use Rattle.calculus.specs.Limits.{scratch_needed}
use Rattle.calculus.specs.Register.{Register}
use Rattle.calculus.specs.Replies.{after}
use Rattle.book.specs.Offers.{call_of}

abbrev pub after_all : Meaning → Register → List Form → Register
after_all m R [] = R
after_all m R (f ∷ fs) = after_all m (after R (call_of f scratch_needed m)) fs
