use Rattle.std.proofs.Common.{◌≡◌, ◌≤◌, List, length, Err, arith}
use Rattle.terms.specs.Lists.{removal}
use Rattle.terms.specs.Literals.{literal_precedes}
use Rattle.terms.specs.Writing.{room_for}
use Rattle.terms.specs.declared.literals.Literal.{Literal}
use Rattle.terms.specs.declared.refusals.Refusal.{Refusal}
use Rattle.terms.proofs.Fronts.{room_err}
use Rattle.terms.proofs.Sets.{removal_length}
use Rattle.tour.proofs.heads.head_without.Goals as goal

-- a head has room for what is left of it
rest_fits : (x : Literal) (xs : List Literal) (d : Refusal) → length xs ≤ 12 → Err d ≡ room_for (removal literal_precedes x xs) 12 → ⊥
rest_fits x xs d few e = omega (arith, removal_length literal_precedes x xs, room_err (removal literal_precedes x xs) 12 d e)

pub returns-in_err-n : goal.returns-in_err-n
returns-in_err-n c = absurd (rest_fits _ _ _ c.as_slice.ensures.few c.in_err-n.ensures.answer)
