use Rattle.std.proofs.Common.{◌≡◌, ◌≤◌, List, length, Err, arith}
use Rattle.terms.specs.Lists.{union}
use Rattle.terms.specs.Literals.{literal_precedes}
use Rattle.terms.specs.Writing.{room_for}
use Rattle.terms.specs.declared.literals.Literal.{Literal}
use Rattle.terms.specs.declared.refusals.Refusal.{Refusal}
use Rattle.terms.proofs.Fronts.{room_err}
use Rattle.terms.proofs.Sets.{union_length}
use Rattle.tour.proofs.heads.join_heads.Goals as goal

-- the join of two heads is at most two heads long
both_fit : (xs ys : List Literal) (d : Refusal) → length xs ≤ 12 → length ys ≤ 12 → Err d ≡ room_for (union literal_precedes xs ys) 24 → ⊥
both_fit xs ys d p q e = omega (arith, union_length literal_precedes xs ys, room_err (union literal_precedes xs ys) 24 d e)

pub returns-in_err-n : goal.returns-in_err-n
returns-in_err-n c = absurd (both_fit _ _ _ c.as_slice.ensures.few c.as_slice-2.ensures.few c.in_err-n.ensures.answer)
