use Rattle.std.proofs.Common.{◌≡◌, ◌*◌, ◌%◌, ◌^◌, get_or, ◌∙◌, rules}
use Rattle.std.proofs.lemmas.Nat.{one_shl}
use Rattle.terms.proofs.Rows.{fresh}
use Rattle.terms.proofs.reaching.Reach.new.Goals as goal

pub returns : goal.returns
returns c =
    fresh c.from_fn.result (λ k h.
    let w = c.from_fn.ensures.items.at k 0 h in
    let is : get_or c.from_fn.result k 0 ≡ (1 * 2 ^ k) % 2 ^ 64 = search rules in
    is ∙ one_shl k 64 h)
