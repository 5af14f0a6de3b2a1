use Rattle.std.proofs.Common.{map, sym, ap, ◌∙◌}
use Rattle.std.proofs.lemmas.List.{map-id}
use Rattle.forms.specs.Numbers.{literal_numbers}
use Rattle.forms.proofs.Implied.{axiom_made, sides_pass}
use Rattle.forms.proofs.Listed.{concepts_rise, literals_rise}
use Rattle.forms.proofs.Turns.{first_none}
use Rattle.forms.proofs.formed.making.axiom_of.Goals as goal

pub returns : goal.returns
returns c =
    let left = c.as_slice.ensures in
    let right = c.as_slice-2.ensures in
    let made-left = c.in_ok-left.ensures in
    let made-right = c.in_ok-right.ensures in
    let rise = concepts_rise 8 c.as_slice.result.now left.stated in
    let rise' = literals_rise 8 c.as_slice-2.result.now right.stated in
    axiom_made (c.args.left.now, c.args.right.now) c.as_slice.result.now c.as_slice-2.result.now c.new-3.result
    (sym (map-id _) ∙ ap (map (λ A. A)) left.value ∙ made-left.0) (ap (map literal_numbers) right.value ∙ made-right.0)
    (first_none _ _ made-left.1 ∙ made-right.1) (sides_pass _ _ left.few right.few rise rise') c.new-3.ensures
