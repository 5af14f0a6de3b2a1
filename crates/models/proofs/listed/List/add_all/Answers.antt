use Rattle.std.proofs.Common.{◌≡◌, List, ◌∷◌, Some, None, Ok, Err, Option, sym, refl, ap, ◌∙◌, arith}
use Rattle.std.proofs.lemmas.List.{drop_all}
use Rattle.std.proofs.lemmas.Result.{err_from_is_err_and}
use Rattle.terms.specs.declared.refusals.Refusal.{Refusal}
use Rattle.terms.proofs.Turns.{drop_read}
use Rattle.models.specs.Charts.{first_refusal}
use Rattle.models.specs.Listed.{Kept, add_refusal, added, changed_unless, contents, fill_refusal, filled, unless_refused}
use Rattle.models.specs.declared.entries.Entry.{Entry}
use Rattle.models.proofs.listed.List.add_all.Goals as goal

-- what an answer says of the refusal that it comes from
none_refused : (o : Option Refusal) (u : Unit {0}) → Ok u ≡ unless_refused o → o ≡ None
none_refused None u e = refl
none_refused (Some d) u e = cc

one_refused : (o : Option Refusal) (d : Refusal) → Err d ≡ unless_refused o → o ≡ Some d
one_refused None d e = cc
one_refused (Some x) d e = cc

-- after an entry that is added the rest comes to what all came to before
goes_on : (k k' : Kept) (e : Entry) (left rest : List Entry) (first : Option Refusal) (last : Kept) → left ≡ e ∷ rest → add_refusal k e ≡ None → k' ≡ changed_unless (add_refusal k e) (added k e) k → fill_refusal k left ≡ first → filled k left ≡ last → (fill_refusal k' rest ≡ first) × (filled k' rest ≡ last)
goes_on k k' e left rest first last cut p q f g =
    let is : k' ≡ added k e = q ∙ ap (λ o. changed_unless o (added k e) k) p in (
      ap (λ h. fill_refusal h rest) is ∙ sym (ap (λ o. first_refusal o (fill_refusal (added k e) rest)) p) ∙ sym (ap (fill_refusal k) cut) ∙ f,
      ap (λ h. filled h rest) is ∙ sym (ap (λ o. changed_unless o (filled (added k e) rest) k) p) ∙ sym (ap (filled k) cut) ∙ g,
    )

-- at an entry that is refused all is settled
stops : (k k' : Kept) (e : Entry) (left rest : List Entry) (d : Refusal) (first : Option Refusal) (last : Kept) → left ≡ e ∷ rest → add_refusal k e ≡ Some d → k' ≡ changed_unless (add_refusal k e) (added k e) k → fill_refusal k left ≡ first → filled k left ≡ last → (Some d ≡ first) × (k' ≡ last)
stops k k' e left rest d first last cut p q f g = (
  sym (ap (λ o. first_refusal o (fill_refusal (added k e) rest)) p) ∙ sym (ap (fill_refusal k) cut) ∙ f,
  q
      ∙ ap (λ o. changed_unless o (added k e) k) p
      ∙ sym (ap (λ o. changed_unless o (filled (added k e) rest) k) p)
      ∙ sym (ap (filled k) cut)
      ∙ g,
)

pub returns-in_err-add : goal.returns-in_err-add
returns-in_err-add c =
    let told = c.in_err-add.ensures in
    let cut = drop_read c.args.entries.now c.loop-item.item-index c.item-item.result (omega arith) c.item-item.is in
    let at = stops _ _ _ _ _ _ _ _ cut (one_refused _ _ told.answer) told.change c.loop-item.invariant.0 c.loop-item.invariant.1 in
    let p = err_from_is_err_and c.from_residual.result c.from_residual.ensures.1 in
    record { answer = p.1 ∙ ap Err p.2 ∙ ap unless_refused at.0; change = at.1; lent = told.lent ∙ c.loop-item.invariant.2 }

pub loop-item-preserved : goal.loop-item-preserved
loop-item-preserved c =
    let told = c.in_ok-add.ensures in
    let cut = drop_read c.args.entries.now c.loop-item.item-index c.item-item.result (omega arith) c.item-item.is in
    let at = goes_on _ _ _ _ _ _ _ cut (none_refused _ _ told.answer) told.change c.loop-item.invariant.0 c.loop-item.invariant.1 in
    (at.0, at.1, told.lent ∙ c.loop-item.invariant.2)

pub returns : goal.returns
returns c =
    let k = contents c.loop-item.self in
    let none = drop_all c.loop-item.item-index c.args.entries.now (omega arith) in
    record {
      answer = ap unless_refused (sym (ap (fill_refusal k) none) ∙ c.loop-item.invariant.0);
      change = sym (ap (filled k) none) ∙ c.loop-item.invariant.1;
      lent = c.loop-item.invariant.2;
    }
