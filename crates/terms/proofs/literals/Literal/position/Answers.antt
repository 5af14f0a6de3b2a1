use Rattle.std.proofs.Common.{◌≡◌, ℕ, ◌<◌, sym, refl, ap, ◌∙◌, subst, arith}
use Rattle.terms.specs.Limits.{literal_positions}
use Rattle.terms.specs.Literals.{InRange, concept_of, position}
use Rattle.terms.specs.declared.literals.Literal.{Literal}
use Rattle.terms.specs.Positions.{position_apart, position_below}
use Rattle.terms.proofs.literals.Literal.position.Goals as goal

-- what is known of a literal that is x, and of the number r that was computed for it
record Told (self x : Literal) (r : ℕ) : Type 0 where
  value : r ≡ position self
  range : r < literal_positions
  in_range : InRange self
  apart : (other : Literal) → InRange other → r ≡ position other → self ≡ other

told : (self x : Literal) (r : ℕ) → self ≡ x → r ≡ position x → concept_of x < 256 → Told self x r
told self x r is e low =
    let value : r ≡ position self = e ∙ ap position (sym is) in
    let here : InRange self = subst InRange (sym is) low in
    record {
      value = value;
      range = omega (arith, position_below self here);
      in_range = here;
      apart = λ other within same. position_apart self other here within (sym value ∙ same);
    }

pub returns-in-Concept : goal.returns-in-Concept
returns-in-Concept c =
    let t = told c.args.self.now _ c.in-Concept.a c.in-Concept.is refl (omega arith) in
    record { value = t.value; range = t.range; in_range = t.in_range; apart = t.apart }

pub returns-in-Exists : goal.returns-in-Exists
returns-in-Exists c =
    let t = told c.args.self.now _ _ c.in-Exists.is (omega (arith, c.code.ensures.value)) (omega arith) in
    record { value = t.value; range = t.range; in_range = t.in_range; apart = t.apart }

pub returns-in-Forall : goal.returns-in-Forall
returns-in-Forall c =
    let t = told c.args.self.now _ _ c.in-Forall.is (omega (arith, c.code-in-Forall.ensures.value)) (omega arith) in
    record { value = t.value; range = t.range; in_range = t.in_range; apart = t.apart }
