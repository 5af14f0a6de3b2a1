-- The turns of the judge through the sentences. Assumes nothing.
use Rattle.std.proofs.Common.{◌≡◌, ℕ, ◌+◌, ◌<◌, List, map, length, get_or, drop, Some, None, Err, Option, sym, ap, ◌∙◌}
use Rattle.terms.proofs.Turns.{drop_read}
use Rattle.terms.specs.declared.refusals.Refusal.TheVariants.{AxiomFails}
use Rattle.models.specs.Judging.{first_failure, judged_from, judged_one}
use Rattle.models.specs.Meanings.{Meaning}
use Rattle.models.specs.Semantics.{Sentence}

module _ {X : Type 0} (m : Meaning) (f : X → Sentence) (xs : List X) (i : ℕ) (so : judged_from m i (map f (drop i xs)) ≡ judged_from m 0 (map f xs)) where
  turn : (x : X) (o : Option ℕ) → i < length xs → x ≡ get_or xs i x → o ≡ first_failure m (f x) → judged_one i o (judged_from m (i + 1) (map f (drop (i + 1) xs))) ≡ judged_from m 0 (map f xs)
  turn x o h is e =
      ap (λ p. judged_one i p (judged_from m (i + 1) (map f (drop (i + 1) xs)))) e ∙ ap (λ l. judged_from m i (map f l)) (sym (drop_read xs i x h is)) ∙ so

  pub fails_here : (x : X) (k : ℕ) → i < length xs → x ≡ get_or xs i x → Some k ≡ first_failure m (f x) → Err (AxiomFails i k) ≡ judged_from m 0 (map f xs)
  fails_here x k h is e = turn x (Some k) h is e

  pub holds_here : (x : X) → i < length xs → x ≡ get_or xs i x → None ≡ first_failure m (f x) → judged_from m (i + 1) (map f (drop (i + 1) xs)) ≡ judged_from m 0 (map f xs)
  holds_here x h is e = turn x None h is e
