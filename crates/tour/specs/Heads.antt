-- Heads that are made from lists of literals. Assumes nothing.
use Rattle.std.specs.Prelude.{◌≡◌, ◌<◌, List, length, Result, MatchResult}
use Rattle.terms.specs.Shorts.{held}
use Rattle.terms.specs.declared.bounded.Short.{Short}
use Rattle.terms.specs.declared.literals.Literal.{Literal}
use Rattle.terms.specs.declared.refusals.Refusal.{Refusal}
use Rattle.terms.specs.declared.refusals.Refusal.TheVariants.{HeadTooLong}

-- the answer where a head of these literals is asked for: that head, or a refusal where they are more than 12
abbrev pub HeadOrRefusal : Result (Short Literal 12) Refusal → List Literal → Type 0
HeadOrRefusal r row = MatchResult r (λ head. held head ≡ row) (λ e. (e ≡ HeadTooLong 12) × (12 < length row))
