-- The order of literals: that it is one, and that it is the order of their positions. Assumes nothing.
use Rattle.std.specs.Prelude.{◌≡◌, ℕ, ◌+◌, ◌*◌, ◌<◌, Bool, true, false, cond, nat_lt, Decides, refl}
use Rattle.std.proofs.Common.{sym, ap, ◌∙◌, subst, arith}
use Rattle.std.proofs.lemmas.Bool.{lt-ltb, le-ltb, true≢false, not-true, not_from_false, and_parts, and_from}
use Rattle.std.proofs.lemmas.Bool.Decides.{nat_tests}
use Rattle.terms.specs.Lists.{TotalOrder, alike}
use Rattle.terms.specs.Literals.{InRange, literal_precedes, position}
use Rattle.terms.specs.declared.literals.Literal.{Literal}
use Rattle.terms.specs.declared.literals.Literal.TheVariants.{Concept, Exists, Forall}
use Rattle.terms.specs.Codes.{role_same}

-- ---- any order

pub alike_decides_sameness : {X : Type 0} (lt : X → X → Bool) → TotalOrder lt → (x y : X) → Decides (alike lt x y) (x ≡ y)
alike_decides_sameness lt o x y = (
  λ h. o.total x y (not-true _ (and_parts _ _ h).0) (not-true _ (and_parts _ _ h).1),
  λ e. let n = not_from_false _ (o.irreflexive x) in subst (λ w. alike lt x w ≡ true) e (and_from _ _ n n),
)

-- ---- pairs of numbers, by the first and then by the second

abbrev lex : ℕ → ℕ → ℕ → ℕ → Bool
lex e a f b = cond (nat_lt e f) true (cond (nat_lt f e) false (nat_lt a b))

lex_irreflexive : (e a : ℕ) → lex e a e a ≡ false
lex_irreflexive e a = grind (arith, nat_tests)

lex_transitive : (e a f b g c : ℕ) → lex e a f b ≡ true → lex f b g c ≡ true → lex e a g c ≡ true
lex_transitive e a f b g c p q = grind (arith, nat_tests)

lex_first : (e a f b : ℕ) → lex e a f b ≡ false → lex f b e a ≡ false → e ≡ f
lex_first e a f b p q = grind (arith, nat_tests)

lex_second : (e a f b : ℕ) → lex e a f b ≡ false → lex f b e a ≡ false → a ≡ b
lex_second e a f b p q = grind (arith, nat_tests)

ltb_transitive : (a b c : ℕ) → nat_lt a b ≡ true → nat_lt b c ≡ true → nat_lt a c ≡ true
ltb_transitive a b c p q = grind (arith, nat_tests)

ltb_total : (a b : ℕ) → nat_lt a b ≡ false → nat_lt b a ≡ false → a ≡ b
ltb_total a b p q = grind (arith, nat_tests)

-- ---- literals

irreflexive : (x : Literal) → literal_precedes x x ≡ false
irreflexive (Concept A) = grind (arith, nat_tests)
irreflexive (Exists E A) = lex_irreflexive E.code A
irreflexive (Forall E A) = lex_irreflexive E.code A

transitive : (x y z : Literal) → literal_precedes x y ≡ true → literal_precedes y z ≡ true → literal_precedes x z ≡ true
transitive (Concept A) (Concept B) (Concept C) p q = ltb_transitive A B C p q
transitive (Concept A) (Concept B) (Exists G C) p q = refl
transitive (Concept A) (Concept B) (Forall G C) p q = refl
transitive (Concept A) (Exists F B) (Concept C) p q = absurd (true≢false (sym q))
transitive (Concept A) (Exists F B) (Exists G C) p q = refl
transitive (Concept A) (Exists F B) (Forall G C) p q = refl
transitive (Concept A) (Forall F B) (Concept C) p q = absurd (true≢false (sym q))
transitive (Concept A) (Forall F B) (Exists G C) p q = refl
transitive (Concept A) (Forall F B) (Forall G C) p q = refl
transitive (Exists E A) (Concept B) z p q = absurd (true≢false (sym p))
transitive (Exists E A) (Exists F B) (Concept C) p q = absurd (true≢false (sym q))
transitive (Exists E A) (Exists F B) (Exists G C) p q = lex_transitive E.code A F.code B G.code C p q
transitive (Exists E A) (Exists F B) (Forall G C) p q = refl
transitive (Exists E A) (Forall F B) (Concept C) p q = absurd (true≢false (sym q))
transitive (Exists E A) (Forall F B) (Exists G C) p q = absurd (true≢false (sym q))
transitive (Exists E A) (Forall F B) (Forall G C) p q = refl
transitive (Forall E A) (Concept B) z p q = absurd (true≢false (sym p))
transitive (Forall E A) (Exists F B) z p q = absurd (true≢false (sym p))
transitive (Forall E A) (Forall F B) (Concept C) p q = absurd (true≢false (sym q))
transitive (Forall E A) (Forall F B) (Exists G C) p q = absurd (true≢false (sym q))
transitive (Forall E A) (Forall F B) (Forall G C) p q = lex_transitive E.code A F.code B G.code C p q

total : (x y : Literal) → literal_precedes x y ≡ false → literal_precedes y x ≡ false → x ≡ y
total (Concept A) (Concept B) p q = ap Concept (ltb_total A B p q)
total (Concept A) (Exists F B) p q = absurd (true≢false p)
total (Concept A) (Forall F B) p q = absurd (true≢false p)
total (Exists E A) (Concept B) p q = absurd (true≢false q)
total (Exists E A) (Exists F B) p q =
    let d = role_same E F (lex_first E.code A F.code B p q) in
    let e = lex_second E.code A F.code B p q in
    cc
total (Exists E A) (Forall F B) p q = absurd (true≢false p)
total (Forall E A) (Concept B) p q = absurd (true≢false q)
total (Forall E A) (Exists F B) p q = absurd (true≢false q)
total (Forall E A) (Forall F B) p q =
    let d = role_same E F (lex_first E.code A F.code B p q) in
    let e = lex_second E.code A F.code B p q in
    cc

pub literal_order : TotalOrder literal_precedes
literal_order = record { irreflexive = irreflexive; transitive = transitive; total = total }

pub literal_alike_decides : (x y : Literal) → Decides (alike literal_precedes x y) (x ≡ y)
literal_alike_decides = alike_decides_sameness literal_precedes literal_order

-- ---- positions

pair_position : (base e a f b : ℕ) → a < 256 → b < 256 → lex e a f b ≡ nat_lt (base + 256 * e + a) (base + 256 * f + b)
pair_position base e a f b p q = grind (arith, nat_tests)

pub by_position : (x y : Literal) → InRange x → InRange y → literal_precedes x y ≡ nat_lt (position x) (position y)
by_position (Concept A) (Concept B) p q = refl
by_position (Concept A) (Exists F B) p q = sym (lt-ltb _ _ (omega arith))
by_position (Concept A) (Forall F B) p q = sym (lt-ltb _ _ (omega arith))
by_position (Exists E A) (Concept B) p q = sym (le-ltb _ _ (omega arith))
by_position (Exists E A) (Exists F B) p q = pair_position 256 E.code A F.code B p q
by_position (Exists E A) (Forall F B) p q = sym (lt-ltb _ _ (omega (arith, E.ok)))
by_position (Forall E A) (Concept B) p q = sym (le-ltb _ _ (omega arith))
by_position (Forall E A) (Exists F B) p q = sym (le-ltb _ _ (omega (arith, F.ok)))
by_position (Forall E A) (Forall F B) p q = pair_position 16640 E.code A F.code B p q

pub position_apart : (x y : Literal) → InRange x → InRange y → position x ≡ position y → x ≡ y
position_apart x y p q e =
    total x y (by_position x y p q ∙ le-ltb _ _ (omega arith)) (by_position y x q p ∙ le-ltb _ _ (omega arith))

pub position_below : (x : Literal) → InRange x → position x < 33024
position_below (Concept A) p = omega arith
position_below (Exists E A) p = omega (arith, E.ok)
position_below (Forall E A) p = omega (arith, E.ok)
