-- Role codes and their mirrors. Assumes nothing.
use Rattle.std.specs.Prelude.{◌≡◌, ℕ, suc, ◌+◌, ◌*◌, ◌/◌, ◌%◌, ◌<◌, ◌≤◌, not, ◌⊎◌, Decides, ◌==◌, bit_xor}
use Rattle.std.proofs.Common.{ap, ◌∙◌, inl, inr, arith}
use mathlib.Core.HLevel.{is_prop→PathP}
use Rattle.std.proofs.Math.Bridge.{le_prop}
use Rattle.std.specs.Int.Bits.{xor_step, xor_zero_r, differ}
use Rattle.std.proofs.lemmas.Nat.{mod_below, xor_lt}
use Rattle.std.proofs.lemmas.Bool.Decides.{Decides-eqb, Decides-like, nat_tests}
use Rattle.terms.specs.Roles.{backwards, mirror, name_of}
use Rattle.terms.specs.declared.roles.Role.{Role}

pub mirror_twice : (E : ℕ) → mirror (mirror E) ≡ E
mirror_twice E = grind (arith, nat_tests)

pub mirror_below : (E : ℕ) → E < 64 → mirror E < 64
mirror_below E h = grind (arith, nat_tests)

pub mirror_name : (E : ℕ) → name_of (mirror E) ≡ name_of E
mirror_name E = grind (arith, nat_tests)

pub mirror_way : (E : ℕ) → backwards (mirror E) ≡ not (backwards E)
mirror_way E = grind (arith, nat_tests)

pub two : (b : ℕ) → b < 2 → (b ≡ 0) ⊎ (b ≡ 1)
two b h = grind (arith, nat_tests)

-- the code's `^ 1` is the mirror
pub xor_mirror : (E : ℕ) → bit_xor E 1 ≡ mirror E
xor_mirror E = go (two (E % 2) (mod_below E 2 (omega arith)))
  where
    e : bit_xor E 1 ≡ E / 2 * 2 + differ (E % 2) 1
    e = xor_step E 1 ∙ ap (λ n. n * 2 + differ (E % 2) 1) (xor_zero_r (E / 2))

    go : (E % 2 ≡ 0) ⊎ (E % 2 ≡ 1) → bit_xor E 1 ≡ mirror E
    go (inl z) = e ∙ rw z (omega arith)
    go (inr z) = e ∙ rw z (omega arith)

pub xor_below : (E : ℕ) → E < 64 → bit_xor E 1 < 64
xor_below E h = xor_lt 6 E 1 h (omega arith)

-- a role is known by its code
pub role_same : (E F : Role) → E.code ≡ F.code → E ≡ F
role_same E F p = λ i. record { code = p i; ok = is_prop→PathP (λ j. suc (p j) ≤ 64) (λ j. le_prop) E.ok F.ok i }

pub role_decides : (E F : Role) → Decides (E.code == F.code) (E ≡ F)
role_decides E F = Decides-like _ (role_same E F) (ap (λ (x : Role). x.code)) (Decides-eqb E.code F.code)
