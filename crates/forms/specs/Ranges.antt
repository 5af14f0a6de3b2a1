-- Numbers below a limit. Assumes nothing.
use Rattle.std.specs.Prelude.{◌≡◌, ℕ, suc, ◌≤◌, Decides, ◌==◌}
use Rattle.std.proofs.Common.{ap}
use mathlib.Core.HLevel.{is_prop→PathP}
use Rattle.std.proofs.Math.Bridge.{le_prop}
use Rattle.std.proofs.lemmas.Bool.Decides.{Decides-eqb, Decides-like}
use Rattle.forms.specs.declared.ranges.Below.{Below}

below_same : (limit : ℕ) (m n : Below limit) → m.number ≡ n.number → m ≡ n
below_same limit m n p = λ i. record { number = p i; ok = is_prop→PathP (λ j. suc (p j) ≤ limit) (λ j. le_prop) m.ok n.ok i }

-- it is known by the number alone
pub below_decides : (limit : ℕ) (m n : Below limit) → Decides (m.number == n.number) (m ≡ n)
below_decides limit m n = Decides-like _ (below_same limit m n) (ap (λ (x : Below limit). x.number)) (Decides-eqb m.number n.number)
