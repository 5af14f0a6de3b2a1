use Rattle.std.proofs.Common.{◌≡◌, ℕ, ◌+◌, ◌<◌, ◌≤◌, true, false, ◌≢◌, ◌⊎◌, List, length, get_or, set, sym, ◌∙◌, subst, arith, get_or-set_other, get_or-set_same, below_more}
use Rattle.std.proofs.lemmas.Bool.{cond-true, cond-false}
use Rattle.std.proofs.lemmas.Bool.Decides.{nat_tests}
use Rattle.std.proofs.lemmas.List.{set-get_or}
use Rattle.judge_bench.specs.Benching.{filled, is_filled}
use Rattle.judge_bench.proofs.fill_table.Goals as goal
use Rattle.judge_bench.proofs.fill_table.Goals.{then-i-lt-LEFT_END, else-i-lt-LEFT_END+else-i-ge-ROLES_BEGIN}

-- the bytes before i are filled, and the others are as they were
abbrev FilledTo : ℕ → List ℕ → List ℕ → Type 0
FilledTo i before bytes =
    ((k : ℕ) → k < i → get_or bytes k 0 ≡ filled k (get_or before k 0)) × ((k : ℕ) → i ≤ k → get_or bytes k 0 ≡ get_or before k 0)

byte_written : (i : ℕ) (before bytes : List ℕ) → i < length bytes → is_filled i ≡ true → FilledTo i before bytes → FilledTo (i + 1) before (set bytes i 255)
byte_written i before bytes lt is h = (
  below_more (λ k. get_or (set bytes i 255) k 0 ≡ filled k (get_or before k 0)) i
      (λ k below. let ne : k ≢ i = omega arith in get_or-set_other bytes i k 255 0 ne ∙ h.0 k below)
      (get_or-set_same bytes i 255 0 lt ∙ sym (cond-true _ _ _ is)),
  λ k above. let ne : k ≢ i = omega arith in get_or-set_other bytes i k 255 0 ne ∙ h.1 k (omega arith),
)

byte_kept : (i : ℕ) (before bytes : List ℕ) → is_filled i ≡ false → FilledTo i before bytes → FilledTo (i + 1) before bytes
byte_kept i before bytes is h = (
  below_more (λ k. get_or bytes k 0 ≡ filled k (get_or before k 0)) i h.0 (h.1 i (omega arith) ∙ sym (cond-false _ _ _ is)),
  λ k above. h.1 k (omega arith),
)

filled_row : (i : ℕ) → (i < 64) ⊎ ((64 ≤ i) × (2048 ≤ i)) → is_filled i ≡ true
filled_row i h = grind (arith, nat_tests)

other_row : (i : ℕ) → 64 ≤ i → i < 2048 → is_filled i ≡ false
other_row i p q = grind (arith, nat_tests)

pub loop-i-preserved : goal.loop-i-preserved
loop-i-preserved c =
    let i = c.loop-i.i in
    let bytes = c.loop-i.bytes in
    elim c.if-i-lt-LEFT_END.branch [
      | then-i-lt-LEFT_END w ↦ subst (FilledTo (i + 1) c.args.bytes.now) (sym w.bytes-is) (byte_written i _ bytes (omega arith) (filled_row i w.then-i-lt-LEFT_END.either) c.loop-i.invariant)
      | else-i-lt-LEFT_END+else-i-ge-ROLES_BEGIN w ↦ subst (FilledTo (i + 1) c.args.bytes.now) (sym (w.bytes-is ∙ set-get_or bytes i 0)) (byte_kept i _ bytes (other_row i (omega arith) (omega arith)) c.loop-i.invariant)
    ]
