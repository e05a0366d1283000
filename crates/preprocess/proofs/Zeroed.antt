-- A free variable of no effect takes 0. Assumes nothing.
use Prim.Native.Nat.{ℕ, zero, suc, ◌<◌}
use mathlib.Core.Path.{◌≡◌, ◌∙◌}
use mathlib.Core.Logic.{◌≢◌}
use mathlib.Core.Bool.{Bool, true, false, cond, ◌&&◌}
use mathlib.Core.List.{List}
use native.Mathlib.Decide.{ℕ_discrete}
use native.Mathlib.Omega.{arith}
use lib.ListN.{get_or, set}
use lib.Seq.{get_or-set_same, get_or-set_other}
use Rattle.meaning.specs.Free.{is_free}
use Rattle.meaning.proofs.Values.{inside}
use Rattle.field.specs.Field.{Field, variables}
use Rattle.no_effect.specs.Effect.{has_no_effect}
use Rattle.preprocess.specs.Working.{fix_at, fix_to, with_no_effect}
use Rattle.preprocess.proofs.Zeros.{fixes_long}
use Rattle.preprocess.proofs.Idle.{fix_later}

-- a free one that is meant takes 0
pub fix_zeros : (p : ℕ → Bool) (k : ℕ) (s : List ℕ) (i : ℕ) → i < k → p i ≡ true → get_or s i 0 ≡ 2 → get_or (fix_to p k s) i 0 ≡ 0
unfolding fix_to fix_at
fix_zeros p zero s i h e f = absurd (omega arith)
fix_zeros p (suc k) s i h e f = elim (ℕ_discrete i k) [
  | yes q ↦ rw (← q, e, fix_later p i s i (omega arith), f) (get_or-set_same (fix_to p i s) i 0 0 (omega (arith, fixes_long p i s, inside s i f)))
  | no n ↦ by (p k && is_free (fix_to p k s) k) n (fix_zeros p k s i (omega arith) e f)
]
  where
    by : (b : Bool) → i ≢ k → get_or (fix_to p k s) i 0 ≡ 0 → get_or (cond b (set (fix_to p k s) k 0) (fix_to p k s)) i 0 ≡ 0
    by true n z = get_or-set_other (fix_to p k s) k i 0 0 n ∙ z
    by false n z = z

-- so a free variable of no effect is at 0 afterwards
pub idle_zero : (F : Field) (s : List ℕ) (i : ℕ) → i < variables F → has_no_effect F i ≡ true → get_or s i 0 ≡ 2 → get_or (with_no_effect F s) i 0 ≡ 0
unfolding with_no_effect
idle_zero F s i h e f = fix_zeros (has_no_effect F) (variables F) s i h e f
