-- Half a weight that goes into a linear weight: the sum is a whole number still, and counts both. Assumes nothing.
use Prim.Native.Nat.{ℕ, suc, ◌+◌, ◌*◌, ◌≤◌, ◌^◌}
use native.Mathlib.Omega.{arith}
use lib.Ieee.{Float, binary64, add, mul}
use Rattle.whole.specs.Whole.{◌⊕◌, ◌≈◌}
use Rattle.weights.specs.Worth.{Worth, read, half64}
use Rattle.weights.proofs.Worth.{add_worth, half_worth, worth_read}
use Rattle.field.specs.Grade.{Weighs}
use Rattle.field.proofs.Exact.{weighs_read, weighs_under}

-- 2^31 units more for each entry
abbrev pub most : ℕ → ℕ
most k = 2 ^ 32 + k * 2 ^ 31

module _ {u k : ℕ} {x q : Float} (few : k ≤ 32768) (a : Weighs u (most k) x) (b : Weighs (suc u) (2 ^ 31) q) where
  half_sum : Worth u (add binary64 x (mul binary64 half64 q)) (read u x ⊕ read (suc u) q)
  half_sum = let l = weighs_under a in let r = weighs_under b in add_worth (weighs_read a) (half_worth (weighs_read b) (omega arith)) (omega arith)

  pub half_in : Weighs u (most (suc k)) (add binary64 x (mul binary64 half64 q))
  half_in = let l = weighs_under a in let r = weighs_under b in record { ledger = read u x ⊕ read (suc u) q; worth = half_sum; at_most = omega arith; at_least = omega arith }

  pub half_counts : read u (add binary64 x (mul binary64 half64 q)) ≈ read u x ⊕ read (suc u) q
  half_counts = omega (arith, worth_read half_sum)
