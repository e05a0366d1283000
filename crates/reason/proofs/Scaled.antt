-- A bound in half units is a whole number, the one that its float counts. Assumes nothing.
use Prim.Native.Nat.{ℕ, zero, suc, ◌+◌, ◌-◌, ◌*◌, ◌^◌, ◌≤◌}
use mathlib.Core.Path.{◌≡◌}
use mathlib.Core.Bool.{Bool, true, false}
use native.Mathlib.Nat.{add-zero, mul_assoc, mul_comm, mul_left_comm, pow-suc}
use native.Mathlib.Omega.{arith}
use lib.Ieee.{Float, nan, inf, fin, Format, binary64, low, up, down, mul}
use Rattle.whole.specs.Whole.{Whole, ◌⊙◌, Under}
use Rattle.weights.specs.Counts.{Signed, Counts}
use Rattle.weights.specs.Worth.{Worth, Small, half64, two64}
use Rattle.weights.proofs.Worth.{half_worth, two_worth}
use Rattle.reason.specs.Ground.{times, in_half_units, ones}

-- an even count, in the double unit
coarser_counts : (f : Format) (u p l : ℕ) (x : Float) → Counts f u x (p * 2) (l * 2) → Counts f (suc u) x p l
unfolding Counts
coarser_counts f u p l nan h = h
coarser_counts f u p l (inf s) h = h
coarser_counts f u p l (fin s m e) h = go s h
  where
    part : (A : ℕ) → A * (2 ^ suc u * down e) ≡ A * 2 * (2 ^ u * down e)
    part A = simp (pow-suc, mul_assoc, mul_comm, mul_left_comm)

    go : (s : Bool) → Signed s (m * up e) (p * 2) (l * 2) (2 ^ low f) (2 ^ u * down e) → Signed s (m * up e) p l (2 ^ low f) (2 ^ suc u * down e)
    go true h = omega (arith, part p, part l)
    go false h = omega (arith, part p, part l)

-- twice a float counts in the double unit what the float counts
double_worth : {u : ℕ} {x : Float} {a : Whole} → u ≤ 2043 → Worth u x a → Small (a ⊙ 2) → Worth (suc u) (mul binary64 two64 x) a
double_worth {u} {x} {a} b h w = record { unit = omega arith; is = coarser_counts binary64 u a.plus a.less (mul binary64 two64 x) (two_worth h w).is }

-- and so on
doubled_worth : (count : ℕ) {u : ℕ} {x : Float} {a : Whole} → u + count ≤ 2044 → Worth u x a → Small (a ⊙ 2) → Worth (u + count) (times two64 count x) a
unfolding times
doubled_worth zero {u} b h w = rw (add-zero u) h
doubled_worth (suc count) {u} b h w = let e : u + suc count ≡ suc (u + count) = omega arith in rw e (double_worth (omega arith) (doubled_worth count (omega arith) h w) w)

halved_worth : (count : ℕ) {u : ℕ} {x : Float} {a : Whole} → Worth (u + count) x a → Small a → Worth u (times half64 count x) a
unfolding times
halved_worth zero {u} h w = rw (add-zero u) at h
halved_worth (suc count) {u} {x} {a} h w =
    let e : u + suc count ≡ suc u + count = omega arith in
    half_worth (halved_worth count (rw e at h) w) w

-- what a float counts in half units of 2^(k - 20), it is once it is scaled
pub scaled_worth : (k : ℕ) {u : ℕ} {x : Float} {a : Whole} → u ≡ k + 1053 → k ≤ 40 → Worth u x a → Under (2 ^ 49) a → Worth ones (in_half_units k x) a
unfolding in_half_units
scaled_worth k {u} e b h w =
    let same : u + (21 - k) ≡ 1074 + (k - 21) = omega arith in
    halved_worth (k - 21) (rw same at (doubled_worth (21 - k) (omega arith) h (omega arith))) (omega arith)
