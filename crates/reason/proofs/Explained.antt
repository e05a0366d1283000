-- Products by turns, and the ground of a verdict by its cases. Assumes nothing.
use Prim.Native.Nat.{ℕ, ◌+◌, ◌-◌, ◌<◌, ◌≤◌}
use mathlib.Core.Path.{◌≡◌, refl, ap, ◌∙◌}
use native.Mathlib.Numerals.{add-one}
use native.Mathlib.Omega.{arith}
use lib.Ieee.{Float, binary64, mul}
use Rattle.weights.specs.Worth.{half64, two64}
use Rattle.rows.specs.declared.Verdict.{Verdict}
use Rattle.rows.specs.declared.Verdict.TheVariants.{Zero, One, Flat, Open}
use Rattle.reason.specs.declared.Ground.TheVariants.{Given, Lower, Upper}
use Rattle.reason.specs.Ground.{times, in_half_units, ground_of}

-- ---- times

pub times_start : (y x : Float) → x ≡ times y 0 x
unfolding times
times_start y x = refl

pub times_turn : (y x : Float) (k : ℕ) {p : Float} → p ≡ times y k x → mul binary64 y p ≡ times y (k + 1) x
unfolding times
times_turn y x k e = rw (add-one k) (ap (mul binary64 y) e)

pub times_done : (y x : Float) {p : Float} {k count : ℕ} → p ≡ times y k x → k ≤ count → count ≤ k → p ≡ times y count x
times_done y x {p} {k} {count} e a b = let same : k ≡ count = omega arith in e ∙ ap (λ (z : ℕ). times y z x) same

-- ---- in_half_units

pub fine_is : (k : ℕ) (x : Float) {r : Float} → k ≤ 21 → r ≡ times two64 (21 - k) x → r ≡ in_half_units k x
unfolding in_half_units times
fine_is k x b e = let none : k - 21 ≡ 0 = omega arith in e ∙ rw none refl

pub coarse_is : (k : ℕ) (x : Float) {r : Float} → 21 < k → r ≡ times half64 (k - 21) x → r ≡ in_half_units k x
unfolding in_half_units times
coarse_is k x b e = let none : 21 - k ≡ 0 = omega arith in e ∙ rw none refl

-- ---- explain

pub lower_is : (k : ℕ) {v : Verdict} {b x : Float} → v ≡ Zero b → x ≡ in_half_units k b → Lower x ≡ ground_of k v
unfolding ground_of
lower_is k e h = rw (e, h) refl

pub upper_is : (k : ℕ) {v : Verdict} {b x : Float} → v ≡ One b → x ≡ in_half_units k b → Upper x ≡ ground_of k v
unfolding ground_of
upper_is k e h = rw (e, h) refl

pub flat_is : (k : ℕ) {v : Verdict} → v ≡ Flat → Given ≡ ground_of k v
unfolding ground_of
flat_is k e = rw e refl

pub open_is : (k : ℕ) {v : Verdict} → v ≡ Open → Given ≡ ground_of k v
unfolding ground_of
open_is k e = rw e refl
