-- The units in which a field is exact are an interval: wholeness goes down to finer units, size up to coarser ones. Assumes nothing.
use Prim.Native.Nat.{ℕ, ◌+◌, ◌-◌, ◌*◌, ◌≤◌, ◌^◌}
use mathlib.Core.Path.{◌≡◌, sym, subst, ap}
use mathlib.Core.Logic.{⊎_elim}
use native.Mathlib.Nat.{mul-le-mul_left, mul-one, le_trans, le_of_eq}
use native.Mathlib.Omega.{arith}
use lib.Pow.{pow_pos}
use lib.Dec.{T}
use lib.Ieee.{Float, binary64}
use Rattle.whole.specs.Whole.{Whole, ◌⊙◌, ◌≈◌}
use Rattle.weights.specs.Counts.{whole_in}
use Rattle.weights.specs.Worth.{Worth, read}
use Rattle.weights.proofs.Worth.{read_worth, worth_whole, read_side, finer_worth, same_worth}
use Rattle.field.specs.Field.{Field}
use Rattle.field.specs.Grade.{Weighs, ExactIn, Serves}

-- a whole number of a unit is a whole number of each finer one
pub whole_down : (u k : ℕ) {x : Float} {a : Whole} → Worth (u + k) x a → T (whole_in binary64 u x)
whole_down u k h = worth_whole (finer_worth k h)

-- as many of a coarser unit as of a finer one, at most, where it is a whole number of both
times_more : (a k : ℕ) → a ≤ a * 2 ^ k
times_more a k = le_trans (le_of_eq (sym (mul-one a))) (mul-le-mul_left a (pow_pos k))

pub weighs_up : {u b : ℕ} (k : ℕ) {x : Float} → u + k ≤ 2044 → Weighs u b x → T (whole_in binary64 (u + k) x) → Weighs (u + k) b x
weighs_up {u} {b} k {x} unit w t =
    let r = read (u + k) x in
    let coarse : Worth (u + k) x r = read_worth x unit t in
    let same : w.ledger ≈ r ⊙ (2 ^ k) = same_worth w.worth (finer_worth k coarse) in
    let plus = times_more r.plus k in
    let less = times_more r.less k in
    record {
      ledger = r;
      worth = coarse;
      at_most = ⊎_elim (λ z. omega arith) (λ z. omega (arith, ap (λ (n : ℕ). n * 2 ^ k) z, w.at_most)) (read_side (u + k) x);
      at_least = ⊎_elim (λ z. omega (arith, ap (λ (n : ℕ). n * 2 ^ k) z, w.at_least)) (λ z. omega arith) (read_side (u + k) x);
    }

back : (u v : ℕ) → u ≤ v → v ≡ u + (v - u)
back u v h = omega arith

-- the same, from one unit to another
pub whole_below : {u v : ℕ} {x : Float} {a : Whole} → Worth v x a → u ≤ v → T (whole_in binary64 u x)
whole_below {u} {v} {x} {a} w h = whole_down u (v - u) (subst (λ (n : ℕ). Worth n x a) (back u v h) w)

pub weighs_above : {u v b : ℕ} {x : Float} → Weighs u b x → T (whole_in binary64 v x) → u ≤ v → v ≤ 2044 → Weighs v b x
weighs_above {u} {v} {b} {x} w t h unit =
    let e = back u v h in
    subst (λ (n : ℕ). Weighs n b x) (sym e) (weighs_up (v - u) (omega arith) w (subst (λ (n : ℕ). T (whole_in binary64 n x)) e t))

pub weighs_between : {u v w b : ℕ} {x : Float} → Weighs u b x → Weighs v b x → u ≤ w → w ≤ v → Weighs w b x
weighs_between low high l h = weighs_above low (whole_below high.worth h) l (omega (arith, high.worth.unit))

-- THE UNITS: between two that serve each serves
pub exact_between : {u v w : ℕ} {F : Field} → ExactIn u F → ExactIn v F → u ≤ w → w ≤ v → ExactIn w F
exact_between low high l h = record {
  standard = low.standard;
  linear = λ i b. weighs_between (low.linear i b) (high.linear i b) l h;
  quad = λ k b. weighs_between (low.quad k b) (high.quad k b) (omega arith) (omega arith);
}

-- Theorem. A unit between two that serve a field serves it too, so that those that serve are an interval.
pub serves_between : {u v w : ℕ} {F : Field} → Serves u F → Serves v F → u ≤ w → w ≤ v → Serves w F
serves_between low high l h = record { from = omega (arith, low.from); to = omega (arith, high.to); exact = exact_between low.exact high.exact l h }
