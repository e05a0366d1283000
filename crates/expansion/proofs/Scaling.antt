-- A product of a float with a power of two is not rounded, while it does not overflow: subnormals included. Assumes nothing.
use mathlib.Core.Path.{◌≡◌, refl, sym, ap, ◌∙◌}
use mathlib.Core.Bool.{Bool, true, false, cond, true≢false}
use Prim.Native.Nat.{ℕ, ◌+◌, ◌*◌, ◌^◌, ◌<◌}
use native.Mathlib.Nat.{mul-one, mul_assoc, mul_comm, mul_left_comm, add-mul, mul-pos, le_of_lt, zero-mul}
use native.Mathlib.Omega.{arith}
use lib.Dec.{T, lit≤}
use lib.Pow.{pow-add}
use lib.Ieee.{Float, nan, inf, fin, Format, binary64, prec, low, up, down, unlike, round, mul, of_bits}
use lib.Ieee.Fits.{down_pos, two, two-le_pos}
use lib.Ieee.Exact.{HasValue}
use lib.Ieee.Scale.{finite}
use Rattle.whole.specs.Whole.{Whole, ◌⊙◌, ◌≈◌}
use Rattle.weights.specs.Counts.{Signed, Counts}
use Rattle.weights.specs.Worth.{Worth, read, two64, four64}
use Rattle.weights.proofs.Counting.{mul_swap}
use Rattle.weights.proofs.Worth.{worth_read, same_worth}
use Rattle.expansion.specs.Exact.{Number}
use Rattle.expansion.proofs.Nearby.{gap, Few, rounded_few, Short}
use Rattle.expansion.proofs.Rounding.{round_rounded, round_plain}
use Rattle.expansion.proofs.Exact.{held_number, number_worth}

-- ---- a product with a whole number is one fraction, which is rounded once

-- v times over
wide : (M N L U D E A B v : ℕ) → N ≡ v * E → M * L + A * (U * D) ≡ B * (U * D) → M * N * L + A * v * (U * (D * E)) ≡ B * v * (U * (D * E))
wide M N L U D E A B v n h =
    let g : (M * L + A * (U * D)) * (v * E) ≡ B * (U * D) * (v * E) = ap (λ (x : ℕ). x * (v * E)) h in
    rw n (simp (mul_assoc, mul_comm, mul_left_comm) (simp (add-mul, mul_assoc, mul_comm, mul_left_comm) at g))

module _ (f : Format) (p l v : ℕ) (P : Float → Type 0)
    (then : (s : Bool) (num c : ℕ) → 0 < c → Signed s num (p * v) (l * v) (2 ^ low f) (2 ^ 0 * c) → P (round f s num c)) where
  product_rounds : (x y : Float) → Counts f 0 x p l → HasValue y false v 1 → P (mul f x y)
  unfolding Counts mul
  product_rounds nan y h k = absurd h
  product_rounds (inf s) y h k = absurd h
  product_rounds (fin s m e) nan h k = absurd k
  product_rounds (fin s m e) (inf t) h k = absurd k
  product_rounds (fin s m e) (fin true n d) h k = absurd (true≢false k.0)
  product_rounds (fin s m e) (fin false n d) h k = go s h
    where
      is : n * up d ≡ v * down d
      is = sym (mul-one (n * up d)) ∙ k.1

      go : (s : Bool) → Signed s (m * up e) p l (2 ^ low f) (2 ^ 0 * down e) → P (round f (unlike s false) (m * up e * (n * up d)) (down e * down d))
      go true h =
          then true (m * up e * (n * up d)) (down e * down d) (mul-pos (down_pos e) (down_pos d))
          (wide (m * up e) (n * up d) (2 ^ low f) (2 ^ 0) (down e) (down d) p l v is h)
      go false h =
          then false (m * up e * (n * up d)) (down e * down d) (mul-pos (down_pos e) (down_pos d))
          (wide (m * up e) (n * up d) (2 ^ low f) (2 ^ 0) (down e) (down d) l p v is h)

-- not rounded where it has few digits
product_plain : (f : Format) (p l v : ℕ) (x y : Float) → Counts f 0 x p l → HasValue y false v 1 → Few (prec f) (gap (p * v) (l * v)) → T (finite (mul f x y)) → Counts f 0 (mul f x y) (p * v) (l * v)
product_plain f p l v x y h k d =
    product_rounds f p l v (λ z. T (finite z) → Counts f 0 z (p * v) (l * v))
    (λ s num c C w t.
    let r = round_rounded f (p * v) (l * v) s num c C w t in
    round_plain f (p * v) (l * v) s num c C w d (rw (rounded_few (two-le_pos (prec f) (two f)) d) at r.below))
    x y h k

-- ---- by a power of two

few_scaled : {p n : ℕ} (j : ℕ) → Short p n → Few p (n * 2 ^ j)
few_scaled {p} {n} j s = record {
  place = s.place + j;
  multiple = record {
    times = s.multiple.times;
    is = ap (λ (k : ℕ). k * 2 ^ j) s.multiple.is ∙ mul_assoc s.multiple.times (2 ^ s.place) (2 ^ j) ∙ ap (λ (k : ℕ). s.multiple.times * k) (sym (pow-add 2 s.place j));
  };
  small = le_of_lt s.small;
}

side_scaled : (s : Bool) (n v : ℕ) → gap (cond s 0 n * v) (cond s n 0 * v) ≡ n * v
side_scaled true n v = omega (arith, zero-mul v)
side_scaled false n v = omega (arith, zero-mul v)

scaled : {x : Float} (j : ℕ) (y : Float) → HasValue y false (2 ^ j) 1 → Number x → T (finite (mul binary64 y x)) → read 0 x ⊙ (2 ^ j) ≈ read 0 (mul binary64 y x)
scaled {x} j y is n t =
    let h = held_number n in
    let a : Whole = record { plus = cond h.sign 0 h.size; less = cond h.sign h.size 0 } in
    let w : Worth 0 (mul binary64 x y) (a ⊙ (2 ^ j)) = record {
      unit = lit≤ tt;
      is = product_plain binary64 a.plus a.less (2 ^ j) x y h.counts is (rw (side_scaled h.sign h.size (2 ^ j)) (few_scaled j h.short)) (rw (mul_swap binary64 y x) at t);
    } in
    let e = worth_read (rw (mul_swap binary64 x y) at w) in
    let b = same_worth (number_worth n) (record { unit = lit≤ tt; is = h.counts }) in
    times_same (read 0 x) a (read 0 (mul binary64 y x)) (2 ^ j) b e
  where
    times_same : (a b c : Whole) (v : ℕ) → a ≈ b → b ⊙ v ≈ c → a ⊙ v ≈ c
    times_same a b c v e g =
        let k : (a.plus + b.less) * v ≡ (b.plus + a.less) * v = ap (λ (z : ℕ). z * v) e in
        omega (arith, g, k, add-mul a.plus b.less v, add-mul b.plus a.less v)

two_is : HasValue two64 false 2 1
unfolding of_bits
two_is = (refl, refl)

four_is : HasValue four64 false 4 1
unfolding of_bits
four_is = (refl, refl)

module _ {x : Float} (n : Number x) where
  pub twice_read : T (finite (mul binary64 two64 x)) → read 0 x ⊙ 2 ≈ read 0 (mul binary64 two64 x)
  twice_read t = scaled 1 two64 two_is n t

  pub four_read : T (finite (mul binary64 four64 x)) → read 0 x ⊙ 4 ≈ read 0 (mul binary64 four64 x)
  four_read t = scaled 2 four64 four_is n t
