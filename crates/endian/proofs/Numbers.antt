-- Little-endian numbers, read byte by byte from the highest, and the floats among them. Assumes nothing.
use Prim.Native.Nat.{ℕ, zero, suc, ◌+◌, ◌*◌, ◌-◌, ◌%◌, ◌^◌, ◌<◌, ◌≤◌}
use mathlib.Core.Path.{◌≡◌, refl, sym, ap, ◌∙◌}
use mathlib.Core.Bool.{Bool, true, false, not, true≢false}
use mathlib.Core.List.{List, [], ◌∷◌}
use native.Mathlib.Nat.{pow-succ', pow-le-pow_right, mul_left_comm}
use native.Mathlib.Omega.{arith}
use borrow.Author.Tests.{lt-ltb, le-ltb}
use lib.Dec.{T}
use lib.ListN.{length, get_or, take, drop, length-drop}
use lib.Seq.{drop-cons, length-take-le}
use lib.Ieee.{Float, nan, inf, fin, binary64, of_bits, sub, is_nan, nan_bits}
use lib.Ieee.Bits.{nan_bits_is, nan_bits_above}
use Rattle.std.specs.Prelude.{slice_index}
use Rattle.std.specs.Int.{byte_worth, sum_through}
use Rattle.endian.specs.Bytes.{value_of, number_at, float_at}

pub number_cons : (k : ℕ) (s : List ℕ) (at : ℕ) → at < length s → number_at (suc k) s at ≡ get_or s at 0 + 256 * number_at k s (suc at)
unfolding value_of number_at
number_cons k s at h = ap (λ (l : List ℕ). value_of (take (suc k) l)) (drop-cons s at 0 h)

-- the loop has read the k highest bytes of `width`
pub record Gathered (s : List ℕ) (at width value i : ℕ) : Type 0 where
  pub k : ℕ
  pub split : i + k ≡ width
  pub is : value ≡ number_at k s (at + i)
  pub small : value < 256 ^ k

pub gather_start : (s : List ℕ) (at width : ℕ) → Gathered s at width 0 width
unfolding value_of number_at
gather_start s at width = record { k = 0; split = omega arith; is = refl; small = omega arith }

module _ {s : List ℕ} {at width value i : ℕ} where
  pub gather_turn : Gathered s at width value i → 0 < i → at + width ≤ length s → (b : ℕ) → b ≡ get_or s (at + (i - 1)) 0 → b < 256
      → Gathered s at width (value * 256 + b) (i - 1)
  gather_turn g h room b e small = record {
    k = suc g.k;
    split = omega (arith, g.split);
    is =
        let next : suc (at + (i - 1)) ≡ at + i = omega arith in
        let cons = number_cons g.k s (at + (i - 1)) (omega (arith, g.split)) ∙ ap (λ (j : ℕ). get_or s (at + (i - 1)) 0 + 256 * number_at g.k s j) next in
        omega (arith, cons, g.is);
    small = omega (arith, pow-succ' 256 g.k, g.small);
  }

  -- one more byte still fits 64 bits
  pub gather_fits : Gathered s at width value i → 0 < i → width ≤ 8 → value * 256 + 255 < 2 ^ 64
  gather_fits g h w =
      let more : 256 ^ suc g.k ≤ 256 ^ 8 = pow-le-pow_right (omega arith) {i = suc g.k} {j = 8} (omega (arith, g.split)) in
      let all : 256 ^ 8 ≡ 2 ^ 64 = refl in
      omega (arith, pow-succ' 256 g.k, g.small, more, all)

  pub gather_done : Gathered s at width value i → i ≡ 0 → value ≡ number_at width s at
  gather_done g z =
      let k : g.k ≡ width = omega (arith, g.split) in
      let from : at + i ≡ at = omega arith in
      g.is ∙ ap (λ (j : ℕ). number_at j s (at + i)) k ∙ ap (number_at width s) from

-- ---- bounds

pub number_below : (k : ℕ) (s : List ℕ) (at : ℕ) → ((i : ℕ) → get_or s i 0 < 256) → at + k ≤ length s → number_at k s at < 256 ^ k
unfolding value_of number_at
number_below zero s at h room = omega arith
number_below (suc k) s at h room =
    omega (arith, number_cons k s at (omega arith), h at, pow-succ' 256 k, number_below k s (suc at) h (omega arith))

-- ---- the library's reading of an array

worth : List ℕ → ℕ → ℕ
worth l i = byte_worth i (slice_index l i)

scaled : (b p q : ℕ) → p ≡ 256 * q → b * p ≡ 256 * (b * q)
scaled b p q e = ap (λ (x : ℕ). b * x) e ∙ mul_left_comm b 256 q

worth_cons : (k a : ℕ) (l : List ℕ) → sum_through (worth (a ∷ l)) (suc k) ≡ a + 256 * sum_through (worth l) k
unfolding worth
worth_cons zero a l = omega arith
worth_cons (suc k) a l =
    omega (arith, worth_cons k a l, scaled (slice_index l (suc k)) (256 ^ suc (suc k)) (256 ^ suc k) (pow-succ' 256 (suc k)))

value_worth : (k : ℕ) (l : List ℕ) → length l ≡ suc k → sum_through (worth l) k ≡ value_of l
unfolding worth value_of
value_worth k [] e = absurd (omega (arith, e))
value_worth zero (a ∷ []) e = omega arith
value_worth zero (a ∷ b ∷ l) e = absurd (omega (arith, e))
value_worth (suc k) (a ∷ l) e = omega (arith, worth_cons k a l, value_worth k l (omega (arith, e)))

-- k + 1 bytes from an index, read by the library, are the number there
pub read_at_lem : (k : ℕ) (s : List ℕ) (at : ℕ) {l : List ℕ} → at + suc k ≤ length s → l ≡ take (suc k) (drop at s)
    → sum_through (λ i. byte_worth i (slice_index l i)) k ≡ number_at (suc k) s at
unfolding worth number_at
read_at_lem k s at {l} room e = value_worth k l (ap length e ∙ length-take-le (suc k) (drop at s) (omega (arith, length-drop at s))) ∙ ap value_of e

-- ---- floats

only_nan : (x : Float) → is_nan x ≡ true → x ≡ nan
unfolding is_nan
only_nan nan e = refl
only_nan (inf s) e = absurd (true≢false (sym e))
only_nan (fin s m e') e = absurd (true≢false (sym e))

-- the pattern of infinity
abbrev top : ℕ
top = 0x7ff0_0000_0000_0000

no_number : sub binary64 (of_bits binary64 top) (of_bits binary64 top) ≡ nan
unfolding sub of_bits
no_number = refl

pub nan_read : (s : List ℕ) (at : ℕ) {bits : ℕ} → bits ≡ number_at 8 s at → top < bits % 0x8000_0000_0000_0000
    → sub binary64 (of_bits binary64 top) (of_bits binary64 top) ≡ float_at s at
unfolding float_at
nan_read s at {bits} e h =
    no_number ∙ sym (only_nan _ (sym (nan_bits_is binary64 bits) ∙ nan_bits_above binary64 bits ∙ lt-ltb _ _ h)) ∙ ap (of_bits binary64) e

test_fails : (b : Bool) → b ≡ false → T (not b)
test_fails true e = absurd (true≢false e)
test_fails false e = tt

pub no_nan : (bits : ℕ) → bits % 0x8000_0000_0000_0000 ≤ top → T (not (nan_bits binary64 bits))
no_nan bits h = test_fails _ (nan_bits_above binary64 bits ∙ le-ltb _ _ h)
