-- On exact fields the tolerance is finite and above 0; and to exceed it is a tolerance in the meaning's sense, which a float test decides. Assumes nothing.
use mathlib.Core.Path.{◌≡◌, refl, sym, ap, ◌∙◌, subst}
use mathlib.Core.Logic.{◌↔◌}
use mathlib.Core.Bool.{Bool, true, false, ◌||◌, cond}
use Prim.Native.Nat.{ℕ, ◌+◌, ◌-◌, ◌*◌, ◌^◌, ◌≤◌, ◌<◌}
use native.Mathlib.Nat.{mul-lt-mul_of_pos_right, lt_of_mul-lt-mul_right, mul-le-mul_right, mul_assoc, mul_comm, mul_left_comm, add-mul, add_comm, mul-pos, mul-one, zero-mul}
use native.Mathlib.Omega.{arith}
use lib.Dec.{T, ltb, ltb→lt, lt→ltb, le→leb}
use lib.Pow.{pow_pos, pow-add, pow_mono}
use lib.Ieee.{Float, nan, inf, fin, binary64, up, down, add, mul, neg, lt, le, eq, round, of_bits}
use lib.Ieee.Fits.{down_pos}
use lib.Ieee.Positive.{num, den, positive, above, between, mul_mono}
use Rattle.whole.specs.Whole.{Whole, ◌⊕◌}
use Rattle.weights.specs.Counts.{Counts}
use Rattle.weights.specs.Worth.{Worth}
use Rattle.weights.proofs.Worth.{add_worth, le_worth}
use Rattle.field.specs.Field.{Field, variables}
use Rattle.meaning.specs.Pair.{Tolerance}
use Rattle.margins.specs.Exact.{Exact, mass_of}
use Rattle.margins.specs.Exceeds.{Exceeds}
use Rattle.margins.specs.Model.{one64, tiny64, at_least_one_of, mass, tolerance}
use Rattle.margins.proofs.Ends.{mass_worth, mass_under}

-- ---- to exceed a float: numbers with hundreds of digits stay behind variables, since omega refuses them
more : (N W a b c d : ℕ) → a + d ≤ c + b → N + b * W < a * W → N + d * W < c * W
more N W a b c d l h = omega (arith, mul-le-mul_right W l, add-mul a d W, add-mul c b W)

apart : (N W a b : ℕ) → N + b * W < a * W → b < a
apart N W a b h = lt_of_mul-lt-mul_right W (omega arith)

pub exceeds_tolerance : (u : ℕ) (t : Float) → Tolerance (Exceeds u t)
exceeds_tolerance u t =
    record {
      rises = λ {y} {z} l h. more (num t * 2 ^ 1074) (2 ^ u * den t) y.plus y.less z.plus z.less l h;
      strict = λ {z} h. apart (num t * 2 ^ 1074) (2 ^ u * den t) z.plus z.less h;
    }

-- a negative number of units is not above
negative : (N B L p l W Z : ℕ) → 0 < Z → N + l * W < p * W → B * L + p * Z ≡ l * Z → ⊥
negative N B L p l W Z vp k h = omega (arith, mul-lt-mul_of_pos_right (apart N W p l k) vp)

-- A / E below B / D, where B / D is p - l units of U / L
module _ (A B D E L U p l : ℕ) (dp : 0 < D) (lp : 0 < L) (e : B * L + l * (U * D) ≡ p * (U * D)) where
  cross→ : A * D < B * E → A * L + l * (U * E) < p * (U * E)
  cross→ h =
      lt_of_mul-lt-mul_right D
      (let h1 : A * D * L < B * E * L = mul-lt-mul_of_pos_right h lp in
      let h2 : (B * L + l * (U * D)) * E ≡ p * (U * D) * E = ap (λ (z : ℕ). z * E) e in
      simp (add-mul, mul_assoc, mul_comm, mul_left_comm) (omega (arith, simp (mul_assoc, mul_comm, mul_left_comm) at h1, simp (add-mul, mul_assoc, mul_comm, mul_left_comm) at h2)))

  cross← : A * L + l * (U * E) < p * (U * E) → A * D < B * E
  cross← h =
      lt_of_mul-lt-mul_right L
      (let h1 : (A * L + l * (U * E)) * D < p * (U * E) * D = mul-lt-mul_of_pos_right h dp in
      let h2 : (B * L + l * (U * D)) * E ≡ p * (U * D) * E = ap (λ (z : ℕ). z * E) e in
      simp (mul_assoc, mul_comm, mul_left_comm) (omega (arith, simp (add-mul, mul_assoc, mul_comm, mul_left_comm) at h1, simp (add-mul, mul_assoc, mul_comm, mul_left_comm) at h2)))

-- THE TEST: a float that is z units is above t exactly if z units are
pub above_means : (u : ℕ) (t x : Float) (z : Whole) → T (positive t) → Worth u x z → T (lt t x) ↔ Exceeds u t z
unfolding Counts lt
above_means u t x z ht hx = go t x ht hx.is
  where
    go : (t x : Float) → T (positive t) → Counts binary64 u x z.plus z.less → T (lt t x) ↔ Exceeds u t z
    go nan x a h = absurd a
    go (inf s) x a h = absurd a
    go (fin true m e) x a h = absurd a
    go (fin false m e) nan a h = absurd h
    go (fin false m e) (inf s) a h = absurd h
    go (fin false m e) (fin false n d) a h = (
      λ k. cross→ (m * up e) (n * up d) (down d) (down e) (2 ^ 1074) (2 ^ u) z.plus z.less (down_pos d) (pow_pos 1074) h (ltb→lt _ _ k),
      λ k. lt→ltb _ _ (cross← (m * up e) (n * up d) (down d) (down e) (2 ^ 1074) (2 ^ u) z.plus z.less (down_pos d) (pow_pos 1074) h k),
    )
    go (fin false m e) (fin true n d) a h = (
      (λ k. absurd k),
      λ k. absurd (negative (m * up e * 2 ^ 1074) (n * up d) (2 ^ 1074) z.plus z.less (2 ^ u * down e) (2 ^ u * down d) (mul-pos (pow_pos u) (down_pos d)) k h),
    )

-- below -t is above t, turned
pub lt_neg : (x t : Float) → lt x (neg t) ≡ lt t (neg x)
unfolding lt neg
lt_neg nan nan = refl
lt_neg nan (inf true) = refl
lt_neg nan (inf false) = refl
lt_neg nan (fin t n d) = refl
lt_neg (inf s) nan = refl
lt_neg (inf true) (inf true) = refl
lt_neg (inf true) (inf false) = refl
lt_neg (inf false) (inf true) = refl
lt_neg (inf false) (inf false) = refl
lt_neg (inf true) (fin t n d) = refl
lt_neg (inf false) (fin t n d) = refl
lt_neg (fin s m e) nan = refl
lt_neg (fin s m e) (inf true) = refl
lt_neg (fin s m e) (inf false) = refl
lt_neg (fin true m e) (fin true n d) = ap (ltb 0) (add_comm (m * up e * down d) (n * up d * down e))
lt_neg (fin true m e) (fin false n d) = refl
lt_neg (fin false m e) (fin true n d) = refl
lt_neg (fin false m e) (fin false n d) = refl

-- ---- the tolerance is finite and above 0

-- 2 ^ 1023
huge64 : Float
huge64 = of_bits binary64 0x7fe0_0000_0000_0000

part_power : (n u : ℕ) → u ≤ n → 2 ^ n ≡ 2 ^ (n - u) * 2 ^ u
part_power n u h = ap (λ (z : ℕ). 2 ^ z) (back n u h) ∙ pow-add 2 (n - u) u
  where
    back : (n u : ℕ) → u ≤ n → n ≡ n - u + u
    back n u h = omega arith

with_nothing : (N p W : ℕ) → N ≡ p * W → N + 0 * (W * 1) ≡ p * (W * 1)
with_nothing N p W e = rw mul-one (omega (arith, e, zero-mul W))

huge_worth : (u : ℕ) → u ≤ 2044 → Worth u huge64 (record { plus = 2 ^ (2097 - u); less = 0 })
unfolding huge64 Counts of_bits
huge_worth u h = record { unit = h; is = with_nothing (2 ^ 2097) (2 ^ (2097 - u)) (2 ^ u) (part_power 2097 u (omega arith)) }

pub lt→le : (x y : Float) → T (lt x y) → T (le x y)
unfolding le
lt→le x y h = go (lt x y) (eq x y) h
  where
    go : (a b : Bool) → T a → T (a || b)
    go true b t = tt
    go false b t = absurd t

pub one_one : T (le one64 one64)
unfolding le lt eq of_bits
one_one = tt

one_huge : T (le one64 huge64)
unfolding le lt eq of_bits huge64
one_huge = tt

pub tiny_tiny : T (le tiny64 tiny64)
unfolding le lt eq of_bits
tiny_tiny = tt

pub one_positive : T (positive one64)
unfolding of_bits
one_positive = tt

pub tiny_positive : T (positive tiny64)
unfolding of_bits
tiny_positive = tt

pub tiny_one : T (positive (mul binary64 tiny64 one64))
unfolding of_bits mul
tiny_one = tt

pub tiny_inf : T (above (mul binary64 tiny64 (inf false)))
unfolding of_bits mul
tiny_inf = tt

module _ {u : ℕ} {F : Field} (x : Exact u F) (i j : ℕ) (hi : i < variables F) (hj : j < variables F) where
  abbrev masses : Float
  masses = add binary64 (mass F i) (mass F j)

  masses_worth : Worth u masses (mass_of u F i ⊕ mass_of u F j)
  masses_worth = add_worth (mass_worth x i hi) (mass_worth x j hj) (omega (arith, mass_under x i hi, mass_under x j hj))

  masses_huge : T (le masses huge64)
  masses_huge =
      let room : 53 ≤ 2097 - u = omega (arith, x.unit) in
      let top : 2 ^ 53 ≤ 2 ^ (2097 - u) = pow_mono room in
      subst T (sym (le_worth masses_worth (huge_worth u (omega (arith, x.unit))))) (le→leb ((mass_of u F i ⊕ mass_of u F j).plus + 0) (2 ^ (2097 - u) + (mass_of u F i ⊕ mass_of u F j).less) (omega (arith, mass_under x i hi, mass_under x j hj)))

  base_low : T (le one64 (at_least_one_of masses))
  base_low = go (lt one64 masses) refl
    where
      go : (b : Bool) → lt one64 masses ≡ b → T (le one64 (cond b masses one64))
      go true e = lt→le one64 masses (subst T (sym e) tt)
      go false e = one_one

  base_high : T (le (at_least_one_of masses) huge64)
  base_high = go (lt one64 masses)
    where
      go : (b : Bool) → T (le (cond b masses one64) huge64)
      go true = masses_huge
      go false = one_huge

  -- Theorem. On an exact field the tolerance of a pair is finite and above 0.
  pub tolerance_positive : T (positive (tolerance F i j))
  unfolding of_bits mul round huge64
  tolerance_positive =
      let base : T (positive (at_least_one_of masses)) = between one64 (at_least_one_of masses) huge64 tt tt base_low base_high in
      between (mul binary64 tiny64 one64) (tolerance F i j) (mul binary64 tiny64 huge64) tt tt
      (mul_mono binary64 tiny64 tiny64 one64 (at_least_one_of masses) tt tt tt base tiny_tiny base_low)
      (mul_mono binary64 tiny64 tiny64 (at_least_one_of masses) huge64 tt tt base tt tiny_tiny base_high)
