-- The largest unit of which a float is a whole number: what the exponent and the trailing zeros of the significand say. Assumes nothing.
use mathlib.Core.Path.{◌≡◌, refl, sym, ap, ap₂, ◌∙◌, subst}
use mathlib.Core.Bool.{Bool, true, false, not, ◌&&◌, cond}
use Prim.Native.Nat.{ℕ, zero, suc, ◌+◌, ◌-◌, ◌*◌, ◌/◌, ◌%◌, ◌^◌, ◌≤◌, ◌<◌}
use native.Mathlib.Nat.{zero-add, add_comm, mod-lt, suc-add, mul-pos, zero-lt-suc, div-add-mod', mul-mod_left}
use native.Mathlib.Nat.{mul_assoc, mul_comm, mul-one, zero-mul, eq_of_mul-eq-mul_right, pow-suc, lt_of_not-le, not-le_of_lt, le_of_suc-le-suc}
use native.Mathlib.Omega.{arith}
use lib.IntN.{ℤ, pos, negsuc}
use lib.Dec.{T, lit<, leb, ltb, eqb, leb→le, nleb→lt, le→leb, eqb→eq}
use borrow.Author.Tests.{not-false}
use lib.Count.{count_trailing_zeros, under}
use native.Mathlib.Numerals.{add-one}
use lib.Ieee.Bits.{of_bits-to_bits}
use lib.Pow.{field, shr_lt, pow_pos, pow-add, pow-lt}
use lib.Ieee.{Float, nan, inf, fin, Format, prec, emax, low, up, down, minus, odd, fits, is_nan, binary64, of_fields, of_bits, to_bits, hid, top, ones}
use lib.Ieee.Digits.{odd_val}
use lib.Ieee.Positive.{first_pos}
use lib.Ieee.Fits.{down_pos, and_l, and_r, eq→eqb}
use lib.Ieee.Scale.{finite}
use Rattle.weights.specs.Counts.{whole_in}
use Rattle.weights.specs.Grain.{place, grain}
use Rattle.weights.proofs.Compare.{same_bool}

-- ---- an odd number times 2 ^ a is a multiple of 2 ^ b where b is at most a, and only there

even : (m t : ℕ) → m % 2 ≡ 1 → m ≡ t * 2 → ⊥
even m t o e = omega arith

up_to : (m a b : ℕ) → b ≤ a → m * 2 ^ a % 2 ^ b ≡ 0
up_to m a b h = ap (λ (x : ℕ). x % 2 ^ b) is ∙ mul-mod_left (m * 2 ^ (a - b)) (2 ^ b)
  where
    is : m * 2 ^ a ≡ m * 2 ^ (a - b) * 2 ^ b
    is = ap (λ (x : ℕ). m * 2 ^ x) (sym (sub_back a b h)) ∙ ap (λ (x : ℕ). m * x) (pow-add 2 (a - b) b) ∙ sym (mul_assoc m (2 ^ (a - b)) (2 ^ b))
      where
        sub_back : (a b : ℕ) → b ≤ a → a - b + b ≡ a
        sub_back a b h = omega arith

not_beyond : (m a b : ℕ) → m % 2 ≡ 1 → a < b → m * 2 ^ a % 2 ^ b ≡ 0 → ⊥
not_beyond m a b o h e = even m (t * 2 ^ d) o (eq_of_mul-eq-mul_right (2 ^ a) (pow_pos a) m (t * 2 ^ d * 2) is)
  where
    t : ℕ
    t = m * 2 ^ a / 2 ^ b

    d : ℕ
    d = b - suc a

    split : (a b : ℕ) → a < b → b ≡ suc (b - suc a) + a
    split a b h = omega arith

    power : 2 ^ b ≡ 2 ^ d * 2 * 2 ^ a
    power = ap (λ (x : ℕ). 2 ^ x) (split a b h) ∙ pow-add 2 (suc d) a ∙ ap (λ (x : ℕ). x * 2 ^ a) (pow-suc 2 d)

    is : m * 2 ^ a ≡ t * 2 ^ d * 2 * 2 ^ a
    is =
        let whole : m * 2 ^ a ≡ t * 2 ^ b = omega (arith, div-add-mod' (m * 2 ^ a) (2 ^ b)) in
        whole ∙ ap (λ (x : ℕ). t * x) power ∙ simp mul_assoc

odd_whole : (m a b : ℕ) → m % 2 ≡ 1 → eqb (m * 2 ^ a % 2 ^ b) 0 ≡ leb b a
odd_whole m a b o =
    same_bool (eqb (m * 2 ^ a % 2 ^ b) 0) (leb b a)
    (λ h. le→leb b a (le_of_suc-le-suc (lt_of_not-le (λ (g : suc a ≤ b). not_beyond m a b o g (eqb→eq (m * 2 ^ a % 2 ^ b) 0 h)))))
    (λ h. eq→eqb (up_to m a b (leb→le b a h)))

-- ---- what `fits` says of the significand and the exponent

fits_odd : (f : Format) (s : Bool) (m : ℕ) (e : ℤ) → T (fits f (fin s (suc m) e)) → suc m % 2 ≡ 1
unfolding fits
fits_odd f s m e t =
    let a : Bool = eqb (suc m % 2) 1 in
    let b : Bool = ltb (suc m) (2 ^ prec f) in
    let c : Bool = leb (down e) (2 ^ low f) in
    eqb→eq (suc m % 2) 1 (and_l a b (and_l (a && b) c (and_l (a && b && c) (ltb (suc m * up e) (2 ^ suc (emax f) * down e)) t)))

fits_low : (f : Format) (s : Bool) (m k : ℕ) → T (fits f (fin s (suc m) (negsuc k))) → suc k ≤ low f
unfolding fits
fits_low f s m k t =
    let e = negsuc k in
    let a : Bool = eqb (suc m % 2) 1 in
    let b : Bool = ltb (suc m) (2 ^ prec f) in
    let c : Bool = leb (down e) (2 ^ low f) in
    let h : 2 ^ suc k ≤ 2 ^ low f = leb→le (2 ^ suc k) (2 ^ low f) (and_r (a && b) c (and_l (a && b && c) (ltb (suc m * up e) (2 ^ suc (emax f) * down e)) t)) in
    le_of_suc-le-suc (lt_of_not-le (λ (g : suc (low f) ≤ suc k). not-le_of_lt (pow-lt g) h))

moved : (a b c : ℕ) → c ≤ b → leb (a + c) b ≡ leb a (b - c)
moved a b c h = same_bool (leb (a + c) b) (leb a (b - c)) (λ i. le→leb a (b - c) (omega (arith, leb→le (a + c) b i))) (λ i. le→leb (a + c) b (omega (arith, leb→le a (b - c) i)))

-- ---- THE LAW: wholeness in a unit is one comparison with the grain

pub grain_whole : (f : Format) (u : ℕ) (x : Float) → T (fits f x) → T (finite x) → u ≤ 4096 → whole_in f u x ≡ leb u (grain f x)
unfolding whole_in grain
grain_whole f u nan t n h = absurd n
grain_whole f u (inf s) t n h = absurd n
grain_whole f u (fin s zero e) t n h =
    let W = 2 ^ u * down e in
    let none : 0 * up e * 2 ^ low f % W ≡ 0 = ap (λ (x : ℕ). x % W) (ap (λ (x : ℕ). x * 2 ^ low f) (zero-mul (up e)) ∙ zero-mul (2 ^ low f) ∙ sym (zero-mul W)) ∙ mul-mod_left 0 W in
    same_bool (eqb (0 * up e * 2 ^ low f % W) 0) (leb u 4096) (λ i. le→leb u 4096 h) (λ i. eq→eqb none)
grain_whole f u (fin s (suc m) (pos k)) t n h =
    let num : suc m * 2 ^ k * 2 ^ low f ≡ suc m * 2 ^ (low f + k) = rw (pow-add, mul_comm (2 ^ low f) (2 ^ k)) (mul_assoc (suc m) (2 ^ k) (2 ^ low f)) in
    ap₂ (λ (x y : ℕ). eqb (x % y) 0) num (mul-one (2 ^ u)) ∙ odd_whole (suc m) (low f + k) u (fits_odd f s m (pos k) t)
grain_whole f u (fin s (suc m) (negsuc k)) t n h =
    ap₂ (λ (x y : ℕ). eqb (x % y) 0) (ap (λ (x : ℕ). x * 2 ^ low f) (mul-one (suc m))) (sym (pow-add 2 u (suc k)))
    ∙ odd_whole (suc m) (low f) (u + suc k) (fits_odd f s m (negsuc k) t)
    ∙ moved u (low f) (suc k) (fits_low f s m k t)

-- ---- the grain as it is read from a bit pattern

-- `odd` divides out the significand's zeros, so they show in the exponent
tz_more : (d j n : ℕ) → 0 < n → n < 2 ^ d → count_trailing_zeros (d + j) n ≡ count_trailing_zeros d n
unfolding count_trailing_zeros
tz_more zero j n p h = absurd (omega arith)
tz_more (suc d) j n p h =
    ap (λ (x : ℕ). count_trailing_zeros x n) (suc-add d j) ∙ go (n % 2) refl (λ e. tz_more d j (n / 2) (omega arith) (shr_lt d 1 (rw add-one h)))
  where
    go : (r : ℕ) → n % 2 ≡ r → (n % 2 ≡ 0 → count_trailing_zeros (d + j) (n / 2) ≡ count_trailing_zeros d (n / 2)) → under r (count_trailing_zeros (d + j) (n / 2)) ≡ under r (count_trailing_zeros d (n / 2))
    go zero e ih = ap suc (ih e)
    go (suc r) e ih = refl

place_minus : (f : Format) (a : ℕ) → place f (minus a (low f)) ≡ a
place_minus f a = go (leb (low f) a) (leb→le (low f) a) (nleb→lt (low f) a)
  where
    go : (b : Bool) → (T b → low f ≤ a) → (T (not b) → a < low f) → place f (cond b (pos (a - low f)) (negsuc (low f - suc a))) ≡ a
    go true h k = omega (arith, h tt)
    go false h k = omega (arith, k tt)

grain_fin : (f : Format) (s : Bool) (m : ℕ) (e : ℤ) → 0 < m → grain f (fin s m e) ≡ place f e
unfolding grain
grain_fin f s zero e h = absurd (omega arith)
grain_fin f s (suc m) e h = refl

grain_odd : (f : Format) (d : ℕ) (s : Bool) (q k : ℕ) → 0 < q → grain f (odd d s q k (low f)) ≡ k + count_trailing_zeros d q
unfolding odd
grain_odd f d s zero k h = absurd (omega arith)
grain_odd f d s (suc q) k h = grain_fin f s m e (first_pos m (up e * 2 ^ low f) some) ∙ place_minus f (k + t)
  where
    t : ℕ
    t = count_trailing_zeros d (suc q)

    m : ℕ
    m = suc q / 2 ^ t

    e : ℤ
    e = minus (k + t) (low f)

    some : 0 < m * (up e * 2 ^ low f)
    some = subst (λ (x : ℕ). 0 < x) (sym (sym (mul_assoc m (up e) (2 ^ low f)) ∙ odd_val d s (suc q) k (low f))) (mul-pos (mul-pos (zero-lt-suc q) (pow_pos k)) (down_pos e))

-- 2 ^ 52, and what stands above and below it in a bit pattern: the exponent's field, and the digits
abbrev pub leading : ℕ
leading = 4503599627370496

abbrev pub exponent : Float → ℕ
exponent x = to_bits binary64 x / leading % 2048

abbrev pub digits : Float → ℕ
digits x = to_bits binary64 x % leading

-- the grain of a double with the exponent's field F and the digits t
unfoldable pub from_fields : ℕ → ℕ → ℕ
from_fields zero zero = 4096
from_fields zero (suc t) = count_trailing_zeros 64 (suc t)
from_fields (suc F) t = F + count_trailing_zeros 64 (t + leading)

grain_fields : (s : Bool) (F t : ℕ) → t < 2 ^ 52 → T (finite (of_fields binary64 s F t)) → grain binary64 (of_fields binary64 s F t) ≡ from_fields F t
unfolding of_fields from_fields
grain_fields s zero zero h n = unfold grain in refl
grain_fields s zero (suc t) h n =
    grain_odd binary64 53 s (suc t) 0 (zero-lt-suc t) ∙ zero-add (count_trailing_zeros 53 (suc t)) ∙ sym (tz_more 53 11 (suc t) (zero-lt-suc t) (omega arith))
grain_fields s (suc F) t h n = go (eqb (suc F) (ones binary64)) (eqb t 0) n
  where
    go : (i j : Bool) → T (finite (cond i (cond j (inf s) nan) (odd 53 s (hid binary64 + t) F (low binary64))))
        → grain binary64 (cond i (cond j (inf s) nan) (odd 53 s (hid binary64 + t) F (low binary64))) ≡ F + count_trailing_zeros 64 (t + leading)
    go true true n = absurd n
    go true false n = absurd n
    go false j n =
        grain_odd binary64 53 s (hid binary64 + t) F (omega arith)
        ∙ ap (λ (x : ℕ). F + x) (sym (tz_more 53 11 (hid binary64 + t) (omega arith) (omega arith)) ∙ ap (count_trailing_zeros 64) (add_comm (hid binary64) t))

pub grain_bits : (x : Float) → T (fits binary64 x) → T (finite x) → grain binary64 x ≡ from_fields (exponent x) (digits x)
unfolding of_bits
grain_bits x t n =
    let b = to_bits binary64 x in
    let s : Bool = leb (top binary64) b in
    let same : of_fields binary64 s (exponent x) (digits x) ≡ x = ap (λ (k : ℕ). of_fields binary64 s k (digits x)) (sym (field b 11 52)) ∙ of_bits-to_bits binary64 x t in
    ap (grain binary64) (sym same) ∙ grain_fields s (exponent x) (digits x) (mod-lt b (lit< tt)) (subst (λ (y : Float). T (finite y)) (sym same) n)

-- ---- the ways of the code

-- what a test r of the fact b says where the code goes on
pub passed : {r b : Bool} → r ≡ b → not r ≡ false → T b
passed {r} e h = subst T (sym (not-false r h) ∙ e) tt

pub finite_not_nan : (x : Float) → T (finite x) → T (not (is_nan x))
unfolding is_nan
finite_not_nan nan h = h
finite_not_nan (inf s) h = tt
finite_not_nan (fin s m e) h = tt
