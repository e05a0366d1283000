-- The bits of words: of two words together, of a power of 2. Assumes nothing.
use mathlib.Core.Path.{◌≡◌, refl, sym, ap, ◌∙◌}
use mathlib.Core.Bool.{◌||◌}
use Prim.Native.Nat.{ℕ, zero, suc, ◌+◌, ◌*◌, ◌/◌, ◌%◌, ◌^◌, ◌<◌, ◌≤◌}
use native.Mathlib.Omega.{arith}
use native.Mathlib.Nat.{pow-suc}
use lib.Bits.{bit_and, bit_or, and_mask, or_step, or_shr}
use lib.Pow.{shr-shr, pow_pos, high, shl_exact}
use lib.Dec.{eqb, eqb-zero-suc, eqb-suc-zero, eqb-suc-suc}
use borrow.Author.Tests.{eq-eqb, ne_eqb}
use Rattle.bit_rows.specs.Rows.{digit}

-- a binary digit as a test
small_or : (x y : ℕ) → x < 2 → y < 2 → (z : ℕ) → x ≤ z → y ≤ z → z ≤ x + y → z < 2 → eqb z 1 ≡ (eqb x 1 || eqb y 1)
small_or zero zero hx hy z p q s l = ne_eqb z 1 (λ e. omega arith)
small_or zero (suc zero) hx hy z p q s l = eq-eqb z 1 (omega arith)
small_or (suc zero) y hx hy z p q s l = eq-eqb z 1 (omega arith)
small_or zero (suc (suc y)) hx hy z p q s l = absurd (omega arith)
small_or (suc (suc x)) y hx hy z p q s l = absurd (omega arith)

-- bit k of two words together
pub or_digit : (x y k : ℕ) → digit (bit_or x y) k ≡ (digit x k || digit y k)
unfolding digit
or_digit x y k =
    let e = or_step (x / 2 ^ k) (y / 2 ^ k) in
    rw (or_shr x y k)
    (small_or (x / 2 ^ k % 2) (y / 2 ^ k % 2) (omega arith) (omega arith) (bit_or (x / 2 ^ k) (y / 2 ^ k) % 2) (omega arith) (omega arith) (omega arith) (omega arith))

halved : (m k : ℕ) → 2 ^ suc m / 2 ^ suc k ≡ 2 ^ m / 2 ^ k
halved m k =
    let p = pow-suc 2 m in
    let h : 2 ^ suc m / 2 ≡ 2 ^ m = omega arith in
    sym (ap (λ (x : ℕ). x / 2 ^ k) (sym h) ∙ shr-shr (2 ^ suc m) 1 k ∙ ap (λ (j : ℕ). 2 ^ suc m / 2 ^ j) (omega arith))

-- bit k of a power of 2
pub pow_digit : (m k : ℕ) → digit (2 ^ m) k ≡ eqb m k
unfolding digit
pow_digit zero zero = refl
pow_digit zero (suc k) =
    let l : 1 < 2 ^ suc k = omega (arith, pow-suc 2 k, pow_pos k) in
    let e : 1 / 2 ^ suc k ≡ 0 = ap (λ (x : ℕ). x / 2 ^ suc k) (omega arith) ∙ high 0 (suc k) l in
    rw e (sym (eqb-zero-suc k))
pow_digit (suc m) zero =
    let p = pow-suc 2 m in
    let e : 2 ^ suc m / 1 % 2 ≡ 0 = omega arith in
    rw e (sym (eqb-suc-zero m))
pow_digit (suc m) (suc k) = rw (halved m k, eqb-suc-suc m k) (pow_digit m k)

-- ---- as the code has them

pub read_digit : (x k : ℕ) → eqb (bit_and (x / 2 ^ k) 1) 1 ≡ digit x k
unfolding digit
read_digit x k = ap (λ (z : ℕ). eqb z 1) (and_mask (x / 2 ^ k) 1)

pub shifted_one : (k : ℕ) → k < 64 → (1 * 2 ^ k) % 2 ^ 64 ≡ 2 ^ k
shifted_one k h = let e = shl_exact {a = 1} 1 k 64 (omega arith) (omega arith) in omega arith
