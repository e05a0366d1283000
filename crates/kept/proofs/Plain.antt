-- A bound + 0.0 is the same number, and two that are one number are one float: a zero is +0.0. Assumes nothing.
use mathlib.Core.Path.{◌≡◌, refl, sym, ap, ◌∙◌}
use mathlib.Core.Bool.{Bool, true, false, cond, ◌&&◌, beq}
use Prim.Native.Nat.{ℕ, ◌+◌, ◌-◌, ◌*◌, ◌^◌, ◌<◌}
use native.Mathlib.Decide.{ℕ_discrete}
use native.Mathlib.Nat.{zero-mul, mul-one, mul-pos, eq_of_mul-eq-mul_right}
use native.Mathlib.Omega.{arith}
use lib.IntN.{ℤ, pos}
use lib.Dec.{ltb}
use lib.Pow.{pow_pos}
use lib.Ieee.{Float, nan, inf, fin, binary64, low, up, down, round, sum, add, of_bits}
use lib.Ieee.Fits.{up_pos, down_pos, round-fits, add-fits}
use lib.Ieee.Bits.{of_bits-fits}
use lib.Ieee.Exact.{HasValue, round_exact}
use lib.Ieee.Back.{whole_unique}
use Rattle.whole.specs.Whole.{Whole, Zero, Under}
use Rattle.weights.specs.Counts.{Signed, Counts}
use Rattle.weights.specs.Worth.{Worth, zero64}
use Rattle.weights.proofs.Worth.{add_worth, as_worth, zero_worth, unique_worth}
use Rattle.rows.specs.declared.Row.{Row}
use Rattle.rows.specs.Counted.{RowWorth}
use Rattle.kept.specs.Kept.{plain}

-- ---- a zero

zero_is : zero64 ≡ fin false 0 (pos 0)
unfolding of_bits
zero_is = refl

zero_value : HasValue zero64 false 0 1
unfolding of_bits
zero_value = (refl, refl)

-- a fraction 0 / c is 0 / 1
in_ones : (x : Float) (c : ℕ) → 0 < c → HasValue x false 0 c → HasValue x false 0 1
in_ones nan c p h = h
in_ones (inf t) c p h = h
in_ones (fin t m e) c p h = (
  h.0,
  eq_of_mul-eq-mul_right c p (m * up e * 1) (0 * down e) (ap (λ (x : ℕ). x * c) (mul-one (m * up e)) ∙ h.1 ∙ zero-mul (down e) ∙ sym (zero-mul c) ∙ ap (λ (x : ℕ). x * c) (sym (zero-mul (down e)))),
)

round_zero : (c : ℕ) → 0 < c → round binary64 false 0 c ≡ zero64
round_zero c p =
    whole_unique binary64 (round binary64 false 0 c) zero64 false 0 (round-fits binary64 false 0 c) (of_bits-fits binary64 0)
    (in_ones (round binary64 false 0 c) c p (round_exact binary64 false 0 c 0 0 p (pow_pos 53) (pow_pos (low binary64 + 1024)) (zero-mul (2 ^ low binary64) ∙ sym (zero-mul c)))) zero_value

-- ±0 + 0.0
zero_plus : (s : Bool) (e : ℤ) → add binary64 (fin s 0 e) zero64 ≡ zero64
unfolding add sum of_bits
zero_plus s e = rw zero_is (by s (0 * up e * 1) (0 * up (pos 0) * down e) (ap (λ (x : ℕ). x * 1) (zero-mul (up e))) (zero-mul (down e)))
  where
    by : (s : Bool) (a b : ℕ) → a ≡ 0 → b ≡ 0
        → cond (beq s false) (round binary64 s (a + b) (down e * 1)) (cond (ltb a b) (round binary64 false (b - a) (down e * 1)) (round binary64 (s && ltb b a) (a - b) (down e * 1))) ≡ zero64
    by true a b p q = rw (p, q) (round_zero (down e * 1) (mul-pos (down_pos e) (omega arith)))
    by false a b p q = rw (p, q) (round_zero (down e * 1) (mul-pos (down_pos e) (omega arith)))

-- a float of which no units are left
no_units : (s : Bool) (A L W p l : ℕ) → Signed s A p l L W → p ≡ l → A * L ≡ 0
no_units true A L W p l h e = omega (arith, ap (λ (i : ℕ). i * W) e)
no_units false A L W p l h e = omega (arith, ap (λ (i : ℕ). i * W) e)

factor_zero : (m a b : ℕ) → 0 < a → 0 < b → m * a * b ≡ 0 → m ≡ 0
factor_zero m a b p q e =
    eq_of_mul-eq-mul_right a p m 0 (eq_of_mul-eq-mul_right b q (m * a) (0 * a) (e ∙ sym (zero-mul b) ∙ ap (λ (x : ℕ). x * b) (sym (zero-mul a))))

-- whatever is worth 0 is stored as +0.0
pub zero_plain : {u : ℕ} {x : Float} {a : Whole} → Worth u x a → Zero a → add binary64 x zero64 ≡ zero64
unfolding Counts
zero_plain {u} {x} {a} h z = go x h.is
  where
    go : (x : Float) → Counts binary64 u x a.plus a.less → add binary64 x zero64 ≡ zero64
    go nan k = absurd k
    go (inf s) k = absurd k
    go (fin s m e) k =
        let none : m ≡ 0 = factor_zero m (up e) (2 ^ low binary64) (up_pos e) (pow_pos (low binary64)) (no_units s (m * up e) (2 ^ low binary64) (2 ^ u * down e) a.plus a.less k z) in
        rw none (zero_plus s e)

-- ---- bounds

plus_zero : {u : ℕ} {x : Float} {a : Whole} → Worth u x a → Under (2 ^ 50) a → Worth u (add binary64 x zero64) a
plus_zero h w = as_worth (add_worth h (zero_worth h.unit) (omega arith)) (omega arith)

-- two floats of one ledger are stored as one
pub plain_unique : {u : ℕ} {x y : Float} {a : Whole} → Worth u x a → Worth u y a → Under (2 ^ 50) a → add binary64 x zero64 ≡ add binary64 y zero64
plain_unique {x = x} {y = y} {a = a} h k w = elim (ℕ_discrete a.plus a.less) [
  | yes z ↦ zero_plain h z ∙ sym (zero_plain k z)
  | no n ↦ unique_worth (add-fits binary64 x zero64) (add-fits binary64 y zero64) (plus_zero h w) (plus_zero k w) n
]

module _ {u : ℕ} {r : Row} {a b : Whole} (h : RowWorth u r a b) (near-a : Under (2 ^ 50) a) (near_b : Under (2 ^ 50) b) where
  -- a row is worth the same as it is stored
  pub plain_worth : RowWorth u (plain r) a b
  plain_worth = record { lower = plus_zero h.lower near-a; upper = plus_zero h.upper near_b }

  -- and rows of one worth are stored as one
  pub plain_row : {r' : Row} → RowWorth u r' a b → plain r ≡ plain r'
  plain_row k = rw (plain_unique h.lower k.lower near-a, plain_unique h.upper k.upper near_b) refl
