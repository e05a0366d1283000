-- What a sum of two floats is where it is rounded, and where it is not, counted in the smallest unit of the format: for either format. Assumes nothing.
use mathlib.Core.Path.{◌≡◌, refl, sym, ap, ◌∙◌, subst}
use mathlib.Core.Bool.{Bool, true, false, not, ◌&&◌, cond}
use Prim.Native.Nat.{ℕ, suc, ◌+◌, ◌-◌, ◌*◌, ◌/◌, ◌^◌, ◌≤◌, ◌<◌}
use native.Mathlib.Nat.{add_comm, mul_comm, mul_assoc, add-mul, mul-pos, mul-div_cancel, le_of_lt, sub-add_cancel, mul-le-mul_right, le_of_mul-le-mul_right, one-mul}
use native.Mathlib.Omega.{arith}
use lib.Dec.{T, ltb, ltb→lt, nltb→le}
use lib.Pow.{pow_pos}
use lib.Ieee.{Float, nan, inf, fin, Format, prec, low, up, down, size, odd, units, round, sum, add}
use lib.Ieee.Fits.{down_pos, round_is, two, two-le_pos}
use lib.Ieee.Exact.{HasValue, units_val}
use lib.Ieee.Nearest.{closest, closest_same}
use lib.Ieee.Scale.{finite, overflow}
use Rattle.weights.specs.Counts.{Signed, Counts}
use Rattle.weights.proofs.Counting.{counts_of, apart, common}
use Rattle.expansion.proofs.Nearby.{gap, dropped, rounded, Few, rounded_none, rounded_few}

-- ---- ±a + ±b is one fraction, which is rounded once

less : (a b k : ℕ) → a ≤ b → (b - a) * k + a * k ≡ b * k
less a b k h = sym (add-mul (b - a) a k) ∙ ap (λ (x : ℕ). x * k) (sub-add_cancel h)

module _ (f : Format) (a b c p l p' l' L W : ℕ) (P : Float → Type 0)
    (then : (s : Bool) (num : ℕ) → Signed s num (p + p') (l + l') L W → P (round f s num c)) where
  sum_rounds : (s t : Bool) → Signed s a p l L W → Signed t b p' l' L W → P (sum f s a t b c)
  unfolding sum
  sum_rounds true true x y = then true (a + b) (omega (arith, add-mul a b L, add-mul p p' W, add-mul l l' W))
  sum_rounds false false x y = then false (a + b) (omega (arith, add-mul a b L, add-mul p p' W, add-mul l l' W))
  sum_rounds true false x y = go (ltb a b) (ltb b a) (ltb→lt a b) (nltb→le a b) (nltb→le b a)
    where
      go : (i j : Bool) → (T i → a < b) → (T (not i) → b ≤ a) → (T (not j) → a ≤ b) → P (cond i (round f false (b - a) c) (round f (true && j) (a - b) c))
      go true j i n m = then false (b - a) (omega (arith, less a b L (le_of_lt (i tt)), add-mul p p' W, add-mul l l' W))
      go false true i n m = then true (a - b) (omega (arith, less b a L (n tt), add-mul p p' W, add-mul l l' W))
      go false false i n m = then false (a - b) (omega (arith, less b a L (n tt), mul-le-mul_right L (m tt), add-mul p p' W, add-mul l l' W))
  sum_rounds false true x y = go (ltb a b) (ltb→lt a b) (nltb→le a b)
    where
      go : (i : Bool) → (T i → a < b) → (T (not i) → b ≤ a) → P (cond i (round f true (b - a) c) (round f false (a - b) c))
      go true i n = then true (b - a) (omega (arith, less a b L (le_of_lt (i tt)), add-mul p p' W, add-mul l l' W))
      go false i n = then false (a - b) (omega (arith, less b a L (n tt), add-mul p p' W, add-mul l l' W))

module _ (f : Format) (u p l p' l' : ℕ) (P : Float → Type 0)
    (then : (s : Bool) (num c : ℕ) → 0 < c → Signed s num (p + p') (l + l') (2 ^ low f) (2 ^ u * c) → P (round f s num c)) where
  pub add_rounds : (x y : Float) → Counts f u x p l → Counts f u y p' l' → P (add f x y)
  unfolding Counts add
  add_rounds nan y h k = absurd h
  add_rounds (inf s) y h k = absurd h
  add_rounds (fin s m e) nan h k = absurd k
  add_rounds (fin s m e) (inf t) h k = absurd k
  add_rounds (fin s m e) (fin t n d) h k =
      let both = common f u p l p' l' s t m n e d h k in
      sum_rounds f (m * up e * down d) (n * up d * down e) (down e * down d) p l p' l' (2 ^ low f) (2 ^ u * (down e * down d)) P
      (λ s num. then s num (down e * down d) (mul-pos (down_pos e) (down_pos d))) s t both.0 both.1

-- ---- a fraction that is n units, rounded

units_below : (f : Format) (s : Bool) (q k : ℕ) → T (finite (units f s q k)) → q * 2 ^ k < overflow f
unfolding units
units_below f s q k = go (ltb (q * 2 ^ k) (overflow f)) (ltb→lt (q * 2 ^ k) (overflow f))
  where
    go : (b : Bool) → (T b → q * 2 ^ k < overflow f) → T (finite (cond b (odd (suc (prec f)) s q k (low f)) (inf s))) → q * 2 ^ k < overflow f
    go true h t = h tt
    go false h t = absurd t

module _ (f : Format) (s : Bool) (num c n : ℕ) (C : 0 < c) (is : num * 2 ^ low f ≡ n * c) where
  round_units : round f s num c ≡ units f s (closest n (2 ^ dropped (prec f) n)) (dropped (prec f) n)
  round_units =
      let w : num * 2 ^ low f / c ≡ n = ap (λ (k : ℕ). k / c) is ∙ mul-div_cancel n C in
      let k = dropped (prec f) n in
      round_is f s num c
      ∙ ap (λ (z : ℕ). units f s (closest (num * 2 ^ low f) (c * 2 ^ (size z - prec f))) (size z - prec f)) w
      ∙ ap (λ (z : ℕ). units f s z k) (closest_same (num * 2 ^ low f) (c * 2 ^ k) n (2 ^ k) (mul-pos C (pow_pos k)) (pow_pos k) (ap (λ (z : ℕ). z * 2 ^ k) is ∙ mul_assoc n c (2 ^ k)))

  round_value : rounded (prec f) n < overflow f → HasValue (round f s num c) s (rounded (prec f) n) (2 ^ low f)
  unfolding rounded
  round_value h = rw round_units (units_val f s (closest n (2 ^ dropped (prec f) n)) (dropped (prec f) n) h)

  round_below : T (finite (round f s num c)) → rounded (prec f) n < overflow f
  unfolding rounded
  round_below t = units_below f s (closest n (2 ^ dropped (prec f) n)) (dropped (prec f) n) (rw round_units at t)

-- ---- the laws of counts, in the format's smallest unit

pub record Rounded (f : Format) (p l : ℕ) (x : Float) : Type 0 where
  pub counts : Counts f 0 x (rounded (prec f) (p - l)) (rounded (prec f) (l - p))
  pub below : rounded (prec f) (gap p l) < overflow f

-- what one sign says of both sides of a count
module _ (p l : ℕ) where
  side_gap : (s : Bool) → cond s p l ≤ cond s l p → cond s l p - cond s p l ≡ gap p l
  side_gap true h = omega arith
  side_gap false h = omega arith

  side_signed : (s : Bool) (L : ℕ) → cond s p l ≤ cond s l p → Signed s (gap p l) p l L (2 ^ 0 * L)
  side_signed true L h = let e : gap p l ≡ l - p = omega arith in rw (e, one-mul L) (less p l L h)
  side_signed false L h = let e : gap p l ≡ p - l = omega arith in rw (e, one-mul L) (less l p L h)

  side_rounded : (k : ℕ) (s : Bool) (L : ℕ) → cond s p l ≤ cond s l p → Signed s (rounded k (gap p l)) (rounded k (p - l)) (rounded k (l - p)) L (2 ^ 0 * L)
  side_rounded k true L h =
      let e : gap p l ≡ l - p = omega arith in let z : p - l ≡ 0 = omega arith in rw (e, z, rounded_none k, one-mul L) (omega arith)
  side_rounded k false L h =
      let e : gap p l ≡ p - l = omega arith in let z : l - p ≡ 0 = omega arith in rw (e, z, rounded_none k, one-mul L) (omega arith)

module _ (f : Format) (p l : ℕ) (s : Bool) (num c : ℕ) (C : 0 < c) (h : Signed s num p l (2 ^ low f) (2 ^ 0 * c)) where
  one_side : cond s p l ≤ cond s l p
  one_side = le_of_mul-le-mul_right {m = cond s p l} {n = cond s l p} {k = 2 ^ 0 * c} (omega arith) (mul-pos (pow_pos 0) C)

  is_gap : num * 2 ^ low f ≡ gap p l * c
  is_gap =
      apart num (2 ^ low f) (cond s p l) (cond s l p) (2 ^ 0 * c) (mul-pos (pow_pos 0) C) h
      ∙ ap (λ (k : ℕ). (cond s l p - cond s p l) * k) (one-mul c)
      ∙ ap (λ (k : ℕ). k * c) (side_gap p l s one_side)

  pub round_rounded : T (finite (round f s num c)) → Rounded f p l (round f s num c)
  round_rounded t =
      let under = round_below f s num c (gap p l) C is_gap t in
      record {
        counts = counts_of f 0 (round f s num c) s (rounded (prec f) (gap p l)) (2 ^ low f) _ _ (pow_pos (low f))
            (round_value f s num c (gap p l) C is_gap under) (side_rounded p l (prec f) s (2 ^ low f) one_side);
        below = under;
      }

  pub round_plain : Few (prec f) (gap p l) → gap p l < overflow f → Counts f 0 (round f s num c) p l
  round_plain x b =
      let e : rounded (prec f) (gap p l) ≡ gap p l = rounded_few (two-le_pos (prec f) (two f)) x in
      counts_of f 0 (round f s num c) s (gap p l) (2 ^ low f) p l (pow_pos (low f))
      (subst (λ (k : ℕ). HasValue (round f s num c) s k (2 ^ low f)) e (round_value f s num c (gap p l) C is_gap (rw e b))) (side_signed p l s (2 ^ low f) one_side)

module _ (f : Format) (x y : Float) (p l p' l' : ℕ) (h : Counts f 0 x p l) (k : Counts f 0 y p' l') where
  -- a sum is rounded
  pub add_rounded : T (finite (add f x y)) → Rounded f (p + p') (l + l') (add f x y)
  add_rounded = add_rounds f 0 p l p' l' (λ z. T (finite z) → Rounded f (p + p') (l + l') z) (round_rounded f (p + p') (l + l')) x y h k

  -- and not rounded where it has few digits
  pub add_plain : Few (prec f) (gap (p + p') (l + l')) → gap (p + p') (l + l') < overflow f → Counts f 0 (add f x y) (p + p') (l + l')
  add_plain d b = add_rounds f 0 p l p' l' (λ z. Counts f 0 z (p + p') (l + l')) (λ s num c C w. round_plain f (p + p') (l + l') s num c C w d b) x y h k

-- ---- a sum does not depend on the order of its terms

apart_swap : (f : Format) (a b c : ℕ) → sum f true a false b c ≡ sum f false b true a c
unfolding sum
apart_swap f a b c = go (ltb a b) (ltb b a) (ltb→lt a b) (nltb→le a b) (ltb→lt b a) (nltb→le b a)
  where
    go : (i j : Bool) → (T i → a < b) → (T (not i) → b ≤ a) → (T j → b < a) → (T (not j) → a ≤ b)
        → cond i (round f false (b - a) c) (round f (true && j) (a - b) c) ≡ cond j (round f true (a - b) c) (round f false (b - a) c)
    go true true i n j m = absurd (omega (arith, i tt, j tt))
    go true false i n j m = refl
    go false true i n j m = refl
    go false false i n j m = let e : a - b ≡ b - a = omega (arith, n tt, m tt) in ap (λ (z : ℕ). round f false z c) e

sum_swap : (f : Format) (s : Bool) (a : ℕ) (t : Bool) (b c : ℕ) → sum f s a t b c ≡ sum f t b s a c
unfolding sum
sum_swap f true a true b c = ap (λ (z : ℕ). round f true z c) (add_comm a b)
sum_swap f false a false b c = ap (λ (z : ℕ). round f false z c) (add_comm a b)
sum_swap f true a false b c = apart_swap f a b c
sum_swap f false a true b c = sym (apart_swap f b a c)

pub add_swap : (f : Format) (x y : Float) → add f x y ≡ add f y x
unfolding add
add_swap f nan nan = refl
add_swap f nan (inf t) = refl
add_swap f nan (fin t n d) = refl
add_swap f (inf s) nan = refl
add_swap f (inf true) (inf true) = refl
add_swap f (inf true) (inf false) = refl
add_swap f (inf false) (inf true) = refl
add_swap f (inf false) (inf false) = refl
add_swap f (inf s) (fin t n d) = refl
add_swap f (fin s m e) nan = refl
add_swap f (fin s m e) (inf t) = refl
add_swap f (fin s m e) (fin t n d) =
    sum_swap f s (m * up e * down d) t (n * up d * down e) (down e * down d) ∙ ap (λ (z : ℕ). sum f t (n * up d * down e) s (m * up e * down d) z) (mul_comm (down e) (down d))
