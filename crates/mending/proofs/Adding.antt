-- As many as 32,768 weights, none above 2^1008 in size, add up to a finite sum, in whatever order. Assumes nothing.
use Prim.Native.Nat.{ℕ, suc, ◌+◌, ◌*◌, ◌-◌, ◌^◌, ◌<◌, ◌≤◌}
use mathlib.Core.Path.{◌≡◌, refl, sym, ap, ◌∙◌, subst}
use mathlib.Core.Bool.{Bool, true, false, cond, ◌&&◌, ◌||◌, beq, true≢false}
use mathlib.Core.List.{List, [], ◌∷◌}
use native.Mathlib.Nat.{le_trans, le_of_eq, mul_assoc, mul_comm, mul_left_comm, mul_right_comm, mul-le-mul_right, le_of_mul-le-mul_right, mul-pos, mul-one, add-mul, one-mul, lt_of_le_of_lt}
use native.Mathlib.Omega.{arith}
use borrow.Author.Tests.{ltb-true, eqb-true}
use lib.Dec.{T, lit<, ltb, eqb}
use lib.Pow.{pow-add, pow_pos, pow-lt}
use lib.ListN.{length}
use lib.Ieee.{Float, nan, inf, fin, Format, binary64, prec, emax, low, up, down, odd, units, round, sum, add, lt, eq, le, of_bits}
use lib.Ieee.Fits.{down_pos, round_is}
use lib.Ieee.Exact.{HasValue, units_val, round_exact}
use lib.Ieee.Order.{drop, kept, round_mono}
use lib.Ieee.Scale.{finite, grid, overflow, round_val}
use Rattle.weights.specs.Worth.{magnitude}
use Rattle.mending.specs.Places.{onto, added}
use Rattle.mending.specs.Sums.{limit64}

-- x is finite, and at most N in size
abbrev pub AtMost : Float → ℕ → Type 0
AtMost nan N = ⊥
AtMost (inf s) N = ⊥
AtMost (fin s m e) N = m * up e ≤ N * down e

pub most_finite : (x : Float) (N : ℕ) → AtMost x N → finite x ≡ true
most_finite nan N h = absurd h
most_finite (inf s) N h = absurd h
most_finite (fin s m e) N h = refl

-- ---- a fraction that is at most a whole number which the format holds, rounded

value_most : (x : Float) (s : Bool) (a c N : ℕ) → 0 < c → a ≤ N * c → HasValue x s a c → AtMost x N
value_most nan s a c N C h v = absurd v
value_most (inf t) s a c N C h v = absurd v
value_most (fin t m e) s a c N C h v =
    let i : m * up e * c ≤ N * down e * c = le_trans (le_of_eq v.1) (le_trans (mul-le-mul_right (down e) h) (le_of_eq (mul_right_comm N c (down e)))) in
    le_of_mul-le-mul_right i C

lt_or_eq : (a b : ℕ) → T (ltb a b || (eqb a b && true)) → a ≤ b
lt_or_eq a b h = go (ltb a b) (eqb a b) refl refl h
  where
    go : (x y : Bool) → ltb a b ≡ x → eqb a b ≡ y → T (x || (y && true)) → a ≤ b
    go true y p q t = omega (arith, ltb-true a b p)
    go false true p q t = omega (arith, eqb-true a b q)
    go false false p q t = absurd t

-- of two values that are not negative the lower has the lower fraction
values_le : (x y : Float) (a c N : ℕ) → 0 < c → HasValue x false a c → HasValue y false N 1 → T (le x y) → a ≤ N * c
unfolding le lt eq
values_le nan y a c N C v w h = absurd v
values_le (inf s) y a c N C v w h = absurd v
values_le (fin true m e) y a c N C v w h = absurd (true≢false v.0)
values_le (fin false m e) nan a c N C v w h = absurd w
values_le (fin false m e) (inf t) a c N C v w h = absurd w
values_le (fin false m e) (fin true n d) a c N C v w h = absurd (true≢false w.0)
values_le (fin false m e) (fin false n d) a c N C v w h =
    let i : m * up e * down d ≤ n * up d * down e = lt_or_eq (m * up e * down d) (n * up d * down e) h in
    let j : a * down e * down d ≤ N * c * (down e * down d) =
    le_trans (le_of_eq (ap (λ (z : ℕ). z * down d) (sym v.1) ∙ mul_right_comm (m * up e) c (down d)))
    (le_trans (mul-le-mul_right c i)
    (le_of_eq (ap (λ (z : ℕ). z * down e * c) (sym (mul-one (n * up d)) ∙ w.1) ∙ reorder N (down d) (down e) c))) in
    le_of_mul-le-mul_right (le_trans (le_of_eq (sym (mul_assoc a (down e) (down d)))) j) (mul-pos (down_pos e) (down_pos d))
  where
    reorder : (N d e c : ℕ) → N * d * e * c ≡ N * c * (e * d)
    reorder N d e c = simp (mul_assoc, mul_comm, mul_left_comm)

never : (y : Float) (N : ℕ) → HasValue y false N 1 → T (le (inf false) y) → ⊥
unfolding le lt eq
never nan N v t = v
never (inf s) N v t = v
never (fin s m e) N v t = t

overflows : (f : Format) (a c : ℕ) → ltb (grid f a c) (overflow f) ≡ false → round f false a c ≡ inf false
unfolding units
overflows f a c e = round_is f false a c ∙ ap (λ (b : Bool). cond b (odd (suc (prec f)) false (kept (prec f) (a * 2 ^ low f) c) (drop (prec f) (a * 2 ^ low f) c) (low f)) (inf false)) e

module _ (f : Format) (N : ℕ) (held : HasValue (round f false N 1) false N 1) (a c : ℕ) (C : 0 < c) (h : a ≤ N * c) where
  le_held : T (le (round f false a c) (round f false N 1))
  le_held = round_mono f a c N 1 C (lit< tt) (le_trans (le_of_eq (mul-one a)) h)

  under : grid f a c < overflow f
  under = go (ltb (grid f a c) (overflow f)) refl
    where
      go : (b : Bool) → ltb (grid f a c) (overflow f) ≡ b → grid f a c < overflow f
      go true e = ltb-true (grid f a c) (overflow f) e
      go false e = absurd (never (round f false N 1) N held (subst (λ (z : Float). T (le z (round f false N 1))) (overflows f a c e) le_held))

  grid_most : grid f a c ≤ N * 2 ^ low f
  grid_most = values_le (round f false a c) (round f false N 1) (grid f a c) (2 ^ low f) N (pow_pos (low f)) (round_val f a c under) held le_held

  round_most : (s : Bool) → AtMost (round f s a c) N
  round_most s =
      value_most (round f s a c) s (grid f a c) (2 ^ low f) N (pow_pos (low f)) grid_most
      (subst (λ (z : Float). HasValue z s (grid f a c) (2 ^ low f)) (sym (round_is f s a c)) (units_val f s (kept (prec f) (a * 2 ^ low f) c) (drop (prec f) (a * 2 ^ low f) c) under))

-- ---- a sum

scaled : (A B x y dx dy : ℕ) → x ≤ A * dx → y ≤ B * dy → x * dy + y * dx ≤ (A + B) * (dx * dy)
scaled A B x y dx dy h g =
    let i : x * dy ≤ A * dx * dy = mul-le-mul_right dy h in
    let j : y * dx ≤ B * dy * dx = mul-le-mul_right dx g in
    let k : A * dx * dy ≡ A * (dx * dy) = mul_assoc A dx dy in
    let l : B * dy * dx ≡ B * (dx * dy) = simp (mul_assoc, mul_comm) in
    omega (arith, add-mul A B (dx * dy))

less : (a b N : ℕ) → a + b ≤ N → (a - b ≤ N) × (b - a ≤ N)
less a b N h = (omega arith, omega arith)

module _ (f : Format) (A B : ℕ) (held : HasValue (round f false (A + B) 1) false (A + B) 1) where
  pub add_most : (x y : Float) → AtMost x A → AtMost y B → AtMost (add f x y) (A + B)
  unfolding add sum
  add_most nan y h g = absurd h
  add_most (inf s) y h g = absurd h
  add_most (fin s m e) nan h g = absurd g
  add_most (fin s m e) (inf t) h g = absurd g
  add_most (fin s m e) (fin t n d) h g = go (beq s t) (ltb (m * up e * down d) (n * up d * down e))
    where
      C : 0 < down e * down d
      C = mul-pos (down_pos e) (down_pos d)

      most : m * up e * down d + n * up d * down e ≤ (A + B) * (down e * down d)
      most = scaled A B (m * up e) (n * up d) (down e) (down d) h g

      apart : (m * up e * down d - n * up d * down e ≤ (A + B) * (down e * down d)) × (n * up d * down e - m * up e * down d ≤ (A + B) * (down e * down d))
      apart = less (m * up e * down d) (n * up d * down e) ((A + B) * (down e * down d)) most

      go : (b c : Bool) → AtMost (cond b (round f s (m * up e * down d + n * up d * down e) (down e * down d))
          (cond c (round f t (n * up d * down e - m * up e * down d) (down e * down d))
          (round f (s && ltb (n * up d * down e) (m * up e * down d)) (m * up e * down d - n * up d * down e) (down e * down d)))) (A + B)
      go true c = round_most f (A + B) held (m * up e * down d + n * up d * down e) (down e * down d) C most s
      go false true = round_most f (A + B) held (n * up d * down e - m * up e * down d) (down e * down d) C apart.1 t
      go false false = round_most f (A + B) held (m * up e * down d - n * up d * down e) (down e * down d) C apart.0 (s && ltb (n * up d * down e) (m * up e * down d))

-- ---- multiples of a power of two are held

power_held : (f : Format) (j k : ℕ) → j < 2 ^ prec f → j * 2 ^ (k + low f) < 2 ^ (low f + suc (emax f)) → HasValue (round f false (j * 2 ^ k) 1) false (j * 2 ^ k) 1
power_held f j k few fine = round_exact f false (j * 2 ^ k) 1 j (k + low f) (lit< tt) few fine (mul_assoc j (2 ^ k) (2 ^ low f) ∙ ap (λ (z : ℕ). j * z) (sym (pow-add 2 k (low f))) ∙ sym (mul-one (j * 2 ^ (k + low f))))

-- 2^1008, and up to 32,768 times it
top_held : (j : ℕ) → j ≤ 32768 → HasValue (round binary64 false (j * 2 ^ 1008) 1) false (j * 2 ^ 1008) 1
top_held j h =
    power_held binary64 j 1008 (omega arith)
    (lt_of_le_of_lt (mul-le-mul_right (2 ^ 2082) h) (lt_of_le_of_lt (le_of_eq (sym (pow-add 2 15 2082))) (pow-lt {i = 2097} {j = 2098} (lit< tt))))

-- what the test lets pass
limit_most : (x : Float) → le (magnitude x) limit64 ≡ true → AtMost x (2 ^ 1008)
unfolding le lt eq magnitude of_bits
limit_most nan h = absurd (true≢false (sym h))
limit_most (inf s) h = absurd (true≢false (sym h))
limit_most (fin s m e) h =
    let i : m * up e * 1 ≤ 1 * 2 ^ 1008 * down e = lt_or_eq (m * up e * 1) (1 * 2 ^ 1008 * down e) (rw h tt) in
    le_trans (le_of_eq (sym (mul-one (m * up e)))) (le_trans i (le_of_eq (ap (λ (z : ℕ). z * down e) (one-mul (2 ^ 1008)))))

-- ---- one after another

-- each is at most W in size
abbrev Each : ℕ → List Float → Type 0
Each W [] = Unit {0}
Each W (x ∷ l) = AtMost x W × Each W l

module _ (W : ℕ) (held : (j : ℕ) → j ≤ 32768 → HasValue (round binary64 false (j * W) 1) false (j * W) 1) where
  onto_most : (j : ℕ) (x : Float) (l : List Float) → AtMost x (j * W) → Each W l → j + length l ≤ 32768 → finite (onto x l) ≡ true
  unfolding onto
  onto_most j x [] h s g = most_finite x (j * W) h
  onto_most j x (y ∷ l) h s g =
      let e : j * W + W ≡ (j + 1) * W = sym (add-mul j 1 W ∙ ap (λ (z : ℕ). j * W + z) (one-mul W)) in
      let held' : HasValue (round binary64 false (j * W + W) 1) false (j * W + W) 1 = rw e (held (j + 1) (omega arith)) in
      onto_most (j + 1) (add binary64 x y) l (rw (← e) (add_most binary64 (j * W) W held' x y h s.0)) s.1 (omega arith)

  added_most : (l : List Float) → Each W l → length l ≤ 32768 → finite (added l) ≡ true
  unfolding added of_bits
  added_most [] s g = refl
  added_most (x ∷ l) s g = onto_most 1 x l (rw (one-mul W) s.0) s.1 (omega arith)

-- the sum of few small weights is finite
abbrev pub AllSmall : List Float → Type 0
AllSmall [] = Unit {0}
AllSmall (x ∷ l) = (le (magnitude x) limit64 ≡ true) × AllSmall l

pub small_sum : (l : List Float) → AllSmall l → length l ≤ 32768 → finite (added l) ≡ true
small_sum l s g = added_most (2 ^ 1008) top_held l (each l s) g
  where
    each : (l : List Float) → AllSmall l → Each (2 ^ 1008) l
    each [] s = tt
    each (x ∷ l) s = (limit_most x s.0, each l s.1)
