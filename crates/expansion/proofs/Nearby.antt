-- Naturals rounded to the nearest multiple of a power of two, and what is left over of the sum or the difference of two that have few digits: it has few digits too.
-- Nothing here is about floats. Assumes nothing.
use mathlib.Core.Path.{◌≡◌, refl, sym, ap, ◌∙◌}
use mathlib.Core.Logic.{◌⊎◌, inl, inr}
use mathlib.Core.Bool.{not}
use Prim.Native.Nat.{ℕ, zero, suc, ◌+◌, ◌-◌, ◌*◌, ◌/◌, ◌%◌, ◌^◌, ◌≤◌, ◌<◌, compare, Ordering}
use native.Mathlib.Nat.{suc-mul, add-mul, mul_assoc, zero-mul, mod-lt, div-add-mod', mul-le-mul_left, mul-le-mul_right, mul-lt-mul_of_pos_right, lt_of_mul-lt-mul_right, sub-add_cancel, pow-suc, le_of_lt, le_refl}
use native.Mathlib.Decide.{ℕ_discrete}
use native.Mathlib.Omega.{arith}
use lib.Dec.{T, is_le, compare_is_eq, leb→le, nleb→lt, eqb→eq, eqb_refl}
use lib.Arith.{lt_of_le-ne}
use lib.Pow.{pow_pos, pow-add, pow_mono}
use lib.Ieee.{nearest, size}
use lib.Ieee.Digits.{size-le, size_reaches}
use lib.Ieee.Nearest.{closest}

-- how far apart two naturals are
abbrev pub gap : ℕ → ℕ → ℕ
gap a b = a - b + (b - a)

own_gap : (a : ℕ) → gap a a ≡ 0 * 2 ^ 0
own_gap a = omega arith

no_gap : (a b : ℕ) → gap a b ≤ gap a a → b ≡ a
no_gap a b h = omega arith

-- ---- multiples

less : (a b k : ℕ) → a ≤ b → (b - a) * k + a * k ≡ b * k
less a b k h = sym (add-mul (b - a) a k) ∙ ap (λ (x : ℕ). x * k) (sub-add_cancel h)

pub order : (a b : ℕ) → (a ≤ b) ⊎ (b < a)
order a b = go (ℕ_discrete (a - b) 0)
  where
    go : Dec (a - b ≡ 0) → (a ≤ b) ⊎ (b < a)
    go (yes e) = inl (omega arith)
    go (no e) = inr (lt_of_le-ne (omega arith) (λ z. e (omega arith)))

gap_mul : (a b k : ℕ) → gap (a * k) (b * k) ≡ gap a b * k
gap_mul a b k =
    elim (order a b) [
      | inl h ↦ let z : a - b ≡ 0 = omega arith in rw z (omega (arith, less a b k h, add-mul 0 (b - a) k, zero-mul k))
      | inr h ↦ let z : b - a ≡ 0 = omega arith in rw z (omega (arith, less b a k (omega arith), add-mul (a - b) 0 k, zero-mul k))
    ]

-- T is a multiple of d
pub record Multiple (d t : ℕ) : Type 0 where
  pub times : ℕ
  pub is : t ≡ times * d

pub gap_multiple : {d a b : ℕ} → Multiple d a → Multiple d b → Multiple d (gap a b)
gap_multiple {d} {a} {b} x y = record { times = gap x.times y.times; is = rw (x.is, y.is) (gap_mul x.times y.times d) }

pub add_multiple : {d a b : ℕ} → Multiple d a → Multiple d b → Multiple d (a + b)
add_multiple {d} x y = record { times = x.times + y.times; is = rw (x.is, y.is) (sym (add-mul x.times y.times d)) }

-- of a smaller power of two
pub finer : {t : ℕ} (i j : ℕ) → i ≤ j → Multiple (2 ^ j) t → Multiple (2 ^ i) t
finer {t} i j h x = record {
  times = x.times * 2 ^ (j - i);
  is = x.is ∙ (let e : j ≡ j - i + i = omega arith in ap (λ (k : ℕ). x.times * 2 ^ k) e ∙ ap (λ (k : ℕ). x.times * k) (pow-add 2 (j - i) i) ∙ sym (mul_assoc x.times (2 ^ (j - i)) (2 ^ i)));
}

-- ---- the nearest multiple

abbrev Cmp : Ordering → ℕ → ℕ → Type 0
Cmp Ordering.lt a b = a < b
Cmp Ordering.eq a b = a ≡ b
Cmp Ordering.gt a b = b < a

cmp : (a b : ℕ) → Cmp (compare a b) a b
cmp a b = go (compare a b) (leb→le a b) (nleb→lt a b) (eqb→eq a b) (λ (e : a ≡ b). rw (← e) (eqb_refl a))
  where
    go : (o : Ordering) → (T (is_le o) → a ≤ b) → (T (not (is_le o)) → b < a) → (T (compare_is_eq o) → a ≡ b) → (a ≡ b → T (compare_is_eq o)) → Cmp o a b
    go Ordering.lt h k e n = lt_of_le-ne (h tt) n
    go Ordering.eq h k e n = e tt
    go Ordering.gt h k e n = k tt

near : (q r u : ℕ) (o : Ordering) → Cmp o (r * 2) u → r < u → gap (q * u + r) (nearest q o * u) * 2 ≤ u
near q r u Ordering.lt h l = omega arith
near q r u Ordering.eq h l = go (q % 2) (omega arith)
  where
    go : (t : ℕ) → t < 2 → gap (q * u + r) ((q + t) * u) * 2 ≤ u
    go zero b = omega (arith, add-mul q 0 u, zero-mul u)
    go (suc zero) b = omega (arith, add-mul q 1 u, suc-mul 0 u, zero-mul u)
    go (suc (suc t)) b = absurd (omega arith)
near q r u Ordering.gt h l = omega (arith, suc-mul q u)

half_away : (n u : ℕ) → 0 < u → gap n (closest n u * u) * 2 ≤ u
half_away n u h = rw (div-add-mod' n u) at (near (n / u) (n % u) u (compare (n % u * 2) u) (cmp (n % u * 2) u) (mod-lt n h))

-- two multiples are a whole step apart, or equal
steps : (m c u : ℕ) → m < c → m * u + u ≤ c * u
steps m c u h = omega (arith, mul-le-mul_right u h, suc-mul m u)

-- no multiple is nearer
none_nearer : {d t : ℕ} (n c : ℕ) → gap n (c * d) * 2 ≤ d → Multiple d t → gap n (c * d) ≤ gap n t
none_nearer {d} {t} n c h x =
    elim (order x.times c) [
      | inl l ↦ elim (order c x.times) [
        | inl g ↦ let e : x.times ≡ c = omega arith in omega (arith, x.is, ap (λ (k : ℕ). k * d) e)
        | inr g ↦ omega (arith, x.is, steps x.times c d g)
      ]
      | inr l ↦ omega (arith, x.is, steps c x.times d l)
    ]

-- a multiple is its own nearest
own_nearest : {d n : ℕ} → 0 < d → Multiple d n → closest n d * d ≡ n
own_nearest {d} {n} h x = let z : gap n (closest n d * d) ≤ gap n n = none_nearer n (closest n d) (half_away n d h) x in omega arith

-- ---- few digits

-- t is at most 2 ^ p times a power of two of which it is a multiple
pub record Few (p t : ℕ) : Type 0 where
  pub place : ℕ
  pub multiple : Multiple (2 ^ place) t
  pub small : multiple.times ≤ 2 ^ p

few : {p t : ℕ} (j : ℕ) → Multiple (2 ^ j) t → t < 2 ^ p * 2 ^ j + 2 ^ j → Few p t
few {p} {t} j x h = record {
  place = j;
  multiple = x;
  small = let s : x.times * 2 ^ j < suc (2 ^ p) * 2 ^ j = omega (arith, x.is, suc-mul (2 ^ p) (2 ^ j)) in omega (arith, lt_of_mul-lt-mul_right (2 ^ j) {m = x.times} {n = suc (2 ^ p)} s);
}

-- ---- rounded to p digits

abbrev pub dropped : ℕ → ℕ → ℕ
dropped p n = size n - p

unfoldable pub rounded : ℕ → ℕ → ℕ
rounded p n = closest n (2 ^ dropped p n) * 2 ^ dropped p n

pub rounded_none : (p : ℕ) → rounded p 0 ≡ 0
unfolding rounded
rounded_none p = own_nearest (pow_pos (dropped p 0)) (record { times = 0; is = sym (zero-mul (2 ^ dropped p 0)) })

-- what has few digits is not rounded
pub rounded_few : {p t : ℕ} → 0 < p → Few p t → rounded p t ≡ t
unfolding rounded
rounded_few {p} {t} h x = go (order (2 ^ p) x.multiple.times)
  where
    short : (j : ℕ) → t < 2 ^ (p + j) → Multiple (2 ^ j) t → rounded p t ≡ t
    short j l m = own_nearest (pow_pos (dropped p t)) (finer (dropped p t) j (omega (arith, size-le t (p + j) l)) m)

    go : (2 ^ p ≤ x.multiple.times) ⊎ (x.multiple.times < 2 ^ p) → rounded p t ≡ t
    go (inr l) = short x.place (rw (x.multiple.is, pow-add) (mul-lt-mul_of_pos_right l (pow_pos x.place))) x.multiple
    go (inl l) =
        let e : x.multiple.times ≡ 2 ^ p = omega (arith, x.small) in
        let w : t ≡ 1 * 2 ^ (p + x.place) = x.multiple.is ∙ ap (λ (k : ℕ). k * 2 ^ x.place) e ∙ sym (pow-add 2 p x.place) ∙ (omega arith) in
        own_nearest (pow_pos (dropped p t)) (finer (dropped p t) (p + x.place)
        (omega (arith, size-le t (suc (p + x.place)) (rw (w, pow-suc) (omega (arith, pow_pos (p + x.place)))))) (record { times = 1; is = w }))

-- ---- THE ERROR OF A ROUNDED SUM. a has p digits at most, b is no larger and has few digits, and n is their sum or their difference.
-- Then n rounded is off by no more than b, and what it is off by, and how far it lies from a, have few digits.
pub record Split (p a b n : ℕ) : Type 0 where
  pub near : gap n (rounded p n) ≤ b
  pub off : Few p (gap n (rounded p n))
  pub step : Few p (gap (rounded p n) a)
  -- the rounded number is a multiple of a power of two above what it is off by; what a and b are multiples of, both are
  pub grid : Multiple (2 ^ dropped p n) (rounded p n)
  pub under : gap n (rounded p n) < 2 ^ dropped p n
  pub finer_both : (j : ℕ) → Multiple (2 ^ j) a → Multiple (2 ^ j) b → Multiple (2 ^ j) (rounded p n) × Multiple (2 ^ j) (gap n (rounded p n))

module _ (p a b n a' e b' f : ℕ) (ia : a ≡ a' * 2 ^ e) (ib : b ≡ b' * 2 ^ f) (fa : a' < 2 ^ p) (fb : b' ≤ 2 ^ p) (fe : f ≤ e) (le : b ≤ a) (sum : (n ≡ a + b) ⊎ (n + b ≡ a)) where
  a_under : a + 2 ^ e ≤ 2 ^ p * 2 ^ e
  a_under = omega (arith, ia, mul-le-mul_right (2 ^ e) fa, suc-mul a' (2 ^ e))

  b_under : b ≤ 2 ^ p * 2 ^ f
  b_under = omega (arith, ib, mul-le-mul_right (2 ^ f) fb)

  a_multiple : (j : ℕ) → j ≤ e → Multiple (2 ^ j) a
  a_multiple j h = finer j e h (record { times = a'; is = ia })

  sum_multiple : {d : ℕ} → Multiple d a → Multiple d b → Multiple d n
  sum_multiple x y =
      elim sum [
        | inl i ↦ rw i (add_multiple x y)
        | inr i ↦ (let w : n ≡ gap a b = omega arith in rw w (gap_multiple x y))
      ]

  n_multiple : (j : ℕ) → j ≤ f → Multiple (2 ^ j) n
  n_multiple j h = sum_multiple (a_multiple j (omega arith)) (finer j f h (record { times = b'; is = ib }))

  from_a : gap n a ≡ b
  from_a = elim sum [ inl i ↦ omega arith | inr i ↦ omega arith ]

  few_dropped : dropped p n ≤ suc e
  few_dropped =
      let top : 2 ^ (p + suc e) ≡ 2 ^ p * 2 ^ e * 2 = pow-add 2 p (suc e) ∙ ap (λ (k : ℕ). 2 ^ p * k) (pow-suc 2 e) ∙ sym (mul_assoc (2 ^ p) (2 ^ e) 2) in
      let l : n < 2 ^ (p + suc e) = elim sum [ inl i ↦ omega (arith, a_under, pow_pos e) | inr i ↦ omega (arith, a_under, pow_pos e) ] in
      omega (arith, size-le n (p + suc e) l)

  r_multiple : (j : ℕ) → j ≤ dropped p n → Multiple (2 ^ j) (rounded p n)
  unfolding rounded
  r_multiple j h = finer j (dropped p n) h (record { times = closest n (2 ^ dropped p n); is = refl })

  half : gap n (rounded p n) * 2 ≤ 2 ^ dropped p n
  unfolding rounded
  half = half_away n (2 ^ dropped p n) (pow_pos (dropped p n))

  nearest_to : {t : ℕ} → Multiple (2 ^ dropped p n) t → gap n (rounded p n) ≤ gap n t
  unfolding rounded
  nearest_to m = none_nearer n (closest n (2 ^ dropped p n)) half m

  off_under : gap n (rounded p n) < 2 ^ dropped p n
  off_under = omega (arith, half, pow_pos (dropped p n))

  both_multiple : (j : ℕ) → Multiple (2 ^ j) a → Multiple (2 ^ j) b → Multiple (2 ^ j) (rounded p n) × Multiple (2 ^ j) (gap n (rounded p n))
  both_multiple j x y = (whole, gap_multiple (sum_multiple x y) whole)
    where
      whole : Multiple (2 ^ j) (rounded p n)
      whole =
          elim (order (dropped p n) j) [
            | inl h ↦ (let w : rounded p n ≡ n = no_gap n (rounded p n) (nearest_to (finer (dropped p n) j h (sum_multiple x y))) in rw w (sum_multiple x y))
            | inr h ↦ r_multiple j (omega arith)
          ]

  -- where no digit is dropped that b has
  exact : dropped p n ≤ f → Split p a b n
  exact h =
      let w : rounded p n ≡ n = no_gap n (rounded p n) (nearest_to (n_multiple (dropped p n) h)) in
      record {
        near = rw w (omega arith);
        off = rw w (few 0 (record { times = 0; is = own_gap n }) (omega (arith, pow_pos p)));
        step = rw w (few f (record { times = b'; is = from_a ∙ ib }) (omega (arith, from_a, b_under, pow_pos f)));
        grid = r_multiple (dropped p n) (omega arith);
        under = off_under;
        finer_both = both_multiple;
      }

  -- where some are
  module _ (h : f < dropped p n) where
    twice : dropped p n ≡ suc e → gap n (rounded p n) ≤ 2 ^ e
    twice w = omega (arith, half, ap (λ (k : ℕ). 2 ^ k) w, pow-suc 2 e)

    near_b : gap n (rounded p n) ≤ b
    near_b =
        elim (order (dropped p n) e) [
          | inl g ↦ omega (arith, nearest_to (a_multiple (dropped p n) g), from_a)
          | inr g ↦ (let r : 2 ^ p * 2 ^ e ≤ n = rw pow-add at (size_reaches n (p + e) (omega arith)) in elim sum [
            | inl i ↦ omega (arith, twice (omega (arith, few_dropped)), a_under)
            | inr i ↦ absurd (omega (arith, a_under, pow_pos e))
          ])
        ]

    stepped : Few p (gap (rounded p n) a)
    stepped =
        elim (order (dropped p n) e) [
          | inl g ↦ (let w : 2 ^ p * 2 ^ f * 2 ≤ 2 ^ p * 2 ^ dropped p n = rw (← mul_assoc) at (mul-le-mul_left (2 ^ p) (rw (pow-suc) at (pow_mono {i = suc f} {j = dropped p n} h))) in
              few (dropped p n) (gap_multiple (r_multiple (dropped p n) (omega arith)) (a_multiple (dropped p n) g))
              (omega (arith, from_a, half, b_under, pow_pos (dropped p n))))
          | inr g ↦ few e (gap_multiple (r_multiple e (omega arith)) (a_multiple e (omega arith)))
              (omega (arith, from_a, twice (omega (arith, few_dropped)), a_under, pow_pos e))
        ]

    inexact : Split p a b n
    inexact = record {
      near = near_b;
      off = few f (gap_multiple (n_multiple f (omega arith)) (r_multiple f (omega arith))) (omega (arith, near_b, b_under, pow_pos f));
      step = stepped;
      grid = r_multiple (dropped p n) (omega arith);
      under = off_under;
      finer_both = both_multiple;
    }

  split_at : Split p a b n
  split_at = elim (order (dropped p n) f) [ inl h ↦ exact h | inr h ↦ inexact h ]

-- a number of p digits at most
pub record Short (p t : ℕ) : Type 0 where
  pub place : ℕ
  pub multiple : Multiple (2 ^ place) t
  pub small : multiple.times < 2 ^ p

pub split_sum : {p a b : ℕ} → Short p a → Short p b → b ≤ a → (n : ℕ) → (n ≡ a + b) ⊎ (n + b ≡ a) → Split p a b n
split_sum {p} {a} {b} x y le n sum = go (order y.place x.place)
  where
    e : ℕ
    e = x.place

    go : (y.place ≤ e) ⊎ (e < y.place) → Split p a b n
    go (inl h) = split_at p a b n x.multiple.times e y.multiple.times y.place x.multiple.is y.multiple.is x.small (omega (arith, y.small)) h le sum
    go (inr h) =
        let m : Multiple (2 ^ e) b = finer e y.place (omega arith) y.multiple in
        let l : m.times * 2 ^ e < 2 ^ p * 2 ^ e = omega (arith, m.is, x.multiple.is, mul-lt-mul_of_pos_right x.small (pow_pos e)) in
        split_at p a b n x.multiple.times e m.times e x.multiple.is m.is x.small (le_of_lt (lt_of_mul-lt-mul_right (2 ^ e) l)) (le_refl e) le sum
