-- THE ERROR-FREE SUM OF TWO FLOATS: for an x that is not below y in magnitude, the rounded sum x + y and y - ((x + y) - x) add up to x + y, for either format,
-- while the sum does not overflow. Assumes nothing.
use mathlib.Core.Path.{◌≡◌, refl, sym, ap, ◌∙◌, subst}
use mathlib.Core.Logic.{inl, inr}
use mathlib.Core.Bool.{Bool, true, false, ◌&&◌, cond}
use Prim.Native.Nat.{ℕ, zero, suc, ◌+◌, ◌-◌, ◌*◌, ◌%◌, ◌^◌, ◌≤◌, ◌<◌}
use native.Mathlib.Nat.{zero-mul, one-mul, mul-one, mul_assoc, mul_comm, mul_left_comm, mul-lt-mul_of_pos_right, lt_of_mul-lt-mul_right, le_of_suc-le-suc, lt_of_le_of_lt, lt_of_not-le, not-le_of_lt}
use native.Mathlib.Omega.{arith}
use borrow.Author.Tests.{ltb-true, ltb-false}
use lib.IntN.{ℤ, pos, negsuc}
use lib.Dec.{T, leb, ltb, eqb, leb→le, ltb→lt}
use lib.Pow.{pow_pos, pow-add, pow-lt}
use lib.Ieee.{Float, nan, inf, fin, Format, prec, emax, low, up, down, add, sub, neg, lt, fits}
use lib.Ieee.Fits.{and_l, and_r}
use lib.Ieee.Scale.{finite, overflow}
use Rattle.weights.specs.Counts.{Signed, Counts}
use Rattle.weights.specs.Grain.{place}
use Rattle.weights.specs.Worth.{magnitude}
use Rattle.weights.proofs.Counting.{neg_counts}
use Rattle.weights.proofs.Compare.{lt_counts}
use Rattle.weights.proofs.Same.{magnitude_counts}
use Rattle.expansion.proofs.Nearby.{gap, Multiple, dropped, rounded, rounded_none, Short, Split, split_sum}
use Rattle.expansion.proofs.Rounding.{add_rounded, add_plain}

-- ---- a finite value of the format is a whole number of its smallest units, with few digits

pub record Held (f : Format) (x : Float) : Type 0 where
  pub sign : Bool
  pub size : ℕ
  pub counts : Counts f 0 x (cond sign 0 size) (cond sign size 0)
  pub short : Short (prec f) size
  pub below : size < overflow f

place_is : (f : Format) (e : ℤ) → down e ≤ 2 ^ low f → up e * 2 ^ low f ≡ 2 ^ place f e * down e
place_is f (pos k) h = mul_comm (2 ^ k) (2 ^ low f) ∙ sym (pow-add 2 (low f) k) ∙ sym (mul-one (2 ^ (low f + k)))
place_is f (negsuc k) h =
    let l : suc k ≤ low f = le_of_suc-le-suc (lt_of_not-le (λ (g : suc (low f) ≤ suc k). not-le_of_lt (pow-lt g) h)) in
    one-mul (2 ^ low f) ∙ ap (λ (z : ℕ). 2 ^ z) (omega arith) ∙ pow-add 2 (low f - suc k) (suc k)

signed : (s : Bool) (a n L W : ℕ) → a * L ≡ n * W → Signed s a (cond s 0 n) (cond s n 0) L (2 ^ 0 * W)
signed true a n L W e = rw one-mul (omega (arith, zero-mul W))
signed false a n L W e = rw one-mul (omega (arith, zero-mul W))

module _ (f : Format) (s : Bool) (m : ℕ) (e : ℤ) (odds : m < 2 ^ prec f) (fine : down e ≤ 2 ^ low f) (high : m * up e < 2 ^ suc (emax f) * down e) where
  size_is : m * up e * 2 ^ low f ≡ m * 2 ^ place f e * down e
  size_is = mul_assoc m (up e) (2 ^ low f) ∙ ap (λ (z : ℕ). m * z) (place_is f e fine) ∙ sym (mul_assoc m (2 ^ place f e) (down e))

  held_fin : Held f (fin s m e)
  unfolding Counts
  held_fin = record {
    sign = s;
    size = m * 2 ^ place f e;
    counts = signed s (m * up e) (m * 2 ^ place f e) (2 ^ low f) (down e) size_is;
    short = record { place = place f e; multiple = record { times = m; is = refl }; small = odds };
    below = lt_of_mul-lt-mul_right (down e)
        (subst (λ (z : ℕ). z < 2 ^ (low f + suc (emax f)) * down e) size_is
        (subst (λ (z : ℕ). m * up e * 2 ^ low f < z) (rw pow-add (simp (mul_assoc, mul_comm, mul_left_comm))) (mul-lt-mul_of_pos_right high (pow_pos (low f)))));
  }

held_zero : (f : Format) (s : Bool) (e : ℤ) → Held f (fin s zero e)
unfolding Counts
held_zero f s e = record {
  sign = s;
  size = 0;
  counts = signed s (0 * up e) 0 (2 ^ low f) (down e) (rw (zero-mul (up e), zero-mul (2 ^ low f)) (sym (zero-mul (down e))));
  short = record { place = 0; multiple = record { times = 0; is = refl }; small = pow_pos (prec f) };
  below = pow_pos (low f + suc (emax f));
}

pub held : (f : Format) (x : Float) → T (fits f x) → T (finite x) → Held f x
unfolding fits
held f nan t n = absurd n
held f (inf s) t n = absurd n
held f (fin s zero e) t n = held_zero f s e
held f (fin s (suc m) e) t n =
    let a : Bool = eqb (suc m % 2) 1 in
    let b : Bool = ltb (suc m) (2 ^ prec f) in
    let c : Bool = leb (down e) (2 ^ low f) in
    let d : Bool = ltb (suc m * up e) (2 ^ suc (emax f) * down e) in
    let abc = and_l (a && b && c) d t in
    held_fin f s (suc m) e (ltb→lt (suc m) (2 ^ prec f) (and_r a b (and_l (a && b) c abc))) (leb→le (down e) (2 ^ low f) (and_r (a && b) c abc))
    (ltb→lt (suc m * up e) (2 ^ suc (emax f) * down e) (and_r (a && b && c) d t))

-- ---- the sum

-- the rounded sum of x, which counts p - l, and y, which counts p' - l', and what is left over of it
pub record Parted (f : Format) (x y : Float) (p l p' l' : ℕ) : Type 0 where
  pub plus : ℕ
  pub less : ℕ
  pub high : Counts f 0 (add f x y) plus less
  pub low : Counts f 0 (sub f y (sub f (add f x y) x)) (p' + (less + p)) (l' + (plus + l))
  -- the rounded sum is a multiple of a power of two above what is left over, which is no larger than y; what x and y are multiples of, both are
  pub place : ℕ
  pub grid : Multiple (2 ^ place) (gap plus less)
  pub under : gap (p' + (less + p)) (l' + (plus + l)) < 2 ^ place
  pub near : gap (p' + (less + p)) (l' + (plus + l)) ≤ gap p' l'
  pub finer_both : (j : ℕ) → Multiple (2 ^ j) (gap p l) → Multiple (2 ^ j) (gap p' l')
      → Multiple (2 ^ j) (gap plus less) × Multiple (2 ^ j) (gap (p' + (less + p)) (l' + (plus + l)))

module _ (f : Format) (x y : Float) (p l p' l' : ℕ) (h : Counts f 0 x p l) (k : Counts f 0 y p' l') where
  sum_sides : (n m : ℕ) → p + p' - (l + l') ≡ n → l + l' - (p + p') ≡ m → T (finite (add f x y)) → Counts f 0 (add f x y) (rounded (prec f) n) (rounded (prec f) m)
  sum_sides n m en em t = rw (en, em) at (add_rounded f x y p l p' l' h k t).counts

  sum_below : (n : ℕ) → gap (p + p') (l + l') ≡ n → T (finite (add f x y)) → rounded (prec f) n < overflow f
  sum_below n e t = rw e at (add_rounded f x y p l p' l' h k t).below

  parted : (plus less n a b : ℕ) → Counts f 0 (add f x y) plus less → rounded (prec f) n < overflow f → Split (prec f) a b n → a < overflow f → b < overflow f
      → gap (plus + l) (less + p) ≡ gap (rounded (prec f) n) a → gap (p' + (less + p)) (l' + (plus + l)) ≡ gap n (rounded (prec f) n)
      → gap p l ≡ a → gap p' l' ≡ b → gap plus less ≡ rounded (prec f) n → Parted f x y p l p' l'
  unfolding sub
  parted plus less n a b c r s la lb e g ea eb eh =
      let z = add_plain f (add f x y) (neg x) plus less l p c (neg_counts f 0 x p l h) (rw e s.step) (rw e (apart (rounded (prec f) n) a (overflow f) r la)) in
      record {
        plus = plus;
        less = less;
        high = c;
        low = add_plain f y (neg (add f (add f x y) (neg x))) p' l' (less + p) (plus + l) k (neg_counts f 0 (add f (add f x y) (neg x)) (plus + l) (less + p) z) (rw g s.off)
            (rw g (lt_of_le_of_lt s.near lb));
        place = dropped (prec f) n;
        grid = rw eh s.grid;
        under = rw g s.under;
        near = rw (g, eb) s.near;
        finer_both = λ j u v. rw (eh, g) (s.finer_both j (rw ea at u) (rw eb at v));
      }
    where
      apart : (i j o : ℕ) → i < o → j < o → gap i j < o
      apart i j o u v = omega arith

module _ (f : Format) (x y : Float) (a b : ℕ) (sa : Short (prec f) a) (sb : Short (prec f) b) (la : a < overflow f) (lb : b < overflow f) (le : b ≤ a) (t : T (finite (add f x y))) where
  none : rounded (prec f) 0 ≡ 0
  none = rounded_none (prec f)

  together : Split (prec f) a b (a + b)
  together = split_sum sa sb le (a + b) (inl refl)

  against : Split (prec f) a b (a - b)
  against = split_sum sa sb le (a - b) (inr (omega arith))

  by_signs : (i j : Bool) → Counts f 0 x (cond i 0 a) (cond i a 0) → Counts f 0 y (cond j 0 b) (cond j b 0) → Parted f x y (cond i 0 a) (cond i a 0) (cond j 0 b) (cond j b 0)
  by_signs false false h k =
      parted f x y a 0 b 0 h k (rounded (prec f) (a + b)) (rounded (prec f) 0) (a + b) a b (sum_sides f x y a 0 b 0 h k (a + b) 0 (omega arith) (omega arith) t)
      (sum_below f x y a 0 b 0 h k (a + b) (omega arith) t) together la lb (rw none (omega arith)) (rw none (omega arith)) (omega arith) (omega arith) (rw none (omega arith))
  by_signs false true h k =
      parted f x y a 0 0 b h k (rounded (prec f) (a - b)) (rounded (prec f) 0) (a - b) a b (sum_sides f x y a 0 0 b h k (a - b) 0 (omega arith) (omega arith) t)
      (sum_below f x y a 0 0 b h k (a - b) (omega arith) t) against la lb (rw none (omega arith)) (rw none (omega arith)) (omega arith) (omega arith) (rw none (omega arith))
  by_signs true false h k =
      parted f x y 0 a b 0 h k (rounded (prec f) 0) (rounded (prec f) (a - b)) (a - b) a b (sum_sides f x y 0 a b 0 h k 0 (a - b) (omega arith) (omega arith) t)
      (sum_below f x y 0 a b 0 h k (a - b) (omega arith) t) against la lb (rw none (omega arith)) (rw none (omega arith)) (omega arith) (omega arith) (rw none (omega arith))
  by_signs true true h k =
      parted f x y 0 a 0 b h k (rounded (prec f) 0) (rounded (prec f) (a + b)) (a + b) a b (sum_sides f x y 0 a 0 b h k 0 (a + b) (omega arith) (omega arith) t)
      (sum_below f x y 0 a 0 b h k (a + b) (omega arith) t) together la lb (rw none (omega arith)) (rw none (omega arith)) (omega arith) (omega arith) (rw none (omega arith))

-- the size of a count that is on one side
pub one_side : (s : Bool) (n : ℕ) → gap (cond s 0 n) (cond s n 0) ≡ n
one_side true n = omega arith
one_side false n = omega arith

module _ (f : Format) (x y : Float) (hx : Held f x) (hy : Held f y) where
  plain : (z : Float) (h : Held f z) → Counts f 0 (magnitude z) h.size 0
  plain z h = rw (one_side h.sign h.size) at (magnitude_counts f 0 (cond h.sign 0 h.size) (cond h.sign h.size 0) z h.counts)

  smaller : lt (magnitude x) (magnitude y) ≡ ltb (hx.size + 0) (hy.size + 0)
  smaller = lt_counts f 0 hx.size 0 hy.size 0 (magnitude x) (magnitude y) (plain x hx) (plain y hy)

  pub first_larger : lt (magnitude x) (magnitude y) ≡ false → hy.size ≤ hx.size
  first_larger e = omega (arith, ltb-false (hx.size + 0) (hy.size + 0) (sym smaller ∙ e))

  pub second_larger : lt (magnitude x) (magnitude y) ≡ true → hx.size ≤ hy.size
  second_larger e = omega (arith, ltb-true (hx.size + 0) (hy.size + 0) (sym smaller ∙ e))

  pub sum_parted : hy.size ≤ hx.size → T (finite (add f x y))
      → Parted f x y (cond hx.sign 0 hx.size) (cond hx.sign hx.size 0) (cond hy.sign 0 hy.size) (cond hy.sign hy.size 0)
  sum_parted l t = by_signs f x y hx.size hy.size hx.short hy.short hx.below hy.below l t hx.sign hy.sign hx.counts hy.counts
