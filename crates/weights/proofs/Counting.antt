-- Sums, differences, halves and products with a whole number of counted floats are exact, for either format and every unit: rounding enters once, in `round_whole`.
-- Assumes nothing.
use mathlib.Core.Path.{◌≡◌, refl, sym, ap, ◌∙◌, subst}
use mathlib.Core.Logic.{◌⊎◌, inl, inr}
use mathlib.Core.Bool.{Bool, true, false, not, ◌&&◌, cond, true≢false}
use Prim.Native.Nat.{ℕ, zero, suc, ◌+◌, ◌-◌, ◌*◌, ◌^◌, ◌≤◌, ◌<◌}
use native.Mathlib.Nat.{one-mul, mul-one, le_of_lt, sub-add_cancel, le_of_eq, lt_of_le_of_lt, le_refl, eq-or-lt_of_le}
use native.Mathlib.Nat.{mul-le-mul_right, pow-suc, mul_assoc, mul_comm, mul_left_comm, add-mul, mul-pos, eq_of_mul-eq-mul_right, le_of_mul-le-mul_right}
use native.Mathlib.Omega.{arith}
use lib.IntN.{ℤ, pos, negsuc}
use lib.Dec.{T, lit<, lit≤, ltb, eqb, ltb→lt, nltb→le}
use lib.Pow.{pow_pos, pow-add, pow-lt}
use lib.Ieee.{Float, nan, inf, fin, Format, prec, emax, low, up, down, unlike, of_int, binary32, binary64, round, neg, sum, add, sub, mul}
use lib.Ieee.Fits.{down_pos, two}
use lib.Ieee.Exact.{HasValue, round_exact}
use Rattle.weights.specs.Counts.{Signed, Counts, Within}

-- ---- from a fraction to a count
cross : (M L D c num A B U : ℕ) → 0 < c → M * c ≡ num * D → num * L + A * (U * c) ≡ B * (U * c) → M * L + A * (U * D) ≡ B * (U * D)
cross M L D c num A B U C v h =
    eq_of_mul-eq-mul_right c C (M * L + A * (U * D)) (B * (U * D))
    (let v' : M * c * L ≡ num * D * L = ap (λ (x : ℕ). x * L) v in
    let h' : (num * L + A * (U * c)) * D ≡ B * (U * c) * D = ap (λ (x : ℕ). x * D) h in
    simp (add-mul, mul_assoc, mul_comm, mul_left_comm) (omega (arith, simp (mul_assoc, mul_comm, mul_left_comm) at v', simp (add-mul, mul_assoc, mul_comm, mul_left_comm) at h')))

pub counts_of : (f : Format) (u : ℕ) (x : Float) (s : Bool) (num c p l : ℕ) → 0 < c → HasValue x s num c → Signed s num p l (2 ^ low f) (2 ^ u * c) → Counts f u x p l
unfolding Counts
counts_of f u nan s num c p l C v h = v
counts_of f u (inf t) s num c p l C v h = v
counts_of f u (fin t m e) s num c p l C v h =
    rw v.0 (cross (m * up e) (2 ^ low f) (down e) c num (cond s p l) (cond s l p) (2 ^ u) C v.1 h)

-- ---- a whole number of units is not rounded: its magnitude is n, up to 2 ^ prec
below_top : (f : Format) (u n : ℕ) → prec f + u ≤ low f + emax f → n ≤ 2 ^ prec f → n * 2 ^ u < 2 ^ (low f + suc (emax f))
below_top f u n fine h =
    lt_of_le_of_lt (mul-le-mul_right (2 ^ u) h) (lt_of_le_of_lt (le_of_eq (sym (pow-add 2 (prec f) u))) (pow-lt (more (prec f + u) (low f) (emax f) fine)))
  where
    more : (a b c : ℕ) → a ≤ b + c → a < b + suc c
    more a b c h = omega arith

round_whole : (f : Format) (u : ℕ) (s : Bool) (num c n : ℕ) → prec f + u ≤ low f + emax f → 0 < c → n ≤ 2 ^ prec f → num * 2 ^ low f ≡ n * 2 ^ u * c
    → HasValue (round f s num c) s num c
round_whole f u s num c n fine C h e = go (prec f) refl (two f) (eq-or-lt_of_le h)
  where
    go : (k : ℕ) → prec f ≡ k → 2 ≤ k → (n ≡ 2 ^ prec f) ⊎ (n < 2 ^ prec f) → HasValue (round f s num c) s num c
    go k q t (inr l) = round_exact f s num c n u C l (below_top f u n fine h) e
    go zero q t (inl l) = absurd (omega arith)
    go (suc k) q t (inl l) =
        let w : 2 ^ k * 2 ^ suc u ≡ n * 2 ^ u = rw (l, q) (simp (pow-suc, mul_assoc, mul_comm, mul_left_comm)) in
        round_exact f s num c (2 ^ k) (suc u) C (subst (λ (x : ℕ). 2 ^ k < 2 ^ x) (sym q) (pow-lt (le_refl (suc k))))
        (subst (λ (x : ℕ). x < 2 ^ (low f + suc (emax f))) (sym w) (below_top f u n fine h)) (e ∙ ap (λ (x : ℕ). x * c) (sym w))

-- (b - a) * k
less : (a b k : ℕ) → a ≤ b → (b - a) * k + a * k ≡ b * k
less a b k h = sym (add-mul (b - a) a k) ∙ ap (λ (x : ℕ). x * k) (sub-add_cancel h)

pub apart : (num L A B W : ℕ) → 0 < W → num * L + A * W ≡ B * W → num * L ≡ (B - A) * W
apart num L A B W P h = omega (arith, less A B W (le_of_mul-le-mul_right (omega arith) P))

within_size : (f : Format) (s : Bool) (p l : ℕ) → Within f p l → cond s l p - cond s p l ≤ 2 ^ prec f
within_size f true p l h = omega arith
within_size f false p l h = omega arith

-- ---- ±a + ±b, and what is left of it where the signs differ
same_sign : (s : Bool) (a b p l p' l' L W : ℕ) → Signed s a p l L W → Signed s b p' l' L W → Signed s (a + b) (p + p') (l + l') L W
same_sign true a b p l p' l' L W x y = omega (arith, add-mul a b L, add-mul p p' W, add-mul l l' W)
same_sign false a b p l p' l' L W x y = omega (arith, add-mul a b L, add-mul p p' W, add-mul l l' W)

first_less : (s : Bool) (a b p l p' l' L W : ℕ) → b ≤ a → Signed s a p l L W → Signed (not s) b p' l' L W → Signed s (a - b) (p + p') (l + l') L W
first_less true a b p l p' l' L W h x y = omega (arith, less b a L h, add-mul p p' W, add-mul l l' W)
first_less false a b p l p' l' L W h x y = omega (arith, less b a L h, add-mul p p' W, add-mul l l' W)

second_less : (s : Bool) (a b p l p' l' L W : ℕ) → a ≤ b → Signed (not s) a p l L W → Signed s b p' l' L W → Signed s (b - a) (p + p') (l + l') L W
second_less true a b p l p' l' L W h x y = omega (arith, less a b L h, add-mul p p' W, add-mul l l' W)
second_less false a b p l p' l' L W h x y = omega (arith, less a b L h, add-mul p p' W, add-mul l l' W)

-- zero has either sign
either_zero : (a b p l p' l' L W : ℕ) → b ≤ a → a ≤ b → Signed true a p l L W → Signed false b p' l' L W → Signed false (a - b) (p + p') (l + l') L W
either_zero a b p l p' l' L W h k x y = omega (arith, less b a L h, mul-le-mul_right L k, add-mul p p' W, add-mul l l' W)

-- over a larger denominator
times : (s : Bool) (a p l L U e d : ℕ) → Signed s a p l L (U * e) → Signed s (a * d) p l L (U * (e * d))
times s a p l L U e d h =
    let g : (a * L + cond s p l * (U * e)) * d ≡ cond s l p * (U * e) * d = ap (λ (x : ℕ). x * d) h in
    simp (mul_assoc, mul_comm) (simp (add-mul, mul_assoc, mul_comm) at g)

-- two floats over one denominator
pub common : (f : Format) (u p l p' l' : ℕ) (s t : Bool) (m n : ℕ) (e d : ℤ) → Signed s (m * up e) p l (2 ^ low f) (2 ^ u * down e) → Signed t (n * up d) p' l' (2 ^ low f) (2 ^ u * down d)
    → (Signed s (m * up e * down d) p l (2 ^ low f) (2 ^ u * (down e * down d))) × (Signed t (n * up d * down e) p' l' (2 ^ low f) (2 ^ u * (down e * down d)))
common f u p l p' l' s t m n e d h k =
    (times s (m * up e) p l (2 ^ low f) (2 ^ u) (down e) (down d) h, rw (mul_comm (down e) (down d)) (times t (n * up d) p' l' (2 ^ low f) (2 ^ u) (down d) (down e) k))

-- v times over
wide : (M N L U D E A B v : ℕ) → N ≡ v * E → M * L + A * (U * D) ≡ B * (U * D) → M * N * L + A * v * (U * (D * E)) ≡ B * v * (U * (D * E))
wide M N L U D E A B v n h =
    let g : (M * L + A * (U * D)) * (v * E) ≡ B * (U * D) * (v * E) = ap (λ (x : ℕ). x * (v * E)) h in
    rw n (simp (mul_assoc, mul_comm, mul_left_comm) (simp (add-mul, mul_assoc, mul_comm, mul_left_comm) at g))

-- the sign of a product with a float whose sign is clear
unlike_clear : (s : Bool) → unlike false s ≡ s
unlike_clear true = refl
unlike_clear false = refl

-- ---- negation
swapped : (s : Bool) (a p l L W : ℕ) → Signed s a p l L W → Signed (not s) a l p L W
swapped true a p l L W h = h
swapped false a p l L W h = h

pub neg_counts : (f : Format) (u : ℕ) (x : Float) (p l : ℕ) → Counts f u x p l → Counts f u (neg x) l p
unfolding Counts neg
neg_counts f u nan p l h = h
neg_counts f u (inf s) p l h = h
neg_counts f u (fin s m e) p l h = swapped s (m * up e) p l (2 ^ low f) (2 ^ u * down e) h

module _ (f : Format) (u : ℕ) (fine : prec f + u ≤ low f + emax f) where
  round_counts : (s : Bool) (num c p l : ℕ) → 0 < c → Signed s num p l (2 ^ low f) (2 ^ u * c) → Within f p l → Counts f u (round f s num c) p l
  round_counts s num c p l C h w =
      let a = apart num (2 ^ low f) (cond s p l) (cond s l p) (2 ^ u * c) (mul-pos (pow_pos u) C) h in
      counts_of f u (round f s num c) s num c p l C
      (round_whole f u s num c (cond s l p - cond s p l) fine C (within_size f s p l w) (a ∙ sym (mul_assoc (cond s l p - cond s p l) (2 ^ u) c))) h

  module _ (a b c p l p' l' : ℕ) (C : 0 < c) (w : Within f (p + p') (l + l')) where
    -- what `sum` is given: ±a / c counts p - l, and ±b / c counts p' - l'
    sum_counts : (s t : Bool) → Signed s a p l (2 ^ low f) (2 ^ u * c) → Signed t b p' l' (2 ^ low f) (2 ^ u * c) → Counts f u (sum f s a t b c) (p + p') (l + l')
    unfolding sum
    sum_counts true true x y = round_counts true (a + b) c (p + p') (l + l') C (same_sign true a b p l p' l' (2 ^ low f) (2 ^ u * c) x y) w
    sum_counts false false x y = round_counts false (a + b) c (p + p') (l + l') C (same_sign false a b p l p' l' (2 ^ low f) (2 ^ u * c) x y) w
    sum_counts true false x y = go (ltb a b) (ltb b a) (ltb→lt a b) (nltb→le a b) (nltb→le b a)
      where
        go : (i j : Bool) → (T i → a < b) → (T (not i) → b ≤ a) → (T (not j) → a ≤ b)
            → Counts f u (cond i (round f false (b - a) c) (round f (true && j) (a - b) c)) (p + p') (l + l')
        go true j i n m = round_counts false (b - a) c (p + p') (l + l') C (second_less false a b p l p' l' (2 ^ low f) (2 ^ u * c) (le_of_lt (i tt)) x y) w
        go false true i n m = round_counts true (a - b) c (p + p') (l + l') C (first_less true a b p l p' l' (2 ^ low f) (2 ^ u * c) (n tt) x y) w
        go false false i n m = round_counts false (a - b) c (p + p') (l + l') C (either_zero a b p l p' l' (2 ^ low f) (2 ^ u * c) (n tt) (m tt) x y) w
    sum_counts false true x y = go (ltb a b) (ltb→lt a b) (nltb→le a b)
      where
        go : (i : Bool) → (T i → a < b) → (T (not i) → b ≤ a) → Counts f u (cond i (round f true (b - a) c) (round f false (a - b) c)) (p + p') (l + l')
        go true i n = round_counts true (b - a) c (p + p') (l + l') C (second_less true a b p l p' l' (2 ^ low f) (2 ^ u * c) (le_of_lt (i tt)) x y) w
        go false i n = round_counts false (a - b) c (p + p') (l + l') C (first_less false a b p l p' l' (2 ^ low f) (2 ^ u * c) (n tt) x y) w

  pub add_counts : (x y : Float) (p l p' l' : ℕ) → Counts f u x p l → Counts f u y p' l' → Within f (p + p') (l + l') → Counts f u (add f x y) (p + p') (l + l')
  unfolding Counts add
  add_counts nan y p l p' l' h k w = absurd h
  add_counts (inf s) y p l p' l' h k w = absurd h
  add_counts (fin s m e) nan p l p' l' h k w = absurd k
  add_counts (fin s m e) (inf t) p l p' l' h k w = absurd k
  add_counts (fin s m e) (fin t n d) p l p' l' h k w =
      let both = common f u p l p' l' s t m n e d h k in
      sum_counts (m * up e * down d) (n * up d * down e) (down e * down d) p l p' l' (mul-pos (down_pos e) (down_pos d)) w s t both.0 both.1

  pub sub_counts : (x y : Float) (p l p' l' : ℕ) → Counts f u x p l → Counts f u y p' l' → Within f (p + l') (l + p') → Counts f u (sub f x y) (p + l') (l + p')
  unfolding sub
  sub_counts x y p l p' l' h k w = add_counts x (neg y) p l l' p' h (neg_counts f u y p' l' k) w

  -- ---- by a half: the same number, of units half as large
  pub half_counts : (x : Float) (p l : ℕ) → Counts f (suc u) x p l → Within f p l → Counts f u (mul f (fin false 1 (negsuc 0)) x) p l
  unfolding Counts mul
  half_counts nan p l h w = absurd h
  half_counts (inf s) p l h w = absurd h
  half_counts (fin s m e) p l h w =
      let twice : 2 ^ suc u * down e ≡ 2 ^ u * (2 * down e) = simp (pow-suc, mul_assoc) in
      rw (unlike_clear s, one-mul (m * up e)) (round_counts s (m * up e) (2 * down e) p l (mul-pos (lit< tt) (down_pos e)) (rw twice at h) w)

  -- ---- by a whole number v
  pub whole_counts : (x y : Float) (p l v : ℕ) → Counts f u x p l → HasValue y false v 1 → Within f (p * v) (l * v) → Counts f u (mul f x y) (p * v) (l * v)
  unfolding Counts mul
  whole_counts nan y p l v h k w = absurd h
  whole_counts (inf s) y p l v h k w = absurd h
  whole_counts (fin s m e) nan p l v h k w = absurd k
  whole_counts (fin s m e) (inf t) p l v h k w = absurd k
  whole_counts (fin s m e) (fin true n d) p l v h k w = absurd (true≢false k.0)
  whole_counts (fin s m e) (fin false n d) p l v h k w = go s h
    where
      is : n * up d ≡ v * down d
      is = sym (mul-one (n * up d)) ∙ k.1

      rounded : (s : Bool) → Signed s (m * up e * (n * up d)) (p * v) (l * v) (2 ^ low f) (2 ^ u * (down e * down d))
          → Counts f u (round f s (m * up e * (n * up d)) (down e * down d)) (p * v) (l * v)
      rounded s g = round_counts s (m * up e * (n * up d)) (down e * down d) (p * v) (l * v) (mul-pos (down_pos e) (down_pos d)) g w

      go : (s : Bool) → Signed s (m * up e) p l (2 ^ low f) (2 ^ u * down e) → Counts f u (round f (unlike s false) (m * up e * (n * up d)) (down e * down d)) (p * v) (l * v)
      go true h = rounded true (wide (m * up e) (n * up d) (2 ^ low f) (2 ^ u) (down e) (down d) p l v is h)
      go false h = rounded false (wide (m * up e) (n * up d) (2 ^ low f) (2 ^ u) (down e) (down d) l p v is h)

-- ---- a whole number up to 2 ^ prec as a float
reaches : (f : Format) → prec f ≤ emax f
reaches binary32 = lit≤ tt
reaches binary64 = lit≤ tt

room : (a b c : ℕ) → a ≤ c → a + b ≤ b + c
room a b c h = omega arith

pub of_int_value : (f : Format) (v : ℕ) → v ≤ 2 ^ prec f → HasValue (of_int f (pos v)) false v 1
unfolding of_int
of_int_value f v h = round_whole f (low f) false v 1 v (room (prec f) (low f) (emax f) (reaches f)) (lit< tt) h (sym (mul-one (v * 2 ^ low f)))

-- ---- a product does not depend on the order of its factors
unlike_swap : (s t : Bool) → unlike s t ≡ unlike t s
unlike_swap true true = refl
unlike_swap true false = refl
unlike_swap false true = refl
unlike_swap false false = refl

pub mul_swap : (f : Format) (x y : Float) → mul f x y ≡ mul f y x
unfolding mul
mul_swap f nan nan = refl
mul_swap f nan (inf t) = refl
mul_swap f nan (fin t n d) = refl
mul_swap f (inf s) nan = refl
mul_swap f (inf s) (inf t) = ap inf (unlike_swap s t)
mul_swap f (inf s) (fin t n d) = ap (λ (b : Bool). cond (eqb n 0) nan (inf b)) (unlike_swap s t)
mul_swap f (fin s m e) nan = refl
mul_swap f (fin s m e) (inf t) = ap (λ (b : Bool). cond (eqb m 0) nan (inf b)) (unlike_swap s t)
mul_swap f (fin s m e) (fin t n d) = rw (unlike_swap s t, mul_comm (m * up e) (n * up d), mul_comm (down e) (down d)) refl
