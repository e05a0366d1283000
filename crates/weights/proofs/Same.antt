-- The counts of one float: every pair that stands for its number is one, there is one exactly if the float is a whole number of units, and a count other than 0 has one float.
-- Assumes nothing.
use mathlib.Core.Path.{◌≡◌, refl, sym, ap, ◌∙◌}
use mathlib.Core.Bool.{Bool, true, false, cond}
use Prim.Native.Nat.{ℕ, ◌+◌, ◌-◌, ◌*◌, ◌/◌, ◌%◌, ◌^◌, ◌≤◌, ◌<◌}
use native.Mathlib.Nat.{add_comm, mul-div_cancel, mul-mod_left, div-add-mod', mul_assoc, mul_comm, mul_left_comm, add-mul, mul-pos, eq_of_mul-eq-mul_right, le_of_mul-le-mul_right}
use native.Mathlib.Omega.{arith}
use lib.IntN.{ℤ, pos}
use lib.Dec.{T, eqb→eq, ltb, lt→ltb}
use lib.Arith.{lt_of_le-ne, le→nltb}
use lib.Pow.{pow_pos, pow-add}
use lib.Ieee.{Float, nan, inf, fin, Format, prec, low, up, down, top, hid, size, to_bits, fits, of_bits}
use lib.Ieee.Fits.{down_pos, eq→eqb}
use lib.Ieee.Bits.{of_bits-to_bits, is_true, is_false}
use Rattle.weights.specs.Counts.{Signed, Counts, whole_in, plus, minus}
use Rattle.weights.specs.Worth.{magnitude}
use Rattle.weights.proofs.Counting.{apart}

module _ (f : Format) (u : ℕ) (p l p' l' : ℕ) where
  -- two counts of one float are the same number, and any pair that writes that number is a count
  pub counts_same : (x : Float) → Counts f u x p l → Counts f u x p' l' → p + l' ≡ p' + l
  unfolding Counts
  counts_same nan h k = absurd h
  counts_same (inf s) h k = absurd h
  counts_same (fin s m e) h k = eq_of_mul-eq-mul_right W (mul-pos (pow_pos u) (down_pos e)) (p + l') (p' + l) (go s h k)
    where
      W : ℕ
      W = 2 ^ u * down e

      go : (s : Bool) → Signed s (m * up e) p l (2 ^ low f) W → Signed s (m * up e) p' l' (2 ^ low f) W → (p + l') * W ≡ (p' + l) * W
      go true h k = omega (arith, add-mul p l' W, add-mul p' l W)
      go false h k = omega (arith, add-mul p l' W, add-mul p' l W)

  pub counts_as : (x : Float) → Counts f u x p l → p + l' ≡ p' + l → Counts f u x p' l'
  unfolding Counts
  counts_as nan h k = h
  counts_as (inf s) h k = h
  counts_as (fin s m e) h k = go s h (ap (λ (i : ℕ). i * W) k)
    where
      W : ℕ
      W = 2 ^ u * down e

      go : (s : Bool) → Signed s (m * up e) p l (2 ^ low f) W → (p + l') * W ≡ (p' + l) * W → Signed s (m * up e) p' l' (2 ^ low f) W
      go true h k = omega (arith, add-mul p l' W, add-mul p' l W)
      go false h k = omega (arith, add-mul p l' W, add-mul p' l W)

-- ---- zero
pub zero_counts : (f : Format) (u : ℕ) → Counts f u (fin false 0 (pos 0)) 0 0
unfolding Counts
zero_counts f u = omega arith

-- ---- a smaller unit
pub finer_counts : (f : Format) (u k p l : ℕ) (x : Float) → Counts f (u + k) x p l → Counts f u x (p * 2 ^ k) (l * 2 ^ k)
unfolding Counts
finer_counts f u k p l nan h = h
finer_counts f u k p l (inf s) h = h
finer_counts f u k p l (fin s m e) h = go s (rw pow-add at h)
  where
    part : (A : ℕ) → A * (2 ^ u * 2 ^ k * down e) ≡ A * 2 ^ k * (2 ^ u * down e)
    part A = simp (mul_assoc, mul_comm, mul_left_comm)

    go : (s : Bool) → Signed s (m * up e) p l (2 ^ low f) (2 ^ u * 2 ^ k * down e) → Signed s (m * up e) (p * 2 ^ k) (l * 2 ^ k) (2 ^ low f) (2 ^ u * down e)
    go true h = omega (arith, part p, part l)
    go false h = omega (arith, part p, part l)

-- ---- a float that is a whole number of units has a count, what is read, and only such a float has one
pub read_counts : (f : Format) (u : ℕ) (x : Float) → T (whole_in f u x) → Counts f u x (plus f u x) (minus f u x)
unfolding Counts whole_in plus minus
read_counts f u nan h = h
read_counts f u (inf s) h = h
read_counts f u (fin s m e) h = go s
  where
    N : ℕ
    N = m * up e * 2 ^ low f

    W : ℕ
    W = 2 ^ u * down e

    is : N ≡ N / W * W
    is = omega (arith, div-add-mod' N W, eqb→eq (N % W) 0 h)

    go : (s : Bool) → Signed s (m * up e) (cond s 0 (N / W)) (cond s (N / W) 0) (2 ^ low f) W
    go true = omega (arith, is)
    go false = omega (arith, is)

pub counts_whole : (f : Format) (u p l : ℕ) (x : Float) → Counts f u x p l → T (whole_in f u x)
unfolding Counts whole_in
counts_whole f u p l nan h = h
counts_whole f u p l (inf s) h = h
counts_whole f u p l (fin s m e) h =
    let W = 2 ^ u * down e in
    let is : m * up e * 2 ^ low f ≡ (cond s l p - cond s p l) * W = apart (m * up e) (2 ^ low f) (cond s p l) (cond s l p) W (mul-pos (pow_pos u) (down_pos e)) h in
    eq→eqb (ap (λ (N : ℕ). N % W) is ∙ mul-mod_left (cond s l p - cond s p l) W)

-- ---- without the sign
pub magnitude_counts : (f : Format) (u p l : ℕ) (x : Float) → Counts f u x p l → Counts f u (magnitude x) (p - l + (l - p)) 0
unfolding Counts magnitude
magnitude_counts f u p l nan h = h
magnitude_counts f u p l (inf s) h = h
magnitude_counts f u p l (fin s m e) h = go s h
  where
    W : ℕ
    W = 2 ^ u * down e

    W>0 : 0 < W
    W>0 = mul-pos (pow_pos u) (down_pos e)

    gap : (a b : ℕ) → m * up e * 2 ^ low f + a * W ≡ b * W → m * up e * 2 ^ low f ≡ (a - b + (b - a)) * W
    gap a b h =
        let le : a ≤ b = le_of_mul-le-mul_right {m = a} {n = b} (omega arith) W>0 in
        apart (m * up e) (2 ^ low f) a b W W>0 h ∙ ap (λ (k : ℕ). k * W) (omega arith)

    go : (s : Bool) → Signed s (m * up e) p l (2 ^ low f) W → Signed false (m * up e) (p - l + (l - p)) 0 (2 ^ low f) W
    go true h = omega (arith, gap p l h)
    go false h = omega (arith, gap l p h, ap (λ (k : ℕ). k * W) (add_comm (l - p) (p - l)))

-- ---- two values of a format that count one number other than 0 are the same value: the bit pattern is made from the count
grid_of : (f : Format) (u : ℕ) (s : Bool) (m : ℕ) (e : ℤ) (p l : ℕ) → Signed s (m * up e) p l (2 ^ low f) (2 ^ u * down e)
    → m * up e * 2 ^ low f / down e ≡ (cond s l p - cond s p l) * 2 ^ u
grid_of f u s m e p l h =
    ap (λ (x : ℕ). x / down e)
    (apart (m * up e) (2 ^ low f) (cond s p l) (cond s l p) (2 ^ u * down e) (mul-pos (pow_pos u) (down_pos e)) h ∙ sym (mul_assoc (cond s l p - cond s p l) (2 ^ u) (down e)))
    ∙ mul-div_cancel ((cond s l p - cond s p l) * 2 ^ u) (down_pos e)

bits_same : (f : Format) (s : Bool) (m n : ℕ) (e d : ℤ) → m * up e * 2 ^ low f / down e ≡ n * up d * 2 ^ low f / down d → to_bits f (fin s m e) ≡ to_bits f (fin s n d)
unfolding to_bits
bits_same f s m n e d h = ap (λ (k : ℕ). cond s (top f) 0 + (size k - prec f) * hid f + k / 2 ^ (size k - prec f)) h

sign_of : (f : Format) (u : ℕ) (s : Bool) (m : ℕ) (e : ℤ) (p l : ℕ) → Signed s (m * up e) p l (2 ^ low f) (2 ^ u * down e) → (p ≡ l → ⊥) → s ≡ ltb p l
sign_of f u s m e p l h n = go s h
  where
    W>0 : 0 < 2 ^ u * down e
    W>0 = mul-pos (pow_pos u) (down_pos e)

    go : (s : Bool) → Signed s (m * up e) p l (2 ^ low f) (2 ^ u * down e) → s ≡ ltb p l
    go true h = sym (is_true (ltb p l) (lt→ltb p l (lt_of_le-ne (le_of_mul-le-mul_right {m = p} {n = l} (omega arith) W>0) n)))
    go false h = sym (is_false (ltb p l) (le→nltb p l (le_of_mul-le-mul_right {m = l} {n = p} (omega arith) W>0)))

pub counts_unique : (f : Format) (u p l : ℕ) (x y : Float) → T (fits f x) → T (fits f y) → Counts f u x p l → Counts f u y p l → (p ≡ l → ⊥) → x ≡ y
unfolding Counts
counts_unique f u p l nan y i j h k n = absurd h
counts_unique f u p l (inf s) y i j h k n = absurd h
counts_unique f u p l (fin s m e) nan i j h k n = absurd k
counts_unique f u p l (fin s m e) (inf t) i j h k n = absurd k
counts_unique f u p l (fin s m e) (fin t o d) i j h k n =
    let signs : s ≡ t = sign_of f u s m e p l h n ∙ sym (sign_of f u t o d p l k n) in
    let grids : m * up e * 2 ^ low f / down e ≡ o * up d * 2 ^ low f / down d = grid_of f u s m e p l h ∙ rw signs (sym (grid_of f u t o d p l k)) in
    sym (of_bits-to_bits f (fin s m e) i) ∙ ap (of_bits f) (bits_same f s m o e d grids ∙ rw signs refl) ∙ of_bits-to_bits f (fin t o d) j
