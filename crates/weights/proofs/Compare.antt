-- Comparisons of counted floats are comparisons of their counts, for either format and every unit. Assumes nothing.
use mathlib.Core.Path.{◌≡◌, refl, ap, ap₂, ◌∙◌}
use mathlib.Core.Logic.{◌⊎◌, inl, inr}
use mathlib.Core.Bool.{Bool, true, false, ◌||◌, beq, cond}
use Prim.Native.Nat.{ℕ, ◌+◌, ◌*◌, ◌^◌, ◌<◌}
use native.Mathlib.Nat.{mul-lt-mul_of_pos_right, lt_of_mul-lt-mul_right, le_of_lt, le_of_eq, eq-or-lt_of_le, add-mul, mul-pos, eq_of_mul-eq-mul_right}
use native.Mathlib.Omega.{arith}
use lib.IntN.{ℤ}
use lib.Dec.{T, leb→le, le→leb, eqb→eq, leb, ltb, eqb, ltb→lt, lt→ltb}
use lib.Pow.{pow_pos}
use lib.Ieee.{Float, nan, inf, fin, Format, low, up, down, below, level, lt, le, eq}
use lib.Ieee.Fits.{down_pos, and_l, and_r, and_i, eq→eqb}
use Rattle.weights.specs.Counts.{Signed, Counts}
use Rattle.weights.proofs.Counting.{common}

-- two tests that follow from each other
pub same_bool : (a b : Bool) → (T a → T b) → (T b → T a) → a ≡ b
same_bool true true h k = refl
same_bool false false h k = refl
same_bool true false h k = absurd (h tt)
same_bool false true h k = absurd (k tt)

-- ---- ±a against ±b, in units of 1 / L, is n against m, in units of W / L

-- ±a - ±b is n - m
abbrev Weighed : Bool → Bool → ℕ → ℕ → ℕ → ℕ → Type 0
Weighed s t A B N M = N + (cond s A 0 + cond t 0 B) ≡ M + (cond s 0 A + cond t B 0)

weighed : (s t : Bool) (a b p l p' l' L W : ℕ) → Signed s a p l L W → Signed t b p' l' L W → Weighed s t (a * L) (b * L) ((p + l') * W) ((p' + l) * W)
weighed true true a b p l p' l' L W x y = omega (arith, add-mul p l' W, add-mul p' l W)
weighed true false a b p l p' l' L W x y = omega (arith, add-mul p l' W, add-mul p' l W)
weighed false true a b p l p' l' L W x y = omega (arith, add-mul p l' W, add-mul p' l W)
weighed false false a b p l p' l' L W x y = omega (arith, add-mul p l' W, add-mul p' l W)

module _ (a b n m L W : ℕ) (P : 0 < L) (Q : 0 < W) where
  below_is : (s t : Bool) → Weighed s t (a * L) (b * L) (n * W) (m * W) → below s a t b ≡ ltb n m
  below_is s t e = same_bool (below s a t b) (ltb n m) (λ h. lt→ltb n m (to s t e h)) (λ h. back s t e (ltb→lt n m h))
    where
      to : (s t : Bool) → Weighed s t (a * L) (b * L) (n * W) (m * W) → T (below s a t b) → n < m
      to false false e h = lt_of_mul-lt-mul_right W (omega (arith, mul-lt-mul_of_pos_right (ltb→lt a b h) P))
      to false true e h = absurd h
      to true false e h = lt_of_mul-lt-mul_right W (omega (arith, add-mul a b L, mul-lt-mul_of_pos_right (ltb→lt 0 (a + b) h) P))
      to true true e h = lt_of_mul-lt-mul_right W (omega (arith, mul-lt-mul_of_pos_right (ltb→lt b a h) P))

      back : (s t : Bool) → Weighed s t (a * L) (b * L) (n * W) (m * W) → n < m → T (below s a t b)
      back false false e h = lt→ltb a b (lt_of_mul-lt-mul_right L (omega (arith, mul-lt-mul_of_pos_right h Q)))
      back false true e h = omega (arith, mul-lt-mul_of_pos_right h Q)
      back true false e h = lt→ltb 0 (a + b) (lt_of_mul-lt-mul_right L (omega (arith, add-mul a b L, mul-lt-mul_of_pos_right h Q)))
      back true true e h = lt→ltb b a (lt_of_mul-lt-mul_right L (omega (arith, mul-lt-mul_of_pos_right h Q)))

  level_is : (s t : Bool) → Weighed s t (a * L) (b * L) (n * W) (m * W) → level s a t b ≡ eqb n m
  level_is s t e = same_bool (level s a t b) (eqb n m) (λ h. eq→eqb (to h)) (λ h. back s t e (ap (λ (k : ℕ). k * W) (eqb→eq n m h)))
    where
      scaled : (i j : ℕ) → T (eqb i j) → i * L ≡ j * L
      scaled i j h = ap (λ (k : ℕ). k * L) (eqb→eq i j h)

      cancelled : (i j : ℕ) → i * L ≡ j * L → T (eqb i j)
      cancelled i j h = eq→eqb (eq_of_mul-eq-mul_right L P i j h)

      signs : (s t : Bool) → Weighed s t (a * L) (b * L) (n * W) (m * W) → a * L ≡ b * L → T (beq s t || eqb a 0) → n * W ≡ m * W
      signs false false e i h = omega arith
      signs true true e i h = omega arith
      signs false true e i h = omega (arith, scaled a 0 h)
      signs true false e i h = omega (arith, scaled a 0 h)

      to : T (level s a t b) → n ≡ m
      to h = eq_of_mul-eq-mul_right W Q n m (signs s t e (scaled a b (and_l (eqb a b) (beq s t || eqb a 0) h)) (and_r (eqb a b) (beq s t || eqb a 0) h))

      back : (s t : Bool) → Weighed s t (a * L) (b * L) (n * W) (m * W) → n * W ≡ m * W → T (level s a t b)
      back false false e i = and_i (eqb a b) true (cancelled a b (omega arith)) tt
      back true true e i = and_i (eqb a b) true (cancelled a b (omega arith)) tt
      back false true e i = and_i (eqb a b) (eqb a 0) (cancelled a b (omega arith)) (cancelled a 0 (omega arith))
      back true false e i = and_i (eqb a b) (eqb a 0) (cancelled a b (omega arith)) (cancelled a 0 (omega arith))

lt_or_eq : (a b : ℕ) → (ltb a b || eqb a b) ≡ leb a b
lt_or_eq a b = same_bool (ltb a b || eqb a b) (leb a b) (to (ltb a b) (ltb→lt a b)) (λ h. back (eq-or-lt_of_le (leb→le a b h)))
  where
    to : (i : Bool) → (T i → a < b) → T (i || eqb a b) → T (leb a b)
    to true i h = le→leb a b (le_of_lt (i tt))
    to false i h = le→leb a b (le_of_eq (eqb→eq a b h))

    or_l : (i j : Bool) → T i → T (i || j)
    or_l true j t = tt
    or_l false j t = absurd t

    or_r : (i j : Bool) → T j → T (i || j)
    or_r true j t = tt
    or_r false j t = t

    back : (a ≡ b) ⊎ (a < b) → T (ltb a b || eqb a b)
    back (inl e) = or_r (ltb a b) (eqb a b) (eq→eqb e)
    back (inr h) = or_l (ltb a b) (eqb a b) (lt→ltb a b h)

-- ---- of floats

module _ (f : Format) (u p l p' l' : ℕ) where
  -- a test of floats that is a test of ±a against ±b, and so one of naturals
  tested : (test : Float → Float → Bool) (signed : Bool → ℕ → Bool → ℕ → Bool) (plain : ℕ → ℕ → Bool)
      → ((s t : Bool) (m n : ℕ) (e d : ℤ) → test (fin s m e) (fin t n d) ≡ signed s (m * up e * down d) t (n * up d * down e))
      → ((a b n m L W : ℕ) → 0 < L → 0 < W → (s t : Bool) → Weighed s t (a * L) (b * L) (n * W) (m * W) → signed s a t b ≡ plain n m)
      → (x y : Float) → Counts f u x p l → Counts f u y p' l' → test x y ≡ plain (p + l') (p' + l)
  unfolding Counts
  tested test signed plain is law nan y h k = absurd h
  tested test signed plain is law (inf s) y h k = absurd h
  tested test signed plain is law (fin s m e) nan h k = absurd k
  tested test signed plain is law (fin s m e) (inf t) h k = absurd k
  tested test signed plain is law (fin s m e) (fin t n d) h k =
      let both = common f u p l p' l' s t m n e d h k in
      let W = 2 ^ u * (down e * down d) in
      is s t m n e d
      ∙ law (m * up e * down d) (n * up d * down e) (p + l') (p' + l) (2 ^ low f) W (pow_pos (low f)) (mul-pos (pow_pos u) (mul-pos (down_pos e) (down_pos d))) s t
      (weighed s t (m * up e * down d) (n * up d * down e) p l p' l' (2 ^ low f) W both.0 both.1)

  pub lt_counts : (x y : Float) → Counts f u x p l → Counts f u y p' l' → lt x y ≡ ltb (p + l') (p' + l)
  unfolding lt
  lt_counts = tested lt below ltb (λ s t m n e d. refl) below_is

  pub eq_counts : (x y : Float) → Counts f u x p l → Counts f u y p' l' → eq x y ≡ eqb (p + l') (p' + l)
  unfolding eq
  eq_counts = tested eq level eqb (λ s t m n e d. refl) level_is

  pub le_counts : (x y : Float) → Counts f u x p l → Counts f u y p' l' → le x y ≡ leb (p + l') (p' + l)
  unfolding le
  le_counts x y h k = ap₂ (λ (i j : Bool). i || j) (lt_counts x y h k) (eq_counts x y h k) ∙ lt_or_eq (p + l') (p' + l)
