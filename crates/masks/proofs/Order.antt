-- The order of floats: what a strict comparison says of a third float, which may be NaN or infinite. Assumes nothing.
use Prim.Native.Nat.{ℕ, ◌+◌, ◌*◌, ◌≤◌, ◌<◌}
use mathlib.Core.Path.{◌≡◌, refl, sym, ◌∙◌}
use mathlib.Core.Logic.{◌⊎◌, inl, inr, ⊎_elim}
use mathlib.Core.Bool.{Bool, true, false, false≢true}
use native.Mathlib.Nat.{add-mul, mul_assoc, mul_comm, mul-le-mul_right, mul-lt-mul_of_pos_right, lt_of_mul-lt-mul_right}
use native.Mathlib.Omega.{arith}
use borrow.Author.Tests.{ltb-true, ltb-false, lt-ltb, le-ltb}
use lib.Ieee.{Float, nan, inf, fin, up, down, below, lt}
use lib.Ieee.Fits.{down_pos}

-- ---- signed fractions

-- the sides of a ledger: what a sign and a size gain, and what they spend
abbrev gain : Bool → ℕ → ℕ
gain true a = 0
gain false a = a

abbrev spend : Bool → ℕ → ℕ
spend true a = a
spend false a = 0

module _ (a b D E : ℕ) where
  below_true : (s t : Bool) → below s (a * D) t (b * E) ≡ true → gain s a * D + spend t b * E < gain t b * E + spend s a * D
  below_true false false h = omega (arith, ltb-true (a * D) (b * E) h)
  below_true false true h = absurd (false≢true h)
  below_true true false h = omega (arith, ltb-true 0 (a * D + b * E) h)
  below_true true true h = omega (arith, ltb-true (b * E) (a * D) h)

  below_false : (s t : Bool) → below s (a * D) t (b * E) ≡ false → gain t b * E + spend s a * D ≤ gain s a * D + spend t b * E
  below_false false false h = omega (arith, ltb-false (a * D) (b * E) h)
  below_false false true h = omega arith
  below_false true false h = omega (arith, ltb-false 0 (a * D + b * E) h)
  below_false true true h = omega (arith, ltb-false (b * E) (a * D) h)

  true_below : (s t : Bool) → gain s a * D + spend t b * E < gain t b * E + spend s a * D → below s (a * D) t (b * E) ≡ true
  true_below false false h = lt-ltb (a * D) (b * E) (omega arith)
  true_below false true h = absurd (omega arith)
  true_below true false h = lt-ltb 0 (a * D + b * E) (omega arith)
  true_below true true h = lt-ltb (b * E) (a * D) (omega arith)

  false_below : (s t : Bool) → gain t b * E + spend s a * D ≤ gain s a * D + spend t b * E → below s (a * D) t (b * E) ≡ false
  false_below false false h = le-ltb (a * D) (b * E) (omega arith)
  false_below false true h = refl
  false_below true false h = le-ltb 0 (a * D + b * E) (omega arith)
  false_below true true h = le-ltb (b * E) (a * D) (omega arith)

-- of the numbers (p - l) / E, (p' - l') / D and (p'' - l'') / C the first is below the second, and the third is not
below_third : (p l p' l' p'' l'' E D C : ℕ) → 0 < C → p * D + l' * E < p' * E + l * D → p' * C + l'' * D ≤ p'' * D + l' * C → p * C + l'' * E < p'' * E + l * C
below_third p l p' l' p'' l'' E D C pos h k =
    let x : (p * D + l' * E) * C < (p' * E + l * D) * C = mul-lt-mul_of_pos_right h pos in
    let y : (p' * C + l'' * D) * E ≤ (p'' * D + l' * C) * E = mul-le-mul_right E k in
    let a : (p * D + l' * E) * C ≡ p * C * D + l' * E * C = add-mul (p * D) (l' * E) C ∙ simp (mul_assoc, mul_comm) in
    let b : (p' * E + l * D) * C ≡ p' * E * C + l * C * D = add-mul (p' * E) (l * D) C ∙ simp (mul_assoc, mul_comm) in
    let c : (p' * C + l'' * D) * E ≡ p' * E * C + l'' * E * D = add-mul (p' * C) (l'' * D) E ∙ simp (mul_assoc, mul_comm) in
    let d : (p'' * D + l' * C) * E ≡ p'' * E * D + l' * E * C = add-mul (p'' * D) (l' * C) E ∙ simp (mul_assoc, mul_comm) in
    lt_of_mul-lt-mul_right D {m = p * C + l'' * E} {n = p'' * E + l * C} (omega (arith, add-mul (p * C) (l'' * E) D, add-mul (p'' * E) (l * C) D))

-- ---- floats

-- of two at most one is below the other
pub below_once : (x y : Float) → lt x y ≡ true → lt y x ≡ false
unfolding lt
below_once nan y h = absurd (false≢true h)
below_once (inf s) nan h = absurd (false≢true h)
below_once (inf true) (inf true) h = absurd (false≢true h)
below_once (inf true) (inf false) h = refl
below_once (inf false) (inf t) h = absurd (false≢true h)
below_once (inf true) (fin t n d) h = refl
below_once (inf false) (fin t n d) h = absurd (false≢true h)
below_once (fin s m e) nan h = absurd (false≢true h)
below_once (fin s m e) (inf true) h = absurd (false≢true h)
below_once (fin s m e) (inf false) h = refl
below_once (fin s m e) (fin t n d) h = false_below (n * up d) (m * up e) (down e) (down d) t s (omega (arith, below_true (m * up e) (n * up d) (down d) (down e) s t h))

pub not_below_itself : (x : Float) → lt x x ≡ false
not_below_itself x = by (lt x x) refl
  where
    by : (b : Bool) → lt x x ≡ b → lt x x ≡ false
    by true e = below_once x x e
    by false e = e

-- x is below y, and z is not: then x is below z, unless z is NaN,
pub below_other : (x y z : Float) → lt x y ≡ true → lt z y ≡ false → (z ≡ nan) ⊎ (lt x z ≡ true)
unfolding lt
below_other x y nan h k = inl refl
below_other nan y (inf r) h k = absurd (false≢true h)
below_other nan y (fin r o g) h k = absurd (false≢true h)
below_other (inf s) nan (inf r) h k = absurd (false≢true h)
below_other (inf s) nan (fin r o g) h k = absurd (false≢true h)
below_other (inf false) (inf t) (inf r) h k = absurd (false≢true h)
below_other (inf false) (inf t) (fin r o g) h k = absurd (false≢true h)
below_other (inf true) (inf true) (inf r) h k = absurd (false≢true h)
below_other (inf true) (inf true) (fin r o g) h k = absurd (false≢true h)
below_other (inf true) (inf false) (inf true) h k = absurd (false≢true (sym k))
below_other (inf true) (inf false) (inf false) h k = inr refl
below_other (inf true) (inf false) (fin r o g) h k = inr refl
below_other (inf false) (fin t n d) (inf r) h k = absurd (false≢true h)
below_other (inf false) (fin t n d) (fin r o g) h k = absurd (false≢true h)
below_other (inf true) (fin t n d) (inf true) h k = absurd (false≢true (sym k))
below_other (inf true) (fin t n d) (inf false) h k = inr refl
below_other (inf true) (fin t n d) (fin r o g) h k = inr refl
below_other (fin s m e) nan (inf r) h k = absurd (false≢true h)
below_other (fin s m e) nan (fin r o g) h k = absurd (false≢true h)
below_other (fin s m e) (inf true) (inf r) h k = absurd (false≢true h)
below_other (fin s m e) (inf true) (fin r o g) h k = absurd (false≢true h)
below_other (fin s m e) (inf false) (inf true) h k = absurd (false≢true (sym k))
below_other (fin s m e) (inf false) (inf false) h k = inr refl
below_other (fin s m e) (inf false) (fin r o g) h k = absurd (false≢true (sym k))
below_other (fin s m e) (fin t n d) (inf true) h k = absurd (false≢true (sym k))
below_other (fin s m e) (fin t n d) (inf false) h k = inr refl
below_other (fin s m e) (fin t n d) (fin r o g) h k =
    inr (true_below (m * up e) (o * up g) (down g) (down e) s r
    (below_third (gain s (m * up e)) (spend s (m * up e)) (gain t (n * up d)) (spend t (n * up d)) (gain r (o * up g)) (spend r (o * up g))
    (down e) (down d) (down g) (down_pos g) (below_true (m * up e) (n * up d) (down d) (down e) s t h) (below_false (o * up g) (n * up d) (down d) (down g) r t k)))

-- and z is not below x
pub not_below_other : (x y z : Float) → lt x y ≡ true → lt z y ≡ false → lt z x ≡ false
unfolding lt
not_below_other x y z h k = ⊎_elim (λ (e : z ≡ nan). rw e refl) (λ e. below_once x z e) (below_other x y z h k)
