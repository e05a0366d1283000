-- THE EARLY BREAK changes nothing, on any field: a bound that gives no verdict gives none later, infinities and NaN included. Assumes nothing.
-- The idea. The walk keeps a low and a high bound of each of two differences, and breaks off once each low bound is at most the tolerance t
-- and each high bound at least its negative: then the bounds say nothing. A further neighbour adds to a low bound a number that is not above 0,
-- and to a high bound one that is not below 0, so over whole numbers they would say nothing at the end either.
-- In floats a sum is rounded, and may be an infinity or a NaN. But t is itself a float, and rounding keeps order: what is not above t, with
-- a number not above 0 added, is rounded to something not above t. An infinity that is added points the harmless way, and a NaN is above nothing.
-- High bounds are the same with signs turned. By induction over the neighbours, the bounds at the break and those at the end say the same: nothing.
use mathlib.Core.Path.{◌≡◌, refl, sym, ap, ◌∙◌, subst}
use mathlib.Core.Logic.{◌⊎◌, inl, inr}
use mathlib.Core.Bool.{Bool, true, false, not, ◌&&◌, ◌||◌, cond, true≢false}
use mathlib.Core.List.{List}
use Prim.Native.Nat.{ℕ, zero, suc, ◌+◌, ◌-◌, ◌*◌, ◌%◌, ◌^◌, ◌≤◌, ◌<◌, zero-le}
use native.Mathlib.Nat.{mul_assoc, mul_comm, mul_left_comm, mul-one, one-mul, zero-mul, mul-le-mul_right, mul-lt-mul_of_pos_right, lt_of_mul-lt-mul_right, mul-pos, le_trans, le_of_eq, le_of_lt, eq-or-lt_of_le, le_of_suc-le-suc}
use native.Mathlib.Omega.{arith}
use lib.IntN.{ℤ, pos, negsuc}
use lib.Dec.{T, ltb, leb, eqb, ltb→lt, leb→le, nltb→le, eqb→eq}
use lib.Pow.{pow_pos, pow-add, pow-lt}
use borrow.Author.Tests.{ltb-false, ltb-true, le-ltb}
use lib.Ieee.{Float, nan, inf, fin, Format, prec, emax, low, up, down, binary64, add, sub, mul, neg, lt, le, eq, round, units, odd, sum, fits, of_bits}
use lib.Ieee.Fits.{down_pos, and_l, and_r, round_is, mul-fits}
use lib.Ieee.Exact.{HasValue, round_exact}
use lib.Ieee.Order.{round_mono}
use lib.Ieee.Positive.{through, above, above_of_le, mul_mono}
use Rattle.weights.specs.Worth.{zero64}
use Rattle.field.specs.Field.{Field, variables}
use Rattle.margins.specs.declared.bounds.Bounds.{Bounds}
use Rattle.meaning.specs.Pair.{third}
use Rattle.margins.specs.declared.bounds.Sign.TheVariants.{Neither}
use Rattle.margins.specs.Model.{one64, tiny64, at_least_one_of, mass, below_zero, above_zero_of, widen, meets, neighbour, bounds_to, bounds_of, merged_weight, tolerance, Signs, sign_of, signs_of, pair_signs, between, hopeless}
use Rattle.margins.proofs.Tolerance.{lt_neg, lt→le, one_one, tiny_tiny, one_positive, tiny_positive, tiny_one, tiny_inf}

abbrev turn : Bool → Float → Float
turn false y = y
turn true y = neg y

-- ---- numbers
under : (q u d j l k : ℕ) → 0 < 2 ^ l → q * u < 2 ^ k * d → u * 2 ^ l ≡ j * d → q * j < 2 ^ (l + k)
under q u d j l k lp h e =
    lt_of_mul-lt-mul_right d
    (let a : q * u * 2 ^ l < 2 ^ k * d * 2 ^ l = mul-lt-mul_of_pos_right h lp in
    let b : q * (u * 2 ^ l) ≡ q * (j * d) = ap (λ (z : ℕ). q * z) e in
    rw pow-add (simp (mul_assoc, mul_comm, mul_left_comm) (omega (arith, simp (mul_assoc, mul_comm, mul_left_comm) at a, simp (mul_assoc, mul_comm, mul_left_comm) at b))))

shift : (l : ℕ) (e : ℤ) → down e ≤ 2 ^ l → (j : ℕ) × (up e * 2 ^ l ≡ 2 ^ j * down e)
shift l (pos k) h = (k + l, sym (pow-add 2 k l) ∙ sym (mul-one (2 ^ (k + l))))
shift l (negsuc k) h = go (which (ltb l (suc k)) refl)
  where
    which : (b : Bool) → ltb l (suc k) ≡ b → (suc k ≤ l) ⊎ (l < suc k)
    which true e = inr (ltb-true l (suc k) e)
    which false e = inl (ltb-false l (suc k) e)

    go : (suc k ≤ l) ⊎ (l < suc k) → (j : ℕ) × (1 * 2 ^ l ≡ 2 ^ j * 2 ^ suc k)
    go (inl b) = (l - suc k, one-mul (2 ^ l) ∙ ap (λ (z : ℕ). 2 ^ z) (back l (suc k) b) ∙ pow-add 2 (l - suc k) (suc k))
      where
        back : (n u : ℕ) → u ≤ n → n ≡ n - u + u
        back n u h = omega arith
    go (inr b) = absurd (clash (2 ^ suc k) (2 ^ l) h (pow-lt b))
      where
        clash : (a b : ℕ) → a ≤ b → b < a → ⊥
        clash a b p q = omega arith

is_not : (a b : ℕ) → b ≤ a → ltb a b ≡ false
is_not a b h = le-ltb a b h

not_less : (a b : ℕ) → ltb a b ≡ false → b ≤ a
not_less a b h = ltb-false a b h

none : (a d : ℕ) → a < 0 * 1 * d → ⊥
none a d h = omega (arith, zero-mul 1, zero-mul d)

both_none : (a b : ℕ) → T (false || (eqb a b && (false || eqb a 0))) → ltb 0 (b + a) ≡ false
both_none a b h =
    let e = eqb→eq a b (and_l (eqb a b) (eqb a 0) h) in
    let z = eqb→eq a 0 (and_r (eqb a b) (eqb a 0) h) in
    le-ltb 0 (b + a) (omega arith)

turned_or : (a b : ℕ) → T (ltb b a || (eqb a b && true)) → b ≤ a
turned_or a b = go (ltb b a) (ltb→lt b a)
  where
    go : (x : Bool) → (T x → b < a) → T (x || (eqb a b && true)) → b ≤ a
    go true l t = le_of_lt (l tt)
    go false l t = le_of_eq (sym (eqb→eq a b (and_l (eqb a b) true t)))

lt_or_eq : (a b : ℕ) → T (ltb a b || (eqb a b && true)) → a ≤ b
lt_or_eq a b = go (ltb a b) (ltb→lt a b)
  where
    go : (x : Bool) → (T x → a < b) → T (x || (eqb a b && true)) → a ≤ b
    go true l t = le_of_lt (l tt)
    go false l t = le_of_eq (eqb→eq a b (and_l (eqb a b) true t))

-- ---- a rounded value against t, a positive float of the format
module _ (f : Format) (m : ℕ) (e : ℤ) where
  abbrev t : Float
  t = fin false (suc m) e

  units_true : (q k : ℕ) → lt t (units f true q k) ≡ false
  unfolding units odd lt
  units_true q k = go (ltb (q * 2 ^ k) (2 ^ (low f + suc (emax f)))) q
    where
      go : (b : Bool) (q : ℕ) → lt t (cond b (odd (suc (prec f)) true q k (low f)) (inf true)) ≡ false
      go false q = refl
      go true zero = refl
      go true (suc q) = refl

  round_true : (n d : ℕ) → lt t (round f true n d) ≡ false
  round_true n d = ap (lt t) (round_is f true n d) ∙ units_true _ _

  units_neg : (s : Bool) (q k : ℕ) → neg (units f s q k) ≡ units f (not s) q k
  unfolding units odd neg
  units_neg s q k = go (ltb (q * 2 ^ k) (2 ^ (low f + suc (emax f)))) q
    where
      go : (b : Bool) (q : ℕ) → neg (cond b (odd (suc (prec f)) s q k (low f)) (inf s)) ≡ cond b (odd (suc (prec f)) (not s) q k (low f)) (inf (not s))
      go false q = refl
      go true zero = refl
      go true (suc q) = refl

  round_neg : (s : Bool) (n d : ℕ) → neg (round f s n d) ≡ round f (not s) n d
  round_neg s n d = ap neg (round_is f s n d) ∙ units_neg s _ _ ∙ sym (round_is f (not s) n d)

  away : (τ : Bool) (n d : ℕ) → lt t (turn τ (round f (not τ) n d)) ≡ false
  away false n d = round_true n d
  away true n d = ap (lt t) (round_neg false n d) ∙ round_true n d

  module _ (fit : T (fits f (fin false (suc m) e))) where
    digits : T (ltb (suc m) (2 ^ prec f))
    unfolding fits
    digits = and_r (eqb (suc m % 2) 1) _ (and_l (eqb (suc m % 2) 1 && ltb (suc m) (2 ^ prec f)) (leb (down e) (2 ^ low f))
        (and_l (eqb (suc m % 2) 1 && ltb (suc m) (2 ^ prec f) && leb (down e) (2 ^ low f)) (ltb (suc m * up e) (2 ^ suc (emax f) * down e)) fit))

    fine : T (leb (down e) (2 ^ low f))
    unfolding fits
    fine = and_r (eqb (suc m % 2) 1 && ltb (suc m) (2 ^ prec f)) _
        (and_l (eqb (suc m % 2) 1 && ltb (suc m) (2 ^ prec f) && leb (down e) (2 ^ low f)) (ltb (suc m * up e) (2 ^ suc (emax f) * down e)) fit)

    small : T (ltb (suc m * up e) (2 ^ suc (emax f) * down e))
    unfolding fits
    small = and_r (eqb (suc m % 2) 1 && ltb (suc m) (2 ^ prec f) && leb (down e) (2 ^ low f)) _ fit

    -- t is not changed by rounding
    own_rounds : HasValue (round f false (suc m * up e) (down e)) false (suc m * up e) (down e)
    own_rounds = go (shift (low f) e (leb→le (down e) (2 ^ low f) fine))
      where
        go : (j : ℕ) × (up e * 2 ^ low f ≡ 2 ^ j * down e) → HasValue (round f false (suc m * up e) (down e)) false (suc m * up e) (down e)
        go (j, h) =
            round_exact f false (suc m * up e) (down e) (suc m) j (down_pos e) (ltb→lt (suc m) (2 ^ prec f) digits)
            (under (suc m) (up e) (down e) (2 ^ j) (low f) (suc (emax f)) (pow_pos (low f)) (ltb→lt (suc m * up e) (2 ^ suc (emax f) * down e) small) h)
            (mul_assoc (suc m) (up e) (2 ^ low f) ∙ ap (λ (z : ℕ). suc m * z) h ∙ sym (mul_assoc (suc m) (2 ^ j) (down e)))

    -- what rounds to no more than t is not above t
    not_above : (r R : Float) → T (le r R) → HasValue R false (suc m * up e) (down e) → lt t r ≡ false
    unfolding le lt eq
    not_above nan R h v = refl
    not_above (inf true) R h v = refl
    not_above (inf false) nan h v = absurd v
    not_above (inf false) (inf s) h v = absurd v
    not_above (inf false) (fin s n d) h v = absurd h
    not_above (fin true n d) R h v = refl
    not_above (fin false n d) nan h v = absurd v
    not_above (fin false n d) (inf s) h v = absurd v
    not_above (fin false n d) (fin true p g) h v = absurd (true≢false v.0)
    not_above (fin false n d) (fin false p g) h v =
        is_not (suc m * up e * down d) (n * up d * down e)
        (through (n * up d) (p * up g) (suc m * up e) (down d) (down g) (down e) (down_pos g) (lt_or_eq (n * up d * down g) (p * up g * down d) h) (le_of_eq v.1))

    plainly : (n d : ℕ) → 0 < d → n * down e ≤ suc m * up e * d → lt t (round f false n d) ≡ false
    plainly n d dp h = not_above _ (round f false (suc m * up e) (down e)) (round_mono f n d (suc m * up e) (down e) dp (down_pos e) h) own_rounds

    toward : (τ : Bool) (n d : ℕ) → 0 < d → n * down e ≤ suc m * up e * d → lt t (turn τ (round f τ n d)) ≡ false
    toward false n d dp h = plainly n d dp h
    toward true n d dp h = ap (lt t) (round_neg true n d) ∙ plainly n d dp h

    -- ---- a sum whose second part does not go the way τ
    module _ (A B c : ℕ) (cp : 0 < c) where
      less_toward : (τ : Bool) (k n : ℕ) → k ≤ n → n * down e ≤ suc m * up e * c → lt t (turn τ (round f τ k c)) ≡ false
      less_toward τ k n l h = toward τ k c cp (le_trans (mul-le-mul_right (down e) l) h)

      none_toward : (τ : Bool) (k : ℕ) → k ≡ 0 → lt t (turn τ (round f τ k c)) ≡ false
      none_toward τ k z = toward τ k c cp (rw (z, zero-mul) zero-le)

      sum_quiet : (τ s sv : Bool) → (s ≡ τ → A * down e ≤ suc m * up e * c) → (sv ≡ τ → B ≡ 0) → lt t (turn τ (sum f s A sv B c)) ≡ false
      unfolding sum
      sum_quiet false false false h z = less_toward false (A + B) A (omega (arith, z refl)) (h refl)
      sum_quiet false false true h z = go (ltb A B)
        where
          go : (b : Bool) → lt t (cond b (round f true (B - A) c) (round f false (A - B) c)) ≡ false
          go true = away false (B - A) c
          go false = less_toward false (A - B) A (omega arith) (h refl)
      sum_quiet false true false h z = go (ltb A B) (ltb B A) (nltb→le B A)
        where
          go : (b d : Bool) → (T (not d) → A ≤ B) → lt t (cond b (round f false (B - A) c) (round f d (A - B) c)) ≡ false
          go true d l = none_toward false (B - A) (omega (arith, z refl))
          go false true l = away false (A - B) c
          go false false l = none_toward false (A - B) (omega (arith, l tt))
      sum_quiet false true true h z = away false (A + B) c
      sum_quiet true true true h z = less_toward true (A + B) A (omega (arith, z refl)) (h refl)
      sum_quiet true true false h z = go (ltb A B) (ltb B A)
        where
          go : (b d : Bool) → lt t (neg (cond b (round f false (B - A) c) (round f d (A - B) c))) ≡ false
          go true d = away true (B - A) c
          go false true = less_toward true (A - B) A (omega arith) (h refl)
          go false false = away true (A - B) c
      sum_quiet true false true h z = go (ltb A B)
        where
          go : (b : Bool) → lt t (neg (cond b (round f true (B - A) c) (round f false (A - B) c))) ≡ false
          go true = none_toward true (B - A) (omega (arith, z refl))
          go false = away true (A - B) c
      sum_quiet true false false h z = away true (A + B) c

-- ---- what does not go the way τ: no NaN; an infinity the other way; zero, or the other sign
abbrev Back : Bool → Float → Type 0
Back τ nan = ⊥
Back τ (inf b) = b ≡ not τ
Back τ (fin s n d) = s ≡ τ → n ≡ 0

turned_fin : (τ s : Bool) (n : ℕ) (d : ℤ) (m : ℕ) (e : ℤ) → lt (fin false m e) (turn τ (fin s n d)) ≡ false → s ≡ τ → n * up d * down e ≤ m * up e * down d
unfolding lt neg
turned_fin false false n d m e h q = not_less (m * up e * down d) (n * up d * down e) h
turned_fin true true n d m e h q = not_less (m * up e * down d) (n * up d * down e) h
turned_fin false true n d m e h q = absurd (true≢false q)
turned_fin true false n d m e h q = absurd (true≢false (sym q))

scale : (a u v d m w : ℕ) → a * v ≤ m * u → a * d * v ≤ m * (u * d)
scale a u v d m w h = le_trans (le_of_eq one) (le_trans (mul-le-mul_right d h) (le_of_eq (mul_assoc m u d)))
  where
    one : a * d * v ≡ a * v * d
    one = simp (mul_assoc, mul_comm, mul_left_comm)

nothing_left : (n u v : ℕ) → n ≡ 0 → n * u * v ≡ 0
nothing_left n u v h = rw (h, zero-mul, zero-mul) refl

-- QUIET STAYS QUIET, one term: t positive, or plus infinity
quiet_add : (τ : Bool) (m : ℕ) (e : ℤ) → T (fits binary64 (fin false (suc m) e)) → (x v : Float) → Back τ v → lt (fin false (suc m) e) (turn τ x) ≡ false → lt (fin false (suc m) e) (turn τ (add binary64 x v)) ≡ false
unfolding add lt neg
quiet_add false m e fit nan v k h = refl
quiet_add true m e fit nan v k h = refl
quiet_add τ m e fit (inf b) nan k h = absurd k
quiet_add τ m e fit (fin s n d) nan k h = absurd k
quiet_add false m e fit (inf false) (inf c) k h = absurd (true≢false h)
quiet_add false m e fit (inf true) (inf c) k h = rw k refl
quiet_add true m e fit (inf true) (inf c) k h = absurd (true≢false h)
quiet_add true m e fit (inf false) (inf c) k h = rw k refl
quiet_add false m e fit (inf b) (fin s n d) k h = h
quiet_add true m e fit (inf b) (fin s n d) k h = h
quiet_add false m e fit (fin s n d) (inf c) k h = rw k refl
quiet_add true m e fit (fin s n d) (inf c) k h = rw k refl
quiet_add τ m e fit (fin s a b) (fin sv n d) k h =
    sum_quiet binary64 m e fit (a * up b * down d) (n * up d * down b) (down b * down d) (mul-pos (down_pos b) (down_pos d)) τ s sv
    (λ q. scale (a * up b) (down b) (down e) (down d) (suc m * up e) 0 (turned_fin τ s a b (suc m) e h q))
    (λ q. nothing_left n (up d) (down b) (k q))

-- ---- the smaller and the larger of a float and 0
below_back : (w : Float) → Back false (below_zero w)
unfolding lt of_bits
below_back nan = λ q. refl
below_back (inf true) = refl
below_back (inf false) = λ q. refl
below_back (fin true n d) = go (ltb 0 (n * up d * down (pos 0) + 0 * up (pos 0) * down d))
  where
    go : (b : Bool) → Back false (cond b (fin true n d) zero64)
    go true = λ q. absurd (true≢false q)
    go false = λ q. refl
below_back (fin false n d) = go (ltb (n * up d * down (pos 0)) (0 * up (pos 0) * down d)) (ltb→lt (n * up d * down (pos 0)) (0 * up (pos 0) * down d))
  where
    go : (b : Bool) → (T b → n * up d * down (pos 0) < 0 * up (pos 0) * down d) → Back false (cond b (fin false n d) zero64)
    go true h = λ q. absurd (none (n * up d * down (pos 0)) (down d) (h tt))
    go false h = λ q. refl

above_back : (w : Float) → Back true (above_zero_of w)
unfolding lt of_bits
above_back nan = λ q. absurd (true≢false (sym q))
above_back (inf true) = λ q. absurd (true≢false (sym q))
above_back (inf false) = refl
above_back (fin true n d) = λ q. absurd (true≢false (sym q))
above_back (fin false n d) = go (ltb (0 * up (pos 0) * down d) (n * up d * down (pos 0)))
  where
    go : (b : Bool) → Back true (cond b (fin false n d) zero64)
    go true = λ q. absurd (true≢false (sym q))
    go false = λ q. absurd (true≢false (sym q))

-- ---- any t that is above zero, plus infinity included
quiet_on : (τ : Bool) (t : Float) → T (above t) → T (fits binary64 t) → (x v : Float) → Back τ v → lt t (turn τ x) ≡ false → lt t (turn τ (add binary64 x v)) ≡ false
unfolding lt
quiet_on τ nan a fit x v k h = absurd a
quiet_on τ (inf true) a fit x v k h = absurd a
quiet_on τ (inf false) a fit x v k h = never (turn τ (add binary64 x v))
  where
    never : (y : Float) → lt (inf false) y ≡ false
    never nan = refl
    never (inf s) = refl
    never (fin s n d) = refl
quiet_on τ (fin true m e) a fit x v k h = absurd a
quiet_on τ (fin false zero e) a fit x v k h = absurd a
quiet_on τ (fin false (suc m) e) a fit x v k h = quiet_add τ m e fit x v k h

-- ---- the tolerance of any field
base_above : (y : Float) → T (le one64 (at_least_one_of y))
base_above y = go (lt one64 y) refl
  where
    go : (b : Bool) → lt one64 y ≡ b → T (le one64 (cond b y one64))
    go true e = lt→le one64 y (subst T (sym e) tt)
    go false e = one_one

pub tolerance_above : (F : Field) (i j : ℕ) → T (above (tolerance F i j))
tolerance_above F i j = go (at_least_one_of (add binary64 (mass F i) (mass F j))) (base_above (add binary64 (mass F i) (mass F j))) (above_of_le one64 _ one_positive (base_above (add binary64 (mass F i) (mass F j))))
  where
    go : (y : Float) → T (le one64 y) → T (above y) → T (above (mul binary64 tiny64 y))
    go nan l a = absurd a
    go (inf true) l a = absurd a
    go (inf false) l a = tiny_inf
    go (fin true m e) l a = absurd a
    go (fin false m e) l a = above_of_le (mul binary64 tiny64 one64) (mul binary64 tiny64 (fin false m e)) tiny_one (mul_mono binary64 tiny64 tiny64 one64 (fin false m e) tiny_positive tiny_positive one_positive a tiny_tiny l)

-- ---- the four bounds: none gives a verdict
pub record Quiet (t : Float) (b : Bounds) : Type 0 where
  pub sum_low : lt t b.sumLow ≡ false
  pub sum_high : lt t (neg b.sumHigh) ≡ false
  pub diff_low : lt t b.diffLow ≡ false
  pub diff_high : lt t (neg b.diffHigh) ≡ false

not_over : (x t : Float) → T (le x t) → lt t x ≡ false
unfolding le lt eq
not_over nan t h = absurd h
not_over (inf s) nan h = absurd h
not_over (inf true) (inf true) h = refl
not_over (inf true) (inf false) h = refl
not_over (inf false) (inf true) h = absurd h
not_over (inf false) (inf false) h = refl
not_over (inf true) (fin s n d) h = refl
not_over (inf false) (fin s n d) h = absurd h
not_over (fin s m e) nan h = absurd h
not_over (fin s m e) (inf true) h = absurd h
not_over (fin s m e) (inf false) h = refl
not_over (fin false m e) (fin false n d) h = le-ltb (n * up d * down e) (m * up e * down d) (lt_or_eq (m * up e * down d) (n * up d * down e) h)
not_over (fin false m e) (fin true n d) h = both_none (m * up e * down d) (n * up d * down e) h
not_over (fin true m e) (fin false n d) h = refl
not_over (fin true m e) (fin true n d) h = le-ltb (m * up e * down d) (n * up d * down e) (turned_or (m * up e * down d) (n * up d * down e) h)

quiet_of : (t : Float) (b : Bounds) → T (hopeless t b) → Quiet t b
unfolding hopeless between
quiet_of t b h =
    let p = and_l (between t b.sumLow b.sumHigh) (between t b.diffLow b.diffHigh) h in
    let q = and_r (between t b.sumLow b.sumHigh) (between t b.diffLow b.diffHigh) h in
    record {
      sum_low = not_over b.sumLow t (and_l (le b.sumLow t) (le (neg t) b.sumHigh) p);
      sum_high = sym (lt_neg b.sumHigh t) ∙ not_over (neg t) b.sumHigh (and_r (le b.sumLow t) (le (neg t) b.sumHigh) p);
      diff_low = not_over b.diffLow t (and_l (le b.diffLow t) (le (neg t) b.diffHigh) q);
      diff_high = sym (lt_neg b.diffHigh t) ∙ not_over (neg t) b.diffHigh (and_r (le b.diffLow t) (le (neg t) b.diffHigh) q);
    }

module _ (t : Float) (a : T (above t)) (fit : T (fits binary64 t)) where
  quiet_widen : (b : Bounds) (wi wj : Float) → Quiet t b → Quiet t (widen b wi wj)
  unfolding widen
  quiet_widen b wi wj q =
      record {
        sum_low = quiet_on false t a fit b.sumLow _ (below_back (add binary64 wi wj)) q.sum_low;
        sum_high = quiet_on true t a fit b.sumHigh _ (above_back (add binary64 wi wj)) q.sum_high;
        diff_low = quiet_on false t a fit b.diffLow _ (below_back (sub binary64 wi wj)) q.diff_low;
        diff_high = quiet_on true t a fit b.diffHigh _ (above_back (sub binary64 wi wj)) q.diff_high;
      }

  quiet_neighbour : (F : Field) (s : List ℕ) (i j k : ℕ) (b : Bounds) → Quiet t b → Quiet t (neighbour F s i j k b)
  unfolding neighbour
  quiet_neighbour F s i j k b q = go (third s i j k && meets (merged_weight F i k) (merged_weight F j k))
    where
      go : (d : Bool) → Quiet t (cond d (widen b (merged_weight F i k) (merged_weight F j k)) b)
      go true = quiet_widen b (merged_weight F i k) (merged_weight F j k) q
      go false = q

  quiet_from : (F : Field) (s : List ℕ) (i j k n : ℕ) → k ≤ n → Quiet t (bounds_to F s i j k) → Quiet t (bounds_to F s i j n)
  unfolding bounds_to
  quiet_from F s i j zero zero h q = q
  quiet_from F s i j (suc k) zero h q = absurd (omega arith)
  quiet_from F s i j k (suc n) h q = go (eq-or-lt_of_le h) (λ l. quiet_from F s i j k n l q)
    where
      go : (k ≡ suc n) ⊎ (k < suc n) → (k ≤ n → Quiet t (bounds_to F s i j n)) → Quiet t (neighbour F s i j n (bounds_to F s i j n))
      go (inl e) ih = subst (λ (z : ℕ). Quiet t (bounds_to F s i j z)) e q
      go (inr l) ih = quiet_neighbour F s i j n (bounds_to F s i j n) (ih (le_of_suc-le-suc l))

none_said : Signs
none_said = record { sum = Neither; diff = Neither }

quiet_none : (t : Float) (b : Bounds) → Quiet t b → signs_of t b ≡ none_said
unfolding signs_of sign_of none_said
quiet_none t b q = rw (q.sum_low, lt_neg b.sumHigh t, q.sum_high, q.diff_low, lt_neg b.diffHigh t, q.diff_high) refl

-- Theorem. THE BREAK: wherever the source breaks off, what it has then says what all neighbours would, namely nothing.
pub break_changes_nothing : (F : Field) (s : List ℕ) (i j k : ℕ) → k ≤ variables F → T (hopeless (tolerance F i j) (bounds_to F s i j k))
    → signs_of (tolerance F i j) (bounds_to F s i j k) ≡ pair_signs F s i j
unfolding pair_signs bounds_of
break_changes_nothing F s i j k h p =
    let t = tolerance F i j in
    let q = quiet_of t (bounds_to F s i j k) p in
    quiet_none t _ q ∙ sym (quiet_none t _ (quiet_from t (tolerance_above F i j) (mul-fits binary64 _ _) F s i j k (variables F) h q))
