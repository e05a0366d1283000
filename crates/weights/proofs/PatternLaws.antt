-- What a weight's bit pattern says of it: in which units it is whole, and whether it is at most 2 ^ 31 of them. Assumes nothing.
use mathlib.Core.Path.{◌≡◌, refl, sym, ap, ap₂, ◌∙◌, subst}
use mathlib.Core.Logic.{◌⊎◌, inl, inr, ◌↔◌}
use mathlib.Core.Bool.{Bool, true, false, cond}
use Prim.Native.Nat.{ℕ, zero, suc, ◌+◌, ◌*◌, ◌/◌, ◌%◌, ◌^◌, ◌≤◌, ◌<◌}
use native.Mathlib.Nat.{mod-lt, zero-lt-suc, mul_assoc, mul_comm, mul-le-mul_right, le_of_mul-le-mul_right, le_trans, le_of_eq, eq_of_mul-eq-mul_right, div-add-mod', le_refl}
use native.Mathlib.Omega.{arith}
use lib.Dec.{T, lit<, leb, eqb, leb→le, le→leb, eqb→eq}
use borrow.Author.Tests.{ne_eqb}
use lib.Count.{count_trailing_zeros, trailing_le}
use lib.Pow.{field, pow_pos, pow-add, pow-lt, pow_mono, mod-pow-add, high, low as low-digits}
use lib.Ieee.{Float, nan, inf, fin, binary64, of_fields, of_bits, to_bits, fits, hid, top, ones, low, up, down, odd}
use lib.Ieee.Digits.{Equals, odd_val}
use lib.Ieee.Fits.{down_pos}
use lib.Ieee.Scale.{finite}
use lib.Ieee.Bits.{of_bits-to_bits}
use Rattle.weights.specs.Counts.{whole_in, plus, minus}
use Rattle.weights.specs.Pattern.{lead, pattern, at_zero, beyond, limit_of}
use Rattle.weights.proofs.GrainLaws.{exponent, digits, from_fields, grain_bits, grain_whole}

-- ---- numbers

compare : (a b : ℕ) → (a < b) ⊎ ((a ≡ b) ⊎ (b < a))
compare zero zero = inr (inl refl)
compare zero (suc b) = inl (zero-lt-suc b)
compare (suc a) zero = inr (inr (zero-lt-suc a))
compare (suc a) (suc b) = elim (compare a b) [ inl h ↦ inl (omega arith) | inr k ↦ elim k [ inl e ↦ inr (inl (ap suc e)) | inr h ↦ inr (inr (omega arith)) ] ]

-- 2 ^ 52 + t, t below 2 ^ 52, times 2 ^ F is at most 2 ^ (31 + u) exactly if the pattern is at most that of the power
module _ (F t u : ℕ) (small : t < lead) (from : 21 ≤ u) where
  abbrev K : ℕ
  K = (lead + t) * 2 ^ F

  to_power : suc F * lead + t ≤ limit_of u → K ≤ 2 ^ (u + 31)
  to_power h = elim (compare (F + 21) u) [
    | inl less ↦
        let a : K ≤ 2 ^ 53 * 2 ^ F = mul-le-mul_right (2 ^ F) (omega arith) in
        le_trans a (le_trans (le_of_eq (sym (pow-add 2 53 F))) (pow_mono (omega arith)))
    | inr k ↦ elim k [
      | inl same ↦
          let z : t ≡ 0 = omega arith in
          le_of_eq (ap (λ (x : ℕ). (lead + x) * 2 ^ F) z ∙ sym (pow-add 2 52 F) ∙ ap (λ (x : ℕ). 2 ^ x) (omega arith))
      | inr more ↦ absurd (omega arith)
    ]
  ]

  from_power : K ≤ 2 ^ (u + 31) → suc F * lead + t ≤ limit_of u
  from_power h = elim (compare (F + 21) u) [
    | inl less ↦ omega arith
    | inr k ↦ elim k [
      | inl same ↦
          let e : 2 ^ (u + 31) ≡ lead * 2 ^ F = ap (λ (x : ℕ). 2 ^ x) (omega arith) ∙ pow-add 2 52 F in
          let z : lead + t ≤ lead = le_of_mul-le-mul_right {m = lead + t} {n = lead} (le_trans h (le_of_eq e)) (pow_pos F) in
          omega arith
      | inr more ↦
          let a : 2 ^ (52 + F) ≤ K = le_trans (le_of_eq (pow-add 2 52 F)) (mul-le-mul_right (2 ^ F) (omega arith)) in
          let b : 2 ^ (u + 31) < 2 ^ (52 + F) = pow-lt (omega arith) in
          absurd (omega arith)
    ]
  ]

-- ---- the size

-- a float of K of the smallest values that is a whole number of units u is at most 2 ^ 31 of them exactly if K is at most 2 ^ (31 + u)
abbrev Fits : ℕ → Float → Type 0
Fits u x = plus binary64 u x + minus binary64 u x ≤ 2 ^ 31

multiple : (N W : ℕ) → N % W ≡ 0 → N ≡ N / W * W
multiple N W e = omega (arith, div-add-mod' N W)

module _ (u K : ℕ) where
  count_is : (x : Float) → Equals x K (2 ^ low binary64) → T (whole_in binary64 u x) → Fits u x ↔ (K ≤ 2 ^ (u + 31))
  unfolding whole_in plus minus
  count_is nan e w = absurd e
  count_is (inf s) e w = absurd e
  count_is (fin s m e) h w = both s
    where
      N : ℕ
      N = m * up e * 2 ^ low binary64

      W : ℕ
      W = 2 ^ u * down e

      c : ℕ
      c = N / W

      is : N ≡ c * W
      is = multiple N W (eqb→eq (N % W) 0 w)

      K_is : K ≡ c * 2 ^ u
      K_is = eq_of_mul-eq-mul_right (down e) (down_pos e) K (c * 2 ^ u) (sym h ∙ is ∙ sym (mul_assoc c (2 ^ u) (down e)))

      power : 2 ^ (u + 31) ≡ 2 ^ 31 * 2 ^ u
      power = pow-add 2 u 31 ∙ mul_comm (2 ^ u) (2 ^ 31)

      at : (c ≤ 2 ^ 31) ↔ (K ≤ 2 ^ (u + 31))
      at = (
        (λ h. le_trans (le_of_eq K_is) (le_trans (mul-le-mul_right (2 ^ u) h) (le_of_eq (sym power)))),
        λ h. le_of_mul-le-mul_right {m = c} {n = 2 ^ 31} (le_trans (le_of_eq (sym K_is)) (le_trans h (le_of_eq power))) (pow_pos u),
      )

      both : (s : Bool) → (cond s 0 c + cond s c 0 ≤ 2 ^ 31) ↔ (K ≤ 2 ^ (u + 31))
      both true = ((λ h. at.0 (omega arith)), λ h. omega (arith, at.1 h))
      both false = ((λ h. at.0 (omega arith)), λ h. omega (arith, at.1 h))

through : {A B C : Type 0} → A ↔ B → B ↔ C → A ↔ C
through p q = ((λ a. q.0 (p.0 a)), λ c. p.1 (q.1 c))

module _ (u : ℕ) (from : 21 ≤ u) (s : Bool) (t : ℕ) (small : t < lead) where
  fields_size : (F : ℕ) → T (finite (of_fields binary64 s F t)) → T (whole_in binary64 u (of_fields binary64 s F t)) → Fits u (of_fields binary64 s F t) ↔ (F * lead + t ≤ limit_of u)
  unfolding of_fields
  fields_size zero n w =
      let c = count_is u (t * 2 ^ 0) (odd 53 s t 0 (low binary64)) (odd_val 53 s t 0 (low binary64)) w in
      let b : t * 2 ^ 0 ≤ 2 ^ (u + 31) = le_trans (omega arith) (pow_mono {i = 52} {j = u + 31} (omega arith)) in
      ((λ h. omega arith), λ h. c.1 b)
  fields_size (suc F) n w = go (eqb (suc F) (ones binary64)) (eqb t 0) n w
    where
      go : (i j : Bool) → T (finite (cond i (cond j (inf s) nan) (odd 53 s (hid binary64 + t) F (low binary64))))
          → T (whole_in binary64 u (cond i (cond j (inf s) nan) (odd 53 s (hid binary64 + t) F (low binary64))))
          → Fits u (cond i (cond j (inf s) nan) (odd 53 s (hid binary64 + t) F (low binary64))) ↔ (suc F * lead + t ≤ limit_of u)
      go true true n w = absurd n
      go true false n w = absurd n
      go false j n w =
          through (count_is u ((lead + t) * 2 ^ F) (odd 53 s (hid binary64 + t) F (low binary64)) (odd_val 53 s (hid binary64 + t) F (low binary64)) w)
          (from_power F t u small from, to_power F t u small from)

-- ---- the grain

pub at_none : (b : ℕ) → b ≡ 0 → 4096 ≡ at_zero b
unfolding at_zero
at_none b e = rw e refl

pub at_some : (b : ℕ) → (b ≡ 0 → ⊥) → 0 ≡ at_zero b
unfolding at_zero
at_some b n = rw (ne_eqb b 0 n) refl

pub at_zero_small : (b : ℕ) → at_zero b ≤ 4096
unfolding at_zero
at_zero_small b = go (eqb b 0)
  where
    go : (i : Bool) → cond i 4096 0 ≤ 4096
    go true = le_refl 4096
    go false = omega arith

beyond_none : 4096 ≤ beyond 0
unfolding beyond
beyond_none = omega (arith, at_none 0 refl)

beyond_some : (b : ℕ) → (b ≡ 0 → ⊥) → beyond b ≡ b / lead + count_trailing_zeros 64 (b % lead + lead)
unfolding beyond
beyond_some b n = omega (arith, at_some b n)

fields_beyond : (F t u : ℕ) → t < lead → 64 < u → u < 4096 → (u < beyond (F * lead + t)) ↔ (u ≤ from_fields F t)
unfolding from_fields
fields_beyond zero zero u small l h = ((λ a. omega arith), λ a. omega (arith, beyond_none))
fields_beyond zero (suc t) u small l h =
    let is = beyond_some (0 * lead + suc t) (omega arith) in
    let quotient : (0 * lead + suc t) / lead ≡ 0 = omega arith in
    ((λ a. absurd (omega (arith, trailing_le 64 ((0 * lead + suc t) % lead + lead)))), λ a. absurd (omega (arith, trailing_le 64 (suc t))))
fields_beyond (suc F) t u small l h =
    let is : beyond (suc F * lead + t) ≡ suc F + count_trailing_zeros 64 (t + lead) =
    beyond_some (suc F * lead + t) (omega arith) ∙ ap₂ (λ (x y : ℕ). x + count_trailing_zeros 64 (y + lead)) (high (suc F) 52 small) (low-digits (suc F) 52 small) in
    ((λ a. omega arith), λ a. omega arith)

-- ---- THE LAW: below `beyond` and at most `limit_of u`, as a pattern, is a whole number of units u and at most 2 ^ 31 of them

both_to : {A B C D : Type 0} → A ↔ C → (C → B ↔ D) → (A × B) ↔ (C × D)
both_to p q = ((λ h. let c = p.0 h.0 in (c, (q c).0 h.1)), λ h. (p.1 h.0, (q h.0).1 h.1))

module _ (u : ℕ) (l : 64 < u) (h : u < 2067) where
  infinite : {b : ℕ} → b ≡ 9218868437227405312 → {A : Type 0} → ((u < beyond b) × (b ≤ limit_of u)) ↔ (⊥ × A)
  infinite e = ((λ p. absurd (omega arith)), λ p. absurd p.0)

  pattern_is : (x : Float) → T (finite x) → pattern x ≡ exponent x * lead + digits x
  unfolding pattern
  pattern_is nan n = absurd n
  pattern_is (inf s) n = absurd n
  pattern_is (fin s m e) n = mod-pow-add (to_bits binary64 (fin s m e)) 11 52

  of_fields_lem : (x : Float) → T (fits binary64 x) → T (finite x) → of_fields binary64 (leb (top binary64) (to_bits binary64 x)) (exponent x) (digits x) ≡ x
  unfolding of_bits
  of_fields_lem x t n = ap (λ (k : ℕ). of_fields binary64 (leb (top binary64) (to_bits binary64 x)) k (digits x)) (sym (field (to_bits binary64 x) 11 52)) ∙ of_bits-to_bits binary64 x t

  finite_weighs : (x : Float) → T (fits binary64 x) → T (finite x) → ((u < beyond (pattern x)) × (pattern x ≤ limit_of u)) ↔ (T (whole_in binary64 u x) × Fits u x)
  finite_weighs x t n =
      let s = leb (top binary64) (to_bits binary64 x) in
      let small : digits x < lead = mod-lt (to_bits binary64 x) (lit< tt) in
      let same = of_fields_lem x t n in
      let g : whole_in binary64 u x ≡ leb u (from_fields (exponent x) (digits x)) = grain_whole binary64 u x t n (omega arith) ∙ ap (leb u) (grain_bits x t n) in
      let b = fields_beyond (exponent x) (digits x) u small l (omega arith) in
      rw (pattern_is x n)
      (both_to
      ((λ a. subst T (sym g) (le→leb u _ (b.0 a))), λ w. b.1 (leb→le u _ (subst T g w)))
      (λ w. let z = subst (λ (y : Float). T (finite y) → T (whole_in binary64 u y) → Fits u y ↔ (exponent x * lead + digits x ≤ limit_of u)) same (fields_size u (omega arith) s (digits x) small (exponent x)) n w in
      (z.1, z.0)))

  -- Theorem. Two comparisons on the bits of |x| say whether x is whole in the unit u and at most 2^31 units.
  pub pattern_weighs : (x : Float) → T (fits binary64 x) → ((u < beyond (pattern x)) × (pattern x ≤ limit_of u)) ↔ (T (whole_in binary64 u x) × (plus binary64 u x + minus binary64 u x ≤ 2 ^ 31))
  unfolding pattern whole_in
  pattern_weighs nan t = infinite refl
  pattern_weighs (inf s) t = infinite refl
  pattern_weighs (fin s m e) t = finite_weighs (fin s m e) t tt

-- ---- the ways of the code

pub pattern_some : (x : Float) → T (finite x) → to_bits binary64 x % 9223372036854775808 ≡ pattern x
unfolding pattern
pattern_some nan n = absurd n
pattern_some (inf s) n = absurd n
pattern_some (fin s m e) n = refl

pub pattern_low : (x : Float) → pattern x < 2 ^ 63
unfolding pattern
pattern_low nan = lit< tt
pattern_low (inf s) = lit< tt
pattern_low (fin s m e) = mod-lt (to_bits binary64 (fin s m e)) (lit< tt)
