-- The pairs of a set of four bits: a set is known by them, the union of two sets has those of both, and the number of ones counts them. Assumes nothing.
use mathlib.Core.Path.{◌≡◌, refl, sym, ap, ◌∙◌}
use mathlib.Core.Logic.{◌⊎◌, inl, inr, ⊎_elim}
use mathlib.Core.List.Memᴰ
use mathlib.Core.List.{List, ◌++◌, Memᴰ}
use Prim.Native.Nat.{ℕ, zero, suc, ◌+◌, ◌*◌, ◌/◌, ◌%◌, ◌^◌, ◌<◌, max}
use native.Mathlib.Nat.{div-add-mod', mod-lt, div-one, div-div-eq-div-mul, div-eq_of_lt}
use native.Mathlib.Omega.{arith}
use lib.Bits.{bit_or, or_shr, or_mod, or_lt}
use lib.Count.{ones_in, ones, ones_step}
use lib.ListN.{length, length-append}
use Rattle.meaning.specs.Kinds.{Pair, pair}
use Rattle.meaning.specs.Records.{chosen, pairs_in}
use Rattle.meaning.proofs.Values.{zero_or_one}
use Rattle.meaning.proofs.Forbidden.{Small}

-- ---- the four bits

bit_small : (n : ℕ) → n % 2 < 2
bit_small n = mod-lt n {m = 2} (omega arith)

-- the bit of a pair of values, where each is 0 or 1
pub bit_at : ℕ → ℕ → ℕ → ℕ
bit_at S zero zero = S % 2
bit_at S zero (suc zero) = S / 2 % 2
bit_at S zero (suc (suc b)) = 0
bit_at S (suc zero) zero = S / 4 % 2
bit_at S (suc zero) (suc zero) = S / 8 % 2
bit_at S (suc zero) (suc (suc b)) = 0
bit_at S (suc (suc a)) b = 0

pub bit_of : (S a b : ℕ) → bit_at S a b < 2
unfolding bit_at
bit_of S zero zero = bit_small S
bit_of S zero (suc zero) = bit_small (S / 2)
bit_of S zero (suc (suc b)) = omega arith
bit_of S (suc zero) zero = bit_small (S / 4)
bit_of S (suc zero) (suc zero) = bit_small (S / 8)
bit_of S (suc zero) (suc (suc b)) = omega arith
bit_of S (suc (suc a)) b = omega arith

-- it is number 2a + b from the lowest
pub bit_shifted : (S a b : ℕ) → a < 2 → b < 2 → bit_at S a b ≡ S / 2 ^ (2 * a + b) % 2
unfolding bit_at
bit_shifted S zero zero h g = ap (λ (n : ℕ). n % 2) (sym (div-one S))
bit_shifted S zero (suc zero) h g = refl
bit_shifted S (suc zero) zero h g = refl
bit_shifted S (suc zero) (suc zero) h g = refl
bit_shifted S (suc (suc a)) b h g = absurd (omega arith)
bit_shifted S zero (suc (suc b)) h g = absurd (omega arith)
bit_shifted S (suc zero) (suc (suc b)) h g = absurd (omega arith)

-- halves of halves
quarter : (S : ℕ) → S / 2 / 2 ≡ S / 4
quarter S = div-div-eq-div-mul S 2 2

eighth : (S : ℕ) → S / 4 / 2 ≡ S / 8
eighth S = div-div-eq-div-mul S 4 2

sixteenth : (S : ℕ) → S < 16 → S / 8 / 2 ≡ 0
sixteenth S h = div-div-eq-div-mul S 8 2 ∙ div-eq_of_lt h

-- a set below 16 is the sum of its bits
set_bits : (S : ℕ) → S < 16 → S ≡ S % 2 + 2 * (S / 2 % 2) + 4 * (S / 4 % 2) + 8 * (S / 8 % 2)
set_bits S h =
    omega (
      arith,
      div-add-mod' S 2,
      div-add-mod' (S / 2) 2,
      quarter S,
      div-add-mod' (S / 4) 2,
      eighth S,
      div-add-mod' (S / 8) 2,
      sixteenth S h,
    )

-- ---- the pairs

in_chosen : {p q : Pair} (d : ℕ) → Memᴰ p (chosen d q) → (p ≡ q) × (0 < d)
in_chosen zero m = absurd (Memᴰ.not-nil m)
in_chosen (suc d) m = (Memᴰ.eq_of_singleton m, omega arith)

chosen_in : (q : Pair) (d : ℕ) → d ≡ 1 → Memᴰ q (chosen d q)
chosen_in q d e = rw e (Memᴰ.head refl)

chosen_long : (q : Pair) (d : ℕ) → d < 2 → length (chosen d q) ≡ d
chosen_long q zero h = refl
chosen_long q (suc zero) h = refl
chosen_long q (suc (suc d)) h = absurd (omega arith)

no_ones : ones 0 ≡ 0
unfolding ones ones_in
no_ones = refl

module _ (S : ℕ) where
  -- the four parts
  abbrev c00 : List Pair
  c00 = chosen (S % 2) (pair 0 0)

  abbrev c01 : List Pair
  c01 = chosen (S / 2 % 2) (pair 0 1)

  abbrev c10 : List Pair
  c10 = chosen (S / 4 % 2) (pair 1 0)

  abbrev c11 : List Pair
  c11 = chosen (S / 8 % 2) (pair 1 1)

  one : {d : ℕ} → 0 < d → d < 2 → d ≡ 1
  one h g = omega arith

  -- a pair is in a set exactly if its bit is 1
  pub pair_bit : {p : Pair} → Memᴰ p (pairs_in S) → bit_at S p.first p.second ≡ 1
  unfolding pairs_in bit_at
  pair_bit {p} m =
      ⊎_elim
      (λ k. ⊎_elim
      (λ l. ⊎_elim
      (λ q. let z = in_chosen (S % 2) q in rw z.0 (one z.1 (bit_small S)))
      (λ q. let z = in_chosen (S / 2 % 2) q in rw z.0 (one z.1 (bit_small (S / 2))))
      (Memᴰ.append_cases c00 l))
      (λ q. let z = in_chosen (S / 4 % 2) q in rw z.0 (one z.1 (bit_small (S / 4))))
      (Memᴰ.append_cases (c00 ++ c01) k))
      (λ q. let z = in_chosen (S / 8 % 2) q in rw z.0 (one z.1 (bit_small (S / 8))))
      (Memᴰ.append_cases (c00 ++ c01 ++ c10) m)

  pub bit_pair : (a b : ℕ) → bit_at S a b ≡ 1 → Memᴰ (pair a b) (pairs_in S)
  unfolding pairs_in bit_at
  bit_pair zero zero e = Memᴰ.append_left c11 (Memᴰ.append_left c10 (Memᴰ.append_left c01 (chosen_in (pair 0 0) (S % 2) e)))
  bit_pair zero (suc zero) e = Memᴰ.append_left c11 (Memᴰ.append_left c10 (Memᴰ.append_right c00 (chosen_in (pair 0 1) (S / 2 % 2) e)))
  bit_pair zero (suc (suc b)) e = absurd (omega arith)
  bit_pair (suc zero) zero e = Memᴰ.append_left c11 (Memᴰ.append_right (c00 ++ c01) (chosen_in (pair 1 0) (S / 4 % 2) e))
  bit_pair (suc zero) (suc zero) e = Memᴰ.append_right (c00 ++ c01 ++ c10) (chosen_in (pair 1 1) (S / 8 % 2) e)
  bit_pair (suc zero) (suc (suc b)) e = absurd (omega arith)
  bit_pair (suc (suc a)) b e = absurd (omega arith)

  -- each value of a pair is 0 or 1
  pub pair_small : {p : Pair} → Memᴰ p (pairs_in S) → Small p
  unfolding bit_at
  pair_small {p} m = small p.first p.second (pair_bit m)
    where
      small : (a b : ℕ) → bit_at S a b ≡ 1 → Small (pair a b)
      small zero zero e = record { first = omega arith; second = omega arith }
      small zero (suc zero) e = record { first = omega arith; second = omega arith }
      small zero (suc (suc b)) e = absurd (omega arith)
      small (suc zero) zero e = record { first = omega arith; second = omega arith }
      small (suc zero) (suc zero) e = record { first = omega arith; second = omega arith }
      small (suc zero) (suc (suc b)) e = absurd (omega arith)
      small (suc (suc a)) b e = absurd (omega arith)

  -- the number of ones counts the pairs
  pub ones_count : S < 16 → ones S ≡ length (pairs_in S)
  unfolding pairs_in
  ones_count h =
      omega (
        arith,
        ones_step S,
        ones_step (S / 2),
        ap ones (quarter S),
        ones_step (S / 4),
        ap ones (eighth S),
        ones_step (S / 8),
        ap ones (sixteenth S h) ∙ no_ones,
        length-append (c00 ++ c01 ++ c10) c11,
        length-append (c00 ++ c01) c10,
        length-append c00 c01,
        chosen_long (pair 0 0) (S % 2) (bit_small S),
        chosen_long (pair 0 1) (S / 2 % 2) (bit_small (S / 2)),
        chosen_long (pair 1 0) (S / 4 % 2) (bit_small (S / 4)),
        chosen_long (pair 1 1) (S / 8 % 2) (bit_small (S / 8)),
      )

  -- a set that is not 0 has a pair
  pub some_pair : 0 < S → S < 16 → (p : Pair) × Memᴰ p (pairs_in S)
  unfolding bit_at
  some_pair h g = go (zero_or_one (bit_small S)) (zero_or_one (bit_small (S / 2))) (zero_or_one (bit_small (S / 4))) (zero_or_one (bit_small (S / 8)))
    where
      go : (S % 2 ≡ 0) ⊎ (S % 2 ≡ 1) → (S / 2 % 2 ≡ 0) ⊎ (S / 2 % 2 ≡ 1) → (S / 4 % 2 ≡ 0) ⊎ (S / 4 % 2 ≡ 1) → (S / 8 % 2 ≡ 0) ⊎ (S / 8 % 2 ≡ 1)
          → (p : Pair) × Memᴰ p (pairs_in S)
      go (inr e) b c d = (pair 0 0, bit_pair 0 0 e)
      go (inl a) (inr e) c d = (pair 0 1, bit_pair 0 1 e)
      go (inl a) (inl b) (inr e) d = (pair 1 0, bit_pair 1 0 e)
      go (inl a) (inl b) (inl c) (inr e) = (pair 1 1, bit_pair 1 1 e)
      go (inl a) (inl b) (inl c) (inl d) = absurd (omega (arith, set_bits S g))

-- ---- two sets

-- all pairs of S are in T
abbrev pub Part : ℕ → ℕ → Type 0
Part S T = (p : Pair) → Memᴰ p (pairs_in S) → Memᴰ p (pairs_in T)

module _ (S T : ℕ) where
  same_bit : (a b : ℕ) → Part S T → Part T S → bit_at S a b ≡ bit_at T a b
  same_bit a b to from =
      ⊎_elim
      (λ z. ⊎_elim
      (λ w. z ∙ sym w)
      (λ w. absurd (omega (arith, z, pair_bit S (from (pair a b) (bit_pair T a b w)))))
      (zero_or_one (bit_of T a b)))
      (λ z. z ∙ sym (pair_bit T (to (pair a b) (bit_pair S a b z))))
      (zero_or_one (bit_of S a b))

  -- a set is known by its pairs
  pub set_same : S < 16 → T < 16 → Part S T → Part T S → S ≡ T
  unfolding bit_at
  set_same h g to from =
      let e00 : S % 2 ≡ T % 2 = same_bit 0 0 to from in
      let e01 : S / 2 % 2 ≡ T / 2 % 2 = same_bit 0 1 to from in
      let e10 : S / 4 % 2 ≡ T / 4 % 2 = same_bit 1 0 to from in
      let e11 : S / 8 % 2 ≡ T / 8 % 2 = same_bit 1 1 to from in
      set_bits S h ∙ rw (e00, e01, e10, e11) (sym (set_bits T g))

  or_odd : (m n : ℕ) → bit_or m n % 2 ≡ max (m % 2) (n % 2)
  or_odd m n = or_mod m n 1 ∙ small (m % 2) (n % 2) (bit_small m) (bit_small n)
    where
      small : (x y : ℕ) → x < 2 → y < 2 → bit_or x y ≡ max x y
      small zero zero h g = refl
      small zero (suc zero) h g = refl
      small (suc zero) zero h g = refl
      small (suc zero) (suc zero) h g = refl
      small (suc (suc x)) y h g = absurd (omega arith)
      small zero (suc (suc y)) h g = absurd (omega arith)
      small (suc zero) (suc (suc y)) h g = absurd (omega arith)

  -- a bit of the union is the greater of both
  or_bit : (a b : ℕ) → bit_at (bit_or S T) a b ≡ max (bit_at S a b) (bit_at T a b)
  unfolding bit_at
  or_bit zero zero = or_odd S T
  or_bit zero (suc zero) = ap (λ (n : ℕ). n % 2) (or_shr S T 1) ∙ or_odd (S / 2) (T / 2)
  or_bit zero (suc (suc b)) = refl
  or_bit (suc zero) zero = ap (λ (n : ℕ). n % 2) (or_shr S T 2) ∙ or_odd (S / 4) (T / 4)
  or_bit (suc zero) (suc zero) = ap (λ (n : ℕ). n % 2) (or_shr S T 3) ∙ or_odd (S / 8) (T / 8)
  or_bit (suc zero) (suc (suc b)) = refl
  or_bit (suc (suc a)) b = refl

  -- the union has the pairs of both, and no other
  pub in_or : {p : Pair} → Memᴰ p (pairs_in (bit_or S T)) → Memᴰ p (pairs_in S) ⊎ Memᴰ p (pairs_in T)
  in_or {p} m =
      let e = sym (or_bit p.first p.second) ∙ pair_bit (bit_or S T) m in
      ⊎_elim
      (λ z. inr (bit_pair T p.first p.second (omega (arith, e, z, bit_of T p.first p.second))))
      (λ z. inl (bit_pair S p.first p.second z))
      (zero_or_one (bit_of S p.first p.second))

  pub or_left : Part S (bit_or S T)
  or_left p m =
      let e = pair_bit S m in
      bit_pair (bit_or S T) p.first p.second (or_bit p.first p.second ∙ omega (arith, e, bit_of T p.first p.second))

  pub or_right : Part T (bit_or S T)
  or_right p m =
      let e = pair_bit T m in
      bit_pair (bit_or S T) p.first p.second (or_bit p.first p.second ∙ omega (arith, e, bit_of S p.first p.second))

  pub or_four : S < 16 → T < 16 → bit_or S T < 16
  or_four h g = or_lt 4 S T h g
