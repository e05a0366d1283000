-- On an exact field the objective of a mask is worth what its bits count: linear parts, and weights of entries between members. Assumes nothing.
use Prim.Native.Nat.{ℕ, zero, suc, ◌*◌, ◌/◌, ◌%◌, ◌^◌, ◌<◌, ◌≤◌}
use mathlib.Core.Path.{◌≡◌, refl, ap, ap₂, ◌∙◌}
use mathlib.Core.Bool.{Bool, true, false, ◌&&◌}
use mathlib.Core.List.{List, []}
use native.Mathlib.Decide.{dec_lt}
use native.Mathlib.Omega.{arith}
use lib.Bits.{bit_or}
use lib.Dec.{eqb}
use lib.ListN.{length, get_or}
use borrow.Author.Tests.{lt-ltb, le-ltb}
use Rattle.whole.specs.Whole.{Whole, nothing, ◌⊕◌, only, sum, ◌≈◌}
use Rattle.whole.proofs.Sums.{sum_same}
use Rattle.weights.specs.Worth.{Worth, zero64}
use Rattle.weights.proofs.Worth.{as_worth, zero_worth}
use Rattle.field.specs.Field.{Field, variables, entries, Shaped, StartFor}
use Rattle.field.specs.Grade.{ExactIn}
use Rattle.rows.proofs.Counted.{coeff_worth, weight_under}
use Rattle.masks.specs.Masks.{Term, has, objective}
use Rattle.masks.proofs.Digits.{has_bit, has_both}
use Rattle.masks.proofs.Adds.{Adds, adds_none, adds_one, adds_then}
use Rattle.enumeration.specs.Terms.{entry_of, linear_terms, term_at, pair_term, column_terms, pair_terms, terms_of}
use Rattle.enumeration.specs.Weighed.{fixed_part, pair_weight, weighed}
use Rattle.enumeration.proofs.Fixed.{part_worth, part_under}

-- variable i is 1
abbrev pub on : List ℕ → ℕ → Bool
on z i = eqb (get_or z i 0) 1

-- what the members count that are 1 in z
abbrev pub counted : ℕ → Field → List ℕ → List ℕ → List ℕ → Whole
counted u F t ms z =
    sum (length ms) (λ b. only (on z (get_or ms b 0)) (fixed_part u F t (get_or ms b 0)))
    ⊕ sum (length ms) (λ b. sum (length ms) (λ a. only (on z (get_or ms a 0) && on z (get_or ms b 0)) (pair_weight u F (get_or ms a 0) (get_or ms b 0))))

-- the mask counts the same where bit b is the value of member b
pub same_bits : (u : ℕ) (F : Field) (t ms z : List ℕ) (mask : ℕ) → ((b : ℕ) → b < length ms → mask / 2 ^ b % 2 ≡ get_or z (get_or ms b 0) 0) → weighed u F t ms mask ≈ counted u F t ms z
same_bits u F t ms z mask bits =
    omega (
      arith,
      sum_same (length ms) (λ b. only (has mask (2 ^ b)) (fixed_part u F t (get_or ms b 0))) (λ b. only (on z (get_or ms b 0)) (fixed_part u F t (get_or ms b 0))) (λ b h. rw (one b h) refl),
      sum_same (length ms) (λ b. sum (length ms) (λ a. only (has mask (bit_or (2 ^ a) (2 ^ b))) (pair_weight u F (get_or ms a 0) (get_or ms b 0))))
          (λ b. sum (length ms) (λ a. only (on z (get_or ms a 0) && on z (get_or ms b 0)) (pair_weight u F (get_or ms a 0) (get_or ms b 0))))
          (λ b h. sum_same (length ms) (λ a. only (has mask (bit_or (2 ^ a) (2 ^ b))) (pair_weight u F (get_or ms a 0) (get_or ms b 0)))
          (λ a. only (on z (get_or ms a 0) && on z (get_or ms b 0)) (pair_weight u F (get_or ms a 0) (get_or ms b 0))) (λ a l. rw (two a b l h) refl)),
    )
  where
    one : (b : ℕ) → b < length ms → has mask (2 ^ b) ≡ on z (get_or ms b 0)
    one b h = has_bit mask b ∙ ap (λ (v : ℕ). eqb v 1) (bits b h)

    two : (a b : ℕ) → a < length ms → b < length ms → has mask (bit_or (2 ^ a) (2 ^ b)) ≡ (on z (get_or ms a 0) && on z (get_or ms b 0))
    two a b l h = has_both mask (2 ^ a) (2 ^ b) ∙ ap₂ ◌&&◌ (has_bit mask a ∙ ap (λ (v : ℕ). eqb v 1) (bits a l)) (has_bit mask b ∙ ap (λ (v : ℕ). eqb v 1) (bits b h))

adds_bound : {u mask : ℕ} {ts : List Term} {a : Whole} {b b' : ℕ} → b ≤ b' → Adds u mask ts a b → Adds u mask ts a b'
adds_bound h A = record { under = omega (arith, A.under); worth = λ x c l X C e. A.worth x c l X C (omega arith) }

adds_nothing : {u mask : ℕ} (t : Bool) → Adds u mask [] (only t nothing) 0
adds_nothing true = adds_none
adds_nothing false = adds_none

module _ {u : ℕ} {F : Field} (unit : u ≤ 2044) (shaped : Shaped F) (exact : ExactIn u F) {t : List ℕ} (valid : StartFor (variables F) t)
    (ms : List ℕ) (few : length ms ≤ 10) (below : (b : ℕ) → b < length ms → get_or ms b 0 < variables F) (mask : ℕ) where
  linear_adds : (c : ℕ) → c ≤ length ms → Adds u mask (linear_terms F t ms c) (sum c (λ b. only (has mask (2 ^ b)) (fixed_part u F t (get_or ms b 0)))) (2 ^ 49 * c)
  unfolding linear_terms sum
  linear_adds zero h = adds_bound (omega arith) adds_none
  linear_adds (suc c) h =
      adds_bound (omega arith)
      (adds_then (linear_adds c (omega arith)) (adds_one (2 ^ c) (part_worth shaped exact valid (get_or ms c 0) (below c h)) (part_under shaped exact valid (get_or ms c 0) (below c h))))

  pair_adds : (b a : ℕ) → Adds u mask (pair_term F ms b a) (only (has mask (bit_or (2 ^ a) (2 ^ b))) (pair_weight u F (get_or ms a 0) (get_or ms b 0))) (2 ^ 31)
  unfolding pair_term term_at pair_weight
  pair_adds b a =
      elim (dec_lt (entry_of F (get_or ms a 0) (get_or ms b 0)) (entries F)) [
        | yes h ↦ rw (lt-ltb (entry_of F (get_or ms a 0) (get_or ms b 0)) (entries F) h) (adds_one (bit_or (2 ^ a) (2 ^ b)) (coeff_worth exact _ h) (weight_under exact _ h))
        | no h ↦ rw (le-ltb (entry_of F (get_or ms a 0) (get_or ms b 0)) (entries F) (omega arith)) (adds_bound (omega arith) (adds_nothing (has mask (bit_or (2 ^ a) (2 ^ b)))))
      ]

  column_adds : (b c : ℕ) → Adds u mask (column_terms F ms b c) (sum c (λ a. only (has mask (bit_or (2 ^ a) (2 ^ b))) (pair_weight u F (get_or ms a 0) (get_or ms b 0)))) (2 ^ 31 * c)
  unfolding column_terms sum
  column_adds b zero = adds_bound (omega arith) adds_none
  column_adds b (suc c) = adds_bound (omega arith) (adds_then (column_adds b c) (pair_adds b c))

  pairs_adds : (c : ℕ) → Adds u mask (pair_terms F ms c)
      (sum c (λ b. sum (length ms) (λ a. only (has mask (bit_or (2 ^ a) (2 ^ b))) (pair_weight u F (get_or ms a 0) (get_or ms b 0))))) (2 ^ 31 * 10 * c)
  unfolding pair_terms sum
  pairs_adds zero = adds_bound (omega arith) adds_none
  pairs_adds (suc c) = adds_bound (omega arith) (adds_then (pairs_adds c) (adds_bound {b' = 2 ^ 31 * 10} (omega arith) (column_adds c (length ms))))

  -- Theorem. On an exact field the objective of a mask is what its bits weigh, in whole numbers: no sum rounds.
  pub objective_worth : Worth u (objective (terms_of F t ms) mask) (weighed u F t ms mask)
  unfolding terms_of
  objective_worth =
      as_worth ((adds_then (linear_adds (length ms) (omega arith)) (pairs_adds (length ms))).worth zero64 nothing 0 (zero_worth unit) (omega arith) (omega arith)) (omega arith)
