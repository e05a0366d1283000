-- Where c is a whole number of units and q of double units, nothing is rounded: what the new linear weights and the constant are worth. Assumes nothing.
use Prim.Native.Nat.{ℕ, zero, suc, ◌*◌, ◌<◌, ◌≤◌, ◌^◌}
use mathlib.Core.Path.{◌≡◌, sym, ◌∙◌}
use mathlib.Core.Bool.{Bool, true, false, cond, not}
use mathlib.Core.List.{List}
use native.Mathlib.Decide.{ℕ_discrete}
use native.Mathlib.Omega.{arith}
use borrow.Author.Tests.{eq-eqb, ne_eqb}
use lib.Dec.{eqb}
use lib.ListN.{length, get_or, length-set, length-replicate, get_or-replicate}
use lib.Seq.{get_or-set_same, get_or-set_other}
use lib.Ieee.{nan, binary64, add, mul}
use Rattle.whole.specs.Whole.{Whole, ◌⊕◌, ◌⊙◌, only, sum, Under}
use Rattle.whole.proofs.Sums.{sum_under, only_under}
use Rattle.meaning.specs.Free.{is_free}
use Rattle.weights.specs.Worth.{Worth, read, zero64}
use Rattle.weights.proofs.Worth.{add_worth, half_worth, times_worth, zero_worth, as_worth}
use Rattle.field.specs.Field.{Field, variables, entries, linear_of, row_end, column_end, quad_of, Shaped, StartFor}
use Rattle.field.proofs.Exact.{weighs_read, weighs_under}
use Rattle.shift.specs.Shifted.{WholeIn}
use Rattle.sub_problem.specs.Reduced.{value_of, lone_at, given_at, free_end, given_end, half_of, into_gathered, gathered_to, given_to, with_given, constant_to, constant}

-- ---- products with a value

pub twice_under : (b : ℕ) (a : Whole) (v : ℕ) → v ≤ 2 → Under b a → Under (2 * b) (a ⊙ v)
twice_under b a zero h l = omega arith
twice_under b a (suc zero) h l = omega arith
twice_under b a (suc (suc zero)) h l = omega arith
twice_under b a (suc (suc (suc v))) h l = absurd (omega arith)

-- ---- in whole numbers

module _ (u : ℕ) (F : Field) (s : List ℕ) where
  abbrev pub weight_in : ℕ → Whole
  weight_in k = read (suc u) (quad_of F k)

  -- what entry k puts into variable i
  abbrev pub part : ℕ → ℕ → Whole
  part i k = only (lone_at F s k) (only (eqb (free_end F s k) i) (weight_in k ⊙ get_or s (given_end F s k) 0))

  -- and into the constant
  abbrev pub given_part : ℕ → Whole
  given_part k = only (given_at F s k) (weight_in k ⊙ get_or s (row_end F k) 0 ⊙ get_or s (column_end F k) 0)

  -- what variable i puts into the constant
  abbrev pub given_linear : ℕ → Whole
  given_linear i = only (not (is_free s i)) (read u (linear_of F i) ⊙ get_or s i 0)

  abbrev pub constant_in : Whole
  constant_in = sum (entries F) given_part ⊕ sum (variables F) given_linear

-- ---- nothing is rounded

pub gathered_long : (F : Field) (s : List ℕ) (k : ℕ) → length (gathered_to F s k) ≡ variables F
unfolding gathered_to
gathered_long F s zero = length-replicate (variables F) zero64
gathered_long F s (suc k) = by (lone_at F s k) (gathered_long F s k)
  where
    by : (b : Bool) → length (gathered_to F s k) ≡ variables F → length (cond b (into_gathered F s k (gathered_to F s k)) (gathered_to F s k)) ≡ variables F
    by true h = length-set (gathered_to F s k) _ _ ∙ h
    by false h = h

-- the free end of an entry is a variable
pub free_end_below : {F : Field} → Shaped F → (s : List ℕ) (k : ℕ) → k < entries F → free_end F s k < variables F
free_end_below {F} S s k h = by (is_free s (row_end F k))
  where
    by : (b : Bool) → cond b (row_end F k) (column_end F k) < variables F
    by true = S.row_below k h
    by false = S.column_below k h

module _ {u : ℕ} {F : Field} {s : List ℕ} (S : Shaped F) (w : WholeIn u F) (start : StartFor (variables F) s) where
  weight_under : (k : ℕ) → k < entries F → Under (2 ^ 31) (weight_in u F s k)
  weight_under k h = weighs_under (w.quad k h)

  once : (k : ℕ) → k < entries F → (j : ℕ) → Under (2 ^ 32) (weight_in u F s k ⊙ get_or s j 0)
  once k h j = twice_under (2 ^ 31) (weight_in u F s k) (get_or s j 0) (start.small j) (weight_under k h)

  half_value : (k : ℕ) → k < entries F → (j : ℕ) → Worth u (mul binary64 (half_of F k) (value_of s j)) (weight_in u F s k ⊙ get_or s j 0)
  half_value k h j =
      let l = weight_under k h in
      let o = once k h j in
      times_worth (get_or s j 0) (omega (arith, start.small j)) (half_worth (weighs_read (w.quad k h)) (omega arith)) (omega arith)

  pub part_under : (i k : ℕ) → k < entries F → Under (2 ^ 32) (part u F s i k)
  part_under i k h = only_under (2 ^ 32) (lone_at F s k) _ (only_under (2 ^ 32) (eqb (free_end F s k) i) _ (once k h (given_end F s k)))

  pub gathered_worth : (k : ℕ) → k ≤ entries F → (i : ℕ) → i < variables F → Worth u (get_or (gathered_to F s k) i nan) (sum k (part u F s i))
  unfolding gathered_to sum
  gathered_worth zero h i l = rw (get_or-replicate (variables F) i zero64 nan l) (zero_worth (w.linear i l).worth.unit)
  gathered_worth (suc k) h i l = by (lone_at F s k) (gathered_worth k (omega arith))
    where
      under : Under (2 ^ 32 * k) (sum k (part u F s i))
      under = sum_under (2 ^ 32) k (part u F s i) (λ j b. part_under i j (omega arith))

      by : (b : Bool) → ((i : ℕ) → i < variables F → Worth u (get_or (gathered_to F s k) i nan) (sum k (part u F s i)))
          → Worth u (get_or (cond b (into_gathered F s k (gathered_to F s k)) (gathered_to F s k)) i nan) (sum k (part u F s i) ⊕ only b (only (eqb (free_end F s k) i) (weight_in u F s k ⊙ get_or s (given_end F s k) 0)))
      by false rest = as_worth (rest i l) (omega arith)
      by true rest = elim (ℕ_discrete i (free_end F s k)) [
        | yes z ↦ let o = once k (omega arith) (given_end F s k) in
            rw (eq-eqb (free_end F s k) i (sym z), z, get_or-set_same (gathered_to F s k) (free_end F s k) (add binary64 (get_or (gathered_to F s k) (free_end F s k) nan) (mul binary64 (half_of F k) (value_of s (given_end F s k)))) nan (omega (arith, gathered_long F s k, free_end_below S s k (omega arith))))
            (add_worth (rest (free_end F s k) (free_end_below S s k (omega arith))) (half_value k (omega arith) (given_end F s k)) (omega (arith, rw z at under, S.few_entries)))
        | no n ↦ rw (ne_eqb (free_end F s k) i (λ z. n (sym z)), get_or-set_other (gathered_to F s k) (free_end F s k) i (add binary64 (get_or (gathered_to F s k) (free_end F s k) nan) (mul binary64 (half_of F k) (value_of s (given_end F s k)))) nan n) (as_worth (rest i l) (omega arith))
      ]

  -- ---- the constant

  given_under : (k : ℕ) → k < entries F → Under (2 ^ 33) (given_part u F s k)
  given_under k h = only_under (2 ^ 33) (given_at F s k) _ (twice_under (2 ^ 32) (weight_in u F s k ⊙ get_or s (row_end F k) 0) (get_or s (column_end F k) 0) (start.small (column_end F k)) (once k h (row_end F k)))

  given_worth : u ≤ 2044 → (k : ℕ) → k ≤ entries F → Worth u (given_to F s k) (sum k (given_part u F s))
  unfolding given_to sum
  given_worth unit zero h = zero_worth unit
  given_worth unit (suc k) h = by (given_at F s k) (given_worth unit k (omega arith))
    where
      under : Under (2 ^ 33 * k) (sum k (given_part u F s))
      under = sum_under (2 ^ 33) k (given_part u F s) (λ j b. given_under j (omega arith))

      twice : Under (2 ^ 33) (weight_in u F s k ⊙ get_or s (row_end F k) 0 ⊙ get_or s (column_end F k) 0)
      twice = twice_under (2 ^ 32) (weight_in u F s k ⊙ get_or s (row_end F k) 0) (get_or s (column_end F k) 0) (start.small (column_end F k)) (once k (omega arith) (row_end F k))

      by : (b : Bool) → Worth u (given_to F s k) (sum k (given_part u F s))
          → Worth u (cond b (add binary64 (given_to F s k) (mul binary64 (mul binary64 (half_of F k) (value_of s (row_end F k))) (value_of s (column_end F k)))) (given_to F s k))
          (sum k (given_part u F s) ⊕ only b (weight_in u F s k ⊙ get_or s (row_end F k) 0 ⊙ get_or s (column_end F k) 0))
      by false r = as_worth r (omega arith)
      by true r = let t = twice in let a = under in
          add_worth r (times_worth (get_or s (column_end F k) 0) (omega (arith, start.small (column_end F k))) (half_value k (omega arith) (row_end F k)) (omega arith)) (omega (arith, S.few_entries))

  linear_under : (i : ℕ) → i < variables F → Under (2 ^ 33) (read u (linear_of F i) ⊙ get_or s i 0)
  linear_under i h = twice_under (2 ^ 32) (read u (linear_of F i)) (get_or s i 0) (start.small i) (weighs_under (w.linear i h))

  constant_to_worth : u ≤ 2044 → (n : ℕ) → n ≤ variables F → Worth u (constant_to F s n) (sum (entries F) (given_part u F s) ⊕ sum n (given_linear u F s))
  unfolding with_given sum
  constant_to_worth unit zero h = as_worth (given_worth unit (entries F) (omega arith)) (omega arith)
  constant_to_worth unit (suc n) h = by (is_free s n) (constant_to_worth unit n (omega arith))
    where
      first : Under (2 ^ 33 * entries F) (sum (entries F) (given_part u F s))
      first = sum_under (2 ^ 33) (entries F) (given_part u F s) (λ j b. given_under j b)

      under : Under (2 ^ 33 * n) (sum n (given_linear u F s))
      under = sum_under (2 ^ 33) n (given_linear u F s) (λ j b. only_under (2 ^ 33) (not (is_free s j)) _ (linear_under j (omega arith)))

      by : (b : Bool) → Worth u (constant_to F s n) (sum (entries F) (given_part u F s) ⊕ sum n (given_linear u F s))
          → Worth u (cond b (constant_to F s n) (add binary64 (constant_to F s n) (mul binary64 (linear_of F n) (value_of s n))))
          (sum (entries F) (given_part u F s) ⊕ (sum n (given_linear u F s) ⊕ only (not b) (read u (linear_of F n) ⊙ get_or s n 0)))
      by true r = as_worth r (omega arith)
      by false r = let a = first in let b = under in let c = linear_under n (omega arith) in
          as_worth (add_worth r (times_worth (get_or s n 0) (omega (arith, start.small n)) (weighs_read (w.linear n (omega arith))) (omega arith)) (omega (arith, S.few_entries, S.few_variables))) (omega arith)

  -- THE CONSTANT: what the given entries and the given variables weigh
  pub constant_worth : u ≤ 2044 → Worth u (constant F s) (constant_in u F s)
  constant_worth unit = constant_to_worth unit (variables F) (omega arith)
