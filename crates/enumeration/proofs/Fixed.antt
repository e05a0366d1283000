-- On an exact field the linear part of a variable is worth 2c and the weights of its entries to variables that are 1. Assumes nothing.
use Prim.Native.Nat.{ℕ, zero, suc, ◌+◌, ◌^◌, ◌<◌, ◌≤◌}
use mathlib.Core.Path.{◌≡◌, refl, sym, ap, ◌∙◌}
use mathlib.Core.Logic.{◌≢◌}
use mathlib.Core.Bool.{Bool, true, false, cond, ◌||◌}
use mathlib.Core.List.{List, []}
use native.Mathlib.Decide.{ℕ_discrete}
use native.Mathlib.Omega.{arith}
use lib.Dec.{eqb}
use lib.IntN.{pos}
use lib.ListN.{length, get_or}
use lib.Ieee.{Float, binary64, add, mul, of_int}
use borrow.Author.Tests.{eq-eqb, ne_eqb}
use Rattle.whole.specs.Whole.{Whole, nothing, ◌⊕◌, sum, Under}
use Rattle.weights.specs.Worth.{Worth}
use Rattle.weights.proofs.Worth.{add_worth, as_worth, times_worth}
use Rattle.meaning.specs.Free.{is_free}
use Rattle.meaning.specs.Gradient.{view, share}
use Rattle.field.specs.Field.{Field, variables, entries, row_end, column_end, Shaped, StartFor}
use Rattle.field.specs.Grade.{ExactIn}
use Rattle.field.specs.Reading.{whole_of}
use Rattle.field.proofs.Reading.{linear_worth}
use Rattle.rows.specs.Model.{coeff_of}
use Rattle.rows.proofs.Counted.{bound_to, coeff_worth, weight_under, bound_under}
use Rattle.places.specs.Places.{keep, places}
use Rattle.places.proofs.Places.{tail, tail_end, tail_step, other_column, other_row}
use Rattle.parts.proofs.Listed.{neither}
use Rattle.enumeration.specs.Terms.{linear_at, linear_from, linear_part}
use Rattle.enumeration.specs.Weighed.{without, fixed_part}

-- one end
end_worth : {u : ℕ} {x y : Float} {a q : Whole} (v : ℕ) → v ≤ 2 → Worth u x a → Under (2 ^ 49) a → Worth u y q → Under (2 ^ 31) q
    → Worth u (cond (eqb v 2) x (add binary64 x (mul binary64 y (of_int binary64 (pos v))))) (a ⊕ share nothing q v)
unfolding share
end_worth zero h X A Y Q = as_worth (add_worth X (times_worth 0 (omega arith) Y (omega arith)) (omega arith)) (omega arith)
end_worth (suc zero) h X A Y Q = as_worth (add_worth X (times_worth 1 (omega arith) Y (omega arith)) (omega arith)) (omega arith)
end_worth (suc (suc zero)) h X A Y Q = as_worth X (omega arith)
end_worth (suc (suc (suc v))) h X A Y Q = absurd (omega arith)

module _ {u : ℕ} {F : Field} (shaped : Shaped F) (exact : ExactIn u F) {t : List ℕ} (valid : StartFor (variables F) t) (i : ℕ) (hi : i < variables F) where
  abbrev sofar : ℕ → Whole
  sofar k = bound_to without u F (view t) i k

  sofar_under : (k : ℕ) → k ≤ entries F → Under (2 ^ 49) (sofar k)
  sofar_under = bound_under exact shaped i hi without (λ q h. omega arith) (view t)

  -- place k of i
  at_place : (k : ℕ) {x : Float} → k < entries F → Worth u x (sofar k) → (eqb (row_end F k) i || eqb (column_end F k) i) ≡ true → Worth u (linear_at F t i x k) (sofar (suc k))
  unfolding linear_at sum
  at_place k {x} h X meets =
      elim (ℕ_discrete (row_end F k) i) [
        | yes e ↦ rw (other_column F.rows F.cols i k e)
            (as_worth (one_end (column_end F k))
            (rw (eq-eqb (row_end F k) i e, ne_eqb (column_end F k) i (λ c. exact.standard k h (e ∙ sym c))) (omega arith)))
        | no n ↦ rw (other_row F.rows F.cols i k n)
            (as_worth (one_end (row_end F k))
            (rw (ne_eqb (row_end F k) i n, column n) (omega arith)))
      ]
    where
      one_end : (j : ℕ) → Worth u (cond (is_free t j) x (add binary64 x (mul binary64 (coeff_of F k) (of_int binary64 (pos (get_or t j 0))))))
          (sofar k ⊕ share nothing ((whole_of u F).weight k) (get_or t j 0))
      one_end j = end_worth (get_or t j 0) (valid.small j) X (sofar_under k (omega arith)) (coeff_worth exact k h) (weight_under exact k h)

      column : row_end F k ≢ i → eqb (column_end F k) i ≡ true
      column n = ap (λ (b : Bool). b || eqb (column_end F k) i) (sym (ne_eqb (row_end F k) i n)) ∙ meets

  -- an entry that is none
  pass : (k : ℕ) {x : Float} → Worth u x (sofar k) → (eqb (row_end F k) i || eqb (column_end F k) i) ≡ false → Worth u x (sofar (suc k))
  unfolding sum
  pass k X none = let n = neither (eqb (row_end F k) i) (eqb (column_end F k) i) none in as_worth X (rw (n.0, n.1) (omega arith))

  from : (j k : ℕ) (x : Float) → k + j ≡ entries F → Worth u x (sofar k) → Worth u (linear_from F t i x (tail F.rows F.cols k i)) (sofar (entries F))
  unfolding linear_from keep
  from zero k x e X =
      let z : k ≡ entries F = omega arith in
      let l : k ≡ length F.rows = omega (arith, shaped.rows_long) in
      let none : tail F.rows F.cols k i ≡ [] = ap (λ (n : ℕ). tail F.rows F.cols n i) l ∙ tail_end F.rows F.cols i in
      rw none (rw z at X)
  from (suc j) k x e X =
      rw (ap (λ (f : ℕ → List ℕ). f i) (tail_step F.rows F.cols k (omega (arith, shaped.rows_long)) (omega (arith, shaped.cols_long))))
      (by (eqb (row_end F k) i || eqb (column_end F k) i) refl (λ y. from j (suc k) y (omega arith)))
    where
      by : (b : Bool) → (eqb (row_end F k) i || eqb (column_end F k) i) ≡ b
          → ((y : Float) → Worth u y (sofar (suc k)) → Worth u (linear_from F t i y (tail F.rows F.cols (suc k) i)) (sofar (entries F)))
          → Worth u (linear_from F t i x (keep b k (tail F.rows F.cols (suc k) i))) (sofar (entries F))
      by true m more = more (linear_at F t i x k) (at_place k (omega arith) X m)
      by false m more = more x (pass k X m)

  -- Theorem. On an exact field the linear part of a member is 2c and the weights to variables that are 1, in whole numbers.
  pub part_worth : Worth u (linear_part F t i) (fixed_part u F t i)
  unfolding linear_part places sum
  part_worth = from (entries F) 0 _ (omega arith) (as_worth (linear_worth exact i hi) (omega arith))

  pub part_under : Under (2 ^ 49) (fixed_part u F t i)
  part_under = sofar_under (entries F) (omega arith)
