-- A shift of whole weights rounds nothing, and keeps the objective at every choice of values. Assumes nothing.
use Prim.Native.Nat.{ℕ, zero, suc, ◌<◌, ◌≤◌}
use mathlib.Core.Path.{◌≡◌, refl, ap}
use mathlib.Core.Logic.{◌≢◌}
use mathlib.Core.Bool.{Bool, true, false, cond, not}
use mathlib.Core.List.{List, [], ◌∷◌, ◌++◌}
use native.Mathlib.Decide.{ℕ_discrete}
use native.Mathlib.Omega.{arith}
use borrow.Author.Tests.{eqb-true}
use lib.ListN.{length, get_or}
use lib.Seq.{get_or-set_same, get_or-set_other}
use lib.Ieee.{Float, nan}
use Rattle.whole.specs.Whole.{Whole, ◌⊕◌, ◌⊙◌, sum, ◌≈◌}
use Rattle.whole.proofs.Sums.{sum_same, sum_update}
use Rattle.meaning.specs.Field.{variable_term, entry_term, twice_f}
use Rattle.weights.specs.Worth.{read}
use Rattle.field.specs.Field.{Field, variables, entries, linear_of, row_end, column_end, quad_of, Shaped}
use Rattle.field.specs.Grade.{Weighs}
use Rattle.field.specs.Reading.{whole_of}
use Rattle.shift.specs.Picked.{picked}
use Rattle.shift.specs.Closing.{on_diagonal, into_linear, linear_to, kept_to}
use Rattle.shift.specs.Shifted.{shifted, WholeIn}
use Rattle.shift.proofs.Picked.{sum_more}
use Rattle.shift.proofs.Turns.{linear_long}
use Rattle.shift.proofs.Halves.{most, half_in, half_counts}
use Rattle.shift.proofs.Kept.{from, shifted_is, new_variables, new_entries, new_row, new_column, new_quad}

-- ---- one sum

pub weighs_more : {u a b : ℕ} {x : Float} → a ≤ b → Weighs u a x → Weighs u b x
weighs_more l w = record { ledger = w.ledger; worth = w.worth; at_most = omega (arith, w.at_most); at_least = omega (arith, w.at_least) }

pub equal : {a b : Whole} → a ≡ b → a ≈ b
equal e = rw e refl

-- x² = x
counted : (a b q : Whole) (v : ℕ) → v < 2 → a ≈ b ⊕ q → a ⊙ v ≈ b ⊙ v ⊕ q ⊙ v ⊙ v
counted a b q zero h e = omega arith
counted a b q (suc zero) h e = omega arith
counted a b q (suc (suc v)) h e = absurd (omega arith)

module _ {u : ℕ} {F : Field} (S : Shaped F) (w : WholeIn u F) where
  -- ---- the weights stay whole

  weighs_to : (k : ℕ) → k ≤ entries F → (i : ℕ) → i < variables F → Weighs u (most k) (get_or (linear_to F k) i nan)
  unfolding linear_to
  weighs_to zero h i l = weighs_more (omega arith) (w.linear i l)
  weighs_to (suc k) h i l = by (on_diagonal F k) (weighs_to k (omega arith))
    where
      by : (b : Bool) → ((j : ℕ) → j < variables F → Weighs u (most k) (get_or (linear_to F k) j nan))
          → Weighs u (most (suc k)) (get_or (cond b (into_linear F k (linear_to F k)) (linear_to F k)) i nan)
      by false rest = weighs_more (omega arith) (rest i l)
      by true rest = elim (ℕ_discrete i (row_end F k)) [
        | yes e ↦ rw (e, get_or-set_same (linear_to F k) (row_end F k) _ nan (omega (arith, linear_long F k))) (half_in (omega (arith, S.few_entries)) (rest (row_end F k) (rw e at l)) (w.quad k (omega arith)))
        | no n ↦ rw (get_or-set_other (linear_to F k) (row_end F k) i _ nan n) (weighs_more (omega arith) (rest i l))
      ]

  -- ---- the objective stays

  module _ (x : List ℕ) (full : (i : ℕ) → get_or x i 0 < 2) where
    abbrev value : ℕ → ℕ → Whole
    value k i = read u (get_or (linear_to F k) i nan) ⊙ get_or x i 0

    abbrev term : ℕ → Whole
    term k = entry_term (whole_of u F) x k

    -- where entry k is on the diagonal
    module _ (k : ℕ) (h : k < entries F) where
      abbrev moved : ℕ → Whole
      moved i = read u (get_or (into_linear F k (linear_to F k)) i nan) ⊙ get_or x i 0

      elsewhere : (i : ℕ) → i ≢ row_end F k → moved i ≡ value k i
      elsewhere i n = rw (get_or-set_other (linear_to F k) (row_end F k) i _ nan n)

      here : moved (row_end F k) ≈ value k (row_end F k) ⊕ read (suc u) (quad_of F k) ⊙ get_or x (row_end F k) 0 ⊙ get_or x (row_end F k) 0
      here =
          rw (get_or-set_same (linear_to F k) (row_end F k) _ nan (omega (arith, linear_long F k, S.row_below k h)))
          (counted _ (read u (get_or (linear_to F k) (row_end F k) nan)) (read (suc u) (quad_of F k)) (get_or x (row_end F k) 0) (full (row_end F k))
          (half_counts (omega (arith, S.few_entries)) (weighs_to k (omega arith) (row_end F k) (S.row_below k h)) (w.quad k h)))

      goes_in : row_end F k ≡ column_end F k → sum (variables F) moved ≈ sum (variables F) (value k) ⊕ term k
      goes_in e = rw (← e) (omega (arith, sum_update (variables F) moved (value k) (row_end F k) (S.row_below k h) elsewhere, here))

    -- of the first k entries, those kept and the linear weights count what all of them counted
    same_to : (k : ℕ) → k ≤ entries F
        → sum (variables F) (value k) ⊕ sum (length (kept_to F k)) (λ t. term (get_or (kept_to F k) t 0)) ≈ sum (variables F) (value 0) ⊕ sum k term
    unfolding linear_to picked sum
    same_to zero h = omega arith
    same_to (suc k) h = by (on_diagonal F k) refl (same_to k (omega arith))
      where
        by : (b : Bool) → on_diagonal F k ≡ b → sum (variables F) (value k) ⊕ sum (length (kept_to F k)) (λ t. term (get_or (kept_to F k) t 0)) ≈ sum (variables F) (value 0) ⊕ sum k term
            → sum (variables F) (λ i. read u (get_or (cond b (into_linear F k (linear_to F k)) (linear_to F k)) i nan) ⊙ get_or x i 0)
            ⊕ sum (length (cond (not b) (kept_to F k ++ k ∷ []) (kept_to F k))) (λ t. term (get_or (cond (not b) (kept_to F k ++ k ∷ []) (kept_to F k)) t 0))
            ≈ sum (variables F) (value 0) ⊕ (sum k term ⊕ term k)
        by false e ih = omega (arith, ih, sum_more term (kept_to F k) k)
        by true e ih = omega (arith, ih, goes_in k (omega arith) (eqb-true _ _ e))

    -- of the new field
    new_value : (i : ℕ) → variable_term (whole_of u (shifted F)) x i ≡ value (entries F) i
    new_value i = ap (λ (G : Field). read u (linear_of G i) ⊙ get_or x i 0) (shifted_is F)

    new_term : (t : ℕ) → t < entries (shifted F) → entry_term (whole_of u (shifted F)) x t ≡ term (get_or (from F) t 0)
    new_term t h = let l : t < length (from F) = omega (arith, new_entries F) in rw (new_row F t l, new_column F t l, new_quad F t l)

    new_values : sum (variables (shifted F)) (variable_term (whole_of u (shifted F)) x) ≈ sum (variables F) (value (entries F))
    new_values = rw (new_variables F) (sum_same (variables F) (variable_term (whole_of u (shifted F)) x) (value (entries F)) (λ i h. equal (new_value i)))

    new_terms : sum (entries (shifted F)) (entry_term (whole_of u (shifted F)) x) ≈ sum (length (from F)) (λ t. term (get_or (from F) t 0))
    new_terms = rw (← new_entries F) (sum_same (entries (shifted F)) (entry_term (whole_of u (shifted F)) x) (λ t. term (get_or (from F) t 0)) (λ t h. equal (new_term t h)))

    -- THE OBJECTIVE: at every choice of values the new field is worth what the field was as it was given
    pub shift_keeps : twice_f (whole_of u (shifted F)) x ≈ twice_f (whole_of u F) x
    unfolding linear_to
    shift_keeps = omega (arith, new_values, new_terms, same_to (entries F) (omega arith))

  -- every weight of the new field is a whole number still
  pub shifted_weighs : (i : ℕ) → i < variables (shifted F) → Weighs u (most (entries F)) (linear_of (shifted F) i)
  shifted_weighs i h = rw (shifted_is F) (weighs_to (entries F) (omega arith) i (omega (arith, new_variables F)))
