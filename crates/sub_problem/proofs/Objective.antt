-- THE OBJECTIVE: at every completion of the start values the field is worth what the smaller problem is at the free values, and the constant. Assumes nothing.
use Prim.Native.Nat.{ℕ, zero, suc, ◌<◌, ◌≤◌}
use mathlib.Core.Path.{◌≡◌, refl}
use mathlib.Core.Bool.{Bool, true, false, cond, not, ◌&&◌, false≢true}
use mathlib.Core.List.{List}
use native.Mathlib.Omega.{arith}
use lib.Dec.{eqb}
use lib.ListN.{length, get_or}
use Rattle.whole.specs.Whole.{Whole, nothing, ◌⊕◌, ◌⊙◌, only, sum, ◌≈◌}
use Rattle.whole.proofs.Sums.{sum_same, sum_add, sum_zero, sum_at, only_zero}
use Rattle.meaning.specs.Free.{is_free}
use Rattle.meaning.specs.Field.{variable_term, entry_term, twice_f, Completion}
use lib.Ieee.{Float}
use Rattle.weights.specs.Worth.{Worth, read}
use Rattle.weights.proofs.Worth.{as_worth, worth_read}
use Rattle.field.specs.Field.{Field, variables, entries, linear_of, row_end, column_end, Shaped, StartFor}
use Rattle.field.specs.Reading.{whole_of}
use Rattle.field.proofs.Exact.{weighs_read}
use Rattle.shift.specs.Shifted.{WholeIn}
use Rattle.shift.proofs.Keeps.{equal}
use Rattle.sub_problem.specs.Reduced.{back, stays_at, lone, lone_at, given_at, free_end, given_end, stays, adjusted, constant, reduced}
use Rattle.sub_problem.specs.Corresponds.{restrict, AllWhole}
use Rattle.shift.proofs.Picked.{picked_sum}
use Rattle.sub_problem.proofs.Numbering.{back_below}
use Rattle.sub_problem.proofs.Shape.{new_variables, new_entries, new_linear, new_row, new_column, new_quad, stood, row_free, column_free}
use Rattle.sub_problem.proofs.Corresponds.{restrict_at, restrict_new, has_given}
use Rattle.sub_problem.proofs.Worths.{weight_in, part, given_part, given_linear, constant_in, free_end_below, constant_worth}
use Rattle.sub_problem.proofs.Adjusted.{adjusted_worth}

-- what is worth a ledger is worth what is read of it
all_read : {u : ℕ} {x : Float} {a : Whole} → Worth u x a → Worth u x (read u x)
all_read h = as_worth h (worth_read h)

-- the same number, taken 0 times or once
taken : (a b : Whole) (v : ℕ) → v < 2 → a ≈ b → a ⊙ v ≈ b ⊙ v
taken a b zero h e = omega arith
taken a b (suc zero) h e = omega arith
taken a b (suc (suc v)) h e = absurd (omega arith)

-- a free variable's part of a sum, and a given one's
either : (b : Bool) (a : Whole) → a ≈ only b a ⊕ only (not b) a
either true a = omega arith
either false a = omega arith

-- an entry stays, or has one free end, or none
three : (a b : Bool) (w : Whole) → w ≈ only (a && b) w ⊕ (only (lone a b) w ⊕ only (not a && not b) w)
three true true w = omega arith
three true false w = omega arith
three false true w = omega arith
three false false w = omega arith

shared : (b : Bool) (a c : Whole) (v : ℕ) → only b ((a ⊕ c) ⊙ v) ≈ only b (a ⊙ v) ⊕ only b (c ⊙ v)
shared true a c v = omega arith
shared false a c v = omega arith

-- the test of the place goes first
place_first : (f e : Bool) (a : Whole) (v : ℕ) → only f (only e a ⊙ v) ≈ only e (only f (a ⊙ v))
place_first true true a v = omega arith
place_first true false a v = omega arith
place_first false true a v = omega arith
place_first false false a v = omega arith

exchanged : (a : Whole) (v t : ℕ) → a ⊙ v ⊙ t ≈ a ⊙ t ⊙ v
exchanged a v t = omega arith

module _ {u : ℕ} {F : Field} {s : List ℕ} (S : Shaped F) (w : WholeIn u F) (start : StartFor (variables F) s) {x : List ℕ} (c : Completion s x) where
  abbrev term : ℕ → Whole
  term k = entry_term (whole_of u F) x k

  abbrev linear : ℕ → Whole
  linear i = variable_term (whole_of u F) x i

  -- what the entries put into variable i
  abbrev put : ℕ → ℕ → Whole
  put k i = sum k (part u F s i)

  -- ---- the smaller problem's variables and entries, as those of the field

  new_value : (t : ℕ) → t < length (back s) → variable_term (whole_of u (reduced F s)) (restrict s x) t ≈ (put (entries F) (get_or (back s) t 0) ⊕ read u (linear_of F (get_or (back s) t 0))) ⊙ get_or x (get_or (back s) t 0) 0
  new_value t h =
      rw (new_linear F s t h, restrict_at s x t h)
      (taken (read u (adjusted F s (get_or (back s) t 0))) (put (entries F) (get_or (back s) t 0) ⊕ read u (linear_of F (get_or (back s) t 0))) (get_or x (get_or (back s) t 0) 0) (c.full (get_or (back s) t 0))
      (omega (arith, worth_read (adjusted_worth S w start (get_or (back s) t 0) (omega (arith, back_below s t h, start.long))))))

  new_values : sum (variables (reduced F s)) (variable_term (whole_of u (reduced F s)) (restrict s x)) ≈ sum (variables F) (λ i. only (is_free s i) ((put (entries F) i ⊕ read u (linear_of F i)) ⊙ get_or x i 0))
  new_values =
      rw (new_variables F s, ← start.long)
      (omega (
        arith,
        sum_same (length (back s)) (variable_term (whole_of u (reduced F s)) (restrict s x)) (λ t. (put (entries F) (get_or (back s) t 0) ⊕ read u (linear_of F (get_or (back s) t 0))) ⊙ get_or x (get_or (back s) t 0) 0) new_value,
        picked_sum (is_free s) (λ i. (put (entries F) i ⊕ read u (linear_of F i)) ⊙ get_or x i 0) (length s),
      ))

  new_term : (t : ℕ) → t < length (stays F s) → entry_term (whole_of u (reduced F s)) (restrict s x) t ≡ term (get_or (stays F s) t 0)
  new_term t h =
      let k = get_or (stays F s) t 0 in
      rw (
        new_row F s t h,
        new_column F s t h,
        new_quad F s t h,
        restrict_new s x (row_end F k) (row_free F s t h) (omega (arith, S.row_below k (stood F s t h), start.long)),
        restrict_new s x (column_end F k) (column_free F s t h) (omega (arith, S.column_below k (stood F s t h), start.long)),
      )

  new_terms : sum (entries (reduced F s)) (entry_term (whole_of u (reduced F s)) (restrict s x)) ≈ sum (entries F) (λ k. only (stays_at F s k) (term k))
  new_terms =
      rw (new_entries F s)
      (omega (
        arith,
        sum_same (length (stays F s)) (entry_term (whole_of u (reduced F s)) (restrict s x)) (λ t. term (get_or (stays F s) t 0)) (λ t h. equal (new_term t h)),
        picked_sum (stays_at F s) term (entries F),
      ))

  -- ---- entries with one free end are in the linear weights

  -- what entry k puts in, counted at x, is what it counts
  module _ (k : ℕ) (h : k < entries F) where
    abbrev into : ℕ → Whole
    into i = only (is_free s i) (part u F s i k ⊙ get_or x i 0)

    abbrev end_counts : Bool → Bool → Whole
    end_counts a b = only (is_free s (cond a (row_end F k) (column_end F k))) (weight_in u F s k ⊙ get_or s (cond a (column_end F k) (row_end F k)) 0 ⊙ get_or x (cond a (row_end F k) (column_end F k)) 0)

    -- at the free end
    at_end : (a b : Bool) → is_free s (row_end F k) ≡ a → is_free s (column_end F k) ≡ b → lone a b ≡ true → end_counts a b ≈ term k
    at_end true false e f l = rw (e, ← has_given s c (column_end F k) f) (exchanged (weight_in u F s k) (get_or x (column_end F k) 0) (get_or x (row_end F k) 0))
    at_end false true e f l = rw (f, ← has_given s c (row_end F k) e) refl
    at_end true true e f l = absurd (false≢true l)
    at_end false false e f l = absurd (false≢true l)

    goes_in : sum (variables F) into ≈ only (lone_at F s k) (term k)
    goes_in = by (lone_at F s k) refl
      where
        by : (b : Bool) → lone_at F s k ≡ b
            → sum (variables F) (λ i. only (is_free s i) (only b (only (eqb (free_end F s k) i) (weight_in u F s k ⊙ get_or s (given_end F s k) 0)) ⊙ get_or x i 0)) ≈ only b (term k)
        by false l = omega (arith, sum_zero (variables F) (λ i. only (is_free s i) (nothing ⊙ get_or x i 0)) (λ i b. only_zero (is_free s i) (nothing ⊙ get_or x i 0) (λ z. omega arith)))
        by true l =
            omega (
              arith,
              sum_same (variables F) (λ i. only (is_free s i) (only (eqb (free_end F s k) i) (weight_in u F s k ⊙ get_or s (given_end F s k) 0) ⊙ get_or x i 0))
                  (λ i. only (eqb (free_end F s k) i) (only (is_free s i) (weight_in u F s k ⊙ get_or s (given_end F s k) 0 ⊙ get_or x i 0)))
                  (λ i b. place_first (is_free s i) (eqb (free_end F s k) i) (weight_in u F s k ⊙ get_or s (given_end F s k) 0) (get_or x i 0)),
              sum_at (variables F) (λ i. only (is_free s i) (weight_in u F s k ⊙ get_or s (given_end F s k) 0 ⊙ get_or x i 0)) (free_end F s k) (free_end_below S s k h),
              at_end (is_free s (row_end F k)) (is_free s (column_end F k)) refl refl l,
            )

  gathered_counts : (k : ℕ) → k ≤ entries F → sum (variables F) (λ i. only (is_free s i) (put k i ⊙ get_or x i 0)) ≈ sum k (λ j. only (lone_at F s j) (term j))
  unfolding sum
  gathered_counts zero h = omega (arith, sum_zero (variables F) (λ i. only (is_free s i) (nothing ⊙ get_or x i 0)) (λ i b. only_zero (is_free s i) (nothing ⊙ get_or x i 0) (λ z. omega arith)))
  gathered_counts (suc k) h =
      omega (
        arith,
        sum_add (variables F) (λ i. only (is_free s i) ((put k i ⊕ part u F s i k) ⊙ get_or x i 0)) (λ i. only (is_free s i) (put k i ⊙ get_or x i 0)) (λ i. only (is_free s i) (part u F s i k ⊙ get_or x i 0))
            (λ i b. shared (is_free s i) (put k i) (part u F s i k) (get_or x i 0)),
        gathered_counts k (omega arith),
        goes_in k (omega arith),
      )

  -- ---- what is given is in the constant

  given_counts : (k : ℕ) → only (given_at F s k) (term k) ≈ given_part u F s k
  given_counts k = by (is_free s (row_end F k)) (is_free s (column_end F k)) refl refl
    where
      by : (a b : Bool) → is_free s (row_end F k) ≡ a → is_free s (column_end F k) ≡ b
          → only (not a && not b) (term k) ≈ only (not a && not b) (weight_in u F s k ⊙ get_or s (row_end F k) 0 ⊙ get_or s (column_end F k) 0)
      by false false e f = rw (has_given s c (row_end F k) e, has_given s c (column_end F k) f) refl
      by false true e f = refl
      by true b e f = refl

  linear_counts : (i : ℕ) → only (not (is_free s i)) (linear i) ≈ given_linear u F s i
  linear_counts i = by (is_free s i) refl
    where
      by : (b : Bool) → is_free s i ≡ b → only (not b) (linear i) ≈ only (not b) (read u (linear_of F i) ⊙ get_or s i 0)
      by true e = refl
      by false e = rw (has_given s c i e) refl

  -- ---- all together

  split_linear : sum (variables F) linear ≈ sum (variables F) (λ i. only (is_free s i) (linear i)) ⊕ sum (variables F) (given_linear u F s)
  split_linear = sum_add (variables F) linear (λ i. only (is_free s i) (linear i)) (given_linear u F s) (λ i b. omega (arith, either (is_free s i) (linear i), linear_counts i))

  split_new : sum (variables F) (λ i. only (is_free s i) ((put (entries F) i ⊕ read u (linear_of F i)) ⊙ get_or x i 0))
      ≈ sum (variables F) (λ i. only (is_free s i) (put (entries F) i ⊙ get_or x i 0)) ⊕ sum (variables F) (λ i. only (is_free s i) (linear i))
  split_new =
      sum_add (variables F) (λ i. only (is_free s i) ((put (entries F) i ⊕ read u (linear_of F i)) ⊙ get_or x i 0)) (λ i. only (is_free s i) (put (entries F) i ⊙ get_or x i 0)) (λ i. only (is_free s i) (linear i))
      (λ i b. shared (is_free s i) (put (entries F) i) (read u (linear_of F i)) (get_or x i 0))

  abbrev rest : ℕ → Whole
  rest k = only (lone_at F s k) (term k) ⊕ given_part u F s k

  split_terms : sum (entries F) term ≈ sum (entries F) (λ k. only (stays_at F s k) (term k)) ⊕ (sum (entries F) (λ k. only (lone_at F s k) (term k)) ⊕ sum (entries F) (given_part u F s))
  split_terms =
      omega (
        arith,
        sum_add (entries F) term (λ k. only (stays_at F s k) (term k)) rest (λ k b. omega (arith, three (is_free s (row_end F k)) (is_free s (column_end F k)) (term k), given_counts k)),
        sum_add (entries F) rest (λ k. only (lone_at F s k) (term k)) (given_part u F s) (λ k b. omega arith),
      )

  in_whole : twice_f (whole_of u F) x ≈ twice_f (whole_of u (reduced F s)) (restrict s x) ⊕ constant_in u F s
  in_whole = omega (arith, new_values, new_terms, split_new, gathered_counts (entries F) (omega arith), split_linear, split_terms)

  -- f of a completion is the smaller problem's f at its free values, plus the constant
  pub objective : u ≤ 2044 → twice_f (whole_of u F) x ≈ twice_f (whole_of u (reduced F s)) (restrict s x) ⊕ read u (constant F s)
  objective unit = omega (arith, in_whole, worth_read (constant_worth S w start unit))

-- ---- what is read of the smaller problem is all of it

module _ {u : ℕ} {F : Field} {s : List ℕ} (S : Shaped F) (w : WholeIn u F) (start : StartFor (variables F) s) where
  pub reduced_whole : AllWhole u (reduced F s)
  reduced_whole = record {
    linear = λ t h.
        let l : t < length (back s) = omega (arith, new_variables F s) in
        rw (new_linear F s t l) (all_read (adjusted_worth S w start (get_or (back s) t 0) (omega (arith, back_below s t l, start.long))));
    quad = λ t h.
        let l : t < length (stays F s) = omega (arith, new_entries F s) in
        rw (new_quad F s t l) (weighs_read (w.quad (get_or (stays F s) t 0) (stood F s t l)));
  }

  pub constant_whole : u ≤ 2044 → Worth u (constant F s) (read u (constant F s))
  constant_whole unit = all_read (constant_worth S w start unit)
