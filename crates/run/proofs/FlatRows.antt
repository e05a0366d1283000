-- The count of flat rows: how the loop reaches it, how large it is, and what it is on an exact field. Assumes nothing.
use Prim.Native.Nat.{ℕ, zero, suc, ◌+◌, ◌≤◌, ◌<◌}
use mathlib.Core.Path.{◌≡◌, refl, sym, ap, ap₂, ◌∙◌}
use mathlib.Core.Bool.{Bool, true, false, cond, ◌&&◌}
use mathlib.Core.List.{List}
use native.Mathlib.Numerals.{add-one}
use native.Mathlib.Omega.{arith}
use borrow.Author.Tests.{eqb-true}
use lib.ListN.{length, get_or}
use lib.Ieee.{Float}
use mir.Val.{bool_byte}
use Rattle.meaning.specs.Free.{is_free}
use Rattle.meaning.specs.Gradient.{low, high, is_zero, flats_to, flats}
use Rattle.field.specs.Field.{Field}
use Rattle.field.specs.Reading.{whole_of}
use Rattle.rows.specs.declared.Row.{Row}
use Rattle.rows.specs.declared.Verdict.{Verdict}
use Rattle.rows.specs.Row.{judge_of, is_flat}
use Rattle.rows.specs.Stored.{row_on, rows_on}
use Rattle.rows.proofs.Terms.{is_flat_worth}
use Rattle.rows.proofs.Upto.{get_d_up_to}
use Rattle.run.specs.Run.{Run, no_row, flat_to, flat_rows}
use Rattle.run.specs.Ended.{RowsWorth, Ended}

abbrev one : Bool → ℕ
one b = cond b 1 0

-- a truth as a number
pub bit_one : (b : Bool) → bool_byte b ≡ cond b 1 0
bit_one true = refl
bit_one false = refl

one_at_most : (b : Bool) → one b ≤ 1
one_at_most true = omega arith
one_at_most false = omega arith

pub flat_few : (values : List ℕ) (rows : List Row) (i : ℕ) → flat_to values rows i ≤ i
unfolding flat_to
flat_few values rows zero = omega arith
flat_few values rows (suc i) = omega (arith, one_at_most (is_free values i && is_flat (judge_of (get_or rows i no_row))), flat_few values rows i)

-- the row's verdict as the code finds it
pub flat_told : {row r : Row} {v : Verdict} {flat : Bool} → row ≡ r → v ≡ judge_of row → flat ≡ is_flat v → is_flat (judge_of r) ≡ flat
flat_told e d g = ap (λ (x : Row). is_flat (judge_of x)) (sym e) ∙ ap is_flat (sym d) ∙ sym g

-- ---- the loop: i variables are behind it

pub record Counting (values : List ℕ) (f : List Float) (i flat : ℕ) : Type 0 where
  pub within : i ≤ length values
  pub count : flat ≡ flat_to values (rows_on f (length values)) i

pub count_start : (values : List ℕ) (f : List Float) → Counting values f 0 0
unfolding flat_to
count_start values f = record { within = omega arith; count = refl }

module _ {values : List ℕ} {f : List Float} {i flat : ℕ} (C : Counting values f i flat) where
  module _ {r : ℕ} (e : r ≡ cond (is_free values i && is_flat (judge_of (row_on f (length values) i))) 1 0) where
    pub count_few : flat + r ≤ i + 1
    count_few = omega (arith, C.count, flat_few values (rows_on f (length values)) i, e, one_at_most (is_free values i && is_flat (judge_of (row_on f (length values) i))))

    pub count_turn : i < length values → Counting values f (i + 1) (flat + r)
    unfolding flat_to
    count_turn l = record { within = omega arith; count = rw (add-one, get_d_up_to (row_on f (length values)) (length values) i no_row l, e, C.count) refl }

  pub count_done : length values ≤ i → flat ≡ flat_to values (rows_on f (length values)) (length values)
  count_done l = let e : i ≡ length values = omega (arith, C.within) in rw e at C.count

-- ---- on an exact field, where the rows are worth low and high

flat_to_lem : (u : ℕ) (F : Field) (values : List ℕ) (rows : List Row) → RowsWorth u F values rows → (i : ℕ) → flat_to values rows i ≡ flats_to (whole_of u F) values i
unfolding flat_to flats_to
flat_to_lem u F values rows worth zero = refl
flat_to_lem u F values rows worth (suc i) = ap₂ (λ (a b : ℕ). a + b) (flat_to_lem u F values rows worth i) (go (is_free values i) refl)
  where
    go : (b : Bool) → is_free values i ≡ b
        → one (b && is_flat (judge_of (get_or rows i no_row))) ≡ one (b && (is_zero (low (whole_of u F) values i) && is_zero (high (whole_of u F) values i)))
    go true e = rw (is_flat_worth (worth i (eqb-true _ _ e)))
    go false e = refl

-- THE COUNT: it is the number of free variables with low = high = 0.
pub flat_rows_exact : {u : ℕ} {F : Field} {s : List ℕ} {run : Run} → Ended u F s run → flat_rows run ≡ flats (whole_of u F) run.values
flat_rows_exact {u} {F} {s} {run} ended = flat_to_lem u F run.values run.rows ended.worth (length run.values)
