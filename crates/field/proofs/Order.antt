-- In a shaped field each entry stands before every later one. Assumes nothing.
use Prim.Native.Nat.{ℕ, zero, suc, ◌<◌}
use mathlib.Core.Logic.{inl, inr}
use native.Mathlib.Decide.{ℕ_discrete}
use native.Mathlib.Numerals.{add-one}
use native.Mathlib.Omega.{arith}
use Rattle.field.specs.Field.{Field, entries, row_end, column_end, Before, Shaped}

before_trans : {a b c d e f : ℕ} → Before a b c d → Before c d e f → Before a b e f
before_trans (inl p) (inl q) = inl (omega arith)
before_trans (inl p) (inr q) = inl (omega arith)
before_trans (inr p) (inl q) = inl (omega arith)
before_trans (inr p) (inr q) = inr (omega arith)

pub before_all : {F : Field} → Shaped F → (i j : ℕ) → i < j → j < entries F → Before (row_end F i) (column_end F i) (row_end F j) (column_end F j)
before_all S i zero l h = absurd (omega arith)
before_all {F} S i (suc j) l h = elim (ℕ_discrete i j) [
  | yes e ↦ rw e step
  | no n ↦ before_trans (before_all S i j (omega arith) (omega arith)) step
]
  where
    step : Before (row_end F j) (column_end F j) (row_end F (suc j)) (column_end F (suc j))
    step = rw add-one at (S.rising j (omega arith))
