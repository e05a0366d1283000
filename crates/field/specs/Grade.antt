-- When a field is exact, and which unit is named (rules 2.1 to 2.4). Assumes nothing.
use Rattle.std.specs.Prelude.{ℕ, zero, suc, ◌+◌, ◌<◌, ◌≤◌, ◌^◌, Bool, ◌&&◌, cond, List, length, get_or, leb, Float}
use Rattle.std.specs.Float.{nan, binary64}
use Rattle.whole.specs.Whole.{Whole}
use Rattle.weights.specs.Counts.{whole_in, plus, minus}
use Rattle.weights.specs.Worth.{Worth}
use Rattle.scratch.specs.All.{all_below}
use Rattle.field.specs.declared.Grade.{Grade}
use Rattle.field.specs.declared.Grade.TheVariants.{Exact, Inexact}
use Rattle.field.specs.Field.{Field, variables, entries, linear_of, quad_of, Standard}
use Rattle.field.specs.Tests.{off_diagonal}

-- ---- as a test

-- Weights are counted in half units: 2c is whole in a unit exactly if c is whole in its half. The number u stands for 2^(u - 1074),
-- so that the units 2^-20 to 2^20 have the halves 1053 to 1093, and ones the half 1073.
abbrev pub finest : ℕ
finest = 1053

-- The half of the largest unit that may serve, 2^20, as a number u that stands for 2^(u - 1074).
abbrev pub coarsest : ℕ
coarsest = 1093

-- x is a whole number of the unit u, and at most 2^31 of them either way
unfoldable pub weighs : ℕ → Float → Bool
weighs u x = whole_in binary64 u x && leb (plus binary64 u x + minus binary64 u x) (2 ^ 31)

-- Whether every weight of the list is a whole number of the unit u, and at most 2^31 of them either way.
unfoldable pub all_weigh : ℕ → List Float → Bool
all_weigh u w = all_below (λ k. weighs u (get_or w k nan)) (length w)

-- every 2c and every q is a whole number of the unit whose half is u, and none is above 2^31 of it
unfoldable pub serves : ℕ → Field → Bool
serves u F = all_weigh u F.linear && all_weigh (suc u) F.quad

-- the first of u, u + 1 and so on that passes, and u + k where none of k does
unfoldable pub first_of : (ℕ → Bool) → ℕ → ℕ → ℕ
first_of p u zero = u
first_of p u (suc k) = cond (p u) u (first_of p (suc u) k)

-- the half of the smallest unit that serves, and 1094 where none of the 41 serves
unfoldable pub unit_of : Field → ℕ
unit_of F = first_of (λ u. serves u F) finest 41

-- Whether the field is in standard form and some unit of the 41 serves.
unfoldable pub is_exact_of : Field → Bool
is_exact_of F = off_diagonal F.rows F.cols && leb (unit_of F) coarsest

-- The grade of a field: exact where it is in standard form and some unit serves, else inexact.
unfoldable pub grade_of : Field → Grade
grade_of F = cond (is_exact_of F) Exact Inexact

-- ---- as a statement

-- x is a whole number of the unit u, and at most b of them either way
pub record Weighs (u b : ℕ) (x : Float) : Type 0 where
  pub ledger : Whole
  pub worth : Worth u x ledger
  pub at_most : ledger.plus ≤ ledger.less + b
  pub at_least : ledger.less ≤ ledger.plus + b

-- what the sums over a field lean on: c is a whole number of u and q of the double of u, at most 2^31 of them either way
pub record ExactIn (u : ℕ) (F : Field) : Type 0 where
  pub standard : Standard F
  pub linear : (i : ℕ) → i < variables F → Weighs u (2 ^ 31) (linear_of F i)
  pub quad : (k : ℕ) → k < entries F → Weighs (suc u) (2 ^ 31) (quad_of F k)

-- the unit whose half is u is one of 2^-20 to 2^20, and the field is exact in it
pub record Serves (u : ℕ) (F : Field) : Type 0 where
  pub from : finest ≤ u
  pub to : u ≤ coarsest
  pub exact : ExactIn u F
