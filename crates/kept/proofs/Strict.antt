-- The count of strict rows: how the loop reaches it, how large it is. Assumes nothing.
use Prim.Native.Nat.{ℕ, zero, suc, ◌+◌, ◌<◌, ◌≤◌}
use mathlib.Core.Path.{◌≡◌, refl, sym, ap, ◌∙◌}
use mathlib.Core.Bool.{Bool, true, false, cond, ◌&&◌, ◌||◌}
use mathlib.Core.List.{List}
use native.Mathlib.Numerals.{add-one}
use native.Mathlib.Omega.{arith}
use lib.ListN.{length, get_or}
use lib.Dec.{eqb}
use lib.Ieee.{Float, lt}
use Rattle.weights.specs.Worth.{zero64}
use Rattle.meaning.specs.Free.{is_free}
use Rattle.rows.specs.declared.Row.{Row}
use Rattle.rows.specs.declared.Verdict.TheVariants.{Zero, One, Flat, Open}
use Rattle.rows.specs.Row.{both_zero, is_forced, is_strict}
use Rattle.rows.specs.Stored.{row_on}
use Rattle.kept.specs.Kept.{strict_to}

-- a row is strict by its two tests
strict_tests : (r : Row) → (lt zero64 r.lower || lt r.upper zero64) ≡ is_strict r
strict_tests r = by (lt zero64 r.lower) (lt r.upper zero64) (both_zero r)
  where
    by : (x y z : Bool) → (x || y) ≡ is_forced (cond x (Zero r.lower) (cond y (One r.upper) (cond z Flat Open)))
    by true y z = refl
    by false true z = refl
    by false false true = refl
    by false false false = refl

pub strict_told : (v : ℕ) (r : Row) {b : Bool} → (eqb v 2 && (lt zero64 r.lower || lt r.upper zero64)) ≡ b → (eqb v 2 && is_strict r) ≡ b
strict_told v r e = ap (λ (x : Bool). eqb v 2 && x) (sym (strict_tests r)) ∙ e

one_at_most : (b : Bool) → cond b 1 0 ≤ 1
one_at_most true = omega arith
one_at_most false = omega arith

pub strict_few : (s : List ℕ) (b : List Float) (i : ℕ) → strict_to s b i ≤ i
unfolding strict_to
strict_few s b zero = omega arith
strict_few s b (suc i) = omega (arith, one_at_most (is_free s i && is_strict (row_on b (length s) i)), strict_few s b i)

-- ---- the loop: i variables are behind it

pub record Counting (s : List ℕ) (b : List Float) (i strict : ℕ) : Type 0 where
  pub within : i ≤ length s
  pub count : strict ≡ strict_to s b i

pub count_start : (s : List ℕ) (b : List Float) → Counting s b 0 0
unfolding strict_to
count_start s b = record { within = omega arith; count = refl }

module _ {s : List ℕ} {b : List Float} {i strict : ℕ} (C : Counting s b i strict) where
  module _ {v : ℕ} {row : Row} {r : ℕ} (ev : v ≡ get_or s i 0) (er : row ≡ row_on b (length s) i) (e : r ≡ cond (eqb v 2 && is_strict row) 1 0) where
    pub count_few : strict + r ≤ i + 1
    count_few = omega (arith, C.count, strict_few s b i, e, one_at_most (eqb v 2 && is_strict row))

    pub count_turn : i < length s → Counting s b (i + 1) (strict + r)
    unfolding strict_to
    count_turn l = record { within = omega arith; count = rw (add-one, e, ev, er, C.count) refl }

  pub count_done : length s ≤ i → strict ≡ strict_to s b (length s)
  count_done l = let e : i ≡ length s = omega (arith, C.within) in rw e at C.count
