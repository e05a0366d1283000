-- The linear part: what one place adds, and the loop through the places of a variable. Assumes nothing.
use Prim.Native.Nat.{ℕ, ◌+◌, ◌<◌, ◌≤◌}
use mathlib.Core.Path.{◌≡◌}
use mathlib.Core.List.{List, ◌∷◌}
use lib.IntN.{pos}
use lib.ListN.{get_or}
use lib.Ieee.{Float, binary64, add, mul, of_int}
use borrow.Author.Tests.{eq-eqb, ne_eqb}
use Rattle.field.specs.Field.{Field, variables, linear_of}
use Rattle.rows.specs.Model.{coeff_of}
use Rattle.places.specs.Places.{other_end, entry_in}
use Rattle.places.proofs.Walk.{Along, along_start, along_turn, along_end}
use Rattle.enumeration.specs.Held.{Held}
use Rattle.enumeration.specs.Terms.{linear_at, linear_from, linear_part}

module _ (F : Field) (s : List ℕ) (i : ℕ) (sum : Float) (k : ℕ) {t : ℕ} (et : t ≡ other_end F.rows F.cols i k) where
  pub end_free : get_or s t 0 ≡ 2 → sum ≡ linear_at F s i sum k
  unfolding linear_at
  end_free e = rw (eq-eqb _ 2 (rw et at e))

  pub end_fixed : {a : Float} → a ≡ coeff_of F k → (get_or s t 0 ≡ 2 → ⊥) → add binary64 sum (mul binary64 a (of_int binary64 (pos (get_or s t 0)))) ≡ linear_at F s i sum k
  unfolding linear_at
  end_fixed ea ne = rw (et, ea, ne_eqb _ 2 (rw et at ne))

-- ---- the loop

-- the loop stands at place p of i, with this sum
pub record Summing (F : Field) (s u : List ℕ) (i end p : ℕ) (sum : Float) : Type 0 where
  pub along : Along (linear_from F s i) (variables F) F.rows F.cols u u i end p (linear_of F i) sum

pub sum_start : {F : Field} {s u : List ℕ} {i a b : ℕ} {sum : Float} → Held F s u → i < variables F → a ≡ get_or u i 0 → b ≡ get_or u (i + 1) 0 → sum ≡ linear_of F i → Summing F s u i b a sum
sum_start {F} {s} {i = i} H h ea eb es = record { along = rw es (along_start (linear_from F s i) (linear_of F i) H.placed.adjacent h ea eb) }

module _ {F : Field} {s u : List ℕ} {i end p : ℕ} {sum : Float} (L : Summing F s u i end p sum) where
  pub sum_turn : {k : ℕ} {next : Float} → p < end → k ≡ entry_in (get_or u (variables F + 1 + p) 0) → next ≡ linear_at F s i sum k → Summing F s u i end (p + 1) next
  unfolding linear_from
  sum_turn {k} {next} l ek en = record { along = along_turn L.along l ek step }
    where
      step : (ks : List ℕ) → linear_from F s i sum (k ∷ ks) ≡ linear_from F s i next ks
      step ks = rw en

  pub sum_done : end ≤ p → sum ≡ linear_part F s i
  unfolding linear_from linear_part
  sum_done h = along_end L.along h
