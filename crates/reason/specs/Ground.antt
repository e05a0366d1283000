-- The ground of a value, and what it says: given, or a bound in half units. Assumes nothing.
use Rattle.std.specs.Prelude.{ℕ, zero, suc, ◌-◌, cond, List, [], Float}
use Rattle.std.specs.Float.{binary64}
use Rattle.std.specs.Float.Ieee.{mul}
use Rattle.whole.specs.Whole.{Above0, Below0}
use Rattle.weights.specs.Worth.{Worth, half64, two64}
use Rattle.meaning.specs.Free.{is_free}
use Rattle.meaning.specs.Field as meaning
use Rattle.meaning.specs.Gradient.{low, high}
use Rattle.field.specs.Field.{Field}
use Rattle.field.specs.Grade.{finest, unit_of}
use Rattle.rows.specs.declared.Verdict.{Verdict}
use Rattle.rows.specs.declared.Verdict.TheVariants.{Zero, One, Flat, Open}
use Rattle.rows.specs.Row.{judge_of}
use Rattle.rows.specs.Model.{row_of}
use Rattle.reason.specs.declared.Ground.{Ground}
use Rattle.reason.specs.declared.Ground.TheVariants.{Given, Lower, Upper}
use Rattle.reason.specs.Until.{basis}
use Rattle.reason.specs.Listed.{listed_of}

-- k, where 2^(k - 20) is the smallest unit that serves
abbrev pub least_unit : Field → ℕ
least_unit F = unit_of F - finest

-- y times x, that many times over
unfoldable pub times : Float → ℕ → Float → Float
times y zero x = x
times y (suc count) x = mul binary64 y (times y count x)

-- x in half units of 2^(k - 20), which are 2^(k - 21): doubled 21 - k times, or halved k - 21 times
unfoldable pub in_half_units : ℕ → Float → Float
in_half_units k x = times half64 (k - 21) (times two64 (21 - k) x)

-- the bound that a verdict carries, in half units
unfoldable pub ground_of : ℕ → Verdict → Ground
ground_of k (Zero b) = Lower (in_half_units k b)
ground_of k (One b) = Upper (in_half_units k b)
ground_of k Flat = Given
ground_of k Open = Given

-- the ground of i: the verdict on its row, worked out anew from the values that its bound rests on
unfoldable pub reason_of : Field → List ℕ → ℕ → Ground
reason_of F s i = cond (is_free s i) (ground_of (least_unit F) (judge_of (row_of F (basis F s i) i))) Given

-- the variables listed beside it; of a given variable the list is empty
unfoldable pub reason_list : Field → List ℕ → ℕ → List ℕ
reason_list F s i = cond (is_free s i) (listed_of F (basis F s i) i) []

-- the unit of which 1.0 is one
abbrev pub ones : ℕ
ones = 1074

-- what a ground says of the value v of i at the values r: its bound is the whole number low or high of i there, and it is strict
pub data Says (G : meaning.Field) (r : List ℕ) (i : ℕ) : ℕ → Ground → Type 0 where
  above : {b : Float} → Worth ones b (low G r i) → Above0 (low G r i) → Says G r i 0 (Lower b)
  below : {b : Float} → Worth ones b (high G r i) → Below0 (high G r i) → Says G r i 1 (Upper b)
