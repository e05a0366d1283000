-- What it means that a float counts a whole number of units. The whole number is a pair of naturals p, l and stands for p - l, so that `omega` does its sums.
-- The unit u is 2 ^ u times the format's smallest positive value: at binary64 it is 2 ^ (u - 1074), so that 1073 counts halves and 1074 counts wholes. Assumes nothing.
use Rattle.std.specs.Prelude.{◌≡◌, Bool, false, cond, ℕ, ◌+◌, ◌*◌, ◌/◌, ◌%◌, ◌^◌, ◌≤◌, eqb, Float}
use Rattle.std.specs.Float.{nan, inf, fin, Format}
use Rattle.std.specs.Float.Ieee.{prec, low, up, down}

-- ±a units of 1 / L are p - l units of W / L
abbrev pub Signed : Bool → ℕ → ℕ → ℕ → ℕ → ℕ → Type 0
Signed s a p l L W = a * L + cond s p l * W ≡ cond s l p * W

-- x is finite, and is p - l units. The sign of a zero does not matter.
unfoldable pub Counts : Format → ℕ → Float → ℕ → ℕ → Type 0
Counts f u nan p l = ⊥
Counts f u (inf s) p l = ⊥
Counts f u (fin s m e) p l = Signed s (m * up e) p l (2 ^ low f) (2 ^ u * down e)

-- p - l is at most 2 ^ prec either way: a whole number that the format holds, in every unit
abbrev pub Within : Format → ℕ → ℕ → Type 0
Within f p l = (p ≤ l + 2 ^ prec f) × (l ≤ p + 2 ^ prec f)

-- x is a whole number of units
unfoldable pub whole_in : Format → ℕ → Float → Bool
whole_in f u nan = false
whole_in f u (inf s) = false
whole_in f u (fin s m e) = eqb (m * up e * 2 ^ low f % (2 ^ u * down e)) 0

-- How many units x is where it is positive, and 0 where it is not: x is plus - minus of them.
unfoldable pub plus : Format → ℕ → Float → ℕ
plus f u nan = 0
plus f u (inf s) = 0
plus f u (fin s m e) = cond s 0 (m * up e * 2 ^ low f / (2 ^ u * down e))

-- How many units x is below 0 where it is negative, and 0 where it is not.
unfoldable pub minus : Format → ℕ → Float → ℕ
minus f u nan = 0
minus f u (inf s) = 0
minus f u (fin s m e) = cond s (m * up e * 2 ^ low f / (2 ^ u * down e)) 0
