-- How many strict rows there are, in whole numbers. Assumes nothing.
use Rattle.std.specs.Prelude.{ℕ, zero, suc, ◌+◌, cond, not, ◌&&◌, List, eqb, length}
use Rattle.meaning.specs.Field.{Field}
use Rattle.meaning.specs.Free.{is_free}
use Rattle.meaning.specs.Gradient.{verdict}

-- of the variables below i, those that are free and on which the values force one: low above 0, or high below 0
unfoldable pub stricts_to : Field → List ℕ → ℕ → ℕ
stricts_to G s zero = 0
stricts_to G s (suc i) = stricts_to G s i + cond (is_free s i && not (eqb (verdict G s i) 2)) 1 0

-- How many of all variables are free and have a value forced on them by the values s.
abbrev pub stricts : Field → List ℕ → ℕ
stricts G s = stricts_to G s (length s)
