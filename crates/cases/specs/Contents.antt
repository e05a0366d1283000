-- The lists that stand in the contents of a case, one behind the other (docs/CASES.md). Assumes nothing.
use Rattle.std.specs.Prelude.{ℕ, ◌+◌, ◌*◌, cond, List, eqb, Float, length, get_or}
use Rattle.std.specs.Float.{binary64}
use Rattle.std.specs.Float.Ieee.{of_bits}
use Rattle.endian.specs.Bytes.{number_at, float_at}
use Rattle.rows.specs.Stored.{up_to}
use Rattle.scratch.specs.Cleared.{cleared}
use Rattle.stream.specs.Heads.{standing}
use Rattle.stream.specs.declared.head.Head.{Head}

-- The linear weights in the contents of a case, which stand first, eight bytes each.
abbrev pub linear_in : Head → List ℕ → List Float
linear_in h s = up_to (λ i. float_at s (8 * i)) h.linear

-- The rows in the contents of a case, behind the linear weights, two bytes each.
abbrev pub rows_in : Head → List ℕ → List ℕ
rows_in h s = up_to (λ i. number_at 2 s (8 * h.linear + 2 * i)) h.rows

-- The columns in the contents of a case, behind the rows, two bytes each.
abbrev pub columns_in : Head → List ℕ → List ℕ
columns_in h s = up_to (λ i. number_at 2 s (8 * h.linear + 2 * h.rows + 2 * i)) h.columns

-- The pair weights in the contents of a case, behind the columns, eight bytes each.
abbrev pub weights_in : Head → List ℕ → List Float
weights_in h s = up_to (λ i. float_at s (8 * h.linear + 2 * h.rows + 2 * h.columns + 8 * i)) h.weights

-- Where the field's lists end in the contents of a case, and the start values begin.
abbrev pub start_at : Head → ℕ
start_at h = standing h.linear h.rows h.columns h.weights

-- The start values in the contents of a case, behind the field's lists, one byte each.
abbrev pub start_in : Head → List ℕ → List ℕ
start_in h s = up_to (λ i. get_or s (start_at h + i) 0) h.start

-- The given constraints in the contents of a case, behind the start values, two bytes each.
abbrev pub constraints_in : Head → List ℕ → List ℕ
constraints_in h s = up_to (λ i. number_at 2 s (start_at h + h.start + 2 * i)) h.constraints

-- 165.5, which cannot be part of an answer
abbrev pub untouched : Float
untouched = of_bits binary64 0x4064_b000_0000_0000

-- a list as long as the given constraints holds them, and any other what cannot be part of an answer
unfoldable pub list_before : Head → List ℕ → List ℕ → List ℕ
list_before h s list = cond (eqb (length list) h.constraints) (constraints_in h s) (cleared 42405 list)
