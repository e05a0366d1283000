-- The head of a case as bytes, what its lengths take, and that buffers hold them. Assumes nothing.
use Rattle.std.specs.Prelude.{ℕ, ◌+◌, ◌*◌, ◌≤◌, min, max, List, get_or}
use Rattle.endian.specs.Bytes.{number_at}
use Rattle.stream.specs.declared.head.Head.{Head}

-- The head of a case in its 77 bytes: the code, eleven lengths, and four numbers of the call's own.
abbrev pub head_of : List ℕ → Head
head_of s = record {
  code = get_or s 0 0;
  linear = number_at 4 s 1;
  rows = number_at 4 s 5;
  columns = number_at 4 s 9;
  weights = number_at 4 s 13;
  start = number_at 4 s 17;
  constraints = number_at 4 s 21;
  found = number_at 4 s 25;
  answers = number_at 4 s 29;
  variables = number_at 4 s 33;
  floats = number_at 4 s 37;
  words = number_at 4 s 41;
  variable = number_at 8 s 45;
  value = min (number_at 8 s 53) 255;
  limit = number_at 8 s 61;
  least = number_at 8 s 69;
}

-- the one list of u16 besides the field's: two of the three are empty
abbrev pub list_of : Head → ℕ
list_of h = max h.constraints (max h.answers h.variables)

-- the bytes of the field's lists, of the start values and of the given constraints
abbrev pub contents_of : Head → ℕ
contents_of h = 8 * h.linear + 2 * h.rows + 2 * h.columns + 8 * h.weights + h.start + 2 * h.constraints

-- the field's lists and the start values are no longer than the longest
pub record Lists (h : Head) : Type 0 where
  pub linear_fits : h.linear ≤ 4100
  pub rows_fit : h.rows ≤ 32772
  pub columns_fit : h.columns ≤ 32772
  pub weights_fit : h.weights ≤ 32772
  pub start_fits : h.start ≤ 4100

-- and so are the given constraints, the answer lists and the scratch
pub record Lent (h : Head) : Type 0 where
  pub constraints_fit : h.constraints ≤ 1500002
  pub answers_fit : h.answers ≤ 1500002
  pub variables_fit : h.variables ≤ 1500002
  pub found_fits : h.found ≤ 4100
  pub floats_fit : h.floats ≤ 163900
  pub words_fit : h.words ≤ 589900

-- a case that buffers of the longest lists hold, of whose bytes there are enough
pub record Fits (h : Head) (size : ℕ) : Type 0 where
  pub lists : Lists h
  pub lent : Lent h
  pub read : contents_of h ≤ size

-- an answer list and scratch as long as the longest
pub record Buffers (list f u : ℕ) : Type 0 where
  pub list_room : 1500002 ≤ list
  pub floats_room : 163900 ≤ f
  pub words_room : 589900 ≤ u

-- the bytes of a field's lists, where the start values begin
abbrev pub standing : (c rows cols q : ℕ) → ℕ
standing c rows cols q = 8 * c + 2 * rows + 2 * cols + 8 * q
