-- What the parts of the call leave in lent memory. Assumes nothing.
use Rattle.std.specs.Prelude.{ℕ, ◌+◌, ◌<◌, ◌≤◌, ◌≡◌, cond, List, map, length, get_or, set, take, Float}
use Rattle.std.specs.Float.{nan, binary64}
use Rattle.std.specs.Float.Ieee.{add}
use Rattle.meaning.specs.Free.{is_free}
use Rattle.scratch.specs.Over.{over}
use Rattle.field.specs.Field.{Field, variables, entries, row_end, column_end, quad_of, Shaped, StartFor}
use Rattle.shift.specs.Picked.{picked}
use Rattle.weights.specs.Worth.{zero64}
use Rattle.sub_problem.specs.Reduced.{back, new_index, stays_at, stays, lone_at, given_at, into_gathered, into_constant, gathered_to, adjusted, given_to, constant}
use Rattle.sub_problem.specs.Call.{closed_up}

-- ---- the numbers

-- the first k words are the new numbers
pub record NumbersTo (s : List ℕ) (k : ℕ) (u : List ℕ) : Type 0 where
  pub within : k ≤ length s
  pub few : length s ≤ 4096
  pub long : length s ≤ length u
  pub at : (i : ℕ) → i < k → get_or u i 0 ≡ new_index s i

-- The words begin with the new number of each variable, all of them.
abbrev pub Numbers : List ℕ → List ℕ → Type 0
Numbers s u = NumbersTo s (length s) u

-- The first k words are the new numbers, and `count` is the next new number.
pub record Numbered (s : List ℕ) (k : ℕ) (u : List ℕ) (count : ℕ) : Type 0 where
  pub numbers : NumbersTo s k u
  pub counted : count ≡ new_index s k

-- ---- the entries' terms

-- The field has its shape, and its start values are n bytes of 0, 1 or 2: what each part of the call needs.
pub record Usable (F : Field) (s : List ℕ) : Type 0 where
  pub shaped : Shaped F
  pub start : StartFor (variables F) s

-- the first n floats are 0.0
pub record Blank (n : ℕ) (f : List Float) : Type 0 where
  pub long : n ≤ length f
  pub at : (i : ℕ) → i < n → get_or f i nan ≡ zero64

-- what entry k makes of the floats and the sum
pub record Taken (F : Field) (s : List ℕ) (k : ℕ) (f : List Float) (x : Float) (f₁ : List Float) (x₁ : Float) : Type 0 where
  pub floats : f₁ ≡ cond (lone_at F s k) (into_gathered F s k f) f
  pub total : x₁ ≡ cond (given_at F s k) (into_constant F s k x) x

-- the first floats are what the first k entries gather, and the sum is what they put into the constant
pub record Gathers (F : Field) (s : List ℕ) (k : ℕ) (f : List Float) (x : Float) : Type 0 where
  pub within : k ≤ entries F
  pub long : variables F ≤ length f
  pub at : (i : ℕ) → i < variables F → get_or f i nan ≡ get_or (gathered_to F s k) i nan
  pub total : x ≡ given_to F s k

-- ---- closing up

-- places b that rise, below n
pub record Rising (n : ℕ) (b : List ℕ) (count : ℕ) : Type 0 where
  pub few : n ≤ 4096
  pub room : count ≤ length b
  pub behind : (t : ℕ) → t < count → t ≤ get_or b t 0
  pub below : (t : ℕ) → t < count → get_or b t 0 < n

-- What is gathered at variable i, and then its c: the adjusted linear weight.
abbrev pub sum_at : List Float → List Float → ℕ → Float
sum_at f c i = add binary64 (get_or f i nan) (get_or c i nan)

-- The entries as they stand while they close up: the three lists, and how many are kept at their front.
pub record Entries : Type 0 where
  pub rows : List ℕ
  pub cols : List ℕ
  pub quad : List Float
  pub kept : ℕ

-- Three lists of entries, together with how many entries are kept at their front.
abbrev pub entries_of : List ℕ → List ℕ → List Float → ℕ → Entries
entries_of rows cols q m = record { rows = rows; cols = cols; quad = q; kept = m }

-- Entry k goes to the next kept place with new numbers where both its ends are free; else nothing changes.
unfoldable pub close_at : List ℕ → ℕ → Entries → Entries
close_at s k E =
    cond (is_free s (get_or E.rows k 0))
    (cond (is_free s (get_or E.cols k 0))
    (entries_of (set E.rows E.kept (new_index s (get_or E.rows k 0))) (set E.cols E.kept (new_index s (get_or E.cols k 0))) (set E.quad E.kept (get_or E.quad k nan)) (E.kept + 1))
    E)
    E

-- The entries after the first k have closed up, with the rest of each list as it was.
unfoldable pub closed_to : Field → List ℕ → ℕ → Entries
closed_to F s k =
    entries_of
    (over (map (λ j. new_index s (row_end F j)) (picked (stays_at F s) k)) F.rows)
    (over (map (λ j. new_index s (column_end F j)) (picked (stays_at F s) k)) F.cols)
    (over (map (quad_of F) (picked (stays_at F s) k)) F.quad)
    (length (picked (stays_at F s) k))

-- entry k is there, its ends are variables, and no more are kept than came before it
pub record Closable (s : List ℕ) (k kept : ℕ) (rows cols : List ℕ) (q : List Float) : Type 0 where
  pub behind : kept ≤ k
  pub few : k ≤ 32768
  pub in_rows : k < length rows
  pub in_cols : k < length cols
  pub in_quad : k < length q
  pub row_below : get_or rows k 0 < length s
  pub column_below : get_or cols k 0 < length s

-- The entries after all have closed up, with zeros behind those that stay.
unfoldable pub closed_entries : Field → List ℕ → Entries
closed_entries F s =
    entries_of
    (closed_up 0 (map (λ j. new_index s (row_end F j)) (stays F s)) F.rows)
    (closed_up 0 (map (λ j. new_index s (column_end F j)) (stays F s)) F.cols)
    (closed_up zero64 (map (quad_of F) (stays F s)) F.quad)
    (length (stays F s))

-- ---- the linear weights

-- the map list begins with the map back
pub record Listed (s l : List ℕ) (count : ℕ) : Type 0 where
  pub counted : count ≡ length (back s)
  pub room : count ≤ length l
  pub front : take count l ≡ back s

-- the weights are the smaller problem's with zeros behind, and x is the constant
pub record Weighed (F : Field) (s : List ℕ) (c : List Float) (x : Float) : Type 0 where
  pub linear : c ≡ closed_up zero64 (map (adjusted F s) (back s)) F.linear
  pub total : x ≡ constant F s
