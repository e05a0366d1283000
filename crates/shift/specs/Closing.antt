-- How a field's diagonal goes into its linear weights, entry by entry: 0.5q of a diagonal entry goes into c, the others close up in
-- place, and what stands behind them is as it was (rule 10.1). Assumes nothing.
use Rattle.std.specs.Prelude.{ℕ, zero, suc, ◌+◌, ◌<◌, ◌≤◌, Bool, cond, not, List, map, eqb, length, get_or, set, Float}
use Rattle.std.specs.Float.{nan, binary64}
use Rattle.std.specs.Float.Ieee.{add, mul}
use Rattle.std.specs.Borrow.{MutBor}
use denote.Triple.Both.{Both}
use Rattle.weights.specs.Worth.{half64}
use Rattle.scratch.specs.Over.{over}
use Rattle.field.specs.Field.{Field, field_of, variables, entries, row_end, column_end, quad_of}
use Rattle.shift.specs.Picked.{picked}

-- ---- what is promised

-- whether entry k has its row equal to its column
abbrev pub on_diagonal : Field → ℕ → Bool
on_diagonal F k = eqb (row_end F k) (column_end F k)

-- 0.5q of a diagonal entry goes into its c
abbrev pub into_linear : Field → ℕ → List Float → List Float
into_linear F k c = set c (row_end F k) (add binary64 (get_or c (row_end F k) nan) (mul binary64 half64 (quad_of F k)))

-- the linear weights after the first k entries
unfoldable pub linear_to : Field → ℕ → List Float
linear_to F zero = F.linear
linear_to F (suc k) = cond (on_diagonal F k) (into_linear F k (linear_to F k)) (linear_to F k)

-- Whether entry k is off the diagonal, and so stays an entry of the shifted field.
abbrev pub kept_at : Field → ℕ → Bool
kept_at F k = not (on_diagonal F k)

-- of the first k entries, the positions of those off the diagonal, in order
abbrev pub kept_to : Field → ℕ → List ℕ
kept_to F k = picked (kept_at F) k

-- four lists, and how many entries are kept at their front
pub record Closing : Type 0 where
  pub lists : Field
  pub kept : ℕ

-- The four lists of a field, together with how many entries are kept at their front.
abbrev pub closing : Field → ℕ → Closing
closing G m = record { lists = G; kept = m }

-- after the first k entries: those off the diagonal at the front, in order, and what stands behind them as it was
unfoldable pub closed_to : Field → ℕ → Closing
closed_to F k =
    closing
    (field_of
    (linear_to F k)
    (over (map (row_end F) (kept_to F k)) F.rows)
    (over (map (column_end F) (kept_to F k)) F.cols)
    (over (map (quad_of F) (kept_to F k)) F.quad))
    (length (kept_to F k))

-- The lists after all entries: the shifted field at their front, and its number of entries.
unfoldable pub closed : Field → Closing
closed F = closed_to F (entries F)

-- ---- one entry

-- entry k as it stands in the lists: half of it goes into c, or it moves up
unfoldable pub close_at : ℕ → Closing → Closing
close_at k s =
    let G = s.lists in
    cond (on_diagonal G k)
    (closing (field_of (into_linear G k G.linear) G.rows G.cols G.quad) s.kept)
    (closing (field_of G.linear (set G.rows s.kept (row_end G k)) (set G.cols s.kept (column_end G k)) (set G.quad s.kept (quad_of G k))) (s.kept + 1))

-- entry k is there, its row is a variable, and no more are kept than came before it
pub record Closable (k kept : ℕ) (G : Field) : Type 0 where
  pub behind : kept ≤ k
  pub few : k ≤ 32768
  pub in_rows : k < length G.rows
  pub in_cols : k < length G.cols
  pub in_quad : k < length G.quad
  pub row_below : row_end G k < variables G

-- a word for contracts: the field behind four slices, after a call
abbrev pub left_behind : {W X Y Z : Type 0} → Both W (MutBor (List Float)) → Both X (MutBor (List ℕ)) → Both Y (MutBor (List ℕ)) → Both Z (MutBor (List Float)) → Field
left_behind c rows cols q = field_of c.exit.now rows.exit.now cols.exit.now q.exit.now
