-- The scan over some variables alone, rising: the candidates, and the neighbours of the probed variable, whose places rise by column where
-- it is the row, and by row where it is the column. Assumes nothing.
use Rattle.std.specs.Prelude.{ℕ, ◌+◌, ◌<◌, ◌≤◌, ◌≡◌, ◌⊎◌, Bool, true, List, eqb, length, get_or}
use Rattle.field.specs.Field.{Field, variables}
use Rattle.rows.specs.Row.{is_strict}
use Rattle.rows.specs.Stored.{row_on}
use Rattle.places.specs.Places.{other_end, entry_in, Touches}
use Rattle.run.specs.Cells.{Cells, base, Placed}
use Rattle.scanning.specs.declared.Cursor.{Cursor}

-- t stands in the list l
pub record In (t : ℕ) (l : List ℕ) : Type 0 where
  pub place : ℕ
  pub within : place < length l
  pub holds : get_or l place 0 ≡ t

-- from `at` on, the first position that is picked and whose value is b or more, with its value; at `end` there is none, and n stands for it
pub record Next (pick : ℕ → Bool) (val : ℕ → ℕ) (b at end n : ℕ) (r : Cursor) : Type 0 where
  pub from : at ≤ r.at
  pub to : r.at ≤ end
  pub passed : (p : ℕ) → at ≤ p → p < r.at → pick p ≡ true → val p < b
  pub found : r.at < end → (pick r.at ≡ true) × (r.head ≡ val r.at)
  pub least : r.at < end → b ≤ r.head
  pub none : end ≤ r.at → r.head ≡ n

-- every position is picked
abbrev pub always : ℕ → Bool
always p = true

-- the list from index `from` on
abbrev pub list_at : List ℕ → ℕ → ℕ → ℕ
list_at u from p = get_or u (from + p) 0

-- The entry that the word at position p names, of the words of places from index `from` on.
abbrev pub place_at : List ℕ → ℕ → ℕ → ℕ
place_at u from p = entry_in (list_at u from p)

-- Whether the entry at position p has variable i at its near end, the one that is asked for.
abbrev pub near_at : List ℕ → List ℕ → ℕ → ℕ → ℕ → Bool
near_at near u from i p = eqb (get_or near (place_at u from p) 0) i

-- The variable at the far end of the entry at position p, by which the scan goes on.
abbrev pub far_at : List ℕ → List ℕ → ℕ → ℕ → ℕ
far_at far u from p = get_or far (place_at u from p) 0

-- what a search through places asks
pub record Through (near far u : List ℕ) (from at end : ℕ) : Type 0 where
  pub start : at ≤ end
  pub room : from + end ≤ length u
  pub same : length far ≡ length near
  pub entry : (p : ℕ) → at ≤ p → p < end → place_at u from p < length near

-- t is among the candidates
pub record Listed (F : Field) (u : List ℕ) (many t : ℕ) : Type 0 where
  pub place : ℕ
  pub within : place < many
  pub holds : list_at u (base F + variables F) place ≡ t

-- an entry joins i and t
pub record Joined (F : Field) (i t : ℕ) : Type 0 where
  pub entry : ℕ
  pub within : entry < length F.rows
  pub touches : Touches F.rows F.cols i entry
  pub other : other_end F.rows F.cols i entry ≡ t

-- what the scan asks: every free variable whose row is strict is a candidate or a neighbour of i, and the candidates rise
pub record Covers (F : Field) (i many : ℕ) (s : Cells) : Type 0 where
  pub placed : Placed F s
  pub here : i < variables F
  pub list_room : base F + variables F + many ≤ length s.words
  pub rising : (p q : ℕ) → p < q → q < many → list_at s.words (base F + variables F) p ≤ list_at s.words (base F + variables F) q
  pub all : (t : ℕ) → t < variables F → get_or s.values t 0 ≡ 2 → is_strict (row_on s.floats (variables F) t) ≡ true → Listed F s.words many t ⊎ Joined F i t
