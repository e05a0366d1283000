-- A neighbour's row is made afresh once, though two entries lead to it: what a turn at one place does. Assumes nothing.
use Rattle.std.specs.Prelude.{ℕ, ◌+◌, ◌<◌, ◌≤◌, ◌≡◌, ◌≢◌, ◌⊎◌, List, length, get_or}
use Rattle.field.specs.Field.{Field, variables}
use Rattle.run.specs.Cells.{Cells, Does}
use Rattle.probing.specs.Remembered.{fresh_at}

-- a cursor in the part of i, which stops at `end`
pub record Within (F : Field) (u : List ℕ) (i end x : ℕ) : Type 0 where
  pub here : i < variables F
  pub from : get_or u i 0 ≤ x
  pub to : x ≤ end
  pub stop : end ≡ get_or u (i + 1) 0

-- i is not the row of entry k, and is the row of another, whose column is the row of entry k: both lead to one neighbour
pub record Paired (F : Field) (i k : ℕ) : Type 0 where
  pub apart : get_or F.rows k 0 ≢ i
  pub entry : ℕ
  pub within : entry < length F.rows
  pub near : get_or F.rows entry 0 ≡ i
  pub far : get_or F.cols entry 0 ≡ get_or F.rows k 0

-- the row at place k is made afresh, or is left to the entry that leads there too
abbrev pub Once : Field → ℕ → ℕ → Cells → Cells → Type 0
Once F i k s s' = Does F (λ run. fresh_at F i run k) s s' ⊎ (Does F (λ run. run) s s' × Paired F i k)
