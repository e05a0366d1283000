-- What the work leaves in scratch, and what is written from it. Assumes nothing.
use Rattle.std.specs.Prelude.{ℕ, ◌/◌, ◌≤◌, ◌≡◌, List, length, Float}
use Rattle.weights.specs.Worth.{zero64}
use Rattle.scratch.specs.Cleared.{cleared}
use Rattle.scratch.specs.Over.{over}
use Rattle.field.specs.Field.{Field, entries}
use Rattle.mending.specs.Places.{mended}
use Rattle.mending.specs.Changes.{changes_of, numbered}
use Rattle.mending.specs.Lineup.{Roomy}
use Rattle.mending.specs.Gathering.{Gathers}
use Rattle.mending.specs.Report.{count_to}

-- everything is gathered, `kept` places and the marks of all entries, and the changes are counted
pub record Worked (F : Field) (kept changes : ℕ) (f₀ f : List Float) (u₀ u : List ℕ) : Type 0 where
  pub gathers : Gathers F kept f₀ f u₀ u
  pub counted : changes ≡ count_to (entries F) u (entries F)

-- what is asked where all is written: the scratches as the work left them, and room for the report
pub record Writable (F : Field) (kept changes : ℕ) (report : List ℕ) (f : List Float) (u : List ℕ) : Type 0 where
  pub roomy : Roomy F f u
  pub worked : Worked F kept changes f f u u
  pub room : changes ≤ length report / 3

-- the mended entries with zeros behind them, and the report
pub record Written (F : Field) (report rows' cols' : List ℕ) (q' : List Float) (report' : List ℕ) : Type 0 where
  pub rows_are : rows' ≡ over (mended F).rows (cleared 0 F.rows)
  pub cols_are : cols' ≡ over (mended F).cols (cleared 0 F.cols)
  pub quad_is : q' ≡ over (mended F).quad (cleared zero64 F.quad)
  pub report_is : report' ≡ over (numbered (changes_of F)) report

-- Each of the three entry lists has m entries or more.
pub record Within (m : ℕ) (F : Field) : Type 0 where
  pub in_rows : m ≤ length F.rows
  pub in_cols : m ≤ length F.cols
  pub in_quad : m ≤ entries F
