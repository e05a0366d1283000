-- The mended entries in the lists, from places and sums in scratch. Assumes nothing.
use Rattle.std.specs.Prelude.{ℕ, ◌+◌, ◌*◌, ◌<◌, ◌≤◌, ◌≡◌, List, map, length, get_or, Float}
use Rattle.scratch.specs.Region.{region}
use Rattle.scratch.specs.Over.{over}
use Rattle.mending.specs.Places.{row_in, column_in}

-- o places of a field of n variables stand from word m on, and their sums from float m on, where m is the lists' length
pub record Returnable (n o : ℕ) (f : List Float) (u rows cols : List ℕ) (q : List Float) : Type 0 where
  pub few_variables : n ≤ 4096
  pub few_entries : length q ≤ 32768
  pub rows_long : length rows ≡ length q
  pub cols_long : length cols ≡ length q
  pub few : o ≤ length q
  pub floats : length q + o ≤ length f
  pub words : length q + o ≤ length u
  pub below : (t : ℕ) → t < o → get_or u (length q + t) 0 < n * n

-- The mended entries stand at the front of the three lists, and what is behind them is as it was.
pub record Returned (n o : ℕ) (f : List Float) (u rows rows' cols cols' : List ℕ) (q q' : List Float) : Type 0 where
  pub rows_are : rows' ≡ over (map (row_in n) (region (length q) o u)) rows
  pub cols_are : cols' ≡ over (map (column_in n) (region (length q) o u)) cols
  pub quad_is : q' ≡ over (region (length q) o f) q
