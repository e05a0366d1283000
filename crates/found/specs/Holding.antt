-- What a caller keeps from flush to flush. Assumes nothing.
use Rattle.std.specs.Prelude.{ℕ, ◌≤◌, ◌≡◌, length}
use mathlib.Core.List.{List, ◌++◌, map, Memᴰ}
use Rattle.std.proofs.Math.Seq.{slice}
use Rattle.meaning.specs.Records.{Record}
use Rattle.meaning.specs.Rising.{merged_list}
use Rattle.constraints.specs.Record.{room, filled}
use Rattle.constraints.specs.Keys.{unkey, Small}
use Rattle.sorting.specs.Numbers.{Keys}

-- two lists have the same records
pub record SameSet (l m : List Record) : Type 0 where
  pub to : (y : Record) → Memᴰ y l → Memᴰ y m
  pub from : (y : Record) → Memᴰ y m → Memᴰ y l

-- the list holds what was found so far, S, merged, over what it was at first
pub record Holding (S : List Record) (list₀ list : List ℕ) : Type 0 where
  pub small : (x : Record) → Memᴰ x S → Small x
  pub fits : length (merged_list S) ≤ room list₀
  pub is : list ≡ filled (merged_list S) list₀

-- what a caller that gathers keeps: all that was found so far, F, stands in the list or among the words from lo to hi
pub record Gathering (F : List Record) (lo hi held : ℕ) (list₀ list u : List ℕ) : Type 0 where
  pub flushed : List Record
  pub holding : Holding flushed list₀ list
  pub count : held ≡ length (merged_list flushed)
  pub keys : Keys lo hi u
  pub all : SameSet F (map unkey (slice lo hi u) ++ flushed)
