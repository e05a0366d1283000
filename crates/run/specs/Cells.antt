-- Where a run stands in what is lent: the values; the rows at the front of the f64 scratch; the queue in the u32 scratch, behind the adjacency. Assumes nothing.
use Rattle.std.specs.Prelude.{ℕ, ◌+◌, ◌*◌, ◌<◌, ◌≤◌, ◌≡◌, true, false, List, length, get_or, set, take, drop, Float, Option, Some, None}
use Rattle.scratch.specs.Region.{region}
use Rattle.meaning.specs.Free.{frees}
use Rattle.field.specs.Field.{Field, variables, Shaped}
use Rattle.rows.specs.declared.Conclusion.{Conclusion}
use Rattle.rows.specs.declared.Verdict.{Verdict}
use Rattle.rows.specs.declared.Verdict.TheVariants.{Zero, One, Flat, Open}
use Rattle.rows.specs.Row.{value_of, is_forced}
use Rattle.rows.specs.Stored.{rows_on}
use Rattle.places.specs.Places.{Adjacent}
use Rattle.run.specs.Run.{Run}

-- the lists behind the lent slices, and how many variables are in the queue
pub record Cells : Type 0 where
  pub values : List ℕ
  pub floats : List Float
  pub words : List ℕ
  pub tail : ℕ

-- The lent lists of a run in one record: values, floats, words, and how many variables the queue holds.
abbrev pub cells : List ℕ → List Float → List ℕ → ℕ → Cells
cells vs f u tail = record { values = vs; floats = f; words = u; tail = tail }

-- where the queue begins: behind n + 1 offsets and two places for each entry
abbrev pub base : Field → ℕ
base F = variables F + 1 + 2 * length F.rows

-- the run that the cells hold
unfoldable pub run_in : Field → Cells → Run
run_in F s = record { values = s.values; rows = rows_on s.floats (variables F); queue = region (base F) s.tail s.words }

-- what a step asks: the field has its shape, the lists are long enough, the adjacency is in its place, and the queue holds variables
-- and has room for all that are free
pub record Placed (F : Field) (s : Cells) : Type 0 where
  pub shaped : Shaped F
  pub values_long : length s.values ≡ variables F
  pub floats_room : variables F + variables F ≤ length s.floats
  pub adjacent : Adjacent (variables F) F.rows F.cols s.words
  pub words_room : base F + variables F ≤ length s.words
  pub queue_room : s.tail + frees s.values ≤ variables F
  pub queue_below : (h : ℕ) → h < s.tail → get_or s.words (base F + h) 0 < variables F

-- what every step from s to s' keeps: what it asks, the lengths, the adjacency, and all that lies past the rows and past the queue
pub record Kept (F : Field) (s s' : Cells) : Type 0 where
  pub placed : Placed F s'
  pub grows : s.tail ≤ s'.tail
  pub front : take (base F) s'.words ≡ take (base F) s.words
  pub words_rest : drop (base F + s'.tail) s'.words ≡ drop (base F + s'.tail) s.words
  pub words_long : length s'.words ≡ length s.words
  pub floats_rest : drop (variables F + variables F) s'.floats ≡ drop (variables F + variables F) s.floats
  pub floats_long : length s'.floats ≡ length s.floats

-- the cells go from s to s' as the step g goes on runs
pub record Does (F : Field) (g : Run → Run) (s s' : Cells) : Type 0 where
  pub run : run_in F s' ≡ g (run_in F s)
  pub kept : Kept F s s'

-- what acting on a forced verdict leaves: the value at the conclusion's variable, and the variable at the end of the queue, which has a new end r
pub record Settled (found : Conclusion) (base tail : ℕ) (vs u vs' u' : List ℕ) (r : ℕ) : Type 0 where
  pub values : vs' ≡ set vs found.variable (value_of found.verdict)
  pub words : u' ≡ set u (base + tail) found.variable
  pub end : r ≡ tail + 1

-- The value that a verdict forces, if it forces one.
abbrev pub forced_by : Verdict → Option ℕ
forced_by (Zero b) = Some 0
forced_by (One b) = Some 1
forced_by Flat = None
forced_by Open = None

-- what acting on a conclusion leaves: a forced verdict is settled, and any other leaves all as it was
pub record Acted (found : Conclusion) (base tail : ℕ) (vs u vs' u' : List ℕ) (r : ℕ) : Type 0 where
  pub forced : is_forced found.verdict ≡ true → Settled found base tail vs u vs' u' r
  pub unforced : is_forced found.verdict ≡ false → (vs' ≡ vs) × ((u' ≡ u) × (r ≡ tail))
