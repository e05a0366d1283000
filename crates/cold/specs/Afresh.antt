-- What a probe with rows made afresh asks and leaves, and the pass over all variables after both probes. Assumes nothing.
use Rattle.std.specs.Prelude.{ℕ, zero, suc, ◌+◌, ◌<◌, ◌≤◌, ◌≡◌, List, length, get_or}
use Rattle.field.specs.Field.{Field, variables, Shaped, StartFor}
use Rattle.field.specs.Tests.{Ready}
use Rattle.places.specs.Places.{Adjacent}
use Rattle.run.specs.Cells.{base}
use Rattle.finding.specs.Emit.{Bench, emit_at}
use Rattle.walking.specs.Walk.{candidates_at}

-- the places stand in front of the words: all that is kept from one probe to the next, since no weight and no value is in it
abbrev pub Places : Field → List ℕ → Type 0
Places F u = Adjacent (variables F) F.rows F.cols u

-- what a probe asks: start values, as many values, room for the rows and the queue, and the places
pub record Afresh (F : Field) (s : List ℕ) (values floats : ℕ) (u : List ℕ) : Type 0 where
  pub shaped : Shaped F
  pub start : StartFor (variables F) s
  pub values_long : values ≡ variables F
  pub floats_room : variables F + variables F ≤ floats
  pub places : Places F u
  pub words_room : base F + variables F ≤ length u

-- what it leaves of the words: the places, and all that lies behind the queue
pub record Behind (F : Field) (u₀ u : List ℕ) : Type 0 where
  pub long : length u ≡ length u₀
  pub places : Places F u
  pub rest : (p : ℕ) → base F + variables F ≤ p → get_or u p 0 ≡ get_or u₀ p 0

-- the first j values stand in the words from `first` on, and what is in front of them and behind is as it was
pub record Laid (first j : ℕ) (values u₀ u : List ℕ) : Type 0 where
  pub long : length u ≡ length u₀
  pub are : (t : ℕ) → t < j → get_or u (first + t) 0 ≡ get_or values t 0
  pub front : (p : ℕ) → p < first → get_or u p 0 ≡ get_or u₀ p 0
  pub rest : (p : ℕ) → first + j ≤ p → get_or u p 0 ≡ get_or u₀ p 0

-- what is found of the first k variables, where what the probe at 0 left stands from `first` on, and what that at 1 left is t
unfoldable pub pass_to : List ℕ → List ℕ → ℕ → ℕ → ℕ → Bench → ℕ → Bench
pass_to s t i first at b zero = b
pass_to s t i first at b (suc k) = emit_at s t i first at (pass_to s t i first at b k) k

-- what the pass asks: the parts stand one behind the other, and there is room for a number of each variable
pub record Passable (s t u : List ℕ) (i first at end : ℕ) : Type 0 where
  pub small : i < 4096
  pub few : length s ≤ 4096
  pub same : length t ≡ length s
  pub first_room : first + length s ≤ at
  pub value_room : at + length s ≤ end
  pub end_room : end + length s ≤ length u

-- before the walk: the tests have passed, the places stand, and `count` free variables are the candidates
pub record Lined (F : Field) (s : List ℕ) (values floats : ℕ) (u : List ℕ) (count : ℕ) : Type 0 where
  pub ready : Ready F s floats (length u)
  pub values_long : values ≡ variables F
  pub places : Places F u
  pub within : count ≤ variables F
  pub free : (h : ℕ) → h < count → get_or s (get_or u (candidates_at F + h) 0) 0 ≡ 2
