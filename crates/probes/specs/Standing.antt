-- The workspace with its candidates, and what is handed over from it. Assumes nothing.
use Rattle.std.specs.Prelude.{ℕ, ◌+◌, ◌<◌, ◌≤◌, ◌≡◌, List, Float, length, get_or, take, Err}
use Rattle.scratch.specs.Region.{region}
use Rattle.field.specs.Field.{Field, variables}
use Rattle.calls.specs.Call.{run}
use Rattle.probing.specs.declared.Known.{Known}
use Rattle.probe.specs.Call.{cold}
use Rattle.probing.specs.Remembered.{Remembers}
use Rattle.walking.specs.Walk.{candidates_at, gather_at}
use Rattle.ranking.specs.Ranking.{ranks}
use Rattle.probes.specs.Call.{Left, later_by, result_by}

-- 2 stands in the j words from `at` on, and what is in front of them is as it was
pub record Noned (at j : ℕ) (u₀ u : List ℕ) : Type 0 where
  pub long : length u ≡ length u₀
  pub front : take at u ≡ take at u₀
  pub none : (t : ℕ) → t < j → get_or u (at + t) 0 ≡ 2
  pub behind : (t : ℕ) → at + j ≤ t → get_or u t 0 ≡ get_or u₀ t 0

-- n words from `at` on, each of them a byte
pub record Bytes (at n : ℕ) (u : List ℕ) : Type 0 where
  pub room : at + n ≤ length u
  pub small : (j : ℕ) → j < n → get_or u (at + j) 0 ≤ 255

-- the workspace at s, `count` free variables as candidates, and room
pub record Standing (F : Field) (s : List ℕ) (f : List Float) (u : List ℕ) (known : Known) (count : ℕ) : Type 0 where
  pub remembers : Remembers F s f u known
  pub within : count ≤ variables F
  pub free : (h : ℕ) → h < count → get_or s (get_or u (candidates_at F + h) 0) 0 ≡ 2
  pub space : gather_at F + variables F ≤ length u

-- the first `limit` of the ranks stand as candidates, and what is in front of them and of the masses is as it was
pub record Chosen (F : Field) (s : List ℕ) (limit : ℕ) (f f' : List Float) (u u' : List ℕ) (count : ℕ) : Type 0 where
  pub floats_long : length f' ≡ length f
  pub floats_front : take (variables F + variables F + (variables F + variables F)) f' ≡ take (variables F + variables F + (variables F + variables F)) f
  pub words_long : length u' ≡ length u
  pub words_front : take (candidates_at F) u' ≡ take (candidates_at F) u
  pub within : count ≤ variables F
  pub are : region (candidates_at F) count u' ≡ take limit (ranks F s)

-- what is settled past test 8
abbrev pub settled : Field → List ℕ → List ℕ → List ℕ → List ℕ → List Float → List ℕ → Left
settled F s cands t k f u = run Err (later_by cold F s cands t k f u) (result_by cold F s cands k f u)
