-- What the walk over the candidates keeps, asks and leaves. Assumes nothing.
use Rattle.std.specs.Prelude.{ℕ, ◌+◌, ◌-◌, ◌<◌, ◌≤◌, ◌≡◌, cond, List, leb, Float, length, get_or, take, Option, Some, None}
use Rattle.scratch.specs.Region.{region}
use Rattle.constraints.specs.Record.{room, filled}
use Rattle.meaning.specs.Records.{Record}
use Rattle.meaning.specs.Rising.{merged_list}
use Rattle.found.specs.Flush.{Left, left, flushed}
use Rattle.found.specs.Holding.{Gathering}
use Rattle.field.specs.Field.{Field, variables}
use Rattle.probing.specs.declared.Known.{Known}
use Rattle.probing.specs.Remembered.{Remembers}
use Rattle.finding.specs.Finds.{wins, finding, records_to, records_of, values_of}
use Rattle.twin.specs.Twin.{first_at, values_at}

-- where the candidates stand, behind the probe values
abbrev pub candidates_at : Field → ℕ
candidates_at F = values_at F + variables F

-- where the gathered numbers begin, behind the candidates and the variables that a probe at 0 forced
abbrev pub gather_at : Field → ℕ
gather_at F = candidates_at F + variables F + variables F

-- the probe values in the words
abbrev pub values_left : Field → List ℕ → List ℕ
values_left F u = region (values_at F) (variables F) u

-- ---- room for the numbers of one candidate

-- the numbers are flushed where fewer than n places are left behind them
unfoldable pub roomed : List ℕ → ℕ → List ℕ → ℕ → ℕ → ℕ → Left
roomed list held u lo hi n = cond (leb n (length u - hi)) (left (Some held) list u) (flushed list held u lo hi)

-- Where the gathered numbers end after room was made: at their beginning if they were flushed.
unfoldable pub end_after : ℕ → ℕ → ℕ → ℕ → ℕ
end_after long lo hi n = cond (leb n (long - hi)) hi lo

-- ---- the walk over remembered rows

-- the workspace at s, and 2 as every remembered value
pub record Workspace (F : Field) (s : List ℕ) (f : List Float) (known : Known) (u : List ℕ) : Type 0 where
  pub remembers : Remembers F s f u known
  pub first : (j : ℕ) → j < variables F → get_or u (first_at F + j) 0 ≡ 2

-- the workspace at s, `count` free variables as candidates, 2 as every probe value and every remembered one, and room
pub record Walkable (F : Field) (s : List ℕ) (f : List Float) (u : List ℕ) (known : Known) (count : ℕ) : Type 0 where
  pub remembers : Remembers F s f u known
  pub few : variables F ≤ 4096
  pub within : count ≤ variables F
  pub free : (h : ℕ) → h < count → get_or s (get_or u (candidates_at F + h) 0) 0 ≡ 2
  pub first : (j : ℕ) → j < variables F → get_or u (first_at F + j) 0 ≡ 2
  pub none : (j : ℕ) → j < variables F → get_or u (values_at F + j) 0 ≡ 2
  pub space : gather_at F + variables F ≤ length u

-- ---- one candidate after the other, whatever works the probes

-- what P says of the words it says of those in front of the gathered numbers
abbrev pub Stays : Field → (List ℕ → Type 0) → Type 0
Stays F P = (u u' : List ℕ) → take (gather_at F) u' ≡ take (gather_at F) u → length u' ≡ length u → P u → P u'

-- before the first: P stands, `count` free variables are the candidates, every probe value is 2, and there is room
pub record Begins (F : Field) (s : List ℕ) (P : List ℕ → Type 0) (u : List ℕ) (count : ℕ) : Type 0 where
  pub stand : P u
  pub few : variables F ≤ 4096
  pub within : count ≤ variables F
  pub free : (h : ℕ) → h < count → get_or s (get_or u (candidates_at F + h) 0) 0 ≡ 2
  pub none : (j : ℕ) → j < variables F → get_or u (values_at F + j) 0 ≡ 2
  pub space : gather_at F + variables F ≤ length u

-- what the probes of candidate i add to the words: their probe values, and the records of what they find behind the gathered ones
pub record Adds (F : Field) (s : List ℕ) (i : ℕ) (u₀ : List ℕ) (end : ℕ) (u : List ℕ) (r : ℕ) : Type 0 where
  pub long : length u ≡ length u₀
  pub values : (j : ℕ) → j < variables F → get_or u (values_at F + j) 0 ≡ wins (finding F s i j) (get_or u₀ (values_at F + j) 0)
  pub between : (j : ℕ) → j < variables F → get_or u (candidates_at F + j) 0 ≡ get_or u₀ (candidates_at F + j) 0
  pub gathers : {S : List Record} {held : ℕ} {list₀ list : List ℕ} → Gathering S (gather_at F) end held list₀ list u₀
      → Gathering (records_to (finding F s i) S (variables F)) (gather_at F) r held list₀ list u

-- after k candidates: P stands, and the probe values and the candidates stand in their places
pub record Stands (F : Field) (s : List ℕ) (P : List ℕ → Type 0) (cands : List ℕ) (k : ℕ) (u : List ℕ) : Type 0 where
  pub stand : P u
  pub few : variables F ≤ 4096
  pub space : gather_at F + variables F ≤ length u
  pub values : (j : ℕ) → j < variables F → get_or u (values_at F + j) 0 ≡ get_or (values_of F s cands k) j 0
  pub listed : (h : ℕ) → h < length cands → get_or u (candidates_at F + h) 0 ≡ get_or cands h 0
  pub within : length cands ≤ variables F
  pub free : (h : ℕ) → h < length cands → get_or s (get_or cands h 0) 0 ≡ 2

-- and the record of every constraint found so far stands in the list or among the words
pub record Walks (F : Field) (s : List ℕ) (P : List ℕ → Type 0) (cands : List ℕ) (k : ℕ) (list₀ list : List ℕ) (held : ℕ) (u : List ℕ) (end : ℕ) : Type 0 where
  pub stands : Stands F s P cands k u
  pub gathers : Gathering (records_of F s cands k) (gather_at F) end held list₀ list u

-- ---- the end

-- all candidates are done, and the probe values stand in their place
abbrev pub Valued : Field → List ℕ → List ℕ → List ℕ → Type 0
Valued F s cands u = values_left F u ≡ values_of F s cands (length cands)

-- all candidates are done, and the list holds what was found; or it has no room for that
pub data Walked (F : Field) (s cands list₀ : List ℕ) : Option ℕ → List ℕ → List ℕ → Type 0 where
  holds : {list u : List ℕ} → length (merged_list (records_of F s cands (length cands))) ≤ room list₀
      → list ≡ filled (merged_list (records_of F s cands (length cands))) list₀
      → Valued F s cands u
      → Walked F s cands list₀ (Some (length (merged_list (records_of F s cands (length cands))))) list u
  full : {list u : List ℕ} → room list₀ < length (merged_list (records_of F s cands (length cands))) → Walked F s cands list₀ None list u
