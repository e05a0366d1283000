-- What both probes of one candidate ask of the workspace, and what they leave. Assumes nothing.
use Rattle.std.specs.Prelude.{ℕ, ◌+◌, ◌<◌, ◌≤◌, ◌≡◌, ◌≢◌, ◌⊎◌, List, Float, length, get_or, set}
use Rattle.meaning.specs.Records.{Record}
use Rattle.found.specs.Holding.{Gathering}
use Rattle.field.specs.Field.{Field, variables}
use Rattle.run.specs.Cells.{base}
use Rattle.run.specs.Run.{closure}
use Rattle.probing.specs.declared.Known.{Known}
use Rattle.probing.specs.Remembered.{Remembers}
use Rattle.workspace.specs.Restored.{From}
use Rattle.finding.specs.Finds.{wins, gives_at, finding, records_to}

-- where the values that the probe at 0 gives are remembered, 2 for none: behind the queue and the list of what is strict
abbrev pub first_at : Field → ℕ
first_at F = base F + variables F + variables F

-- where the probe values stand
abbrev pub values_at : Field → ℕ
values_at F = first_at F + variables F

-- where the variables that the probe at 0 forced are kept, behind the probe values and n words that are left alone
abbrev pub kept_at : Field → ℕ
kept_at F = values_at F + variables F + variables F

-- the workspace, a free variable i, no value remembered, and room
pub record Twinnable (F : Field) (s : List ℕ) (f : List Float) (u : List ℕ) (known : Known) (i : ℕ) : Type 0 where
  pub remembers : Remembers F s f u known
  pub few : variables F ≤ 4096
  pub free : get_or s i 0 ≡ 2
  pub first : (j : ℕ) → j < variables F → get_or u (first_at F + j) 0 ≡ 2
  pub room : kept_at F + variables F ≤ length u

-- the gathered numbers end at `end`, with room for as many behind them as there are variables
pub record EndFor (F : Field) (u : List ℕ) (end : ℕ) : Type 0 where
  pub low : kept_at F + variables F ≤ end
  pub room : end + variables F ≤ length u

-- after the probe at 0: the workspace stands again, what the probe gives is remembered, and the k variables that it forced are kept, which
-- were free and stand there once
pub record Halfway (F : Field) (s : List ℕ) (f : List Float) (u : List ℕ) (known : Known) (i k : ℕ) : Type 0 where
  pub remembers : Remembers F s f u known
  pub few : variables F ≤ 4096
  pub free : get_or s i 0 ≡ 2
  pub first : (j : ℕ) → j < variables F → get_or u (first_at F + j) 0 ≡ gives_at i j (get_or s j 0) (get_or (closure F (set s i 0)) j 0)
  pub forced : (j : ℕ) → j < variables F → From u (kept_at F) k 0 j ⊎ (get_or u (first_at F + j) 0 ≡ 2)
  pub count : k ≤ variables F
  pub kept_free : (p : ℕ) → p < k → get_or s (get_or u (kept_at F + p) 0) 0 ≡ 2
  pub apart : (p q : ℕ) → p < q → q < k → get_or u (kept_at F + p) 0 ≢ get_or u (kept_at F + q) 0

-- the words behind what is remembered are what they were, but for the kept list
pub record Beside (F : Field) (u₀ u : List ℕ) : Type 0 where
  pub long : length u ≡ length u₀
  pub before : (p : ℕ) → values_at F ≤ p → p < kept_at F → get_or u p 0 ≡ get_or u₀ p 0
  pub behind : (p : ℕ) → kept_at F + variables F ≤ p → get_or u p 0 ≡ get_or u₀ p 0

-- after both: the workspace stands again, with no value remembered; the probe values are those of the findings; what was gathered is
-- gathered still, with what is found; and the words between are what they were
pub record Twinned (F : Field) (s : List ℕ) (f : List Float) (known : Known) (i : ℕ) (u₀ : List ℕ) (end : ℕ) (u : List ℕ) (r : ℕ) : Type 0 where
  pub remembers : Remembers F s f u known
  pub long : length u ≡ length u₀
  pub first : (j : ℕ) → j < variables F → get_or u (first_at F + j) 0 ≡ 2
  pub values : (j : ℕ) → j < variables F → get_or u (values_at F + j) 0 ≡ wins (finding F s i j) (get_or u₀ (values_at F + j) 0)
  pub between : (j : ℕ) → j < variables F → get_or u (values_at F + variables F + j) 0 ≡ get_or u₀ (values_at F + variables F + j) 0
  pub gathers : {S : List Record} {lo held : ℕ} {list₀ list : List ℕ} → kept_at F + variables F ≤ lo
      → Gathering S lo end held list₀ list u₀ → Gathering (records_to (finding F s i) S (variables F)) lo r held list₀ list u
