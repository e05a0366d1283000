-- What entering the findings of some variables leaves in the words. Assumes nothing.
use Rattle.std.specs.Prelude.{ℕ, ◌+◌, ◌<◌, ◌≤◌, ◌≡◌, ◌≢◌, ◌⊎◌, length, get_or}
use mathlib.Core.List.{List, ◌++◌, Memᴰ}
use Rattle.meaning.specs.Kinds.{Constraint}
use Rattle.meaning.specs.Records.{Record, record_of}
use Rattle.found.specs.Holding.{Gathering}
use Rattle.probe.specs.Found.{Finding, constraint}
use Rattle.finding.specs.Finds.{wins}
use Rattle.finding.specs.Emit.{Bench}

-- x is the record of what d finds of a variable below n
pub record FoundOf (d : ℕ → Finding) (n : ℕ) (x : Record) : Type 0 where
  pub variable : ℕ
  pub below : variable < n
  pub is : Constraint
  pub finds : d variable ≡ constraint is
  pub same : x ≡ record_of is

-- from a to b, findings of variables below n are entered, those of all with X among them, where the probe values stand from `at` on
pub record Enters (d : ℕ → Finding) (n at : ℕ) (X : ℕ → Type 0) (a b : Bench) : Type 0 where
  pub long : length b.words ≡ length a.words
  pub low : a.end ≤ b.end
  pub others : (p : ℕ) → p < a.end → ((j : ℕ) → j < n → p ≢ at + j) → get_or b.words p 0 ≡ get_or a.words p 0
  pub old_or_won : (j : ℕ) → j < n → (get_or b.words (at + j) 0 ≡ get_or a.words (at + j) 0) ⊎ (get_or b.words (at + j) 0 ≡ wins (d j) (get_or a.words (at + j) 0))
  pub won : (j : ℕ) → j < n → X j → get_or b.words (at + j) 0 ≡ wins (d j) (get_or a.words (at + j) 0)
  pub records : List Record
  pub sound : (x : Record) → Memᴰ x records → FoundOf d n x
  pub all : (j : ℕ) → j < n → X j → (c : Constraint) → d j ≡ constraint c → Memᴰ (record_of c) records
  pub gathers : {S : List Record} {lo held : ℕ} {list₀ list : List ℕ} → at + n ≤ lo
      → Gathering S lo a.end held list₀ list a.words → Gathering (records ++ S) lo b.end held list₀ list b.words
