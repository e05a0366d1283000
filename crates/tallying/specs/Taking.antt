-- What the code of a turn goes by: the fields that lie whole in the bytes that are held. Assumes nothing.
use Rattle.std.specs.Prelude.{ℕ, ◌<◌, ◌≤◌, ◌≡◌, Bool, true, false, List, [], ◌++◌, ltb, length, drop}
use Rattle.records.specs.WellFormed.{longest_input}
use Rattle.std.specs.declared.ops.ControlFlow.{ControlFlow}
use Rattle.std.specs.declared.ops.ControlFlow.TheVariants.{Continue, Break}
use Rattle.tally.specs.Tally.{tally_on, Small}
use Rattle.tally.specs.declared.Reached.{Reached}
use Rattle.tally.specs.declared.Tally.{Tally}
use Rattle.tally.specs.declared.Totals.{Totals}
use Rattle.tallying.specs.Reads.{Bytes, fields_of}

-- more bytes are left than any field has, or, at the end of the input, some
unfoldable pub is_enough : Bool → ℕ → Bool
is_enough true left = ltb 0 left
is_enough false left = ltb longest_input left

-- bytes that may follow: at the end of the input none
pub record Follows (last : Bool) (more : List ℕ) : Type 0 where
  pub bytes : Bytes more
  pub none : last ≡ true → more ≡ []

-- the tally that is to come: of the bytes from an index on and of more, or the one that is there
abbrev pub left_of : ℕ → ControlFlow Tally Reached → List ℕ → List ℕ → Tally
left_of most (Continue r) s more = tally_on most r.totals (drop r.at s ++ more)
left_of most (Break y) s more = y

-- the index behind the fields that were taken: at the end of the input there are no others, and of more bytes than any field has one at least
pub record Onto (last : Bool) (t : Totals) (s : List ℕ) (t' : Totals) (at : ℕ) : Type 0 where
  pub small : Small t'
  pub inside : at ≤ length s
  pub all : last ≡ true → at ≡ length s
  pub moved : longest_input < length s → 0 < at
  pub further : longest_input < length s → fields_of t < fields_of t'

-- What is left after fields were taken: an index behind them, or the tally with small totals.
abbrev pub Went : Bool → Totals → List ℕ → ControlFlow Tally Reached → Type 0
Went last t s (Continue r) = Onto last t s r.totals r.at
Went last t s (Break y) = Small y.totals

-- Fields were taken from the front: whatever may follow, the tally to come is what it was.
pub record Takes (last : Bool) (most : ℕ) (t : Totals) (s : List ℕ) (r : ControlFlow Tally Reached) : Type 0 where
  pub same : (more : List ℕ) → Follows last more → left_of most r s more ≡ tally_on most t (s ++ more)
  pub went : Went last t s r
