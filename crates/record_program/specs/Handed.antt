-- What the record program hands over. Assumes nothing.
use Rattle.std.specs.Prelude.{ℕ, ◌≡◌, List, length}
use Rattle.answering.specs.Answer.{answer_bytes}
use Rattle.tally.specs.declared.Tally.{Tally}
use Rattle.tally.specs.Text.{tally_text}

-- How many bytes are handed over: those of the answer to some input, or of some tally.
pub data Handed (r : ℕ) : Type 0 where
  an_answer : (s : List ℕ) → r ≡ length (answer_bytes s) → Handed r
  a_tally : (y : Tally) → r ≡ length (tally_text y) → Handed r
