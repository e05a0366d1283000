-- What the code of a step goes by: the counts of one field from its start values and its values at the end, and the memory that is lent. Assumes nothing.
use Rattle.std.specs.Prelude.{ℕ, ◌+◌, ◌*◌, ◌≤◌, ◌≡◌, not, List, length, Option, Some, None, Err, Ok}
use Rattle.meaning.specs.Free.{is_free}
use Rattle.field.specs.declared.Grade.{Grade}
use Rattle.field.specs.declared.Grade.TheVariants.{Exact, Inexact}
use Rattle.field.specs.Field.{Field, variables, entries}
use Rattle.field.specs.Grade.{grade_of}
use Rattle.field.specs.Table.{tested}
use Rattle.field.specs.Tests.{standard_tests}
use Rattle.records.specs.Parsing.{SameLent}
use Rattle.records.specs.declared.parsing.Lists.{Lists}
use Rattle.run.specs.Run.{closure}
use Rattle.tally.specs.Pieces.{fault, count_to, is_forced_to}
use Rattle.tally.specs.Tally.{totals, counts_of, Small}
use Rattle.tally.specs.declared.Totals.{Totals}
use Rattle.tally.specs.declared.Reached.{Reached}
use Rattle.tally.specs.declared.counting.Fates.{Fates}
use Rattle.field.specs.Answers.{Answer, passed}

-- How many variables are given, forced to 0, forced to 1 and free.
abbrev pub fates : ℕ → ℕ → ℕ → ℕ → Fates
fates given to-zero to_one free = record { given = given; zero = to-zero; one = to_one; free = free }

-- The same of the first n variables, from their start values and their values at the end.
unfoldable pub fates_of : List ℕ → List ℕ → ℕ → Fates
fates_of start values n =
    fates (count_to (λ i. not (is_free start i)) n) (count_to (is_forced_to 0 start values) n) (count_to (is_forced_to 1 start values) n) (count_to (is_free values) n)

-- What a field that is read adds: one field, its grade, and its variables.
unfoldable pub with_fates : ℕ → ℕ → Fates → Totals
with_fates exact inexact d = totals 1 exact inexact 0 d.given d.zero d.one d.free

-- What a field that is read adds, by its grade.
unfoldable pub read_counts : Grade → List ℕ → List ℕ → Totals
read_counts Exact start values = with_fates 1 0 (fates_of start values (length start))
read_counts Inexact start values = with_fates 0 1 (fates_of start values (length start))

-- What a field adds whose tests were made: one refused field where a test failed.
unfoldable pub checked_counts : Answer Unit → Field → List ℕ → Totals
checked_counts (Ok x) F s = read_counts (grade_of F) s (closure F s)
checked_counts (Err r) F s = counts_of fault

-- the first of the tests 1 to 6 that fails decides
unfoldable pub field_counts : Field → List ℕ → Totals
field_counts F s = checked_counts (tested (standard_tests F s)) F s

-- the largest field's values, floats and words
pub record Few (v f u : ℕ) : Type 0 where
  pub values : 256 ≤ v
  pub floats : 6160 ≤ f
  pub words : 12304 ≤ u

-- a byte for each variable, and scratch as the closure asks
pub record Lends (F : Field) (s : List ℕ) (v f u : ℕ) : Type 0 where
  pub few_variables : variables F ≤ 256
  pub start_long : length s ≡ variables F
  pub values_long : v ≡ variables F
  pub floats : 8 * variables F + 4 * entries F + 16 ≤ f
  pub words : 16 * variables F + 8 * entries F + 16 ≤ u

-- what one field adds is little
pub data SmallMet : Option Reached → Type 0 where
  found : {m : Reached} → Small m.totals → SmallMet (Some m)
  malformed : SmallMet None

-- The same lists are lent, and they are as long as they were.
pub record Kept (l l' : Lists) : Type 0 where
  pub same_lent : SameLent l l'
  pub linear_long : length l'.c.now ≡ length l.c.now
  pub rows_long : length l'.rows.now ≡ length l.rows.now
  pub cols_long : length l'.cols.now ≡ length l.cols.now
  pub quad_long : length l'.q.now ≡ length l.q.now
  pub start_long : length l'.start.now ≡ length l.start.now
