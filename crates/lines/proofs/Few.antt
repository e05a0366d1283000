-- What a call gives is of the table, and no number of the table is above 18. Assumes nothing.
use Prim.Native.Nat.{ℕ, ◌≤◌}
use mathlib.Core.Path.{◌≡◌}
use native.Mathlib.Omega.{arith}
use Rattle.std.specs.Prelude.{Option, Result, Ok, Err}
use Rattle.field.specs.declared.Grade.{Grade}
use Rattle.field.specs.declared.Counted.{Counted}
use Rattle.field.specs.declared.Refusal.{Refusal}
use Rattle.field.specs.Answers.{Answer}
use Rattle.field.proofs.Answers.{number_most}
use Rattle.lines.specs.declared.outcomes.Outcome.{Outcome}
use Rattle.lines.specs.declared.outcomes.Undone.{Undone}
use Rattle.lines.specs.declared.outcomes.Undone.TheVariants.{Absent, Refusing, Numbered}
use Rattle.lines.specs.Outcomes.{outcome, refusing, undone_number, answered, checked, counted, Tabled}

module _ {e : Result Outcome Undone} where
  pub done_tabled : {g : Option Grade} {count pairs : ℕ} → e ≡ outcome g count pairs → Tabled e
  done_tabled is = rw is _

  pub refusing_tabled : {r : Refusal} → e ≡ refusing r → Tabled e
  refusing_tabled is = rw is _

  pub answered_tabled : (a : Answer Grade) → e ≡ answered a → Tabled e
  answered_tabled (Ok g) is = done_tabled is
  answered_tabled (Err r) is = refusing_tabled is

  pub checked_tabled : (a : Answer Unit) → e ≡ checked a → Tabled e
  checked_tabled (Ok x) is = done_tabled is
  checked_tabled (Err r) is = refusing_tabled is

  pub counted_tabled : (a : Answer Counted) → e ≡ counted a → Tabled e
  counted_tabled (Ok a) is = done_tabled is
  counted_tabled (Err r) is = refusing_tabled is

pub tabled_few : (u : Undone) → Tabled (Err u) → undone_number u ≤ 18
tabled_few Absent told = omega arith
tabled_few (Refusing r) told = number_most r
tabled_few (Numbered n) told = absurd told
