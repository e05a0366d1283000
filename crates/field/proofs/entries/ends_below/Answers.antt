-- `ends_below` tests nothing where n is above every end that there is. Assumes nothing.
use mathlib.Core.Path.{sym}
use Rattle.field.proofs.Means.{below_means}
use borrow.Author.Rules.{rules}
use Rattle.field.proofs.entries.ends_below.Goals as goal

pub returns-then-n-gt65535 : goal.returns-then-n-gt65535
returns-then-n-gt65535 c = sym ((below_means _ _).1 (λ k l. search rules))
