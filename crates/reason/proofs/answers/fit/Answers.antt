-- `fit` lists the marked variables, or clears the list. Assumes nothing.
use native.Mathlib.Omega.{arith}
use Rattle.reason.proofs.Calls.{fit_full, fit_done}
use Rattle.reason.proofs.answers.fit.Goals as goal

pub count_marked-count-requires : goal.count_marked-count-requires
count_marked-count-requires c = c.requires

pub returns-then-count-list : goal.returns-then-count-list
returns-then-count-list c = fit_full _ _ _ _ c.count_marked-count.ensures c.if-count-list.true (c.fill.ensures.after (λ y e. e))

pub list_marked-requires : goal.list_marked-requires
list_marked-requires c = record { values_len_bound = c.requires; values_in_bounds = omega (arith, c.count_marked-count.ensures, c.if-count-list.false) }

pub returns : goal.returns
returns c = fit_done _ _ _ _ c.count_marked-count.ensures c.if-count-list.false c.list_marked.ensures
