-- `find` marks the ends, then puts the rest into the list. Assumes nothing.
use mathlib.Core.Path.{◌∙◌}
use Rattle.no_effect.proofs.Laws.{idle_found}
use Rattle.no_effect.proofs.find.Goals as goal

pub returns : goal.returns
returns c =
    let a = c.args in
    c.put_all.ensures ∙ idle_found a.field.c.now a.field.rows.now a.field.cols.now a.field.q.now c.mark_ends.new.u c.mark_ends.ensures
    a.list.now
