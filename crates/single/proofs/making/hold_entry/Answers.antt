-- `hold_entry` adds one term at each end, and holds the row of the column. Assumes nothing.
use mathlib.Core.Path.{ap, ◌∙◌}
use lib.ListN.{set}
use Rattle.rows.specs.Row.{add_term}
use Rattle.rows.specs.Stored.{add_at}
use Rattle.rows.proofs.Held.{held_stays, held_moves}
use Rattle.single.proofs.Set.{fillable_set}
use Rattle.single.proofs.making.hold_entry.Goals as goal

pub returns-then-r-j : goal.returns-then-r-j
returns-then-r-j c =
    let a = c.args in
    held_stays _ (set a.start.now a.i a.v) a.f.now a.j a.k a.row
    c.from-r.ensures c.from-t.ensures c.half-coeff.ensures
    (fillable_set a.i a.v c.requires.fillable) c.requires.j_in_bounds.1 c.if-t-j.true c.if-r-j.true
    (c.add_at.ensures ∙ ap (add_at _ _ _ _) c.value_at.ensures) (c.add_term.ensures ∙ ap (add_term _ _) c.value_at-then-r-j.ensures)

pub returns : goal.returns
returns c =
    let a = c.args in
    held_moves _ (set a.start.now a.i a.v) a.f.now a.j a.k a.row
    c.from-r.ensures c.from-t.ensures c.half-coeff.ensures
    c.put_row.ensures (c.add_at-2.ensures ∙ ap (add_at _ _ _ _) c.value_at-2.ensures)
    c.row_at.ensures (c.add_term-2.ensures ∙ ap (add_term _ _) c.value_at-3.ensures)
