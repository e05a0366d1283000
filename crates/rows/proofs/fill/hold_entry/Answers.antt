-- `hold_entry` adds one term at each end, and holds the row of the column. Assumes nothing.
use Rattle.rows.proofs.Held.{held_stays, held_moves}
use Rattle.rows.proofs.fill.hold_entry.Goals as goal

pub returns : goal.returns
returns c =
    let a = c.args in
    held_moves _ a.values.now a.f.now a.j a.k a.row
    c.from-i.ensures c.from-t.ensures c.half-coeff.ensures
    c.put_row.ensures c.add_at-2.ensures c.row_at.ensures c.add_term-2.ensures

pub returns-then-i-j : goal.returns-then-i-j
returns-then-i-j c =
    let a = c.args in
    held_stays _ a.values.now a.f.now a.j a.k a.row
    c.from-i.ensures c.from-t.ensures c.half-coeff.ensures
    c.requires.fillable c.requires.j_in_bounds.1 c.if-t-j.true c.if-i-j.true
    c.add_at.ensures c.add_term.ensures
