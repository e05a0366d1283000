-- `add_columns` makes one turn of the pass at a time, with the row of the column held. Assumes nothing.
use native.Mathlib.Omega.{arith}
use Rattle.rows.proofs.Pass.{pass_start, pass_done}
use Rattle.rows.proofs.Held.{hold_start, hold_ready, hold_turn, hold_done}
use Rattle.single.proofs.Set.{fillable_set, fillable_unset}
use Rattle.single.proofs.making.add_columns.Goals as goal

pub returns-then-field-eq0 : goal.returns-then-field-eq0
returns-then-field-eq0 c = pass_done (pass_start (fillable_set _ _ c.requires.fillable) c.requires.by_index) (omega (arith, c.if-field-eq0.true))

pub row_at-row-requires : goal.row_at-row-requires
row_at-row-requires c =
    let ready = c.requires.fillable in
    omega (arith, ready.shaped.column_below 0 (omega (arith, c.if-field-eq0.false)), c.from-j.ensures, ready.room)

pub loop-k-init : goal.loop-k-init
loop-k-init c =
    let below = c.requires.fillable.shaped.column_below 0 (omega (arith, c.if-field-eq0.false)) in
    hold_start (fillable_set _ _ c.requires.fillable) c.requires.by_index (omega (arith, below, c.from-j.ensures)) c.row_at-row.ensures

pub hold_entry-row-requires : goal.hold_entry-row-requires
hold_entry-row-requires c = let inv = c.loop-k.invariant in
    record { fillable = fillable_unset _ _ (hold_ready inv); j_in_bounds = (inv.here, c.loop-k-test.true) }

pub loop-k-preserved : goal.loop-k-preserved
loop-k-preserved c =
    let entry = c.hold_entry-row in
    hold_turn c.loop-k.invariant entry.new.f entry.result c.loop-k-test.true c.from-j-in-loop-k.ensures entry.ensures

pub put_row-requires : goal.put_row-requires
put_row-requires c = let inv = c.loop-k.invariant in omega (arith, inv.here, (hold_ready inv).room)

pub returns : goal.returns
returns c = hold_done c.loop-k.invariant c.put_row.ensures c.loop-k-test.false
