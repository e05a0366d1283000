-- `add_columns` makes one turn of the pass at a time, with the row of the column held. Assumes nothing.
use Prim.Native.Nat.{◌<◌}
use mathlib.Core.Path.{◌≡◌}
use lib.ListN.{length}
use native.Mathlib.Omega.{arith}
use Rattle.rows.proofs.Pass.{pass_start, pass_done}
use Rattle.rows.proofs.Held.{hold_start, hold_turn, hold_done}
use borrow.Author.Rules.{rules}
use Rattle.rows.proofs.fill.add_columns.Goals as goal

pub returns-then-is_empty : goal.returns-then-is_empty
returns-then-is_empty c =
    pass_done (pass_start c.requires.fillable c.requires.by_index) (let e : length c.args.field.q.now ≡ 0 = search rules in omega (arith, e))

pub loop-k-init : goal.loop-k-init
loop-k-init c =
    let some : 0 < length c.args.field.q.now = search rules in
    let below = c.requires.fillable.shaped.column_below 0 some in
    hold_start c.requires.fillable c.requires.by_index (omega (arith, below, c.from-j.ensures)) c.row_at-row.ensures

pub loop-k-preserved : goal.loop-k-preserved
loop-k-preserved c =
    hold_turn c.loop-k.invariant c.hold_entry-row.new.f c.hold_entry-row.result c.loop-k-test.true c.from-j-in-loop-k.ensures
    c.hold_entry-row.ensures

pub returns : goal.returns
returns c = hold_done c.loop-k.invariant c.put_row.ensures c.loop-k-test.false
