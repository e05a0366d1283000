-- `own_row` adds one term a turn. Assumes nothing.
use native.Mathlib.Omega.{arith}
use Rattle.kept.proofs.Elsewhere.{other_below}
use Rattle.kept.proofs.Entries.{adds_start, adds_turn, adds_end}
use Rattle.kept.proofs.turning.own_row.Goals as goal

pub next_entry-k-requires : goal.next_entry-k-requires
next_entry-k-requires c =
    let shaped = c.requires.sound.shaped in
    record { rows_len = omega (arith, shaped.rows_long, shaped.cols_long); rows_len_bound = omega (arith, shaped.rows_long, shaped.few_entries); from_in_bounds = omega arith }

pub loop-k-init : goal.loop-k-init
loop-k-init c = adds_start _ _ _ c.start-row.ensures c.next_entry-k.ensures

pub other_end-t-requires : goal.other_end-t-requires
other_end-t-requires c =
    let shaped = c.requires.sound.shaped in
    record { k_in_bounds = c.loop-k-test.true; k_in_bounds_2 = omega (arith, c.loop-k-test.true, shaped.rows_long, shaped.cols_long) }

pub bounds-field-k : goal.bounds-field-k
bounds-field-k c =
    let shaped = c.requires.sound.shaped in
    omega (arith, c.loop-k-test.true, shaped.rows_long)

pub bounds-values-t : goal.bounds-values-t
bounds-values-t c =
    let shaped = c.requires.sound.shaped in
    omega (arith, c.other_end-t.ensures, other_below shaped c.args.i c.loop-k.k (omega (arith, c.loop-k-test.true, shaped.rows_long)), c.requires.sound.start.long)

pub next_entry-k-requires-in-loop-k : goal.next_entry-k-requires-in-loop-k
next_entry-k-requires-in-loop-k c =
    let shaped = c.requires.sound.shaped in
    record { rows_len = omega (arith, shaped.rows_long, shaped.cols_long); rows_len_bound = omega (arith, shaped.rows_long, shaped.few_entries); from_in_bounds = omega (arith, c.loop-k-test.true) }

pub loop-k-preserved : goal.loop-k-preserved
loop-k-preserved c =
    let shaped = c.requires.sound.shaped in
    adds_turn _ _ _ _ c.loop-k.invariant c.loop-k-test.true (c.requires.sound.standard c.loop-k.k (omega (arith, c.loop-k-test.true, shaped.rows_long)))
    c.half.ensures c.other_end-t.ensures c.add_term-row.ensures c.next_entry-k-in-loop-k.ensures

pub returns : goal.returns
returns c = adds_end _ _ _ _ c.loop-k.invariant c.requires.sound.shaped c.loop-k-test.false
