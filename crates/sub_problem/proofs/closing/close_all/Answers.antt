-- `close_all` closes up the entries and clears what is behind them. Assumes nothing.
use lib.Ieee.{binary64, of_bits}
use native.Mathlib.Omega.{arith}
use Rattle.sub_problem.proofs.Laws.{kept_few, rows_fit, cols_fit, quad_fits, filled, entries_closed}
use Rattle.sub_problem.proofs.closing.close_all.Goals as goal

pub close_entries-kept-requires : goal.close_entries-kept-requires
close_entries-kept-requires c = record { usable = c.requires.usable; numbers = c.requires.numbers }

pub offset_bounds-rows-kept : goal.offset_bounds-rows-kept
offset_bounds-rows-kept c = omega (arith, kept_few c.requires.usable c.close_entries-kept.ensures)

pub slice_bounds-fill-count : goal.slice_bounds-fill-count
slice_bounds-fill-count c = rows_fit c.requires.usable c.close_entries-kept.ensures

pub slice_bounds-fill-start : goal.slice_bounds-fill-start
slice_bounds-fill-start c = rows_fit c.requires.usable c.close_entries-kept.ensures

pub offset_bounds-cols-kept : goal.offset_bounds-cols-kept
offset_bounds-cols-kept c = omega (arith, kept_few c.requires.usable c.close_entries-kept.ensures)

pub slice_bounds-fill-count-2 : goal.slice_bounds-fill-count-2
slice_bounds-fill-count-2 c = cols_fit c.requires.usable c.close_entries-kept.ensures

pub slice_bounds-fill-start-2 : goal.slice_bounds-fill-start-2
slice_bounds-fill-start-2 c = cols_fit c.requires.usable c.close_entries-kept.ensures

pub offset_bounds-q-kept : goal.offset_bounds-q-kept
offset_bounds-q-kept c = omega (arith, kept_few c.requires.usable c.close_entries-kept.ensures)

pub slice_bounds-fill-count-3 : goal.slice_bounds-fill-count-3
slice_bounds-fill-count-3 c = quad_fits c.requires.usable c.close_entries-kept.ensures

pub slice_bounds-fill-start-3 : goal.slice_bounds-fill-start-3
slice_bounds-fill-start-3 c = quad_fits c.requires.usable c.close_entries-kept.ensures

pub returns : goal.returns
returns c =
    let closed = c.close_entries-kept.ensures in
    entries_closed c.requires.usable closed
    (filled 0 _ _ (rows_fit c.requires.usable closed) (c.fill.ensures.after (λ y e. e)))
    (filled 0 _ _ (cols_fit c.requires.usable closed) (c.fill-2.ensures.after (λ y e. e)))
    (filled (of_bits binary64 0) _ _ (quad_fits c.requires.usable closed) (c.fill-3.ensures.after (λ y e. e)))
