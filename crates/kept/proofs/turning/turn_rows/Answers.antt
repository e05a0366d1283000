-- `turn_rows` goes from one entry of the variable to the next. Assumes nothing.
use native.Mathlib.Omega.{arith}
use Rattle.kept.proofs.Entries.{turns_start, turns_turn, turns_long, turns_end}
use Rattle.kept.proofs.turning.turn_rows.Goals as goal

pub next_entry-k-requires : goal.next_entry-k-requires
next_entry-k-requires c =
    let shaped = c.requires.recorded.sound.shaped in
    record { rows_len = omega (arith, shaped.rows_long, shaped.cols_long); rows_len_bound = omega (arith, shaped.rows_long, shaped.few_entries); from_in_bounds = omega arith }

pub loop-k-init : goal.loop-k-init
loop-k-init c = turns_start _ _ _ _ _ _ c.next_entry-k.ensures

pub turn_at-requires : goal.turn_at-requires
turn_at-requires c =
    let shaped = c.requires.recorded.sound.shaped in
    record { recorded = record { sound = c.requires.recorded.sound; long = omega (arith, turns_long _ _ _ _ _ _ c.loop-k.invariant shaped, c.requires.recorded.long) }; k_bound = omega (arith, c.loop-k-test.true, shaped.rows_long); k_value = c.loop-k.invariant.found c.loop-k-test.true }

pub next_entry-k-requires-in-loop-k : goal.next_entry-k-requires-in-loop-k
next_entry-k-requires-in-loop-k c =
    let shaped = c.requires.recorded.sound.shaped in
    record { rows_len = omega (arith, shaped.rows_long, shaped.cols_long); rows_len_bound = omega (arith, shaped.rows_long, shaped.few_entries); from_in_bounds = omega (arith, c.loop-k-test.true) }

pub loop-k-preserved : goal.loop-k-preserved
loop-k-preserved c = turns_turn _ _ _ _ _ _ c.loop-k.invariant c.turn_at.ensures c.next_entry-k-in-loop-k.ensures

pub shape_of-bounds : goal.shape_of-bounds
shape_of-bounds c = turns_long _ _ _ _ _ _ c.loop-k.invariant c.requires.recorded.sound.shaped

pub returns : goal.returns
returns c = turns_end _ _ _ _ _ _ c.loop-k.invariant c.requires.recorded.sound.shaped c.loop-k-test.false
