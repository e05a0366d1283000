-- `list_free` stores each variable, and counts the free ones. Assumes nothing.
use native.Mathlib.Omega.{arith}
use Rattle.pairs.proofs.FreeLaws.{freed_start, freeing_few, freeing_turn}
use Rattle.pairs.proofs.listing.list_free.Goals as goal

pub loop-i-init : goal.loop-i-init
loop-i-init c = record { within = omega arith; freed = freed_start _ _ _ }

pub overflow_add-u : goal.overflow_add-u
overflow_add-u c = omega (arith, c.requires, freeing_few c.loop-i.invariant, c.loop-i.invariant.freed.long)

pub offset_bounds-u-base : goal.offset_bounds-u-base
offset_bounds-u-base c = omega (arith, c.requires, freeing_few c.loop-i.invariant, c.loop-i.invariant.freed.long)

pub bounds-u-base : goal.bounds-u-base
bounds-u-base c = omega (arith, c.requires, freeing_few c.loop-i.invariant, c.loop-i.invariant.freed.long)

pub overflow_add-count : goal.overflow_add-count
overflow_add-count c = omega (arith, c.requires, freeing_few c.loop-i.invariant, c.counted-count.ensures.upper_bound)

pub loop-i-preserved : goal.loop-i-preserved
loop-i-preserved c = freeing_turn c.loop-i.invariant c.loop-i-test.true c.requires.values_in_bounds c.counted-count.ensures.value
