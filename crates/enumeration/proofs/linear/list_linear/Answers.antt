-- `list_linear` lists a term for each member. Assumes nothing.
use mathlib.Core.Path.{refl}
use native.Mathlib.Omega.{arith}
use Rattle.enumeration.proofs.Filling.{bit_fits, room_after, fill_start, fill_turn, linear_none, linear_more, linear_few}
use Rattle.enumeration.proofs.linear.list_linear.Goals as goal

pub loop-b-init : goal.loop-b-init
loop-b-init c = fill_start _ _ (linear_none _ _ _ _ _)

pub list_term-end-requires : goal.list_term-end-requires
list_term-end-requires c = record { room = room_after 1 c.loop-b.invariant.listed (linear_few _ _ _ _) c.requires.room (omega (arith, c.loop-b-test.true, c.requires.small.few)); bits_bound = bit_fits c.requires.small.few c.loop-b-test.true c.bit.ensures }

pub loop-b-preserved : goal.loop-b-preserved
loop-b-preserved c =
    fill_turn c.loop-b.invariant c.loop-b-test.true c.list_term-end.ensures (linear_more _ _ _ _ _ c.loop-b-test.true refl c.bit.ensures c.linear_of-value.ensures)
