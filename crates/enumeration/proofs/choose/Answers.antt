-- `choose` lists the linear terms, then those of the pairs, and takes the lowest mask of least sum. Assumes nothing.
use mathlib.Core.Path.{refl}
use native.Mathlib.Omega.{arith}
use Rattle.enumeration.proofs.Filling.{room_after, linear_few}
use Rattle.enumeration.proofs.Chosen.{size_most, all_fit, chosen}
use Rattle.enumeration.proofs.choose.Goals as goal

pub list_pairs-end-requires : goal.list_pairs-end-requires
list_pairs-end-requires c = record { placed = c.requires.held.placed; small = c.requires.small; room = room_after 100 c.list_linear-linear.ensures (linear_few _ _ _ _) c.requires.room (omega (arith, c.requires.small.few)) }

pub lowest-requires : goal.lowest-requires
lowest-requires c = record { room = all_fit _ _ _ _ _ c.requires.small.few c.requires.small.room refl c.requires.room c.list_linear-linear.ensures c.list_pairs-end.ensures; size_bound = size_most c.requires.small.few c.bit-size.ensures }

pub returns : goal.returns
returns c = chosen _ _ _ _ _ c.requires.small.room refl c.list_linear-linear.ensures c.list_pairs-end.ensures c.bit-size.ensures c.lowest.ensures
