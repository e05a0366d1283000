-- `put` goes through the bits, rising. Assumes nothing.
use mathlib.Core.Path.{refl}
use Rattle.enumeration.proofs.Putting.{put_start, put_turn}
use Rattle.enumeration.proofs.put.Goals as goal

pub loop-b-init : goal.loop-b-init
loop-b-init c = put_start _ c.requires

pub loop-b-preserved : goal.loop-b-preserved
loop-b-preserved c = put_turn c.loop-b.invariant c.loop-b-test.true refl c.bit_of.ensures
