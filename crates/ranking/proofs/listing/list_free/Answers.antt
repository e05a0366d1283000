-- `list_free` looks at one variable a turn. Assumes nothing.
use Rattle.ranking.proofs.Lists.{listing_start, listing_room, listing_turn, listing_done}
use Rattle.ranking.proofs.listing.list_free.Goals as goal

pub loop-j-init : goal.loop-j-init
loop-j-init c = listing_start _ _ _ c.requires.start_in_bounds

pub bounds-u-at : goal.bounds-u-at
bounds-u-at c = listing_room c.loop-j.invariant c.loop-j-test.true

pub loop-j-preserved : goal.loop-j-preserved
loop-j-preserved c = listing_turn c.loop-j.invariant c.loop-j-test.true c.step-count.ensures.value c.step-count.ensures.upper_bound

pub shape_of-u : goal.shape_of-u
shape_of-u c = c.loop-j.invariant.listed.long

pub returns : goal.returns
returns c = listing_done c.loop-j.invariant c.loop-j-test.false
