-- `flush` merges the distinct words. Assumes nothing.
use Rattle.found.proofs.Settled.{flush_room, flush_climbed, flush_is}
use Rattle.found.proofs.flush.Goals as goal

pub slice_bounds-merge-end : goal.slice_bounds-merge-end
slice_bounds-merge-end c = flush_room c.requires.keys c.distinct-end.ensures.value c.distinct-end.ensures.u_value

pub merge-requires : goal.merge-requires
merge-requires c = record { held = c.requires.held; climbed = flush_climbed c.requires.keys c.distinct-end.ensures.value c.distinct-end.ensures.u_value }

pub returns : goal.returns
returns c =
    flush_is c.requires.keys c.distinct-end.ensures.value c.distinct-end.ensures.u_value c.args.held c.args.list.now c.requires.held c.merge.ensures
