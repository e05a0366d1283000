-- `pair_bounds` looks up the weight between the two variables and walks their rows. Assumes nothing.
use mathlib.Core.Path.{refl}
use Rattle.pairs.proofs.PairLaws.{edge_is, walk_says}
use Rattle.pairs.proofs.listing.pair_bounds.Goals as goal

pub returns : goal.returns
returns c =
    walk_says c.requires.prepared c.requires.i_bound.0 c.requires.i_bound.1 c.requires.i_value.0 c.requires.i_value.1 refl
    refl refl refl c.requires.t_value (edge_is c.requires.prepared c.requires.i_bound.0
    c.requires.i_value.0 refl refl c.requires.i_bound.1 c.requires.i_value.1 c.weight_of-edge.ensures)
    c.start-bounds.ensures c.walk_rows.ensures
