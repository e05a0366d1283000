-- `walk_free` lists the candidates, sets the probe values to 2, and walks. Assumes nothing.
use Rattle.heavy.proofs.Standing.{all_walkable, all_walked}
use Rattle.heavy.proofs.full.walk_free.Goals as goal

pub walk_values-requires : goal.walk_values-requires
walk_values-requires c = record { walkable = all_walkable c.requires.remembers c.requires.q_in_bounds c.list_free-count.ensures c.set_none.ensures; values_value = c.requires.values_value }

pub returns : goal.returns
returns c =
    record { values = all_walked c.requires.remembers c.requires.q_in_bounds c.list_free-count.ensures c.set_none.ensures c.walk_values.ensures.valued; adjacent = c.walk_values.ensures.adjacent }
