-- `probe_values` copies the start values, makes the workspace, and walks. Assumes nothing.
use Rattle.heavy.proofs.Standing.{walk_room}
use borrow.Author.Rules.{rules}
use Rattle.heavy.proofs.full.probe_values.Goals as goal

pub walk_free-requires : goal.walk_free-requires
walk_free-requires c = record { remembers = c.remember-known.ensures.remembers; values_value = c.remember-known.ensures.values_value_2; q_in_bounds = walk_room c.requires.ready (search rules) }

pub returns : goal.returns
returns c = c.walk_free.ensures
