-- `work` builds the places, and owns the bytes in which the probes work. Assumes nothing.
use mathlib.Core.Path.{sym, ◌∙◌}
use Rattle.preprocess.proofs.Laws.{places_asked, ready_built}
use Rattle.heavy.proofs.Counted.{front_long}
use Rattle.heavy.proofs.work.Goals as goal

pub build-requires : goal.build-requires
build-requires c = let both = places_asked c.requires.ready in
    record { ends_below = both.0; rows_in_bounds = both.1 }

pub slice_bounds-probed-end : goal.slice_bounds-probed-end
slice_bounds-probed-end c = c.requires.ready.sound.shaped.few_variables

pub slice_bounds-rounds-end : goal.slice_bounds-rounds-end
slice_bounds-rounds-end c = front_long _ 4096 c.requires.ready.sound.shaped.few_variables

pub rounds-requires : goal.rounds-requires
rounds-requires c = record { ready = ready_built c.requires.ready c.build.ensures.long; probed_len = sym (front_long _ 4096 c.requires.ready.sound.shaped.few_variables); grade_value = c.requires.grade_value; adjacent = c.build.ensures.adjacent }

pub shape_of-u : goal.shape_of-u
shape_of-u c =
    c.rounds.auto.u ∙ c.build.ensures.long

pub returns : goal.returns
returns c = c.rounds.ensures
