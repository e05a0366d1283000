-- `answer_free` traces a copy of the start values. Assumes nothing.
use Rattle.reason.proofs.Calls.{free_told_lem}
use Rattle.reason.proofs.answers.answer_free.Goals as goal

pub trace-ground-requires : goal.trace-ground-requires
trace-ground-requires c = record { ready = rw c.copy.ensures c.requires.ready; exact_in = c.requires.exact_in; i_bound = c.requires.i_bound }

pub returns : goal.returns
returns c = free_told_lem c.requires.ready.sound.shaped c.requires.ready.sound.start _ _ _ c.copy.ensures c.trace-ground.ensures.value c.trace-ground.ensures.values_value c.finish.ensures
