-- `work` fixes the variables of no effect, closes, and solves the small components. Assumes nothing.
use Rattle.preprocess.proofs.Laws.{ready_still, solvable, preprocessed}
use borrow.Author.Rules.{rules}
use Rattle.preprocess.proofs.work.Goals as goal

pub fix_idle-requires : goal.fix_idle-requires
fix_idle-requires c = record { shaped = c.requires.ready.sound.shaped; values_len = c.requires.ready.sound.start.long; adjacent = c.requires.adjacent }

pub close-requires : goal.close-requires
close-requires c = record { ready = ready_still c.requires.ready c.fix_idle.ensures _ (search rules); adjacent = c.requires.adjacent }

pub solve-requires : goal.solve-requires
solve-requires c =
    solvable c.requires.ready c.fix_idle.ensures c.close.ensures (search rules)

pub returns : goal.returns
returns c =
    preprocessed c.requires.ready c.fix_idle.ensures c.close.ensures c.solve.ensures
