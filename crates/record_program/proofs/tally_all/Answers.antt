-- `tally_all` reads on, and each read comes nearer to the end. Assumes nothing.
use Rattle.record_program.specs.Handed.{a_tally}
use Rattle.record_program.proofs.tally_all.Goals as goal

pub returns-in-Break : goal.returns-in-Break
returns-in-Break c = a_tally _ c.write.ensures
