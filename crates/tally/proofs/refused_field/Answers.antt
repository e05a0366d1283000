-- `refused_field` counts one refused field. Assumes nothing.
use Rattle.tally.proofs.Counts.{refused_one}
use Rattle.tally.proofs.refused_field.Goals as goal

pub returns : goal.returns
returns c = refused_one c.nothing.ensures
