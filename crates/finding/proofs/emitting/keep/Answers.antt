-- `keep` copies within the words. Assumes nothing.
use Rattle.finding.proofs.Laid.{kept_copy}
use Rattle.finding.proofs.emitting.keep.Goals as goal

pub returns : goal.returns
returns c = kept_copy c.args.u.now c.args.from c.args.count c.args.kept c.copy_within.ensures.after
