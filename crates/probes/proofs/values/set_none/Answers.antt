-- `set_none` fills a part of the words. Assumes nothing.
use Rattle.probes.proofs.Nones.{noned_fill}
use Rattle.probes.proofs.values.set_none.Goals as goal

pub returns : goal.returns
returns c = noned_fill c.args.at c.args.n c.args.u.now c.requires (c.fill.ensures.after (λ y e. e))
