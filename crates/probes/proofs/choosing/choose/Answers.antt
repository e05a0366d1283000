-- `choose` ranks the free variables and takes the first of them. Assumes nothing.
use Rattle.probes.proofs.Chosen.{choose_rankable, chosen}
use Rattle.probes.proofs.choosing.choose.Goals as goal

pub rank-requires : goal.rank-requires
rank-requires c =
    choose_rankable c.args.f.now c.args.u.now c.requires

pub returns : goal.returns
returns c =
    let ranks = c.rank in
    chosen c.args.f.now c.args.u.now c.requires ranks.new.u ranks.new.w ranks.ensures.ranked ranks.auto.w
