-- `counts` asks whether the number is that of a constraint. Assumes nothing.
use Rattle.finding.proofs.Cases.{counts_told}
use Rattle.finding.proofs.rule.counts.Goals as goal

pub returns : goal.returns
returns c = let told = counts_told c.args.key c.from.ensures in
    record { value = told.0; upper_bound = told.1 }
