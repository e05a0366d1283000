-- `diff_key` goes by the sign of the difference. Assumes nothing.
use Rattle.margins.specs.Model.{diff_kinds}
use Rattle.pairs.proofs.listing.diff_key.Goals as goal

pub returns-in-Above : goal.returns-in-Above
unfolding diff_kinds
returns-in-Above c = rw c.in-Above.is c.key.ensures

pub returns-in-Below : goal.returns-in-Below
unfolding diff_kinds
returns-in-Below c = rw c.in-Below.is c.key-in-Below.ensures

pub returns-in-Neither : goal.returns-in-Neither
unfolding diff_kinds
returns-in-Neither c = rw c.in-Neither.is
