-- `sum_key` goes by the sign of the sum. Assumes nothing.
use Rattle.margins.specs.Model.{sum_kinds}
use Rattle.pairs.proofs.listing.sum_key.Goals as goal

pub returns-in-Above : goal.returns-in-Above
unfolding sum_kinds
returns-in-Above c = rw c.in-Above.is c.key.ensures

pub returns-in-Below : goal.returns-in-Below
unfolding sum_kinds
returns-in-Below c = rw c.in-Below.is c.key-in-Below.ensures

pub returns-in-Neither : goal.returns-in-Neither
unfolding sum_kinds
returns-in-Neither c = rw c.in-Neither.is
