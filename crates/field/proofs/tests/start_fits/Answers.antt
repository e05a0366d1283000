-- `start_fits` compares the length, then tests the bytes. Assumes nothing.
use borrow.Author.Tests.{eq-eqb, ne_eqb}
use Rattle.scratch.proofs.All.{and_yes, and_no}
use Rattle.field.specs.Tests.{start_fits}
use Rattle.field.proofs.tests.start_fits.Goals as goal

pub returns-then-start-n : goal.returns-then-start-n
unfolding start_fits
returns-then-start-n c = and_no _ (ne_eqb _ _ c.if-start-n.true)

pub returns : goal.returns
unfolding start_fits
returns c = and_yes (eq-eqb _ _ c.if-start-n.false) c.bytes_small.ensures
