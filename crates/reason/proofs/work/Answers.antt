-- `work` answers on an exact field alone. Assumes nothing.
use Rattle.reason.proofs.Calls.{inexact_told, exact_told, work_exact}
use Rattle.reason.proofs.work.Goals as goal

pub least_unit-unit-requires : goal.least_unit-unit-requires
least_unit-unit-requires c = let w = c.requires.sound.finite_weights in record { linear = w.linear; quad = w.quad }

pub returns-then-unit-eq41 : goal.returns-then-unit-eq41
returns-then-unit-eq41 c = inexact_told c.requires c.least_unit-unit.ensures _ _ c.if-unit-eq41.true

pub answer-requires : goal.answer-requires
answer-requires c = record { ready = c.requires; exact_in = (work_exact c.requires c.least_unit-unit.ensures c.if-unit-eq41.false).exact }

pub returns : goal.returns
returns c = exact_told c.requires c.least_unit-unit.ensures _ _ c.if-unit-eq41.false c.answer.ensures
