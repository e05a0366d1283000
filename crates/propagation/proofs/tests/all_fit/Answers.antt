-- `all_fit` tests one record a turn. Assumes nothing.
use Rattle.propagation.specs.Tests.{all_fit, fits}
use Rattle.constraints.specs.Record.{room}
use Rattle.constraints.proofs.Records.{chunk_record}
use Rattle.scratch.proofs.All.{all_start, all_turn, all_stop, all_done}
use Prim.Native.Nat.{◌<◌}
use native.Mathlib.Omega.{arith}
use mathlib.Core.Path.{sym, ap, ◌∙◌}
use Rattle.propagation.proofs.tests.all_fit.Goals as goal

pub loop-record-init : goal.loop-record-init
loop-record-init c = all_start _ _

pub returns-then-not-fits : goal.returns-then-not-fits
unfolding all_fit
returns-then-not-fits c =
    let at = c.loop-record.record-index in
    let here : at < room c.args.list.now = omega (arith, c.as_chunks.ensures.front_len, c.loop-record-test.true) in
    all_stop _ at here
    (ap (fits c.args.n) (sym (chunk_record c.args.list.now at c.as_chunks.ensures.front here c.from-lower.ensures c.from-higher.ensures c.from-set.ensures))
    ∙ sym c.fits.ensures ∙ c.if-not-fits.true)

pub loop-record-preserved : goal.loop-record-preserved
loop-record-preserved c =
    let at = c.loop-record.record-index in
    let here : at < room c.args.list.now = omega (arith, c.as_chunks.ensures.front_len, c.loop-record-test.true) in
    all_turn _ c.loop-record.invariant here
    (ap (fits c.args.n) (sym (chunk_record c.args.list.now at c.as_chunks.ensures.front here c.from-lower.ensures c.from-higher.ensures c.from-set.ensures))
    ∙ sym c.fits.ensures ∙ c.if-not-fits.false)

pub returns : goal.returns
unfolding all_fit
returns c = all_done _ c.loop-record.invariant (omega (arith, c.as_chunks.ensures.front_len, c.loop-record-test.false))
