-- `propagate` tests, runs, writes back and clears. Assumes nothing.
use Prim.Native.Nat.{◌≤◌}
use Rattle.propagation.proofs.Laws.{refused_call, clash_call, done_call}
use Rattle.literals.proofs.Serving.{found_small}
use Rattle.propagation.proofs.Means.{ready_is}
use native.Mathlib.Omega.{arith}
use lib.ListN.{length}
use mathlib.Core.Path.{sym, ◌∙◌}
use Rattle.field.proofs.Tried.{err_given}
use Rattle.propagation.proofs.propagate.Goals as goal

pub returns-in_err-ready : goal.returns-in_err-ready
returns-in_err-ready c = rw (err_given c.from_residual.ensures) (refused_call _ _ _ (sym c.ready.ensures ∙ c.in_err-ready.was))

pub run-requires : goal.run-requires
run-requires c = (ready_is _ _ _).0 (sym c.ready.ensures ∙ c.in_ok-ready.was)

pub returns-then-not-run : goal.returns-then-not-run
returns-then-not-run c =
    clash_call _ _ _ _ _ (length c.run.new.u) (sym c.ready.ensures ∙ c.in_ok-ready.was) c.run.ensures
    (c.fill.ensures.after (λ y e. e)) c.run.auto.u c.if-not-run.true

pub write_back-requires : goal.write_back-requires
write_back-requires c =
    let ready = (ready_is _ _ _).0 (sym c.ready.ensures ∙ c.in_ok-ready.was) in
    let room : length c.args.start.now ≤ length c.run.new.u = omega (arith, ready.words_room, c.run.auto.u) in
    record { start_in_bounds = room; small = found_small _ _ _ ready.listed ready.small room c.run.ensures c.if-not-run.false }

pub returns : goal.returns
returns c =
    done_call _ _ _ _ _ (length c.run.new.u) (sym c.ready.ensures ∙ c.in_ok-ready.was) c.run.ensures
    (c.fill-2.ensures.after (λ y e. e)) c.run.auto.u c.write_back.ensures c.if-not-run.false
