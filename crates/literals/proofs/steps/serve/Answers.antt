-- `serve` goes along the chain of the variable. Assumes nothing.
use Rattle.literals.proofs.Serving.{went_on, serve_turn, serve_less, serve_clash, serve_done}
use mathlib.Core.Path.{refl}
use Rattle.literals.proofs.steps.serve.Goals as goal

pub returns-in_err-last : goal.returns-in_err-last
returns-in_err-last c =
    let pre = c.requires in
    rw c.from_residual.ensures (serve_clash pre.listed pre.valued c.loop-p.invariant c.loop-p-test.true c.serve_end.ensures c.in_err-last.was)

pub loop-p-smaller : goal.loop-p-smaller
loop-p-smaller c =
    let pre = c.requires in
    serve_less pre.listed pre.valued c.loop-p.invariant c.loop-p-test.true (went_on c.serve_end.ensures c.in_ok-last.was)
    refl

pub loop-p-preserved : goal.loop-p-preserved
loop-p-preserved c =
    let pre = c.requires in
    serve_turn pre.listed pre.valued c.loop-p.invariant c.loop-p-test.true (went_on c.serve_end.ensures c.in_ok-last.was)
    refl

pub returns : goal.returns
returns c = let pre = c.requires in serve_done pre.listed pre.valued c.loop-p.invariant c.loop-p-test.false
