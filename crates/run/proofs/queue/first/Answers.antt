-- `first` looks at one variable a turn. Assumes nothing.
use mathlib.Core.Path.{◌≡◌, sym, ◌∙◌}
use native.Mathlib.Omega.{arith}
use lib.ListN.{length}
use Rattle.scratch.proofs.All.{all_start, all_turn}
use Rattle.field.proofs.Faults.{first_stop, first_end}
use borrow.Author.Rules.{rules}
use Rattle.run.proofs.queue.first.Goals as goal

pub loop-i-init : goal.loop-i-init
loop-i-init c = all_start _ _

pub returns-then-not-passes_at : goal.returns-then-not-passes_at
returns-then-not-passes_at c = first_stop _ c.loop-i.invariant (search rules) (sym c.passes_at.ensures ∙ c.if-not-passes_at.true)

pub loop-i-preserved : goal.loop-i-preserved
loop-i-preserved c = all_turn _ c.loop-i.invariant (search rules) (sym c.passes_at.ensures ∙ c.if-not-passes_at.false)

pub returns : goal.returns
returns c =
    let all : length c.args.values.now ≡ c.loop-i.i = omega (arith, c.loop-i-test.false, c.loop-i.auto.i-end) in
    all ∙ first_end _ c.loop-i.invariant c.loop-i-test.false
