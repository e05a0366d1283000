-- `first_fault` looks at one entry a turn. Assumes nothing.
use lib.ListN.{length}
use mathlib.Core.Path.{sym, ◌∙◌, ◌≡◌}
use Rattle.scratch.proofs.All.{all_start, all_turn}
use Rattle.field.proofs.Faults.{first_stop, first_end}
use borrow.Author.Rules.{rules}
use Rattle.field.proofs.entries.first_fault.Goals as goal

pub loop-k-init : goal.loop-k-init
loop-k-init c = all_start _ _

pub returns-then-not-is_fine : goal.returns-then-not-is_fine
returns-then-not-is_fine c = first_stop _ c.loop-k.invariant (search rules) (sym c.is_fine.ensures ∙ c.if-not-is_fine.true)

pub loop-k-preserved : goal.loop-k-preserved
loop-k-preserved c = all_turn _ c.loop-k.invariant (search rules) (sym c.is_fine.ensures ∙ c.if-not-is_fine.false)

pub returns : goal.returns
returns c =
    let all : length c.args.rows.now ≡ c.loop-k.k = search rules in
    all ∙ first_end _ c.loop-k.invariant (search rules)
