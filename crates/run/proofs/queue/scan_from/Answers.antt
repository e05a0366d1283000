-- `scan_from` is the model's scan, a variable at a turn; it begins behind those that it would pass over. Assumes nothing.
use mathlib.Core.Path.{sym, ◌∙◌}
use Rattle.run.proofs.Turns.{scan_turn, scan_done}
use Rattle.run.proofs.First.{scan_start_from}
use Rattle.run.proofs.queue.scan_from.Goals as goal

pub loop-i-init : goal.loop-i-init
loop-i-init c = scan_start_from c.requires.placed c.requires.passing

pub scan_at-tail-requires : goal.scan_at-tail-requires
scan_at-tail-requires c = record { placed = c.loop-i.invariant.does.kept.placed; i_bound = c.loop-i-test.true }

pub loop-i-preserved : goal.loop-i-preserved
loop-i-preserved c =
    scan_turn c.loop-i.invariant c.loop-i-test.true
    c.scan_at-tail.ensures

pub shape_of-values : goal.shape_of-values
shape_of-values c =
    c.loop-i.invariant.does.kept.placed.values_long ∙ sym c.requires.placed.values_long

pub shape_of-u : goal.shape_of-u
shape_of-u c = c.loop-i.invariant.does.kept.words_long

pub returns : goal.returns
returns c = scan_done c.loop-i.invariant c.loop-i-test.false
