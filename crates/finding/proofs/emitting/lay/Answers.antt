-- `lay` lays the value of one variable a turn. Assumes nothing.
use mathlib.Core.Path.{refl}
use Rattle.finding.proofs.Laid.{laying_start, laying_long, laying_read, laying_inside, laying_write, laying_turn, laying_done}
use Rattle.finding.proofs.emitting.lay.Goals as goal

pub loop-p-init : goal.loop-p-init
loop-p-init c = laying_start c.requires

pub bounds-u-from : goal.bounds-u-from
bounds-u-from c = laying_read c.loop-p.invariant c.loop-p-test.true

pub bounds-values-j : goal.bounds-values-j
bounds-values-j c = laying_inside c.loop-p.invariant c.loop-p-test.true refl

pub bounds-u-first : goal.bounds-u-first
bounds-u-first c = laying_write c.loop-p.invariant c.loop-p-test.true refl

pub loop-p-preserved : goal.loop-p-preserved
loop-p-preserved c = laying_turn c.loop-p.invariant c.loop-p-test.true refl c.from.ensures

pub shape_of-u : goal.shape_of-u
shape_of-u c = laying_long c.loop-p.invariant

pub returns : goal.returns
returns c = laying_done c.loop-p.invariant c.loop-p-test.false
