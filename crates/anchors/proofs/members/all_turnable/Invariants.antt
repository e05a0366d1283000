-- `all_turnable` stops at the first member that may not turn. Assumes nothing.
use mathlib.Core.Path.{◌≡◌}
use lib.ListN.{length}
use Rattle.field.specs.Field.{lent}
use Rattle.anchors.proofs.Gathering.{Turning}
use Rattle.anchors.proofs.members.all_turnable.Given as goal

abbrev pub invariant-loop-h : goal.invariant-loop-h
invariant-loop-h l = Turning (lent l.field) l.start l.count l.u l.h × (length l.f ≡ length l.initial.f)
