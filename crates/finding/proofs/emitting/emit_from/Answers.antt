-- `emit_from` asks for the value first. Assumes nothing.
use Rattle.finding.specs.Emit.{bench}
use Rattle.finding.proofs.Emitted.{emit_passed, emit_taken}
use mathlib.Core.Path.{◌∙◌}
use Rattle.finding.proofs.emitting.emit_from.Goals as goal

pub returns-then-values-j : goal.returns-then-values-j
returns-then-values-j c = emit_passed _ _ _ _ _ _ (bench _ _) _ c.if-values-j.true

pub emit-requires : goal.emit-requires
emit-requires c = record { emits = c.requires.emits; end_in_bounds = c.requires.end_in_bounds c.if-values-j.false }

pub returns : goal.returns
returns c = c.emit.ensures ∙ emit_taken _ _ _ _ _ _ (bench _ _) _ c.if-values-j.false
