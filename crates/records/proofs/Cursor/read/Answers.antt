-- `read` goes by the mark. Assumes nothing.
use mathlib.Core.Path.{◌∙◌}
use Rattle.records.specs.Reading.{read_at}
use Rattle.records.proofs.Finds.{cut, read_weight, read_entry, read_given, read_end, read_unknown}
use native.Mathlib.Omega.{arith}
use Rattle.records.proofs.Cursor.read.Goals as goal

pub returns-then-left-lt2 : goal.returns-then-left-lt2
unfolding read_at
returns-then-left-lt2 c = cut 2 c.args.bytes.now c.args.self.at _ c.left.ensures c.if-left-lt2.true

pub returns-in-17238 : goal.returns-in-17238
returns-in-17238 c = c.weight_record.ensures ∙ read_weight _ _ c.left.ensures c.if-left-lt2.false c.short.ensures c.in-17238.is

pub returns-in-17745 : goal.returns-in-17745
returns-in-17745 c = c.entry_record.ensures ∙ read_entry _ _ c.left.ensures c.if-left-lt2.false c.short.ensures c.in-17745.is

pub returns-in-22598 : goal.returns-in-22598
returns-in-22598 c = c.given_record.ensures ∙ read_given _ _ c.left.ensures c.if-left-lt2.false c.short.ensures c.in-22598.is

pub returns-in-23130 : goal.returns-in-23130
returns-in-23130 c = read_end _ _ c.left.ensures c.if-left-lt2.false c.short.ensures c.in-23130.is

pub returns-in_default : goal.returns-in_default
returns-in_default c = read_unknown _ _ c.left.ensures c.if-left-lt2.false c.short.ensures (λ h. omega arith) (λ h. omega arith) (λ h. omega arith) (λ h. omega arith)
