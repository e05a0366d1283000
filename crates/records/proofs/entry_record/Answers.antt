-- `entry_record` reads a mark QE and what follows. Assumes nothing.
use mathlib.Core.Path.{◌∙◌}
use Rattle.records.specs.Reading.{entry_at}
use Rattle.records.proofs.Finds.{cut, fits, same_entry}
use Rattle.records.proofs.entry_record.Goals as goal

pub returns-then-left-lt14 : goal.returns-then-left-lt14
unfolding entry_at
returns-then-left-lt14 c = cut 14 c.args.bytes.now c.args.at _ c.left.ensures c.if-left-lt14.true

pub returns : goal.returns
unfolding entry_at
returns c =
    same_entry c.short-row.ensures c.short-col.ensures c.float.ensures ∙ fits 14 c.args.bytes.now
    c.args.at _ c.left.ensures c.if-left-lt14.false
