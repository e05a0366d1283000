-- `weight_record` reads a mark VC and what follows. Assumes nothing.
use mathlib.Core.Path.{ap, ◌∙◌}
use Prim.Native.Nat.{◌+◌}
use lib.Ieee.{Float}
use Rattle.records.specs.Reading.{cursor, weight_at}
use Rattle.records.specs.declared.Record.TheVariants.{Weight}
use Rattle.records.proofs.Finds.{cut, fits}
use Rattle.records.proofs.weight_record.Goals as goal

pub returns-then-left-lt10 : goal.returns-then-left-lt10
unfolding weight_at
returns-then-left-lt10 c = cut 10 c.args.bytes.now c.args.at _ c.left.ensures c.if-left-lt10.true

pub returns : goal.returns
unfolding weight_at
returns c =
    ap (λ (x : Float). Weight x (cursor (c.args.at + 10))) c.float.ensures ∙ fits 10 c.args.bytes.now c.args.at _
    c.left.ensures c.if-left-lt10.false
