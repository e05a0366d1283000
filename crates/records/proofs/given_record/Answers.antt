-- `given_record` reads a mark FX and what follows. Assumes nothing.
use mathlib.Core.Path.{ap, ◌∙◌}
use Prim.Native.Nat.{ℕ, ◌+◌}
use lib.ListN.{get_or}
use Rattle.records.specs.Reading.{cursor, given_at}
use Rattle.records.specs.declared.Record.TheVariants.{Given}
use Rattle.records.proofs.Finds.{cut, fits}
use Rattle.records.proofs.given_record.Goals as goal

pub returns-then-left-lt5 : goal.returns-then-left-lt5
unfolding given_at
returns-then-left-lt5 c = cut 5 c.args.bytes.now c.args.at _ c.left.ensures c.if-left-lt5.true

pub returns : goal.returns
unfolding given_at
returns c =
    let a = c.args in
    ap (λ (v : ℕ). Given v (get_or a.bytes.now (a.at + 4) 0) (cursor (a.at + 5))) c.short-variable.ensures ∙ fits 5 c.args.bytes.now c.args.at _ c.left.ensures c.if-left-lt5.false
