-- `take_last` compares the pairs of the last item and of the number. Assumes nothing.
use Prim.Native.Nat.{◌+◌, ◌-◌, ◌<◌}
use mathlib.Core.Path.{◌≡◌}
use native.Mathlib.Omega.{arith}
use Rattle.found.proofs.Lasts.{item_small, last_alone, last_above, last_both}
use Rattle.found.proofs.merging.take_last.Goals as goal

pub returns-then-items-eq0 : goal.returns-then-items-eq0
returns-then-items-eq0 c =
    let e : c.args.at + 1 - 1 ≡ c.args.at = omega arith in
    rw e at (last_alone c.requires.held c.requires.climbed (omega arith) c.if-items-eq0.true)

pub key_at-x-requires-clause-small : goal.key_at-x-requires-clause-small
key_at-x-requires-clause-small c = item_small c.args.items c.args.list.now c.requires.held (omega (arith, c.if-items-eq0.false))

pub returns-then-x-y : goal.returns-then-x-y
returns-then-x-y c =
    let e : c.args.at + 1 - 1 ≡ c.args.at = omega arith in
    rw e at (last_both c.requires.held c.requires.climbed (omega arith) (omega (arith, c.if-items-eq0.false)) c.key_at-x.ensures (rw e c.if-x-y.true))

pub returns : goal.returns
returns c =
    let e : c.args.at + 1 - 1 ≡ c.args.at = omega arith in
    let some : 0 < c.args.items = omega (arith, c.if-items-eq0.false) in
    rw e at (last_above c.requires.held c.requires.climbed (omega arith) some c.key_at-x.ensures
    (rw e (omega (arith, c.if-x-y.false, c.key_at-x.ensures, c.requires.none_above (c.args.items - 1) (omega (arith, some))))))
