-- `ones` counts one word a turn. Assumes nothing.
use Prim.Native.Nat.{◌+◌, ◌*◌, ◌<◌}
use native.Mathlib.Omega.{arith}
use lib.Count.{ones-le}
use lib.ListN.{get_or}
use Rattle.bit_rows.proofs.Count.{count_start, count_turn, count_fits, row_word}
use Rattle.bit_rows.proofs.ones.Goals as goal

pub loop-x-init : goal.loop-x-init
loop-x-init c = count_start _ _

pub overflow_add-sum : goal.overflow_add-sum
overflow_add-sum c =
    let own = c.args.a * 32 + c.loop-x.x-index in
    rw (row_word c.args.w.now c.args.a c.loop-x.x-index (omega (arith, c.loop-x-test.true)))
    (omega (arith, count_fits c.loop-x.invariant, c.loop-x.invariant.within, ones-le 64 (get_or c.args.w.now own 0) (omega (arith, c.type_inv.w own))))

pub loop-x-preserved : goal.loop-x-preserved
loop-x-preserved c =
    let own = c.args.a * 32 + c.loop-x.x-index in
    let here : c.loop-x.x-index < 32 = omega (arith, c.loop-x-test.true) in
    rw (row_word c.args.w.now c.args.a c.loop-x.x-index here) (count_turn here (omega (arith, c.type_inv.w own)) c.loop-x.invariant)
