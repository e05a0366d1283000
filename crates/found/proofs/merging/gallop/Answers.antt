-- `gallop` doubles its steps until one record is not above, and searches behind that. Assumes nothing.
use Prim.Native.Nat.{◌-◌}
use native.Mathlib.Omega.{arith}
use Rattle.found.proofs.Fronts.{held_fewer}
use Rattle.found.proofs.Searching.{small_at, room_at, between_first, between_raise, between_lower}
use Rattle.found.proofs.merging.gallop.Goals as goal

pub key_at-requires : goal.key_at-requires
key_at-requires c =
    let l = c.loop-step in
    let h = c.loop-step-test.true in
    record {
      t_in_bounds = room_at c.requires (l.high - l.step) (omega (arith, h, l.invariant.0.within, l.invariant.1));
      small = small_at c.requires (l.high - l.step) (omega (arith, h, l.invariant.0.within, l.invariant.1));
    }

pub search-requires : goal.search-requires
search-requires c = let l = c.loop-step in record { held = held_fewer l.high c.args.items c.args.list.now l.invariant.0.within c.requires; between = between_first (between_raise l.invariant.0 c.requires c.key_at.ensures (omega (arith, c.loop-step-test.true, l.invariant.1)) c.if-key_at-y.true) }

pub loop-step-preserved : goal.loop-step-preserved
loop-step-preserved c =
    let l = c.loop-step in (
      between_lower l.invariant.0 c.requires c.key_at.ensures (omega (arith, c.loop-step-test.true, l.invariant.1)) (omega arith) c.if-key_at-y.false,
      omega (arith, l.invariant.1),
    )

pub search-requires-2 : goal.search-requires-2
search-requires-2 c =
    let l = c.loop-step in
    record { held = held_fewer l.high c.args.items c.args.list.now l.invariant.0.within c.requires; between = between_first l.invariant.0 }
