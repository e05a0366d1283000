-- `turn` holds the bytes, or takes the fields that lie whole in them. Assumes nothing.
use native.Mathlib.Omega.{arith}
use Rattle.tallying.proofs.Turns.{turn_on, goes_on}
use Rattle.tallying.proofs.turn.Goals as goal

pub returns : goal.returns
returns c =
    let a = c.args in
    let moved = c.move_front.ensures in
    record {
      turns = turn_on a.most a.from.totals a.buffer.now a.from.at a.n c.requires.n_in_bounds (omega (arith, c.if-n-eq0.false)) (omega (arith, c.if-size-buffer.false)) c.take_fields.ensures c.in_ok-taken.was moved.value moved.buffer_value;
      goes = goes_on a.most a.from.totals a.buffer.now a.from.at a.n c.requires.n_in_bounds (omega (arith, c.if-n-eq0.false)) (omega (arith, c.if-size-buffer.false)) c.take_fields.ensures c.in_ok-taken.was c.requires.longest_input_in_bounds moved.value;
    }
