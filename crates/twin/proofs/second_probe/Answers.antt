-- `second_probe` probes, enters, restores and lays the start values. Assumes nothing.
use mathlib.Core.Path.{sym, ap, ◌∙◌}
use native.Mathlib.Omega.{arith}
use lib.ListN.{length}
use Rattle.twin.proofs.Halfway.{probe_asks, from_start}
use Rattle.twin.proofs.Twinned.{emit_asks, emit_asks_2, emitted_touched, emitted_long, lay_asks_2, second_floats, second_done}
use Rattle.twin.proofs.second_probe.Goals as goal

pub probe-again-requires : goal.probe-again-requires
probe-again-requires c = let both = probe_asks
    c.requires.values_value
    c.requires.halfway.remembers
    _
    _
    c.requires.halfway.free
    (omega arith) in
    record { remembers = both.0; variable_value = both.1.0; value_bound = both.1.1 }

pub emit_list-both-requires : goal.emit_list-both-requires
emit_list-both-requires c =
    emit_asks
    c.requires.halfway
    c.requires.end_for
    (from_start
    c.requires.values_value
    c.probe-again.ensures)

pub emit_list-last-requires : goal.emit_list-last-requires
emit_list-last-requires c =
    emit_asks_2
    c.requires.halfway
    c.requires.end_for
    (from_start
    c.requires.values_value
    c.probe-again.ensures)
    c.emit_list-both.ensures

pub restore-requires : goal.restore-requires
restore-requires c =
    emitted_touched
    c.requires.halfway
    c.requires.end_for
    (from_start
    c.requires.values_value
    c.probe-again.ensures)
    c.emit_list-both.ensures
    c.emit_list-last.ensures

pub lay-requires : goal.lay-requires
lay-requires c =
    lay_asks_2
    c.requires.halfway
    c.requires.end_for
    (from_start
    c.requires.values_value
    c.probe-again.ensures)
    c.emit_list-both.ensures
    c.emit_list-last.ensures
    (omega arith)

pub shape_of-values : goal.shape_of-values
shape_of-values c =
    ap
    length
    (c.restore.ensures.values_value
    ∙ sym
    c.requires.values_value)

pub shape_of-f : goal.shape_of-f
shape_of-f c =
    ap
    length
    (second_floats
    c.requires.halfway
    c.requires.end_for
    (from_start
    c.requires.values_value
    c.probe-again.ensures)
    c.emit_list-both.ensures
    c.emit_list-last.ensures
    c.restore.ensures.filled)

pub shape_of-u : goal.shape_of-u
shape_of-u c =
    c.lay.auto.u
    ∙ emitted_long
    c.requires.halfway
    c.requires.end_for
    (from_start
    c.requires.values_value
    c.probe-again.ensures)
    c.emit_list-both.ensures
    c.emit_list-last.ensures

pub returns : goal.returns
returns c = record {
  values_value_2 = c.restore.ensures.values_value;
  f_value = second_floats
      c.requires.halfway
      c.requires.end_for
      (from_start
      c.requires.values_value
      c.probe-again.ensures)
      c.emit_list-both.ensures
      c.emit_list-last.ensures
      c.restore.ensures.filled;
  twinned = second_done
      c.requires.halfway
      c.requires.end_for
      (from_start
      c.requires.values_value
      c.probe-again.ensures)
      c.emit_list-both.ensures
      c.emit_list-last.ensures
      c.restore.ensures.filled
      c.lay.ensures;
}
