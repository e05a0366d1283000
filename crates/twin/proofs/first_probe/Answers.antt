-- `first_probe` probes, keeps, lays and restores. Assumes nothing.
use mathlib.Core.Path.{sym, ap, ◌∙◌}
use native.Mathlib.Omega.{arith}
use lib.ListN.{length}
use Rattle.twin.proofs.Halfway.{probe_asks, from_start, keep_asks, lay_asks, laid_touched, half_floats, half_done, half_beside}
use Rattle.twin.proofs.first_probe.Goals as goal

pub probe-forced-requires : goal.probe-forced-requires
probe-forced-requires c = let both = probe_asks
    c.requires.values_value
    c.requires.twinnable.remembers
    _
    _
    c.requires.twinnable.free
    (omega arith) in
    record { remembers = both.0; variable_value = both.1.0; value_bound = both.1.1 }

pub keep-requires : goal.keep-requires
keep-requires c = let both = keep_asks
    c.requires.twinnable
    (from_start
    c.requires.values_value
    c.probe-forced.ensures) in
    record { count_bound = both.0; count_in_bounds = both.1 }

pub lay-requires : goal.lay-requires
lay-requires c =
    lay_asks
    c.requires.twinnable
    (from_start
    c.requires.values_value
    c.probe-forced.ensures)
    c.keep.ensures

pub restore-requires : goal.restore-requires
restore-requires c =
    laid_touched
    c.requires.twinnable
    (from_start
    c.requires.values_value
    c.probe-forced.ensures)
    c.keep.ensures
    c.lay.ensures

pub shape_of-values : goal.shape_of-values
shape_of-values c =
    ap
    length
    (c.restore.ensures.values_value
    ∙ sym
    c.requires.values_value)

pub shape_of-f : goal.shape_of-f
shape_of-f c =
    ap
    length
    (half_floats
    c.requires.twinnable
    (from_start
    c.requires.values_value
    c.probe-forced.ensures)
    c.keep.ensures
    c.lay.ensures
    c.restore.ensures.filled)

pub shape_of-u : goal.shape_of-u
shape_of-u c =
    (half_beside
    c.requires.twinnable
    (from_start
    c.requires.values_value
    c.probe-forced.ensures)
    c.keep.ensures
    c.lay.ensures).long

pub returns : goal.returns
returns c = record {
  values_value_2 = c.restore.ensures.values_value;
  f_value = half_floats
      c.requires.twinnable
      (from_start
      c.requires.values_value
      c.probe-forced.ensures)
      c.keep.ensures
      c.lay.ensures
      c.restore.ensures.filled;
  halfway = half_done
      c.requires.twinnable
      (from_start
      c.requires.values_value
      c.probe-forced.ensures)
      c.keep.ensures
      c.lay.ensures
      c.restore.ensures.filled;
  beside = half_beside
      c.requires.twinnable
      (from_start
      c.requires.values_value
      c.probe-forced.ensures)
      c.keep.ensures
      c.lay.ensures;
}
