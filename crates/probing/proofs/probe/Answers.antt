-- `probe` adds the value, renews the neighbours' rows, scans, and serves the queue. Assumes nothing.
use mathlib.Core.Path.{sym, ◌∙◌}
use native.Mathlib.Omega.{arith}
use Rattle.probing.proofs.Probing.{probed_below, placed_with, probe_covers, probe_does}
use Rattle.probing.proofs.probe.Goals as goal

pub bounds-values-variable : goal.bounds-values-variable
bounds-values-variable c =
    let pre = c.requires in omega (arith, probed_below pre.remembers _ 0 pre.variable_value (omega arith), pre.remembers.start.long)

pub renew-requires : goal.renew-requires
renew-requires c =
    let pre = c.requires in
    record { placed = placed_with pre.remembers _ _ pre.variable_value pre.value_bound; standard = pre.remembers.standard; i_bound = probed_below pre.remembers _ _ pre.variable_value pre.value_bound; grade_value = pre.remembers.graded }

pub scan_some-tail-requires : goal.scan_some-tail-requires
scan_some-tail-requires c =
    let pre = c.requires in probe_covers pre.remembers _ _ pre.variable_value pre.value_bound c.renew.ensures

pub work-requires : goal.work-requires
work-requires c = c.scan_some-tail.ensures.kept.placed

pub shape_of-values : goal.shape_of-values
shape_of-values c =
    c.work.ensures.kept.placed.values_long ∙ sym c.requires.remembers.start.long

pub returns : goal.returns
returns c =
    let pre = c.requires in probe_does pre.remembers _ _ pre.variable_value pre.value_bound c.renew.ensures c.scan_some-tail.ensures c.work.ensures
