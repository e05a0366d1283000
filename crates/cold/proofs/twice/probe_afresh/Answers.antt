-- `probe_afresh` adds the value, fills the rows, and runs from them. Assumes nothing.
use mathlib.Core.Path.{refl, sym, ◌∙◌}
use native.Mathlib.Omega.{arith}
use Rattle.cold.proofs.Probed.{fill_asks, run_asks, probe_values, probe_behind}
use Rattle.cold.proofs.twice.probe_afresh.Goals as goal

pub assume-requires : goal.assume-requires
assume-requires c = record { values_len = c.requires.afresh.values_long ∙ sym c.requires.afresh.start.long; variable_in_bounds = omega (arith, c.requires.variable_bound, c.requires.afresh.start.long) }

pub fill-requires : goal.fill-requires
fill-requires c =
    fill_asks c.requires.afresh c.args.variable c.args.value c.assume.ensures refl

pub propagate-requires : goal.propagate-requires
propagate-requires c =
    run_asks c.requires.afresh c.args.variable c.args.value c.assume.ensures refl c.fill.ensures

pub returns : goal.returns
returns c =
    let assumed = c.assume.ensures in
    let filled = c.fill.ensures in
    let ran = c.propagate.ensures in
    record { values_value = probe_values c.requires.afresh c.args.variable c.args.value assumed refl filled ran; behind = probe_behind c.requires.afresh c.args.variable c.args.value assumed refl filled ran }
