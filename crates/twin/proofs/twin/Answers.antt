-- `twin` makes both probes. Assumes nothing.
use Rattle.twin.proofs.Twinned.{half_again, end_beside, twin_done}
use mathlib.Core.Path.{◌∙◌}
use Rattle.twin.proofs.twin.Goals as goal

pub first_probe-forced-requires : goal.first_probe-forced-requires
first_probe-forced-requires c = record { twinnable = c.requires.twinnable; values_value = c.requires.values_value }

pub second_probe-requires : goal.second_probe-requires
second_probe-requires c = record {
  halfway = half_again
      c.first_probe-forced.ensures.f_value
      c.first_probe-forced.ensures.halfway;
  end_for = end_beside
      c.requires.end_for
      c.first_probe-forced.ensures.beside;
  values_value = c.first_probe-forced.ensures.values_value_2;
}

pub shape_of-values : goal.shape_of-values
shape_of-values c =
    c.second_probe.auto.values
    ∙ c.first_probe-forced.auto.values

pub shape_of-f : goal.shape_of-f
shape_of-f c =
    c.second_probe.auto.f
    ∙ c.first_probe-forced.auto.f

pub shape_of-u : goal.shape_of-u
shape_of-u c =
    c.second_probe.auto.u
    ∙ c.first_probe-forced.auto.u

pub returns : goal.returns
returns c = record {
  values_value_2 = c.second_probe.ensures.values_value_2;
  f_value = c.second_probe.ensures.f_value
      ∙ c.first_probe-forced.ensures.f_value;
  twinned = twin_done
      c.first_probe-forced.ensures.f_value
      c.first_probe-forced.ensures.beside
      c.second_probe.ensures.twinned;
}
