-- `both` probes at 0, lays what that leaves, probes at 1, and passes over all variables. Assumes nothing.
use mathlib.Core.Path.{◌∙◌}
use Rattle.cold.proofs.Both.{lay_asks, afresh_again, pass_asks, both_adds, both_places}
use Rattle.cold.proofs.twice.both.Goals as goal

pub probe_afresh-requires : goal.probe_afresh-requires
probe_afresh-requires c = record { afresh = c.requires.afresh; variable_bound = c.requires.variable_bound }

pub lay-requires : goal.lay-requires
lay-requires c =
    let probed = c.probe_afresh in
    let v_long = probed.auto.values ∙ c.requires.afresh.values_long in
    lay_asks c.requires.afresh c.requires.variable_bound c.requires.end_for probed.ensures.values_value v_long probed.ensures.behind

pub probe_afresh-requires-2 : goal.probe_afresh-requires-2
probe_afresh-requires-2 c =
    let probed = c.probe_afresh in
    let v_long = probed.auto.values ∙ c.requires.afresh.values_long in
    let laid = c.lay in
    record {
      afresh = afresh_again c.requires.afresh c.requires.variable_bound c.requires.end_for probed.ensures.values_value v_long probed.ensures.behind
          laid.ensures probed.auto.values probed.auto.f;
      variable_bound = c.requires.variable_bound;
    }

pub pass-requires : goal.pass-requires
pass-requires c =
    let probed = c.probe_afresh in
    let v_long = probed.auto.values ∙ c.requires.afresh.values_long in
    let laid = c.lay in
    let again = c.probe_afresh-2 in
    let w-long = again.auto.values ∙ v_long in
    pass_asks c.requires.afresh c.requires.variable_bound c.requires.end_for probed.ensures.values_value v_long probed.ensures.behind laid.ensures again.ensures.values_value w-long again.ensures.behind

pub returns : goal.returns
returns c =
    let probed = c.probe_afresh in
    let v_long = probed.auto.values ∙ c.requires.afresh.values_long in
    let laid = c.lay in
    let again = c.probe_afresh-2 in
    let w-long = again.auto.values ∙ v_long in
    let passed = c.pass.ensures in
    record {
      adds = both_adds c.requires.afresh c.requires.variable_bound c.requires.end_for probed.ensures.values_value v_long probed.ensures.behind
          laid.ensures again.ensures.values_value w-long again.ensures.behind passed;
      adjacent = both_places c.requires.afresh c.requires.variable_bound c.requires.end_for probed.ensures.values_value v_long probed.ensures.behind
          laid.ensures again.ensures.values_value w-long again.ensures.behind passed;
    }
