-- `change` sets the value, turns the rows of neighbours, stores the own row, and counts. Assumes nothing.
use native.Mathlib.Omega.{arith}
use lib.ListN.{length-set}
use Rattle.kept.proofs.Coded.{sound_set, change_is}
use Rattle.kept.proofs.turning.change.Goals as goal

pub turn_rows-requires : goal.turn_rows-requires
turn_rows-requires c = record { recorded = record { sound = sound_set c.requires.recorded.sound _ _ c.requires.i_bound c.requires.value_bound; long = c.requires.recorded.long }; i_bound = c.requires.i_bound }

pub afresh-requires : goal.afresh-requires
afresh-requires c = record { sound = sound_set c.requires.recorded.sound _ _ c.requires.i_bound c.requires.value_bound; i_bound = c.requires.i_bound }

pub strict_rows-requires : goal.strict_rows-requires
strict_rows-requires c =
    let long = (sound_set c.requires.recorded.sound _ _ c.requires.i_bound c.requires.value_bound).start.long in
    record { values_len_bound = omega (arith, long, c.requires.recorded.sound.shaped.few_variables); bounds_len = omega (arith, long, c.put_row.auto.f, c.turn_rows.auto.bounds, c.requires.recorded.long) }

pub shape_of-values : goal.shape_of-values
shape_of-values c = simp length-set

pub returns : goal.returns
returns c =
    change_is _ _ _ _ _ _ c.turn_rows.ensures c.afresh.ensures c.put_row.ensures c.strict_rows.ensures
