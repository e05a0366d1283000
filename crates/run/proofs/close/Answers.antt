-- `close` fills the rows, and runs from them. Assumes nothing.
use mathlib.Core.Path.{◌∙◌}
use native.Mathlib.Omega.{arith}
use Rattle.run.proofs.First.{filled_there}
use Rattle.run.proofs.close.Goals as goal

pub close_from-requires : goal.close_from-requires
close_from-requires c =
    let ready = c.requires in
    record {
      closable = record { shaped = ready.shaped; values_long = ready.values_long; floats_room = omega (arith, ready.floats_room, c.fill.ensures.long); words_room = ready.words_room };
      filled = filled_there _ _ c.fill.ensures;
    }

pub shape_of-f : goal.shape_of-f
shape_of-f c = c.close_from.ensures.floats_long ∙ c.fill.ensures.long

pub returns : goal.returns
returns c = record {
  values = c.close_from.ensures.values;
  rows = c.close_from.ensures.rows;
  values_long = c.close_from.ensures.values_long;
  floats_long = c.close_from.ensures.floats_long ∙ c.fill.ensures.long;
}
