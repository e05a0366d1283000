-- `work` adds the value to the start values, and runs from them. Assumes nothing.
use mathlib.Core.Path.{sym, ap, ◌∙◌}
use native.Mathlib.Omega.{arith}
use Rattle.run.specs.Run.{closure}
use Rattle.probe.proofs.work.Goals as goal

pub assume-requires : goal.assume-requires
assume-requires c = record { values_len = c.requires.values_len ∙ sym c.requires.probable.ready.sound.start.long; variable_in_bounds = omega (arith, c.requires.probable.below, c.requires.probable.ready.sound.start.long) }

pub close-requires : goal.close-requires
close-requires c =
    let ready = c.requires.probable.ready in
    record {
      shaped = ready.sound.shaped;
      values_long = omega (arith, c.requires.values_len);
      floats_room = omega (arith, ready.floats_room);
      words_room = omega (arith, ready.words_room, ready.sound.shaped.rows_long);
    }

pub returns : goal.returns
unfolding closure
returns c = c.close.ensures.values ∙ ap (closure _) c.assume.ensures
