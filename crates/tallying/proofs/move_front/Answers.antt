-- `move_front` copies within the buffer. Assumes nothing.
use mathlib.Core.Path.{◌∙◌}
use Rattle.tallying.proofs.Moves.{moved}
use Rattle.tallying.proofs.move_front.Goals as goal

pub returns-clause-buffer_value : goal.returns-clause-buffer_value
returns-clause-buffer_value c = c.copy_within.ensures.after ∙ moved c.args.buffer.now c.args.at c.args.held c.requires.at_le_held c.requires.held_in_bounds
