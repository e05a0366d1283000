-- `add_entry` adds at each end of an entry. Assumes nothing.
use mathlib.Core.Path.{◌∙◌}
use Rattle.neighbours.specs.Parts.{add_both}
use Rattle.neighbours.proofs.parts.add_entry.Goals as goal

pub returns : goal.returns
unfolding add_both
returns c =
    c.add_end-2.ensures ∙ rw (c.add_end.ensures, c.half-coeff.ensures, c.from-i.ensures, c.from-j.ensures)
