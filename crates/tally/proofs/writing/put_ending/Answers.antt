-- `put_ending` writes the line of a refusal, or nothing. Assumes nothing.
use mathlib.Core.Path.{refl}
use native.Mathlib.Omega.{arith}
use Rattle.tally.specs.Text.{ending_text}
use Rattle.tally.proofs.Texts.{ending_none, ending_some, refused_short}
use Rattle.tally.proofs.writing.put_ending.Goals as goal

pub returns-in-Whole : goal.returns-in-Whole
returns-in-Whole c = record { wrote = ending_none c.in-Whole.is; upper_bound = omega arith }

pub returns-in-Malformed : goal.returns-in-Malformed
unfolding ending_text
returns-in-Malformed c = record { wrote = ending_some 11 c.in-Malformed.is refl (omega arith) c.requires c.write_refused.ensures; upper_bound = omega (arith, c.write_refused.ensures.size, refused_short 11 (omega arith)) }

pub returns-in-Full : goal.returns-in-Full
unfolding ending_text
returns-in-Full c = record { wrote = ending_some 19 c.in-Full.is refl (omega arith) c.requires c.write_refused-in-Full.ensures; upper_bound = omega (arith, c.write_refused-in-Full.ensures.size, refused_short 19 (omega arith)) }
