-- `all_finite` tests one weight a turn. Assumes nothing.
use lib.Ieee.{nan}
use lib.Ieee.Scale.{finite}
use lib.ListN.{length, get_or}
use Rattle.scratch.specs.All.{Testing}
use Rattle.field.proofs.weighs.all_finite.Given as goal

abbrev pub invariant-loop-x : goal.invariant-loop-x
invariant-loop-x l = Testing (λ j. finite (get_or l.w j nan)) (length l.w) l.x-index l.fine
