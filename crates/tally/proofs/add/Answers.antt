-- `add` goes by what was met, and by whether a total passes the limit. Assumes nothing.
use mathlib.Core.Path.{sym, subst}
use Rattle.tally.specs.Tally.{Small}
use Rattle.tally.proofs.Counts.{small_fault}
use Rattle.tally.proofs.Adds.{added_on, added_full, fault_on, fault_full}
use Rattle.tally.proofs.add.Goals as goal

pub returns-then-is_within : goal.returns-then-is_within
returns-then-is_within c = added_on _ _ c.in-Some.is c.plus-totals.ensures c.is_within.ensures c.if-is_within.true

pub plus-totals-requires-in-None : goal.plus-totals-requires-in-None
plus-totals-requires-in-None c = record { small = c.requires.small; small_2 = subst Small (sym c.refused_field.ensures) small_fault }

pub returns-then-is_within-2 : goal.returns-then-is_within-2
returns-then-is_within-2 c = fault_on _ _ c.in-None.is c.refused_field.ensures c.plus-totals-in-None.ensures c.is_within-in-None.ensures c.if-is_within-2.true

pub returns-else-is_within : goal.returns-else-is_within
returns-else-is_within c = added_full _ _ c.in-Some.is c.plus-totals.ensures c.is_within.ensures c.if-is_within.false

pub returns-else-is_within-2 : goal.returns-else-is_within-2
returns-else-is_within-2 c = fault_full _ _ c.in-None.is c.refused_field.ensures c.plus-totals-in-None.ensures c.is_within-in-None.ensures c.if-is_within-2.false
