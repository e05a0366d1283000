-- `take_entry` drops the entry, joins it to the last place or opens a new one. Assumes nothing.
use mathlib.Core.Path.{refl, sym, ◌∙◌}
use native.Mathlib.Omega.{arith}
use lib.ListN.{length-set}
use Rattle.mending.proofs.Entries.{square_few}
use Rattle.mending.proofs.Passes.{some_last, drops, joins, opens}
use Rattle.mending.proofs.gathering.take_entry.Goals as goal

pub place_at-p-requires : goal.place_at-p-requires
place_at-p-requires c = record { listed = c.requires.listed; k_bound = c.requires.entry }

pub overflow_mul-field : goal.overflow_mul-field
overflow_mul-field c = omega (arith, square_few _ c.requires.listed.few_variables)

pub returns-then-p-field : goal.returns-then-p-field
returns-then-p-field c = drops c.requires c.place_at-p.ensures c.if-p-field.true

pub overflow_sub-last : goal.overflow_sub-last
overflow_sub-last c = some_last _ _ _ _ (sym c.is_last.ensures ∙ c.if-is_last.true)

pub returns-then-is_last : goal.returns-then-is_last
returns-then-is_last c =
    joins c.requires c.place_at-p.ensures (omega arith) (sym c.is_last.ensures ∙ c.if-is_last.true) refl

pub overflow_cast-u-2 : goal.overflow_cast-u-2
overflow_cast-u-2 c = omega (arith, square_few _ c.requires.listed.few_variables)

pub bounds-u-m-3 : goal.bounds-u-m-3
bounds-u-m-3 c =
    simp length-set (omega (arith, c.requires.words, c.requires.entry))

pub returns : goal.returns
returns c =
    opens c.requires c.place_at-p.ensures (omega arith) (sym c.is_last.ensures ∙ c.if-is_last.false)
