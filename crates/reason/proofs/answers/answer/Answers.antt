-- `answer` passes over what is no variable and what is given. Assumes nothing.
use mathlib.Core.Path.{sym}
use Rattle.reason.proofs.Calls.{none_told, given_told, some_told, front_long}
use Rattle.reason.proofs.answers.answer.Goals as goal

pub returns-then-variable-field : goal.returns-then-variable-field
returns-then-variable-field c = none_told _ _ _ _ _ c.if-variable-field.true

pub returns-then-start-variable-ne2 : goal.returns-then-start-variable-ne2
returns-then-start-variable-ne2 c = given_told _ _ _ _ _ c.if-variable-field.false c.if-start-variable-ne2.true

pub slice_bounds-space-end : goal.slice_bounds-space-end
slice_bounds-space-end c = c.requires.ready.sound.shaped.few_variables

pub slice_bounds-answer_free-end : goal.slice_bounds-answer_free-end
slice_bounds-answer_free-end c = front_long _ 4096 c.requires.ready.sound.shaped.few_variables

pub answer_free-requires : goal.answer_free-requires
answer_free-requires c = record { ready = c.requires.ready; exact_in = c.requires.exact_in; i_bound = c.if-variable-field.false; values_len = sym (front_long _ 4096 c.requires.ready.sound.shaped.few_variables) }

pub returns : goal.returns
returns c = some_told _ _ _ _ _ c.if-variable-field.false c.if-start-variable-ne2.false c.answer_free.ensures
