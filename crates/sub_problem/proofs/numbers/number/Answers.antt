-- `number` stores one number a turn. Assumes nothing.
use mathlib.Core.Path.{refl}
use native.Mathlib.Omega.{arith}
use Rattle.sub_problem.proofs.NumberLoops.{numbers_start, numbering_turn, numbers_done, count_small}
use Rattle.sub_problem.proofs.numbers.number.Goals as goal

pub loop-i-init : goal.loop-i-init
loop-i-init c = record { numbered = numbers_start c.requires.start_len_bound c.requires.start_in_bounds; same = refl }

pub overflow_cast-u : goal.overflow_cast-u
overflow_cast-u c = omega (arith, count_small c.loop-i.invariant.numbered)

pub offset_bounds-u-i : goal.offset_bounds-u-i
offset_bounds-u-i c = omega (arith, c.loop-i.invariant.numbered.numbers.few)

pub bounds-u-i : goal.bounds-u-i
bounds-u-i c = omega (arith, c.loop-i.invariant.numbered.numbers.long)

pub next_number-count-requires : goal.next_number-count-requires
next_number-count-requires c = record { i_in_bounds = omega arith; count_bound = count_small c.loop-i.invariant.numbered }

pub loop-i-preserved : goal.loop-i-preserved
loop-i-preserved c = numbering_turn c.loop-i.invariant c.loop-i-test.true c.next_number-count.ensures

pub returns : goal.returns
returns c = numbers_done c.loop-i.invariant.numbered (omega arith)
