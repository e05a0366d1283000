-- `count` goes over the variables. Assumes nothing.
use native.Mathlib.Omega.{arith}
use mathlib.Core.List.{[], ◌∷◌}
use lib.ListN.{length-append}
use Rattle.std.proofs.lemmas.Slice.Zip.{zip_turn, zip_end}
use Rattle.tally.proofs.Counts.{count_start, count_given, count_zero, count_one, count_free, count_turn, count_done, bit_few}
use borrow.Author.Rules.{rules}
use Rattle.tally.proofs.counting.count.Goals as goal

pub loop-first-init : goal.loop-first-init
loop-first-init c = count_start _ _

pub overflow_add-given : goal.overflow_add-given
overflow_add-given c = omega (arith, count_given c.loop-first.invariant, c.loop-first.invariant.within, c.requires.start_len_bound, bit_few _ c.from-given.ensures)

pub overflow_add-zero : goal.overflow_add-zero
overflow_add-zero c = omega (arith, count_zero c.loop-first.invariant, c.loop-first.invariant.within, c.requires.start_len_bound)

pub overflow_add-one : goal.overflow_add-one
overflow_add-one c = omega (arith, count_one c.loop-first.invariant, c.loop-first.invariant.within, c.requires.start_len_bound)

pub overflow_add-free : goal.overflow_add-free
overflow_add-free c = omega (arith, count_free c.loop-first.invariant, c.loop-first.invariant.within, c.requires.start_len_bound, bit_few _ c.from-free.ensures)

pub loop-first-preserved : goal.loop-first-preserved
loop-first-preserved c =
    let turn = zip_turn c.args.start.now c.args.values.now c.loop-first.yielded _ _ c.next.new.self _ (search rules) (search rules) c.loop-first.yielded_by _ c.in-Some.is c.next.ensures.steps in
    rw (length-append c.loop-first.yielded ((c.in-Some.first, c.in-Some.last) ∷ []))
    (count_turn c.loop-first.invariant turn.0 (turn.2 0) (turn.3 0) c.from-given.ensures c.forced-zero.ensures.value c.forced-one.ensures.value c.from-free.ensures)

pub returns : goal.returns
returns c =
    let all = zip_end c.args.start.now c.args.values.now c.loop-first.yielded _ _ c.next.new.self _ (search rules) (search rules) c.loop-first.yielded_by c.in-None.is c.next.ensures.steps in
    count_done c.loop-first.invariant (omega (arith, all))
