-- `sub_problem` tests, grades, numbers and works. Assumes nothing.
use mathlib.Core.Path.{refl, sym, ◌∙◌}
use lib.ListN.{length}
use native.Mathlib.Omega.{arith}
use Rattle.field.proofs.Means.{admitted_passes, admitted_loose}
use Rattle.sub_problem.proofs.Laws.{refused_call, done_call, room_call}
use Rattle.field.proofs.Tried.{err_given}
use Rattle.sub_problem.proofs.sub_problem.Goals as goal

pub returns-in_err-admitted : goal.returns-in_err-admitted
returns-in_err-admitted c = rw (err_given c.from_residual.ensures) (refused_call _ _ _ _ _ (sym c.admitted.ensures ∙ c.in_err-admitted.was))

pub graded-grade-requires : goal.graded-grade-requires
graded-grade-requires c =
    admitted_loose ((admitted_passes _ _ _ _).0 (sym c.admitted.ensures ∙ c.in_ok-admitted.was))

pub number-count-requires : goal.number-count-requires
number-count-requires c =
    let a = (admitted_passes _ _ _ _).0 (sym c.admitted.ensures ∙ c.in_ok-admitted.was) in
    record { start_len_bound = omega (arith, a.shaped.few_variables, a.start.long); start_in_bounds = omega (arith, a.start.long, a.words_room) }

pub returns-then-map-count : goal.returns-then-map-count
returns-then-map-count c =
    room_call _ _ _ _ _ (sym c.admitted.ensures ∙ c.in_ok-admitted.was) c.number-count.ensures.counted _
    (length c.number-count.new.u) _ c.if-map-count.true (c.fill.ensures.after (λ y e. e)) refl (c.fill-then-map-count.ensures.after (λ y e. e)) refl
    (c.fill-then-map-count-2.ensures.after (λ y e. e)) c.number-count.auto.u

pub work-requires : goal.work-requires
work-requires c =
    let a = (admitted_passes _ _ _ _).0 (sym c.admitted.ensures ∙ c.in_ok-admitted.was) in
    record { usable = record { shaped = a.shaped; start = a.start }; grade_value = c.graded-grade.ensures; numbered = c.number-count.ensures; count_in_bounds = omega (arith, c.if-map-count.false); q_in_bounds = omega (arith, a.floats_room) }

pub returns : goal.returns
returns c =
    done_call _ _ _ _ _ (sym c.admitted.ensures ∙ c.in_ok-admitted.was) c.number-count.ensures.counted c.number-count.new.u
    c.number-count.auto.u (omega (arith, c.if-map-count.false)) c.work.ensures
