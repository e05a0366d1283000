-- `mend` tests, works, and writes or refuses. Assumes nothing.
use mathlib.Core.Path.{refl, sym, ◌∙◌}
use Rattle.field.specs.Field.{field_of}
use Rattle.mend.proofs.Laws.{mend_passes, mendable_roomy, writable, refused_call, room_call, done_call, front_loose, front_within, front_graded}
use Rattle.field.proofs.Tried.{err_given}
use Rattle.mend.proofs.mend.Goals as goal

pub returns-in_err-tests : goal.returns-in_err-tests
returns-in_err-tests c = rw (err_given c.from_residual.ensures) (let a = c.args in
    let F = field_of a.c.now a.rows.now a.cols.now a.q.now in
    refused_call F a.report.now a.f.now a.u.now (sym c.tests.ensures ∙ c.in_err-tests.was))

pub work-tally-requires : goal.work-tally-requires
work-tally-requires c =
    mendable_roomy ((mend_passes _ _ _).0 (sym c.tests.ensures ∙ c.in_ok-tests.was))

pub returns-then-changes-report : goal.returns-then-changes-report
returns-then-changes-report c =
    let a = c.args in
    let F = field_of a.c.now a.rows.now a.cols.now a.q.now in
    let passed = sym c.tests.ensures ∙ c.in_ok-tests.was in
    room_call F a.report.now a.f.now a.u.now passed c.work-tally.ensures c.if-changes-report.true
    (c.fill.ensures.after (λ y e. e)) refl (c.fill-then-changes-report.ensures.after (λ y e. e)) c.work-tally.auto.f (c.fill-then-changes-report-2.ensures.after (λ y e. e)) c.work-tally.auto.u

pub write-requires : goal.write-requires
write-requires c =
    let M = (mend_passes _ _ _).0 (sym c.tests.ensures ∙ c.in_ok-tests.was) in
    writable M.listed.few_entries c.work-tally.ensures (mendable_roomy M) c.if-changes-report.false

pub grade_first-grade-requires : goal.grade_first-grade-requires
grade_first-grade-requires c =
    let a = c.args in
    let F = field_of a.c.now a.rows.now a.cols.now a.q.now in
    let passed = sym c.tests.ensures ∙ c.in_ok-tests.was in
    record { loose = front_loose F a.report.now a.f.now a.u.now passed c.work-tally.ensures c.write.ensures; within = front_within F a.report.now a.f.now a.u.now passed c.work-tally.ensures c.write.ensures }

pub returns : goal.returns
returns c =
    let a = c.args in
    let F = field_of a.c.now a.rows.now a.cols.now a.q.now in
    let passed = sym c.tests.ensures ∙ c.in_ok-tests.was in
    done_call F a.report.now a.f.now a.u.now passed c.work-tally.ensures c.if-changes-report.false
    (front_graded F a.report.now a.f.now a.u.now passed c.work-tally.ensures c.write.ensures c.grade_first-grade.ensures) c.write.ensures
    (c.fill-2.ensures.after (λ y e. e)) c.work-tally.auto.f (c.fill-3.ensures.after (λ y e. e)) c.work-tally.auto.u
