-- `no_effect` tests, grades, finds and clears. Assumes nothing.
use mathlib.Core.Path.{sym, ◌∙◌}
use native.Mathlib.Omega.{arith}
use lib.ListN.{length}
use Rattle.field.specs.Field.{lent}
use Rattle.no_effect.proofs.Laws.{word_passes, refused_call, done_call, room_call}
use borrow.Author.Rules.{rules}
use Rattle.field.proofs.Tried.{err_given}
use Rattle.no_effect.proofs.no_effect.Goals as goal

pub returns-in_err-tests : goal.returns-in_err-tests
returns-in_err-tests c = rw (err_given c.from_residual.ensures) (refused_call _ _ _ (sym c.tests.ensures ∙ c.in_err-tests.was))

pub graded-grade-requires : goal.graded-grade-requires
graded-grade-requires c = ((word_passes _ _).0 (sym c.tests.ensures ∙ c.in_ok-tests.was)).loose

pub find-count-requires : goal.find-count-requires
find-count-requires c =
    let ready = (word_passes _ _).0 (sym c.tests.ensures ∙ c.in_ok-tests.was) in
    record { shaped = ready.loose.shaped; q_in_bounds = omega (arith, ready.words_room) }

pub returns-then-count-list : goal.returns-then-count-list
returns-then-count-list c =
    let a = c.args in
    let t = c.find-count in
    room_call (lent a.field) a.list.now a.u.now
    (sym c.tests.ensures
    ∙ c.in_ok-tests.was)
    t.ensures (length t.new.list) (length t.new.u) (search rules) (c.fill-then-count-list.ensures.after (λ y e. e)) (search rules)
    (c.fill.ensures.after (λ y e. e)) (search rules)

pub returns : goal.returns
returns c =
    let a = c.args in
    let t = c.find-count in
    done_call (lent a.field) a.list.now a.u.now
    (sym c.tests.ensures
    ∙ c.in_ok-tests.was)
    t.ensures (length t.new.u) c.graded-grade.ensures (search rules)
    (c.fill.ensures.after (λ y e. e)) (search rules)
