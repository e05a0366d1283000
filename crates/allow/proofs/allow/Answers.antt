-- `allow` tests, decides and clears. Assumes nothing.
use mathlib.Core.Path.{sym, ◌∙◌}
use Rattle.field.proofs.Tried.{err_given}
use Rattle.allow.proofs.Means.{passed_ready, fits_is}
use Rattle.allow.proofs.Laws.{refused_call, room_call, done_call}
use Rattle.allow.proofs.allow.Goals as goal

pub returns-in_err-tests : goal.returns-in_err-tests
returns-in_err-tests c = rw (err_given c.from_residual.ensures) (refused_call _ _ _ _ _ _ c.tests.ensures c.in_err-tests.was)

pub fits-requires : goal.fits-requires
fits-requires c = (passed_ready _ _ _ _ c.tests.ensures c.in_ok-tests.was).few

pub returns-then-not-fits : goal.returns-then-not-fits
returns-then-not-fits c =
    room_call _ _ _ _ _ _ c.tests.ensures c.in_ok-tests.was c.fits.ensures c.if-not-fits.true
    (c.fill.ensures.after (λ y e. e)) (c.fill-then-not-fits.ensures.after (λ y e. e)) (c.fill-then-not-fits-2.ensures.after (λ y e. e)) (c.fill-then-not-fits-3.ensures.after (λ y e. e))

pub decide-answer-requires : goal.decide-answer-requires
decide-answer-requires c =
    let ready = passed_ready _ _ _ _ c.tests.ensures c.in_ok-tests.was in
    let room = (fits_is _ _ _).0 (sym c.fits.ensures ∙ c.if-not-fits.false) in
    record { listed = ready.listed; wide = record { few = ready.few; row_room = ready.longs_room }; n_in_bounds = room.0; n_in_bounds_2 = room.1 }

pub returns : goal.returns
returns c =
    done_call _ _ _ _ _ _ c.tests.ensures c.in_ok-tests.was c.fits.ensures c.if-not-fits.false
    c.decide-answer.ensures (c.fill-2.ensures.after (λ y e. e)) c.decide-answer.auto.w (c.fill-3.ensures.after (λ y e. e))
