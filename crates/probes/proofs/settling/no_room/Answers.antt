-- `no_room` clears all that is lent. Assumes nothing.
use Rattle.probes.proofs.settling.no_room.Goals as goal

pub returns : goal.returns
returns c =
    rw ((c.fill.ensures.after (λ y e. e)), (c.fill-2.ensures.after (λ y e. e)), (c.fill-3.ensures.after (λ y e. e)), (c.fill-4.ensures.after (λ y e. e)))
