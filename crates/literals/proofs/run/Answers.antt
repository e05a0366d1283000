-- `run` links the ends, enters the start values and serves the queue. Assumes nothing.
use Rattle.literals.proofs.Freeing.{freed}
use Rattle.literals.proofs.Going.{enter_start}
use native.Mathlib.Omega.{arith}
use Rattle.literals.proofs.run.Goals as goal

pub enter-tail-requires : goal.enter-tail-requires
enter-tail-requires c = let ready = c.requires in record {
  start_len_bound = ready.few;
  valid = ready.small;
  entering = enter_start c.link.ensures (omega
      (arith, ready.words_room, c.link.auto.u, c.fill.auto.self)) (freed (omega (arith, ready.words_room, c.link.auto.u, c.fill.auto.self)) (c.fill-2.ensures.after (λ y e. e)));
}
