-- `close_weights` closes up the weights and clears what is behind them. Assumes nothing.
use lib.Ieee.{binary64, of_bits}
use native.Mathlib.Omega.{arith}
use Rattle.sub_problem.proofs.Laws.{rising_fits, filled, weights_closed}
use Rattle.sub_problem.proofs.closing.close_weights.Goals as goal

pub close_linear-requires : goal.close_linear-requires
close_linear-requires c = record { rising = c.requires.rising; c_in_bounds = c.requires.c_in_bounds }

pub returns : goal.returns
returns c =
    weights_closed c.args.c.now c.args.f.now c.requires.rising c.close_linear.ensures
    (filled (of_bits binary64 0) c.args.count c.close_linear.new.c (omega (arith, rising_fits c.requires.rising, c.close_linear.auto.c)) (c.fill.ensures.after (λ y e. e)))
