-- `weigh` gathers, adds up the constant and closes up the weights. Assumes nothing.
use Rattle.sub_problem.proofs.GatherLoops.{gathers_start}
use Rattle.sub_problem.proofs.Laws.{listed_rises, weighed}
use Rattle.sub_problem.proofs.weigh.Goals as goal

pub blank-requires : goal.blank-requires
blank-requires c = c.requires.q_in_bounds

pub gather-pairs-requires : goal.gather-pairs-requires
gather-pairs-requires c = record { usable = c.requires.usable; gathers = gathers_start c.blank.ensures }

pub add_all_given-constant-requires : goal.add_all_given-constant-requires
add_all_given-constant-requires c =
    c.requires.usable.start.long

pub close_weights-requires : goal.close_weights-requires
close_weights-requires c = record { rising = listed_rises c.requires.usable c.requires.listed; c_in_bounds = c.gather-pairs.ensures.long }

pub returns : goal.returns
returns c =
    weighed c.requires.usable c.requires.listed c.gather-pairs.ensures c.add_all_given-constant.ensures c.close_weights.ensures
