-- `work` lists the map back, weighs, closes up and clears. Assumes nothing.
use mathlib.Core.Path.{refl}
use lib.ListN.{length}
use native.Mathlib.Omega.{arith}
use Rattle.sub_problem.proofs.Laws.{is_listed, same_usable, worked}
use Rattle.sub_problem.proofs.work.Goals as goal

pub list_back-requires : goal.list_back-requires
list_back-requires c = record { numbers = c.requires.numbered.numbers; start_in_bounds = omega (arith, c.requires.numbered.counted, c.requires.count_in_bounds) }

pub weigh-constant-requires : goal.weigh-constant-requires
weigh-constant-requires c = record { usable = c.requires.usable; listed = is_listed c.args.map.now c.requires.numbered c.requires.count_in_bounds c.list_back.ensures; q_in_bounds = c.requires.q_in_bounds }

pub close_all-kept-requires : goal.close_all-kept-requires
close_all-kept-requires c = record { usable = same_usable c.requires.usable c.weigh-constant.new.c c.weigh-constant.auto.c; numbers = c.requires.numbered.numbers }

pub returns : goal.returns
returns c =
    worked _ _ _ _ _ (length c.weigh-constant.new.f) _ c.weigh-constant.new.c c.requires.grade_value c.requires.numbered.counted
    c.list_back.ensures c.weigh-constant.ensures c.close_all-kept.ensures (c.fill.ensures.after (λ y e. e))
    c.weigh-constant.auto.f (c.fill-2.ensures.after (λ y e. e)) refl
