-- `enter` stores a free variable at its place. Assumes nothing.
use mathlib.Core.Path.{refl}
use native.Mathlib.Omega.{arith}
use Rattle.sub_problem.proofs.NumberLoops.{where_free, where_given, is_new, new_small, new_room}
use Rattle.sub_problem.proofs.numbers.enter.Goals as goal

pub offset_bounds-map-u : goal.offset_bounds-map-u
offset_bounds-map-u c =
    omega (arith, new_small c.requires.numbers c.requires.i_in_bounds refl)

pub bounds-map-u : goal.bounds-map-u
bounds-map-u c =
    new_room c.requires.numbers c.requires.i_in_bounds refl c.if-start-i-eq2.true c.requires.start_in_bounds

pub returns-then-start-i-eq2 : goal.returns-then-start-i-eq2
returns-then-start-i-eq2 c =
    rw (is_new c.requires.numbers c.requires.i_in_bounds refl)
    (where_free c.args.start.now c.args.i _ _ c.if-start-i-eq2.true)

pub returns-else-start-i-eq2 : goal.returns-else-start-i-eq2
returns-else-start-i-eq2 c = where_given c.args.start.now c.args.i _ _ c.if-start-i-eq2.false
