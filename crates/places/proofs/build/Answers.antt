-- `build` clears the counts and makes the passes. Assumes nothing.
use Prim.Native.Nat.{◌+◌}
use mathlib.Core.Path.{◌∙◌}
use mathlib.Core.List.{◌++◌}
use native.Mathlib.Omega.{arith}
use lib.ListN.{drop}
use Rattle.places.proofs.Slices.{drop_more}
use Rattle.places.proofs.Building.{zeroed_front, sums_small, ends_stand, last_stands, built_over}
use Rattle.places.proofs.build.Goals as goal

pub sums-requires : goal.sums-requires
sums-requires c = record { n_in_bounds = omega (arith, c.requires.rows_in_bounds, c.count.auto.u, (zeroed_front c.args.n c.args.u.now c.fill.new.self (omega (arith, c.requires.rows_in_bounds)) (c.fill.ensures.after (λ y e. e))).long); n_bound = sums_small c.requires.ends_below c.count.new.u c.count.ensures.begins_2 }

pub place-requires : goal.place-requires
place-requires c = record { ends_below = c.requires.ends_below; rows_in_bounds = omega (arith, c.requires.rows_in_bounds, c.sums.auto.u, c.count.auto.u, (zeroed_front c.args.n c.args.u.now c.fill.new.self (omega (arith, c.requires.rows_in_bounds)) (c.fill.ensures.after (λ y e. e))).long); begins = ends_stand c.requires.ends_below c.count.new.u c.count.ensures.begins_2 c.sums.new.u c.sums.ensures.begins; n_value = last_stands c.requires.ends_below c.count.new.u c.count.ensures.begins_2 c.sums.ensures.n_value }

pub returns : goal.returns
returns c =
    let n = c.args.n in
    let u = c.args.u.now in
    let u₁ = c.fill.new.self ++ drop n u in
    built_over (c.sums.auto.u ∙ c.count.auto.u ∙ (zeroed_front c.args.n c.args.u.now c.fill.new.self (omega (arith, c.requires.rows_in_bounds)) (c.fill.ensures.after (λ y e. e))).long)
    (c.sums.ensures.u_value
    ∙ drop_more n (n + 1) c.count.new.u u₁ (omega arith) c.count.ensures.u_value
    ∙ drop_more n (n + 1) u₁ u (omega arith) (zeroed_front c.args.n c.args.u.now c.fill.new.self (omega (arith, c.requires.rows_in_bounds)) (c.fill.ensures.after (λ y e. e))).rest)
    c.place.ensures
