-- `rank` weighs, lists and sorts. Assumes nothing.
use native.Mathlib.Omega.{arith}
use Rattle.ranking.proofs.Candidates.{rank_sortable, rank_done}
use Rattle.ranking.proofs.rank.Goals as goal

pub fill-requires : goal.fill-requires
fill-requires c = c.requires.massable

pub list_free-count-requires : goal.list_free-count-requires
list_free-count-requires c = record { start_len_bound = omega (arith, c.requires.massable.values_long, c.requires.massable.shaped.few_variables); start_in_bounds = omega (arith, c.requires.massable.values_long, c.requires.room) }

pub sort_first-requires : goal.sort_first-requires
sort_first-requires c = rank_sortable c.requires c.fill.ensures c.list_free-count.ensures

pub returns : goal.returns
returns c = record { ranked = rank_done c.requires c.fill.ensures c.list_free-count.ensures c.sort_first.ensures; massed = c.fill.ensures }
