-- `begin` works out the rows, stores them and counts. Assumes nothing.
use native.Mathlib.Omega.{arith}
use Rattle.kept.proofs.Coded.{begin_is}
use Rattle.kept.proofs.making.begin.Goals as goal

pub fill-requires : goal.fill-requires
fill-requires c = c.requires.fillable

pub store_rows-requires : goal.store_rows-requires
store_rows-requires c =
    let ready = c.requires.fillable in
    record { values_in_bounds = omega (arith, ready.values_long, ready.room, c.fill.ensures.long); bounds_len = omega (arith, ready.values_long, c.requires.bounds_len) }

pub strict_rows-requires : goal.strict_rows-requires
strict_rows-requires c =
    let ready = c.requires.fillable in
    record { values_len_bound = omega (arith, ready.values_long, ready.shaped.few_variables); bounds_len = omega (arith, ready.values_long, c.requires.bounds_len, c.store_rows.ensures.long) }

pub returns : goal.returns
returns c =
    begin_is _ c.requires.fillable.values_long c.requires.bounds_len c.fill.ensures c.store_rows.ensures c.strict_rows.ensures
