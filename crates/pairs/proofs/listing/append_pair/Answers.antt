-- `append_pair` works out one pair and appends what it gives. Assumes nothing.
use native.Mathlib.Omega.{arith}
use Rattle.pairs.proofs.ListLaws.{appended_as, pair_stands, pair_below}
use Rattle.pairs.proofs.listing.append_pair.Goals as goal

pub append-requires : goal.append-requires
append-requires c =
    let few = c.requires.prepared.laid.shaped.few_variables in
    record {
      at_bound = c.requires.at_bound;
      key_bound = pair_below c.args.i c.args.j (omega (arith, few, c.requires.i_bound)) (omega (arith, few, c.requires.i_bound)) _ _ c.sum_key-a.ensures
          c.diff_key-b.ensures;
    }

pub returns : goal.returns
returns c =
    let few = c.requires.prepared.laid.shaped.few_variables in
    appended_as
    (pair_stands c.args.i c.args.j (omega (arith, few, c.requires.i_bound)) (omega (arith, few, c.requires.i_bound)) _ _ _ _ c.pair_bounds-bounds.ensures
    c.judged-sum.ensures c.judged-diff.ensures c.sum_key-a.ensures c.diff_key-b.ensures)
    c.append.ensures
