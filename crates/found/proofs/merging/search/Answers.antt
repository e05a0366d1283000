-- `search` finds where the records stop that are not above. Assumes nothing.
use borrow.Author.Rules.{rules}
use Rattle.std.proofs.lemmas.List.Sorted.{IsPartitionPoint-from_clause}
use Rattle.found.proofs.Searching.{not_above, parted, located}
use Rattle.found.proofs.merging.search.Goals as goal

pub returns : goal.returns
returns c =
    let H = c.requires.held in
    let B = c.requires.between in
    let is = c.as_chunks.ensures.front in
    let long = c.as_chunks.ensures.front_len in
    let point = c.partition_point.ensures in
    located H B is long point.bound
    (IsPartitionPoint-from_clause (not_above c.args.y) _ _ point.partitioned (parted H B is long) (λ a r q k. search rules))
