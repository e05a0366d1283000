-- `list_free` looks at one variable a turn. Assumes nothing.
use Rattle.ranking.proofs.Lists.{Listing}
use Rattle.ranking.proofs.listing.list_free.Given as goal

abbrev pub invariant-loop-j : goal.invariant-loop-j
invariant-loop-j l = Listing l.start l.at l.j l.initial.u l.u l.count
