-- `list_free` stores each variable, and counts the free ones. Assumes nothing.
use Rattle.pairs.proofs.FreeLaws.{Freeing}
use Rattle.pairs.proofs.listing.list_free.Given as goal

abbrev pub invariant-loop-i : goal.invariant-loop-i
invariant-loop-i l = Freeing l.values l.base l.i l.initial.u l.u l.count
