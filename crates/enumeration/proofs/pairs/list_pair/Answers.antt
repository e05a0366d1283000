-- `list_pair` lists a term if the entry stands. Assumes nothing.
use mathlib.Core.Path.{refl}
use native.Mathlib.Omega.{arith}
use Rattle.enumeration.proofs.Filling.{pair_fits, pair_none, pair_some}
use Rattle.enumeration.proofs.pairs.list_pair.Goals as goal

pub returns-in-None : goal.returns-in-None
returns-in-None c =
    pair_none _ _ _ _ c.requires.a_lt_count c.requires.b_lt_count refl refl (rw c.in-None.is at c.entry_of.ensures) (omega arith)

pub list_term-requires : goal.list_term-requires
list_term-requires c = record { room = c.requires.room; bits_bound = pair_fits c.requires.small.few c.requires.a_lt_count c.requires.b_lt_count c.bit.ensures c.bit-in-Some.ensures }

pub returns-in-Some : goal.returns-in-Some
returns-in-Some c =
    let found = rw c.in-Some.is at c.entry_of.ensures in
    pair_some _ _ _ _ c.requires.a_lt_count c.requires.b_lt_count refl refl found.1 found.0 c.bit.ensures c.bit-in-Some.ensures c.half.ensures c.list_term.ensures
