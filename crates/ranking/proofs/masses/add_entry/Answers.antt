-- `add_entry` adds at both ends where both are free. Assumes nothing.
use native.Mathlib.Omega.{arith}
use Rattle.ranking.proofs.Sums.{ends_in, row_fixed, column_fixed, both_free_lem}
use Rattle.ranking.proofs.masses.add_entry.Goals as goal

pub bounds-start-i : goal.bounds-start-i
bounds-start-i c =
    omega (arith, ends_in c.requires.massable _ c.requires.k_bound, c.from-i.ensures)

pub returns-then-start-i-ne2 : goal.returns-then-start-i-ne2
returns-then-start-i-ne2 c = row_fixed _ _ _ _ c.from-i.ensures c.from-j.ensures c.if-start-i-ne2.true

pub bounds-start-j : goal.bounds-start-j
bounds-start-j c =
    omega (arith, ends_in c.requires.massable _ c.requires.k_bound, c.from-j.ensures)

pub returns-then-start-j-ne2 : goal.returns-then-start-j-ne2
returns-then-start-j-ne2 c =
    column_fixed _ _ _ _ c.from-i.ensures c.from-j.ensures c.if-start-i-ne2.false c.if-start-j-ne2.true

pub add_at-requires : goal.add_at-requires
add_at-requires c =
    omega (arith, ends_in c.requires.massable _ c.requires.k_bound, c.from-i.ensures)

pub add_at-requires-2 : goal.add_at-requires-2
add_at-requires-2 c =
    omega (arith, ends_in c.requires.massable _ c.requires.k_bound, c.from-j.ensures, c.add_at.auto)

pub returns : goal.returns
returns c =
    both_free_lem _ _ _ _ c.from-i.ensures c.from-j.ensures c.if-start-i-ne2.false c.if-start-j-ne2.false
    c.magnitude-a.ensures c.add_at.ensures c.add_at-2.ensures
