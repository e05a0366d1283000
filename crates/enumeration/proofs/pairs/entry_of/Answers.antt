-- `entry_of` goes through the places of i, rising. Assumes nothing.
use mathlib.Core.Path.{sym, ◌∙◌, refl}
use native.Mathlib.Omega.{arith}
use Rattle.places.proofs.Walk.{walk_turn}
use Rattle.enumeration.proofs.Sought.{seek_start, seek_turn, seek_found, seek_none}
use Rattle.enumeration.proofs.pairs.entry_of.Goals as goal

pub loop-p-init : goal.loop-p-init
loop-p-init c =
    seek_start _ c.requires.placed c.requires.i_bound refl refl

pub bounds-u-n : goal.bounds-u-n
bounds-u-n c = (walk_turn c.loop-p.invariant.along.walk c.loop-p-test.true).index

pub stands_at-requires : goal.stands_at-requires
stands_at-requires c = record {
  k_in_bounds = omega (arith, c.entry_in-k.ensures, (walk_turn c.loop-p.invariant.along.walk c.loop-p-test.true).word.entry);
  k_in_bounds_2 = omega
      (arith, c.entry_in-k.ensures, (walk_turn c.loop-p.invariant.along.walk c.loop-p-test.true).word.entry, c.requires.placed.shaped.rows_long, c.requires.placed.shaped.cols_long);
}

pub returns-then-stands_at : goal.returns-then-stands_at
returns-then-stands_at c = (
  omega (arith, c.entry_in-k.ensures, (walk_turn c.loop-p.invariant.along.walk c.loop-p-test.true).word.entry, c.requires.placed.shaped.rows_long),
  seek_found c.loop-p.invariant c.loop-p-test.true c.entry_in-k.ensures (sym c.if-stands_at.true ∙ c.stands_at.ensures),
)

pub loop-p-preserved : goal.loop-p-preserved
loop-p-preserved c =
    seek_turn c.loop-p.invariant c.loop-p-test.true c.entry_in-k.ensures (sym c.if-stands_at.false ∙ c.stands_at.ensures)

pub returns : goal.returns
returns c = seek_none c.loop-p.invariant c.loop-p-test.false
