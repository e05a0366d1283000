-- `solve_start` passes over a start that is not open, walks, and enumerates a small component. Assumes nothing.
use native.Mathlib.Omega.{arith}
use Rattle.components.proofs.Staging.{stage_shut, walk_held, walk_small, stage_large, stage_small}
use borrow.Author.Rules.{rules}
use Rattle.components.proofs.solve_start.Goals as goal

pub overflow_add-base-3 : goal.overflow_add-base-3
overflow_add-base-3 c = omega (arith, c.requires.standing.placed.words_room, c.requires.start_bound)

pub offset_bounds-u-base : goal.offset_bounds-u-base
offset_bounds-u-base c = omega (arith, c.requires.standing.placed.words_room, c.requires.start_bound)

pub bounds-u-base : goal.bounds-u-base
bounds-u-base c = omega (arith, c.requires.standing.placed.words_room, c.requires.start_bound)

pub returns-then-u-base-ne2 : goal.returns-then-u-base-ne2
returns-then-u-base-ne2 c =
    stage_shut c.requires.standing c.requires.start_bound c.if-u-base-ne2.true

pub walk-count-requires : goal.walk-count-requires
walk-count-requires c = record { placed = c.requires.standing.placed; start_bound = c.requires.start_bound }

pub returns-then-count-gt10 : goal.returns-then-count-gt10
returns-then-count-gt10 c =
    stage_large c.requires.standing c.requires.start_bound c.if-u-base-ne2.false c.walk-count.ensures c.if-count-gt10.true

pub solve-requires : goal.solve-requires
solve-requires c = record {
  held = walk_held c.requires.standing c.requires.start_bound c.if-u-base-ne2.false c.walk-count.ensures;
  small = walk_small c.requires.standing c.requires.start_bound c.if-u-base-ne2.false
      c.walk-count.ensures c.if-count-gt10.false;
}

pub returns : goal.returns
returns c =
    stage_small c.requires.standing c.requires.start_bound c.if-u-base-ne2.false c.walk-count.ensures c.if-count-gt10.false c.solve.ensures
