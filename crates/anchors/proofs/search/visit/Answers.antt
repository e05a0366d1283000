-- `visit` walks from a start that is not seen, and stores the anchor of its component. Assumes nothing.
use native.Mathlib.Omega.{arith}
use Rattle.anchors.proofs.Gathering.{leads_below}
use Rattle.anchors.proofs.Searching.{visit_seen, walked_members, visit_small, visit_tilted, visit_found}
use Rattle.anchors.proofs.search.visit.Goals as goal

pub returns-then-u-n-ne2 : goal.returns-then-u-n-ne2
returns-then-u-n-ne2 c =
    visit_seen c.requires.standing.placed
    c.requires.i_bound _ c.if-u-n-ne2.true

pub returns-then-count-least : goal.returns-then-count-least
returns-then-count-least c =
    visit_small c.requires.standing.placed
    c.requires.i_bound
    c.if-u-n-ne2.false c.walk-count.ensures c.if-count-least.true

pub all_turnable-requires : goal.all_turnable-requires
all_turnable-requires c = record { members = walked_members c.requires.standing.placed c.requires.i_bound c.if-u-n-ne2.false c.walk-count.ensures; start_len = c.requires.standing.start_long; q_in_bounds = c.requires.standing.floats_room; grade_value = c.requires.grade_value }

pub returns-then-not-all_turnable : goal.returns-then-not-all_turnable
returns-then-not-all_turnable c =
    visit_tilted
    c.requires.standing.placed
    c.requires.i_bound
    c.if-u-n-ne2.false
    c.walk-count.ensures c.if-count-least.false
    c.all_turnable.ensures c.if-not-all_turnable.true

pub find_leader-anchor-requires : goal.find_leader-anchor-requires
find_leader-anchor-requires c = record {
  members = walked_members
      c.requires.standing.placed
      c.requires.i_bound
      c.if-u-n-ne2.false
      c.walk-count.ensures;
  first_bound = c.requires.i_bound;
}

pub overflow_cast-anchor : goal.overflow_cast-anchor
overflow_cast-anchor c =
    omega (
      arith,
      c.find_leader-anchor.ensures,
      leads_below
          (walked_members
          c.requires.standing.placed
          c.requires.i_bound
          c.if-u-n-ne2.false
          c.walk-count.ensures)
          c.requires.i_bound,
      c.requires.standing.placed.shaped.few_variables,
    )

pub returns : goal.returns
returns c =
    visit_found
    c.requires.standing.placed
    c.requires.i_bound
    c.if-u-n-ne2.false
    c.walk-count.ensures
    c.if-count-least.false
    c.all_turnable.ensures c.if-not-all_turnable.false
    c.find_leader-anchor.ensures c.store.ensures
