-- `visit_at` passes over an entry that does not join, and visits the other end of one that does. Assumes nothing.
use Rattle.places.proofs.Shape.{other_end_below}
use Rattle.parts.proofs.Moves.{passes_by, visits_end}
use Rattle.parts.proofs.steps.visit_at.Goals as goal

pub visit-requires : goal.visit-requires
visit-requires c = record { placed = c.requires.placed; j_bound = other_end_below c.requires.placed.shaped _ c.requires.k_bound c.requires.j_value }

pub returns-else-joins_by : goal.returns-else-joins_by
returns-else-joins_by c =
    passes_by c.requires.placed _ c.requires.k_bound c.args.zeros c.joins_by.ensures c.if-joins_by.false

pub returns-then-joins_by : goal.returns-then-joins_by
returns-then-joins_by c =
    visits_end c.requires.placed _ c.requires.k_bound c.args.zeros c.joins_by.ensures c.if-joins_by.true c.requires.j_value c.visit.ensures
