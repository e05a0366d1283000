-- `solve` begins with the start values as marks and goes through the starts. Assumes nothing.
use Rattle.components.proofs.Parted.{begun_standing, all_solved}
use borrow.Author.Rules.{rules}
use Rattle.components.proofs.solve.Goals as goal

pub begin-requires : goal.begin-requires
begin-requires c = record { shaped = c.requires.shaped; values_len = c.requires.values_long; q_in_bounds = c.requires.room }

pub solve_all-requires : goal.solve_all-requires
solve_all-requires c =
    begun_standing c.requires c.begin.ensures

pub returns : goal.returns
returns c =
    all_solved c.requires c.begin.ensures c.solve_all.ensures
