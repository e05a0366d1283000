-- `is_apart` tests both ends. Assumes nothing.
use lib.Dec.{eqb}
use Rattle.kept.proofs.Entries.{not_either}
use Rattle.kept.proofs.search.is_apart.Goals as goal

pub returns : goal.returns
returns c = not_either (eqb c.args.row c.args.i) (eqb c.args.col c.args.i)
