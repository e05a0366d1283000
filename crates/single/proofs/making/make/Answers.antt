-- `make` starts the rows and adds the entries. Assumes nothing.
use Rattle.rows.proofs.Stored.{written_over}
use Rattle.rows.proofs.Pass.{ready_after}
use Rattle.single.proofs.making.make.Goals as goal

pub add_columns-requires : goal.add_columns-requires
add_columns-requires c = let w = c.begin.ensures in
    record { fillable = ready_after c.requires w; by_index = w.rows }

pub returns-then-field : goal.returns-then-field
returns-then-field c = written_over c.begin.ensures c.add_columns.ensures

pub add_entries-requires : goal.add_entries-requires
add_entries-requires c = let w = c.begin.ensures in
    record { fillable = ready_after c.requires w; by_index = w.rows }

pub returns : goal.returns
returns c = written_over c.begin.ensures c.add_entries.ensures
