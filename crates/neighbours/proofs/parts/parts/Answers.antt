-- `parts` starts the parts and adds the entries. Assumes nothing.
use Rattle.neighbours.proofs.PartLaws.{parted_start}
use Rattle.neighbours.proofs.parts.parts.Goals as goal

pub add_entries-requires : goal.add_entries-requires
add_entries-requires c = let both = parted_start c.requires c.start_parts.auto.f c.start_parts.ensures in
    record { fillable = both.0; parted = both.1 }
