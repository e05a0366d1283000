-- `parse` notes one record a turn. Assumes nothing.
use Rattle.records.proofs.Loop.{reads_start, reads_room, reads_few, reads_turn, reads_less, reads_done}
use borrow.Author.Rules.{rules}
use Rattle.records.proofs.parsing.parse.Goals as goal

pub loop-next-init : goal.loop-next-init
loop-next-init c = record { same_lent = search rules; reads = reads_start _ _ c.requires }

pub note-requires : goal.note-requires
note-requires c = record { room = reads_room c.loop-next.invariant.reads; variables_bound = reads_few c.loop-next.invariant.reads }

pub loop-next-smaller : goal.loop-next-smaller
loop-next-smaller c =
    reads_less c.loop-next.invariant.reads c.read-found.ensures c.note.ensures.noted c.in-Continue.is

pub loop-next-preserved : goal.loop-next-preserved
loop-next-preserved c =
    record { same_lent = search rules; reads = reads_turn c.loop-next.invariant.reads c.read-found.ensures c.note.ensures.noted c.in-Continue.is }

pub returns-in-Break : goal.returns-in-Break
returns-in-Break c =
    record { same_lent = search rules; parses = reads_done c.loop-next.invariant.reads c.read-found.ensures c.note.ensures.noted c.in-Break.is }
