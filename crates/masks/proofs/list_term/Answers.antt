-- `list_term` stores at the end. Assumes nothing.
use Rattle.masks.proofs.Listing.{listed_one}
use Rattle.masks.proofs.list_term.Goals as goal

pub returns : goal.returns
returns c = listed_one _ _ _ c.requires.room
