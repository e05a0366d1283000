-- `end` takes the fields that are left. Assumes nothing.
use Rattle.tallying.proofs.Takes.{end_on, end_over}
use Rattle.tallying.proofs.end.Goals as goal

pub returns-in-Continue : goal.returns-in-Continue
returns-in-Continue c = let both = end_on c.take_fields.ensures c.in-Continue.is in
    record { value = both.0; small_2 = both.1 }

pub returns-in-Break : goal.returns-in-Break
returns-in-Break c = let both = end_over c.take_fields.ensures c.in-Break.is in
    record { value = both.0; small_2 = both.1 }
