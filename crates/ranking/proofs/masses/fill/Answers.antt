-- `fill` clears the masses and adds every entry. Assumes nothing.
use Rattle.ranking.proofs.Sums.{fill_ready}
use Rattle.ranking.proofs.masses.fill.Goals as goal

pub add_entries-requires : goal.add_entries-requires
add_entries-requires c = let both = fill_ready c.requires (c.fill.ensures.after (λ y e. e)) in
    record { massable = both.0; w_value = both.1 }
