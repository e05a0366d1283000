-- A block of thirty-two masks, its sums side by side, and who leads. Assumes nothing.
use Rattle.std.specs.Prelude.{ℕ, ◌+◌, ◌<◌, ◌≡◌, List, length, get_or, Float}
use Rattle.std.specs.Float.{nan}
use Rattle.masks.specs.declared.Lead.{Lead}
use Rattle.masks.specs.Masks.{term, plus, best_of}

-- thirty-two places, each of which holds g of its own
pub record Block (g : ℕ → Float) (sums : List Float) : Type 0 where
  pub long : length sums ≡ 32
  pub at : (l : ℕ) → l < 32 → get_or sums l nan ≡ g l

-- the sums of the block from base on after a term, which counts in the masks that have its required bits
pub record TermAdded (base bits : ℕ) (value : Float) (sums₀ sums : List Float) : Type 0 where
  pub each : Block (λ l. plus (base + l) (get_or sums₀ l nan) (term bits value)) sums

-- it is the lowest mask of least g among those below n, with its g
pub record Leads (g : ℕ → Float) (n : ℕ) (lead : Lead) : Type 0 where
  pub best : record { sum = lead.sum; mask = lead.mask } ≡ best_of g n
