-- One number for a record whose ends are below 4,096. Assumes nothing.
use Rattle.std.specs.Prelude.{ℕ, ◌+◌, ◌*◌, ◌/◌, ◌%◌, ◌<◌, List, length, get_or}
use Rattle.meaning.specs.Records.{Record, record_on, Proper}

-- The number of a record, below 2^28: lower variable, higher variable and set, in order.
abbrev pub key_of : Record → ℕ
key_of x = (x.lower * 4096 + x.higher) * 16 + x.set

-- The record that a number stands for: what `key_of` makes of it is the number again.
abbrev pub unkey : ℕ → Record
unkey k = record_on (k / 16 / 4096) (k / 16 % 4096) (k % 16)

-- the records that have a number of their own
pub record Small (x : Record) : Type 0 where
  pub lower : x.lower < 4096
  pub higher : x.higher < 4096
  pub proper : Proper x

-- the number of a record with a pair in its set
pub record Key (k : ℕ) : Type 0 where
  pub below : k < 268435456
  pub some : 0 < k % 16

-- the pair of each number is below the pairs of those that come after it
abbrev pub Climbs : List ℕ → Type 0
Climbs ks = (i j : ℕ) → i < j → j < length ks → get_or ks i 0 / 16 < get_or ks j 0 / 16
