-- Ranks worked by hand: entries (0, 1) of 2.0 and (1, 2) of -4.0. Assumes nothing.
use mathlib.Core.Path.{◌≡◌, refl}
use mathlib.Core.List.{[], ◌∷◌}
use lib.Ieee.{add, sum, round, lt, of_bits, binary64}
use Rattle.weights.specs.Worth.{magnitude, zero64, two64}
use Rattle.meaning.specs.Free.{free_to}
use Rattle.field.specs.Field.{Field, field_of}
use Rattle.ranking.specs.Ranking.{mass_at_end, mass_at_entry, mass_to, mass_of, ahead, insert, ordered, ranks}

abbrev path : Field
path = field_of (zero64 ∷ zero64 ∷ zero64 ∷ []) (0 ∷ 1 ∷ []) (1 ∷ 2 ∷ []) (two64 ∷ of_bits binary64 0xc010_0000_0000_0000 ∷ [])

-- all free: the masses are 2.0, 6.0 and 4.0
pub all_free : ranks path (2 ∷ 2 ∷ 2 ∷ []) ≡ 1 ∷ 2 ∷ 0 ∷ []
unfolding ranks ordered insert ahead mass_of mass_to mass_at_entry mass_at_end free_to magnitude lt add sum round of_bits
all_free = refl

-- variable 2 fixed: the entry (1, 2) counts no more, the masses are both 2.0, and the indices rise
pub one_fixed : ranks path (2 ∷ 2 ∷ 0 ∷ []) ≡ 0 ∷ 1 ∷ []
unfolding ranks ordered insert ahead mass_of mass_to mass_at_entry mass_at_end free_to magnitude lt add sum round of_bits
one_fixed = refl
