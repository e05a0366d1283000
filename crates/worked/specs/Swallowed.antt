-- The swallowed rate over whole numbers, counted in quarters, of which each of its weights is a whole number. Assumes nothing.
use Rattle.std.specs.Prelude.{ℕ, List, [], ◌∷◌}
use Rattle.meaning.specs.Field.{Field}
use Rattle.field.specs.Reading.{whole_of}
use Rattle.worked.specs.Fields.{swallowing}

-- The swallowing field in whole numbers of quarters.
abbrev pub rates : Field
rates = whole_of 1072 swallowing

-- Start values of the swallowing field with nothing given.
abbrev pub free : List ℕ
free = 2 ∷ 2 ∷ 2 ∷ 2 ∷ []

-- 1,0,1,0, which is a best completion
abbrev pub best : List ℕ
best = 1 ∷ 0 ∷ 1 ∷ 0 ∷ []

-- 0,0,1,1, which the closure leaves, as the Rust does
abbrev pub forced : List ℕ
forced = 0 ∷ 0 ∷ 1 ∷ 1 ∷ []
