-- What an error-free sum promises: its parts add up to what was added, as whole numbers of the unit 2^-1074, of which every finite f64 is one. Assumes nothing.
use Rattle.std.specs.Prelude.{true, ◌≡◌, List, [], ◌∷◌, ℕ, T, Float}
use Rattle.std.specs.Float.{binary64}
use Rattle.std.specs.Float.Ieee.{fits, ne}
use Rattle.std.specs.Float.Ieee.Scale.{finite}
use Rattle.whole.specs.Whole.{Whole, nothing, ◌⊕◌, ◌≈◌, Zero}
use Rattle.weights.specs.Worth.{Worth, read, zero64}
use Rattle.expansion.specs.Sum.{Expansion, parts, invalid, plus}

-- x is a finite f64
pub record Number (x : Float) : Type 0 where
  pub held : T (fits binary64 x)
  pub finite_one : T (finite x)

-- Every float of the list is a finite f64, as the parts of a valid sum are.
pub data Numbers : List Float → Type 0 where
  none : Numbers []
  more : {x : Float} {l : List Float} → Number x → Numbers l → Numbers (x ∷ l)

-- Every float of the list is one that an f64 holds, be it finite or not.
pub data AllHeld : List Float → Type 0 where
  none_held : AllHeld []
  more_held : {x : Float} {l : List Float} → T (fits binary64 x) → AllHeld l → AllHeld (x ∷ l)

-- The sum of all floats of the list, as a whole number of the unit 2^-1074.
unfoldable pub total : List Float → Whole
total [] = nothing
total (x ∷ l) = read 0 x ⊕ total l

-- The expansion that is left when the floats of the list are added in order.
unfoldable pub add_all : Expansion → List Float → Expansion
add_all e [] = e
add_all e (x ∷ l) = add_all (plus x e) l

-- the parts add up to a, or a sum has overflowed
pub data Totals : Expansion → Whole → Type 0 where
  adds_up : {l : List Float} {a : Whole} → Numbers l → total l ≈ a → Totals (parts l) a
  overflown : {a : Whole} → Totals invalid a

-- where every sum so far was exact in the unit u there is one part, worth a, or none, and a is 0
pub data Plain (u : ℕ) : Expansion → Whole → Type 0 where
  nought : {a : Whole} → Zero a → Plain u (parts []) a
  single : {x : Float} {a : Whole} → Worth u x a → ne x zero64 ≡ true → Plain u (parts (x ∷ [])) a
