-- A region of a list: the n elements from index a on, seen as a list of its own. Assumes nothing.
use Rattle.std.specs.Prelude.{ℕ, List, take, drop}

-- The n elements of s from index a on, or as many of them as there are.
unfoldable pub region : {A : Type 0} → ℕ → ℕ → List A → List A
region a n s = take n (drop a s)
