-- A part of a list copied to another part of it. Assumes nothing.
use Rattle.std.specs.Prelude.{ℕ, ◌+◌, ◌<◌, ◌≤◌, ◌≡◌, ◌⊎◌, List, length, get_or}

-- what a copy in rising order asks: each of the k elements from index a on is read before it is written, if it is written at all
pub record Shiftable (a b k long : ℕ) : Type 0 where
  pub order : (b ≤ a) ⊎ (a + k ≤ b)
  pub from_room : a + k ≤ long
  pub to_room : b + k ≤ long

-- the k elements from index b on are those from index a on, and the others are as they were
pub record Shifted {A : Type 0} (d : A) (a b k : ℕ) (l l' : List A) : Type 0 where
  pub long : length l' ≡ length l
  pub moved : (j : ℕ) → j < k → get_or l' (b + j) d ≡ get_or l (a + j) d
  pub before_it : (j : ℕ) → j < b → get_or l' j d ≡ get_or l j d
  pub behind_it : (j : ℕ) → b + k ≤ j → get_or l' j d ≡ get_or l j d
