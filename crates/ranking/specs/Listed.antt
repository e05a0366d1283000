-- The free variables listed in the words. Assumes nothing.
use Rattle.std.specs.Prelude.{ℕ, ◌+◌, ◌≤◌, ◌≡◌, cond, List, eqb, length, get_or, take}
use Rattle.scratch.specs.Region.{region}
use Rattle.meaning.specs.Free.{free_to}

-- How far a start value moves the end of the list of free variables: 1 where it is 2, else 0.
unfoldable pub step_of : ℕ → ℕ
step_of v = cond (eqb v 2) 1 0

-- the free variables below j stand from `at` on, and what is in front of them and behind their room is as it was
pub record Listed (s : List ℕ) (at j : ℕ) (u₀ u : List ℕ) (count : ℕ) : Type 0 where
  pub few : count ≤ j
  pub long : length u ≡ length u₀
  pub front : take at u ≡ take at u₀
  pub is : region at count u ≡ free_to s j
  pub behind : (t : ℕ) → at + length s ≤ t → get_or u t 0 ≡ get_or u₀ t 0
