-- Where the walk over the free pairs stands: the list of free variables in lent memory, two positions in it, and what it has found. Assumes nothing.
use Rattle.std.specs.Prelude.{ℕ, suc, ◌+◌, ◌*◌, ◌<◌, ◌≤◌, ◌≡◌, ◌⊎◌, Bool, true, cond, ◌&&◌, List, ◌++◌, ltb, length, get_or, take, drop, Float}
use Rattle.meaning.specs.Kinds.{Pair}
use Rattle.meaning.specs.Free.{is_free, free_to}
use Rattle.field.specs.Field.{Field, variables, entries}
use Rattle.margins.specs.Merge.{Listed}
use Rattle.pairs.specs.declared.listing.Cursor.{Cursor}
use Rattle.pairs.specs.declared.listing.Tally.{Tally}
use Rattle.neighbours.specs.Parts.{Parted}
use Rattle.neighbours.specs.Rows.{keys_at, weights_at, end_of, size, Laid}
use Rattle.pairs.specs.Listing.{free_of, with_each, pairs_of, free_pairs, examined, found_in, found, written}

-- what the pairs are worked from: linear parts, masses, and merged rows
pub record Prepared (F : Field) (s : List ℕ) (f : List Float) (u : List ℕ) : Type 0 where
  pub laid : Laid F s f u
  pub parts : Parted F s f (entries F)
  pub row : (t : ℕ) → t < variables F → is_free s t ≡ true
      → Listed F s t (drop (keys_at (variables F) (size F)) u) (drop (weights_at (variables F)) f) (get_or u t 0) (end_of (variables F) (size F) u t)
  pub within : (t : ℕ) → t < variables F → is_free s t ≡ true → end_of (variables F) (size F) u t ≤ 2 * size F

-- ---- the free variables, behind the keys

-- Where, in the words, the list of the free variables begins: behind the keys of all rows.
abbrev pub free_at : ℕ → ℕ → ℕ
free_at n m = keys_at n m + 2 * m

-- the first `count` places from `base` on hold the free variables below i, and what stands before them stays
pub record Freed (s : List ℕ) (base i : ℕ) (u₀ u : List ℕ) (count : ℕ) : Type 0 where
  pub long : length u ≡ length u₀
  pub front : take base u ≡ take base u₀
  pub many : count ≡ length (free_to s i)
  pub at : (a : ℕ) → a < count → get_or u (base + a) 0 ≡ get_or (free_to s i) a 0

-- ---- the walk

-- the pair after this one, of k free variables
abbrev pub next_of : ℕ → Cursor → Cursor
next_of k x = cond (ltb (x.second + 1) k) (record { first = x.first; second = x.second + 1 }) (record { first = x.first + 1; second = x.first + 2 })

-- Whether a pair is left to examine: fewer than the most are done, and the second position is in the list.
unfoldable pub is_left : ℕ → ℕ → ℕ → Cursor → Bool
is_left pairs most k x = ltb pairs most && ltb x.second k

-- the pairs from this one on
abbrev pub pairs_from : List ℕ → Cursor → List Pair
pairs_from is x = with_each (get_or is x.first 0) (drop x.second is) ++ pairs_of (drop (suc x.first) is)

-- so many pairs are examined, and the list has what they gave
pub record Walking (F : Field) (s : List ℕ) (most : ℕ) (l₀ l : List ℕ) (pairs items : ℕ) (x : Cursor) : Type 0 where
  pub within : pairs ≤ most
  pub some : pairs ≤ length (free_pairs s)
  pub order : x.first < x.second
  pub close : (x.second < length (free_of s)) ⊎ (x.second ≡ suc x.first)
  pub rest : drop pairs (free_pairs s) ≡ pairs_from (free_of s) x
  pub many : items ≡ length (found_in F s (take pairs (free_pairs s)))
  pub list : l ≡ written (found_in F s (take pairs (free_pairs s))) l₀

-- the count is tied to the list's end: the list is what the first `pairs` free pairs give, and those are all that are allowed
pub record Walked (F : Field) (s : List ℕ) (limit : ℕ) (l₀ l : List ℕ) (r : Tally) : Type 0 where
  pub pairs : r.pairs ≡ length (examined limit s)
  pub items : r.items ≡ length (found F s limit)
  pub list : l ≡ written (found F s limit) l₀
