-- Where a walk stands in the u32 scratch, behind the adjacency: n marks, n places of the stack, n places of the members. Assumes nothing.
use Rattle.std.specs.Prelude.{ℕ, zero, suc, ◌+◌, ◌*◌, ◌<◌, ◌≤◌, ◌≡◌, Bool, List, [], ◌∷◌, length, get_or, take, drop, replicate}
use Rattle.scratch.specs.Region.{region}
use Rattle.meaning.specs.Free.{frees}
use Rattle.field.specs.Field.{Field, variables, Shaped}
use Rattle.places.specs.Places.{Adjacent}
use Rattle.parts.specs.Walk.{Search, search, opened, walked_from, members_from, marks_from}

-- Where the marks begin in the words: behind the n + 1 offsets and two places for each entry.
abbrev pub base : Field → ℕ
base F = variables F + 1 + 2 * length F.rows

-- Where the stack of the walk begins in the words: behind the n marks.
abbrev pub stack_base : Field → ℕ
stack_base F = base F + variables F

-- Where the members of a component begin in the words: behind the n places of the stack.
abbrev pub members_base : Field → ℕ
members_base F = stack_base F + variables F

-- Where the words begin that a walk does not touch: behind the n places of the members.
abbrev pub past : Field → ℕ
past F = members_base F + variables F

-- The n marks as they stand in the words u, one for each variable of the field.
abbrev pub marks_in : Field → List ℕ → List ℕ
marks_in F u = region (base F) (variables F) u

-- the words, and how many variables are on the stack
pub record Cells : Type 0 where
  pub words : List ℕ
  pub top : ℕ

-- The words of a walk together with how many variables are on its stack.
abbrev pub cells : List ℕ → ℕ → Cells
cells u top = record { words = u; top = top }

-- a stack of the given height in u from index a on, its top first
unfoldable pub stack_in : List ℕ → ℕ → ℕ → List ℕ
stack_in u a zero = []
stack_in u a (suc top) = get_or u (a + top) 0 ∷ stack_in u a top

-- the search that the cells hold
unfoldable pub search_in : Field → Cells → Search
search_in F s = search (marks_in F s.words) (stack_in s.words (stack_base F) s.top)

-- what a step asks: the field has its shape, the adjacency is in its place, the stack holds variables, has room for all that are open, and is zeros above its top
pub record Placed (F : Field) (s : Cells) : Type 0 where
  pub shaped : Shaped F
  pub adjacent : Adjacent (variables F) F.rows F.cols s.words
  pub words_room : past F ≤ length s.words
  pub stack_room : s.top + frees (marks_in F s.words) ≤ variables F
  pub stack_below : (h : ℕ) → h < s.top → get_or s.words (stack_base F + h) 0 < variables F
  pub blank : (h : ℕ) → s.top ≤ h → h < variables F → get_or s.words (stack_base F + h) 0 ≡ 0

-- what every step from s to s' keeps: what it asks, the lengths, the adjacency, and all from the members on
pub record Kept (F : Field) (s s' : Cells) : Type 0 where
  pub placed : Placed F s'
  pub taken : s'.top + frees (marks_in F s'.words) ≡ s.top + frees (marks_in F s.words)
  pub front : take (base F) s'.words ≡ take (base F) s.words
  pub rest : drop (members_base F) s'.words ≡ drop (members_base F) s.words
  pub long : length s'.words ≡ length s.words

-- the cells go from s to s' as the step g goes on searches
pub record Does (F : Field) (g : Search → Search) (s s' : Cells) : Type 0 where
  pub search : search_in F s' ≡ g (search_in F s)
  pub kept : Kept F s s'

-- the loop that pops, from the search in s: the walk goes on from no members until the stack is empty
pub record Popped (F : Field) (zeros : Bool) (s : Cells) (u : List ℕ) (r : ℕ) : Type 0 where
  pub placed : Placed F (cells u 0)
  pub count : r ≤ variables F
  pub marks : marks_in F u ≡ (walked_from F zeros (search_in F s)).search.marks
  pub members : region (members_base F) r u ≡ (walked_from F zeros (search_in F s)).members
  pub long : length u ≡ length s.words
  pub front : take (base F) u ≡ take (base F) s.words
  pub rest : drop (members_base F + r) u ≡ drop (members_base F + r) s.words

-- ---- what the calls promise

-- `begin`: the marks stand, the stack and the members are zeros, and the rest of u₀ is kept
pub record Begun (F : Field) (all : Bool) (s u₀ u : List ℕ) : Type 0 where
  pub long : length u ≡ length u₀
  pub front : take (base F) u ≡ take (base F) u₀
  pub marks : marks_in F u ≡ opened all s
  pub zeros : region (stack_base F) (variables F + variables F) u ≡ replicate (variables F + variables F) 0
  pub rest : drop (past F) u ≡ drop (past F) u₀

-- `walk`: r members from the start stand in pop order, the marks are those of the walk, the stack is empty again, and the rest of u₀ is kept
pub record Walked (F : Field) (zeros : Bool) (start : ℕ) (u₀ u : List ℕ) (r : ℕ) : Type 0 where
  pub placed : Placed F (cells u 0)
  pub count : r ≤ variables F
  pub marks : marks_in F u ≡ marks_from F zeros (marks_in F u₀) start
  pub members : region (members_base F) r u ≡ members_from F zeros (marks_in F u₀) start
  pub long : length u ≡ length u₀
  pub front : take (base F) u ≡ take (base F) u₀
  pub rest : drop (members_base F + r) u ≡ drop (members_base F + r) u₀
