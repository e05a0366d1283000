-- The walk and the members of a component in the u32 scratch, and the anchors in the list. Assumes nothing.
use Rattle.std.specs.Prelude.{ℕ, ◌+◌, ◌<◌, ◌≤◌, ◌≡◌, List, length, get_or, Float}
use Rattle.std.proofs.lemmas.List.Edits.{sets}
use Rattle.scratch.specs.Region.{region}
use Rattle.field.specs.Field.{Field, variables, entries, Shaped}
use Rattle.places.specs.Places.{Adjacent}
use Rattle.parts.specs.Cells.{members_base, marks_in, cells, Placed}
use Rattle.anchors.specs.Model.{new_at, marks_at, anchors_of}

-- The members of a component as they stand in the words: `count` variables, in the order of the walk.
abbrev pub members_in : Field → ℕ → List ℕ → List ℕ
members_in F count u = region (members_base F) count u

-- What a loop over the members of a component asks: they stand in the words, and each is a variable.
pub record Members (F : Field) (count : ℕ) (u : List ℕ) : Type 0 where
  pub shaped : Shaped F
  pub adjacent : Adjacent (variables F) F.rows F.cols u
  pub room : members_base F + count ≤ length u
  pub below : (h : ℕ) → h < count → get_or u (members_base F + h) 0 < variables F

-- ---- from start to start

-- what a step asks: the walk is in its place, a start value for each variable, room for one sum
pub record Standing (F : Field) (s : List ℕ) (f : List Float) (u : List ℕ) : Type 0 where
  pub placed : Placed F (cells u 0)
  pub start_long : length s ≡ variables F
  pub floats_room : entries F < length f

-- one start, after `before` anchors: its component's anchor goes into the list, if it has one
pub record Visits (F : Field) (s : List ℕ) (least i : ℕ) (u list : List ℕ) (before : ℕ) (u' list' : List ℕ) (r : ℕ) : Type 0 where
  pub placed : Placed F (cells u' 0)
  pub marks : marks_in F u' ≡ marks_at F (marks_in F u) i
  pub stored : list' ≡ sets list before (new_at F s least (marks_in F u) i)
  pub counted : r ≡ before + length (new_at F s least (marks_in F u) i)

-- every start: the anchors are in the list, as far as it reaches
pub record Lists (F : Field) (s : List ℕ) (least : ℕ) (list list' : List ℕ) (r : ℕ) : Type 0 where
  pub stored : list' ≡ sets list 0 (anchors_of F s least)
  pub counted : r ≡ length (anchors_of F s least)
