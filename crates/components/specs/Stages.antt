-- Components found and enumerated in one pass over the starts: the marks and the values as they stand in lent memory. Assumes nothing.
use Rattle.std.specs.Prelude.{ℕ, zero, suc, ◌≤◌, ◌≡◌, true, cond, List, eqb, length, get_or}
use Rattle.field.specs.Field.{Field, variables, Shaped}
use Rattle.places.specs.Places.{Adjacent}
use Rattle.parts.specs.Walk.{members_from, marks_from}
use Rattle.parts.specs.Cells.{cells, past, marks_in, Placed}
use Rattle.components.specs.Small.{solved_part, small_parts}

-- Where the pass over the starts stands: the marks of the variables seen, and the values so far.
pub record Stage : Type 0 where
  pub marks : List ℕ
  pub values : List ℕ

-- The state of the pass over the starts, made of its marks and its values.
abbrev pub stage : List ℕ → List ℕ → Stage
stage marks values = record { marks = marks; values = values }

-- The pass at start i: where i is open, its component is found and, if it is small, enumerated.
unfoldable pub stage_at : Field → Stage → ℕ → Stage
stage_at F g i = cond (eqb (get_or g.marks i 0) 2) (stage (marks_from F true g.marks i) (solved_part F g.values (members_from F true g.marks i))) g

-- The pass over all starts below i, from a first stage on.
unfoldable pub stage_to : Field → Stage → ℕ → Stage
stage_to F g zero = g
stage_to F g (suc i) = stage_at F (stage_to F g i) i

-- what a start asks: a walk can go, and there is a value for each variable
pub record Standing (F : Field) (s u : List ℕ) : Type 0 where
  pub placed : Placed F (cells u 0)
  pub values_long : length s ≡ variables F

-- the marks and the values go from those in s and u to those in s' and u' as g goes on stages
pub record Staged (F : Field) (g : Stage → Stage) (s u s' u' : List ℕ) : Type 0 where
  pub standing : Standing F s' u'
  pub words_long : length u' ≡ length u
  pub goes : stage (marks_in F u') s' ≡ g (stage (marks_in F u) s)

-- what all starts together ask: the adjacency is in its place, with room behind it
pub record Solvable (F : Field) (s u : List ℕ) : Type 0 where
  pub shaped : Shaped F
  pub values_long : length s ≡ variables F
  pub adjacent : Adjacent (variables F) F.rows F.cols u
  pub room : past F ≤ length u

-- and what they leave: the values of all small components, and the adjacency in its place
pub record Solved (F : Field) (s u s' u' : List ℕ) : Type 0 where
  pub values : s' ≡ small_parts F s
  pub words_long : length u' ≡ length u
  pub adjacent : Adjacent (variables F) F.rows F.cols u'
