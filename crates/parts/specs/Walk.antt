-- Components, found by a last-in stack from each lowest start (rule 5.2). A variable is open, that is not seen and not barred,
-- where its mark is 2: the start values are marks that bar the fixed variables. Executable on every field. Assumes nothing.
use Rattle.std.specs.Prelude.{ℕ, zero, suc, Bool, cond, ◌||◌, List, [], ◌∷◌, ◌++◌, map, eqb, get_or, set, Float}
use Rattle.std.specs.Float.Ieee.{ne}
use Rattle.weights.specs.Worth.{zero64}
use Rattle.field.specs.Field.{Field, variables, quad_of}
use Rattle.places.specs.Places.{places, other_end}

-- the marks, and the stack of variables that are seen and not served, its top first
pub record Search : Type 0 where
  pub marks : List ℕ
  pub stack : List ℕ

-- The state of a search, made of its marks and its stack, the top of the stack first.
abbrev pub search : List ℕ → List ℕ → Search
search marks stack = record { marks = marks; stack = stack }

-- The mark that a walk starts from at a start value v: open where all are, else v, which is 2 where it is free.
abbrev pub mark_of : Bool → ℕ → ℕ
mark_of all v = cond all 2 v

-- The marks that a walk starts from: all variables are open, or those that have no start value.
unfoldable pub opened : Bool → List ℕ → List ℕ
opened all s = map (mark_of all) s

-- ---- one variable is served

-- Whether an entry of weight q joins its ends: in components a stored zero does, in anchors it does not.
abbrev pub joins_by : Bool → Float → Bool
joins_by zeros q = zeros || ne q zero64

-- Whether entry k joins its two ends, where `zeros` says if a stored zero does.
abbrev pub joins : Field → Bool → ℕ → Bool
joins F zeros k = joins_by zeros (quad_of F k)

-- j is marked and goes onto the stack
unfoldable pub push : Search → ℕ → Search
push w j = search (set w.marks j 0) (j ∷ w.stack)

-- The search after j is visited: it goes onto the stack unless it was seen or is barred.
unfoldable pub visit : Search → ℕ → Search
visit w j = cond (eqb (get_or w.marks j 0) 2) (push w j) w

-- The search after the other end of i's entry k is visited, if k joins the two.
unfoldable pub visit_at : Field → Bool → ℕ → Search → ℕ → Search
visit_at F zeros i w k = cond (joins F zeros k) (visit w (other_end F.rows F.cols i k)) w

-- The search after the other end of each of these entries of i has been visited, in order.
unfoldable pub visit_all : Field → Bool → ℕ → Search → List ℕ → Search
visit_all F zeros i w [] = w
visit_all F zeros i w (k ∷ ks) = visit_all F zeros i (visit_at F zeros i w k) ks

-- The search after variable i is served: the other ends of its places are visited, rising.
unfoldable pub serve : Field → Bool → Search → ℕ → Search
serve F zeros w i = visit_all F zeros i w (places F.rows F.cols i)

-- ---- a walk

-- the search, and the members found so far, in pop order
pub record Walk : Type 0 where
  pub search : Search
  pub members : List ℕ

-- One turn of a walk with this stack: the top is popped, becomes a member and is served.
unfoldable pub turn_on_of : Field → Bool → List ℕ → List ℕ → List ℕ → Walk
turn_on_of F zeros marks [] members = record { search = search marks []; members = members }
turn_on_of F zeros marks (i ∷ stack) members = record { search = serve F zeros (search marks stack) i; members = members ++ (i ∷ []) }

-- the variable on top is popped: it becomes a member and is served
abbrev pub turn : Field → Bool → Walk → Walk
turn F zeros w = turn_on_of F zeros w.search.marks w.search.stack w.members

-- The walk after so many turns; with an empty stack a turn changes nothing.
unfoldable pub turns : Field → Bool → ℕ → Walk → Walk
turns F zeros zero w = w
turns F zeros (suc more) w = turns F zeros more (turn F zeros w)

-- each variable is popped once, so n turns do
abbrev pub walked_from : Field → Bool → Search → Walk
walked_from F zeros w = turns F zeros (variables F) (record { search = w; members = [] })

-- the walk from a start; if the start is not open it has no member
unfoldable pub walk : Field → Bool → List ℕ → ℕ → Walk
walk F zeros marks start = walked_from F zeros (visit (search marks []) start)

-- The component of a start, its members in the order in which they are popped.
abbrev pub members_from : Field → Bool → List ℕ → ℕ → List ℕ
members_from F zeros marks start = (walk F zeros marks start).members

-- The marks that the walk from a start leaves: every member of the component is seen.
abbrev pub marks_from : Field → Bool → List ℕ → ℕ → List ℕ
marks_from F zeros marks start = (walk F zeros marks start).search.marks

-- ---- a walk from each lowest start

-- the marks, and the components found so far
pub record Parts : Type 0 where
  pub marks : List ℕ
  pub found : List (List ℕ)

-- The components after start i: one more where i is still open, and the same elsewhere.
unfoldable pub part_at : Field → Bool → Parts → ℕ → Parts
part_at F zeros p i =
    cond (eqb (get_or p.marks i 0) 2) (record { marks = marks_from F zeros p.marks i; found = p.found ++ (members_from F zeros p.marks i ∷ []) }) p

-- The marks and the components found from all starts below i.
unfoldable pub parts_to : Field → Bool → List ℕ → ℕ → Parts
parts_to F zeros marks zero = record { marks = marks; found = [] }
parts_to F zeros marks (suc i) = part_at F zeros (parts_to F zeros marks i) i

-- All components of the variables that are open in the marks, by rising lowest member.
unfoldable pub components : Field → Bool → List ℕ → List (List ℕ)
components F zeros marks = (parts_to F zeros marks (variables F)).found
