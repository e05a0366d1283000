-- Complement anchors (rules 9.1 to 9.6), executable on every field. Assumes nothing.
use Rattle.std.specs.Prelude.{ℕ, zero, suc, Bool, true, false, cond, ◌&&◌, List, [], ◌∷◌, ◌++◌, eqb, leb, ltb, length, get_or, Float}
use Rattle.std.specs.Float.Ieee.{lt, eq}
use Rattle.meaning.specs.Free.{is_free}
use Rattle.field.specs.Field.{Field, variables}
use Rattle.parts.specs.Walk.{opened, members_from, marks_from}
use Rattle.anchors.specs.declared.Leader.{Leader}
use Rattle.anchors.specs.Sums.{balanced, weight_of}

-- ---- one component

-- The variable i as the leader of its component so far, with its edge weight w.
abbrev pub leader : ℕ → Float → Leader
leader i w = record { variable = i; weight = w }

-- i, of weight w, takes the lead if its weight is greater, or equal with a lower index
unfoldable pub against : Leader → ℕ → Float → Leader
against a i w = cond (lt a.weight w) (leader i w) (cond (eq w a.weight) (cond (ltb i a.variable) (leader i w) a) a)

-- The leader after each of these members has been held against the one so far.
unfoldable pub lead_over : Field → Leader → List ℕ → Leader
lead_over F a [] = a
lead_over F a (i ∷ is) = lead_over F (against a i (weight_of F i)) is

-- The member of greatest edge weight, of equal ones the lowest, of a component found from `start`.
unfoldable pub leads : Field → ℕ → List ℕ → ℕ
leads F start members = (lead_over F (leader start (weight_of F start)) members).variable

-- Variable i is without a start value, and its error-free sum is valid and 0.
unfoldable pub turnable : Field → List ℕ → ℕ → Bool
turnable F s i = is_free s i && balanced F i

-- Whether every member is without a start value and has a balance that is valid and 0.
unfoldable pub all_turnable : Field → List ℕ → List ℕ → Bool
all_turnable F s [] = true
all_turnable F s (i ∷ is) = turnable F s i && all_turnable F s is

-- a component that is smaller than the least size or has a member with a start value has no anchor (rule 9.5)
unfoldable pub anchor_in : Field → List ℕ → ℕ → ℕ → List ℕ → List ℕ
anchor_in F s least start members = cond (leb least (length members) && all_turnable F s members) (leads F start members ∷ []) []

-- ---- every component, from its lowest variable

-- the marks of the walks so far, and the anchors found
pub record Found : Type 0 where
  pub marks : List ℕ
  pub anchors : List ℕ

-- The state of the search, made of the marks so far and the anchors found so far.
abbrev pub found : List ℕ → List ℕ → Found
found marks anchors = record { marks = marks; anchors = anchors }

-- The marks after the walk from start i, where it was not seen yet; entries of weight 0 do not join.
unfoldable pub marks_at : Field → List ℕ → ℕ → List ℕ
marks_at F marks i = cond (eqb (get_or marks i 0) 2) (marks_from F false marks i) marks

-- The anchor of the component that is found from start i; none where i was seen or the component has none.
unfoldable pub new_at : Field → List ℕ → ℕ → List ℕ → ℕ → List ℕ
new_at F s least marks i = cond (eqb (get_or marks i 0) 2) (anchor_in F s least i (members_from F false marks i)) []

-- The marks and the anchors after start i, from those before it.
unfoldable pub anchor_at : Field → List ℕ → ℕ → Found → ℕ → Found
anchor_at F s least p i = found (marks_at F p.marks i) (p.anchors ++ new_at F s least p.marks i)

-- The marks and the anchors after all starts below i, from marks at which every variable is open.
unfoldable pub anchors_to : Field → List ℕ → ℕ → ℕ → Found
anchors_to F s least zero = found (opened true s) []
anchors_to F s least (suc i) = anchor_at F s least (anchors_to F s least i) i

-- The anchors of a field, by rising lowest member of their components.
unfoldable pub anchors_of : Field → List ℕ → ℕ → List ℕ
anchors_of F s least = (anchors_to F s least (variables F)).anchors
