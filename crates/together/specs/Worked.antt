-- Values worked by hand for the choices at anchors: all of them on an exact field, a field that is not exact, and case m. Assumes nothing.
use Rattle.std.specs.Prelude.{ℕ, ◌+◌, ◌*◌, ◌≡◌, true, false, List, [], ◌∷◌, pos, negsuc, Float, length, replicate}
use Rattle.std.specs.Float.{fin}
use Rattle.weights.specs.Worth.{zero64}
use Rattle.meaning.specs.Steps.{Extends}
use Rattle.meaning.specs.Field.{Best}
use Rattle.field.specs.declared.Grade.{Grade}
use Rattle.field.specs.declared.Grade.TheVariants.{Exact, Inexact}
use Rattle.field.specs.Field.{Field, field_of, variables, entries}
use Rattle.field.specs.Grade.{unit_of}
use Rattle.field.specs.Reading.{whole_of}
use Rattle.calls.specs.Values as values
use Rattle.anchors.specs.Call as anchors
use Rattle.closure.specs.Call as closure
use Rattle.components.specs.Call as components
use Rattle.field.specs.Answers.{counted_answer}

-- ---- fields

-- The weight -0.5, of each end of a pair that is symmetric under opposite values.
abbrev pub minus_half : Float
minus_half = fin true 1 (negsuc 0)

-- The weight 1.0, as of the variable that stands beside the two pairs.
abbrev pub one : Float
one = fin false 1 (pos 0)

-- The weight 2.0, as of the entry that joins the two ends of a symmetric pair.
abbrev pub two : Float
two = fin false 1 (pos 1)

-- c=(-0.5,-0.5,-0.5,-0.5,1), (0,1) 2, (2,3) 2
abbrev pub two_pairs : Field
two_pairs = field_of (minus_half ∷ minus_half ∷ minus_half ∷ minus_half ∷ one ∷ []) (0 ∷ 2 ∷ []) (1 ∷ 3 ∷ []) (two ∷ two ∷ [])

-- the swallowed rate beside case m (rule 18.4): c=(-1,2^61,-2,-0.25,-0.5,-0.5), (0,1) -2^61, (0,2) 1, (0,3) 2, (4,5) 2
abbrev pub swallowing : Field
swallowing =
    field_of
    (fin true 1 (pos 0) ∷ fin false 1 (pos 61) ∷ fin true 1 (pos 1) ∷ fin true 1 (negsuc 1) ∷ minus_half ∷ minus_half ∷ [])
    (0 ∷ 0 ∷ 0 ∷ 4 ∷ [])
    (1 ∷ 2 ∷ 3 ∷ 5 ∷ [])
    (fin true 1 (pos 61) ∷ one ∷ two ∷ two ∷ [])

-- case m: c=(-0.5,-0.5), (0,1) 2
abbrev pub one_pair : Field
one_pair = field_of (minus_half ∷ minus_half ∷ []) (0 ∷ []) (1 ∷ []) (two ∷ [])

-- ---- what the calls answer, in scratch of the least length

-- Start values with which every variable of the field is free.
abbrev pub free : Field → List ℕ
free F = replicate (variables F) 2

-- Float scratch of the least length that the tests allow, all zeros.
abbrev pub floats : Field → List Float
floats F = replicate (8 * variables F + 4 * entries F + 16) zero64

-- Word scratch of the least length that the tests allow, all zeros.
abbrev pub words : Field → List ℕ
words F = replicate (16 * variables F + 8 * entries F + 16) 0

-- a field with start values, its grade, and the anchors of all its components
pub record Listing : Type 0 where
  pub field : Field
  pub start : List ℕ
  pub grade : Grade
  pub list : List ℕ

-- A worked listing, made of a field, its start values, its grade and its anchors.
abbrev pub anchored : Field → List ℕ → Grade → List ℕ → Listing
anchored F s g l = record { field = F; start = s; grade = g; list = l }

-- The fields whose anchors were worked by hand, each with the answer that is expected.
abbrev pub listings : List Listing
listings =
    anchored two_pairs (free two_pairs) Exact (0 ∷ 2 ∷ [])
    -- a component with a start value has none
    ∷ anchored two_pairs (2 ∷ 1 ∷ 2 ∷ 2 ∷ 2 ∷ []) Exact (2 ∷ [])
    ∷ anchored swallowing (free swallowing) Inexact (4 ∷ [])
    ∷ anchored one_pair (free one_pair) Exact (0 ∷ [])
    ∷ []

-- What the promise of `anchors` gives, with a list of zeros just long enough for the anchors.
abbrev pub given : Listing → anchors.Left
given x = anchors.anchors_call x.field x.start 0 (replicate (length x.list) 0) (floats x.field) (words x.field)

-- What stands worked by hand: the grade, how many anchors, and the anchors in the list.
abbrev pub expected : Listing → anchors.Left
expected x = anchors.left (counted_answer x.grade (length x.list)) x.list (floats x.field) (words x.field)

-- What `closure` answers and leaves with nothing given: the gradient values.
abbrev pub closed : Field → closure.Left
closed F = closure.closure_call F (free F) (floats F) (words F)

-- What `components` answers and leaves with nothing given: the enumerated values.
abbrev pub enumerated : Field → values.Left
enumerated F = components.components_call F (free F) (floats F) (words F)

-- ---- best completions

-- x is a best completion of nothing given, counted in the unit
abbrev pub IsBest : ℕ → Field → List ℕ → Type 0
IsBest unit F x = Best (whole_of unit F) (free F) x

-- x is the only best completion of nothing given that has the values of t.
pub record OnlyBest (unit : ℕ) (F : Field) (t x : List ℕ) : Type 0 where
  pub best : IsBest unit F x
  pub has : Extends t x
  pub only : (y : List ℕ) → IsBest unit F y → Extends t y → y ≡ x

-- values at anchors, and a completion
pub record Choice : Type 0 where
  pub values : List ℕ
  pub completion : List ℕ

-- A worked choice, made of the values at anchors and of a completion that has them.
abbrev pub chosen : List ℕ → List ℕ → Choice
chosen t x = record { values = t; completion = x }

-- each completion is the only best one with its choice, in the smallest unit
abbrev pub EachBest : Field → List Choice → Type 0
EachBest F [] = Unit {0}
EachBest F (x ∷ l) = OnlyBest (unit_of F) F x.values x.completion × EachBest F l

-- all four choices at the anchors 0 and 2
abbrev pub four : List Choice
four =
    chosen (0 ∷ 2 ∷ 0 ∷ 2 ∷ 2 ∷ []) (0 ∷ 1 ∷ 0 ∷ 1 ∷ 0 ∷ [])
    ∷ chosen (0 ∷ 2 ∷ 1 ∷ 2 ∷ 2 ∷ []) (0 ∷ 1 ∷ 1 ∷ 0 ∷ 0 ∷ [])
    ∷ chosen (1 ∷ 2 ∷ 0 ∷ 2 ∷ 2 ∷ []) (1 ∷ 0 ∷ 0 ∷ 1 ∷ 0 ∷ [])
    ∷ chosen (1 ∷ 2 ∷ 1 ∷ 2 ∷ 2 ∷ []) (1 ∷ 0 ∷ 1 ∷ 0 ∷ 0 ∷ [])
    ∷ []

-- case m with 0 at its anchor
abbrev pub turned : List Choice
turned = chosen (0 ∷ 2 ∷ []) (0 ∷ 1 ∷ []) ∷ []
