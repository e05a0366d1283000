-- What the call `pairs` answers and leaves, as one function of what it is given, for every input. Assumes nothing.
use Rattle.std.specs.Prelude.{ℕ, ◌≤◌, ◌≡◌, Bool, leb, length, take, Float, Err}
use mathlib.Core.List.{List, [], ◌∷◌, ◌++◌, Memᴰ}
use Rattle.weights.specs.Worth.{zero64}
use Rattle.scratch.specs.Cleared.{cleared}
use Rattle.meaning.specs.Kinds.{Pair, pair}
use Rattle.meaning.specs.Records.{Record}
use Rattle.meaning.specs.Pair.{bit}
use Rattle.field.specs.declared.Grade.{Grade}
use Rattle.field.specs.declared.Refusal.TheVariants.{Room}
use Rattle.field.specs.Answers.{Answer}
use Rattle.field.specs.Field.{Field}
use Rattle.field.specs.Table.{Test, test}
use Rattle.field.specs.Tests.{ready_tests, Ready}
use Rattle.field.specs.Grade.{grade_of}
use Rattle.calls.specs.Call as any
use Rattle.calls.specs.Call.{called, stage, usual}
use Rattle.margins.specs.Dominance.{Dominates}
use Rattle.constraints.specs.Record.{room, records, filled}
use Rattle.pairs.specs.declared.Paired.{Paired}
use Rattle.pairs.specs.Listing.{free_of, examined, pair_count, found}
use Rattle.pairs.specs.Answers.{paired_answer}

-- whether the list has room for every record (rule 3.7)
abbrev pub fits : Field → List ℕ → ℕ → List ℕ → Bool
fits F s limit l = leb (length (found F s limit)) (room l)

-- The whole table of `pairs`: 1 to 6, 8 and 9.
abbrev pub pairs_table : Field → List ℕ → ℕ → List ℕ → ℕ → ℕ → List Test
pairs_table F s limit l floats words = ready_tests F s floats words ++ test Room (fits F s limit l) ∷ []

-- What is lent to `pairs`: the list of constraints, the floats and the words.
pub record Lent : Type 0 where
  pub list : List ℕ
  pub floats : List Float
  pub words : List ℕ

-- The lent lists of the call `pairs` in one record: the list of constraints, the floats and the words.
abbrev pub lent : List ℕ → List Float → List ℕ → Lent
lent l f u = record { list = l; floats = f; words = u }

-- The answer of `pairs`, and its three lent lists afterwards.
abbrev pub Left : Type 0
Left = any.Left (Answer Paired) Lent

-- What the call `pairs` leaves, made of its answer and its three lent lists.
abbrev pub left : Answer Paired → List ℕ → List Float → List ℕ → Left
left r l f u = any.left r (lent l f u)

-- tests 1 to 6 and 8, then room, then the pairs: on 9 the list is all zeros, what stands behind the last item is as it was,
-- and past test 8 scratch ends as zeros (rules 3.9 to 3.11)
unfoldable pub pairs_call : Field → List ℕ → ℕ → List ℕ → List Float → List ℕ → Left
pairs_call F s limit l f u =
    called
    (usual Err (lent l f u) (ready_tests F s (length f) (length u)) (stage Room (fits F s limit l) (lent (cleared 0 l) (cleared zero64 f) (cleared 0 u)) ∷ [])
    (left (paired_answer (grade_of F) (length (found F s limit)) (length (examined limit s))) (filled (found F s limit) l) (cleared zero64 f) (cleared 0 u)))

-- the first `items` records of the list that a call leaves
abbrev pub listed : ℕ → Left → List Record
listed items x = take items (records x.lent.list)

-- when the call is done, and with what: every test passes and the list has room, and the answer is the grade, the number of records and the number of pairs examined
pub record DoneSays (F : Field) (s : List ℕ) (limit : ℕ) (l : List ℕ) (f : List Float) (u : List ℕ) (g : Grade) (items pairs : ℕ) : Type 0 where
  pub ready : Ready F s (length f) (length u)
  pub enough : length (found F s limit) ≤ room l
  pub graded : g ≡ grade_of F
  pub counted : items ≡ length (found F s limit)
  pub pairs_counted : pairs ≡ pair_count limit (length (free_of s))

-- the rule: (i, j) is examined, and p is a pattern at which f less f at the opposite is above the tolerance for all values of the other free variables
pub record Ruled (u : ℕ) (F : Field) (s : List ℕ) (limit i j : ℕ) (p : Pair) : Type 0 where
  pub is_examined : Memᴰ (pair i j) (examined limit s)
  pub first : Bool
  pub second : Bool
  pub is : p ≡ pair (bit first) (bit second)
  pub dominates : Dominates u F s i j first second
