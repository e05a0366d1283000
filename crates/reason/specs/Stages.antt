-- What the stages of the call promise. Assumes nothing.
use Rattle.std.specs.Prelude.{ℕ, zero, suc, ◌+◌, ◌<◌, ◌≤◌, ◌≡◌, cond, List, [], ◌∷◌, ◌++◌, eqb, leb, ltb, length, get_or, set, Err}
use Rattle.scratch.specs.Cleared.{cleared}
use Rattle.scratch.specs.Over.{over}
use Rattle.meaning.specs.Free.{is_free}
use Rattle.field.specs.declared.Refusal.TheVariants.{Inexact, Unforced, Room}
use Rattle.field.specs.Field.{Field, variables}
use Rattle.field.specs.Grade.{is_exact_of}
use Rattle.rows.specs.Row.{judge_of}
use Rattle.rows.specs.Model.{row_of}
use Rattle.run.specs.Cells.{Cells, run_in, Kept}
use Rattle.places.specs.Places.{Adjacent, places, other_end}
use Rattle.reason.specs.declared.Ground.{Ground}
use Rattle.reason.specs.declared.Ground.TheVariants.{Given, Lower, Upper}
use Rattle.reason.specs.declared.Reasoned.{Reasoned}
use Rattle.reason.specs.Until.{until, basis}
use Rattle.reason.specs.Listed.{listed_of}
use Rattle.reason.specs.Ground.{least_unit, ground_of}
use Rattle.field.specs.Answers.{Answer}
use Rattle.reason.specs.Answers.{reasoned_answer}

-- the cells go from s to s' as the run goes on until i has a value, with `head` of the queue served
pub record Halted (F : Field) (i : ℕ) (s s' : Cells) (head : ℕ) : Type 0 where
  pub run : run_in F s' ≡ (until F (variables F) (run_in F s) 0 i).run
  pub head_is : head ≡ (until F (variables F) (run_in F s) 0 i).head
  pub served : head ≤ s'.tail
  pub kept : Kept F s s'

-- each of the list is below n
abbrev pub AllBelow : ℕ → List ℕ → Type 0
AllBelow n l = (p : ℕ) → p < length l → get_or l p 0 < n

-- k variables of the queue, from h on, are free again
unfoldable pub back : List ℕ → List ℕ → ℕ → ℕ → List ℕ
back values queue h zero = values
back values queue h (suc k) = set (back values queue h k) (get_or queue (h + k) 0) 2

-- a value is marked with 3; a free one stays
abbrev pub marked : ℕ → ℕ
marked v = cond (eqb v 2) 2 3

-- the other end of each of these places of i is marked
unfoldable pub mark_all : List ℕ → List ℕ → ℕ → List ℕ → List ℕ → List ℕ
mark_all rows cols i values [] = values
mark_all rows cols i values (k ∷ ks) =
    let t = other_end rows cols i k in
    mark_all rows cols i (set values t (marked (get_or values t 0))) ks

-- the variables below n that are marked, rising
unfoldable pub threes : List ℕ → ℕ → List ℕ
threes marks zero = []
threes marks (suc n) = threes marks n ++ cond (eqb (get_or marks n 0) 3) (n ∷ []) []

-- what a push leaves: j at the end of the list where its value v is marked
pub record Pushed (v j count : ℕ) (list list' : List ℕ) (r : ℕ) : Type 0 where
  pub list_is : list' ≡ cond (eqb v 3) (set list count j) list
  pub end_is : r ≡ cond (eqb v 3) (count + 1) count

-- the values with the fixed neighbours of i marked
abbrev pub marks_of : Field → List ℕ → ℕ → List ℕ
marks_of F r i = mark_all F.rows F.cols i r (places F.rows F.cols i)

-- the values are what the bound of i rests on, and the adjacency is in its place
pub record Stopped (F : Field) (s : List ℕ) (i : ℕ) (values words : List ℕ) : Type 0 where
  pub values_are : values ≡ basis F s i
  pub adjacent : Adjacent (variables F) F.rows F.cols words

-- ---- past the tests

-- the answer, and the answer list afterwards
pub record Told : Type 0 where
  pub answer : Answer Reasoned
  pub list : List ℕ

-- What the call says past its tests, made of the answer and the answer list.
abbrev pub told : Answer Reasoned → List ℕ → Told
told r l = record { answer = r; list = l }

-- The ground with the listed neighbours where the list has room, and 9 where it has none.
unfoldable pub fitted : Ground → ℕ → List ℕ → List ℕ → Told
fitted g k listed l = cond (leb (length listed) (length l)) (told (reasoned_answer g k (length listed)) (over listed l)) (told (Err Room) (cleared 0 l))

-- The answer for a ground and its neighbours: 13 where no bound is strict, else what fits the list.
unfoldable pub with_list : Ground → ℕ → List ℕ → List ℕ → Told
with_list Given k listed l = told (Err Unforced) l
with_list (Lower b) k listed l = fitted (Lower b) k listed l
with_list (Upper b) k listed l = fitted (Upper b) k listed l

-- a variable that is free in the start values, with its bound in half units of 2^(k - 20)
unfoldable pub free_told : Field → List ℕ → ℕ → ℕ → List ℕ → Told
free_told F s i k l = with_list (ground_of k (judge_of (row_of F (basis F s i) i))) k (listed_of F (basis F s i) i) l

-- The answer for any variable of an exact field: 13 where there is no such variable.
unfoldable pub told_of : Field → List ℕ → ℕ → ℕ → List ℕ → Told
told_of F s i k l = cond (ltb i (variables F)) (cond (is_free s i) (free_told F s i k l) (told (reasoned_answer Given k 0) l)) (told (Err Unforced) l)

-- The answer past the tests: 12 where the field is not exact.
unfoldable pub graded_told : Field → List ℕ → ℕ → List ℕ → Told
graded_told F s i l = cond (is_exact_of F) (told_of F s i (least_unit F) l) (told (Err Inexact) l)
