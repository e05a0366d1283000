-- Any call: its stages in order, each with its refusal and what it leaves, then its answer. Assumes nothing.
use Rattle.std.specs.Prelude.{◌≡◌, Bool, true, false, cond, not, ◌&&◌, List, [], ◌∷◌, ◌++◌, eqb}
use Rattle.field.specs.declared.Refusal.{Refusal}
use Rattle.field.specs.Answers.{number_of}
use Rattle.field.specs.Table.{Test, test}

-- What any call leaves: its answer, and all that is lent as it is afterwards.
pub record Left (A L : Type 0) : Type 0 where
  pub answer : A
  pub lent : L

-- What a call leaves, made of its answer and of what is lent afterwards.
abbrev pub left : {A L : Type 0} → A → L → Left A L
left a l = record { answer = a; lent = l }

-- a stage: its refusal, whether it passes, and what is lent afterwards if it is the first that does not
pub record Stage (L : Type 0) : Type 0 where
  pub refusal : Refusal
  pub passes : Bool
  pub leaves : L

-- A stage made of its refusal, whether it passes, and what it leaves where it is the first that does not.
abbrev pub stage : {L : Type 0} → Refusal → Bool → L → Stage L
stage r b l = record { refusal = r; passes = b; leaves = l }

-- what a call is: how it refuses, its stages in order, and what it answers and leaves when all of them pass
pub record Call (A L : Type 0) : Type 0 where
  pub refuse : Refusal → A
  pub stages : List (Stage L)
  pub done : Left A L

-- the first stage that does not pass decides; where all pass, the call is done
unfoldable pub run : {A L : Type 0} → (Refusal → A) → List (Stage L) → Left A L → Left A L
run refuse [] done = done
run refuse (t ∷ ts) done = cond t.passes (run refuse ts done) (left (refuse t.refusal) t.leaves)

-- What a call answers and leaves: its stages run in order, up to the first that does not pass.
unfoldable pub called : {A L : Type 0} → Call A L → Left A L
called c = run c.refuse c.stages c.done

-- the stages as a table of tests
unfoldable pub table : {L : Type 0} → List (Stage L) → List Test
table [] = []
table (t ∷ ts) = test t.refusal t.passes ∷ table ts

-- tests as stages that leave what was given: 1 to 8 and 14 to 18 change nothing lent (rule 3.8)
unfoldable pub keeping : {L : Type 0} → L → List Test → List (Stage L)
keeping given [] = []
keeping given (t ∷ ts) = stage t.refusal t.passes given ∷ keeping given ts

-- the usual call: tests that change nothing lent, then the later stages
abbrev pub usual : {A L : Type 0} → (Refusal → A) → L → List Test → List (Stage L) → Left A L → Call A L
usual refuse given tests later done = record { refuse = refuse; stages = keeping given tests ++ later; done = done }

-- the stages before one pass, and it fails, with refusal r, leaving l
pub data Stops {L : Type 0} : List (Stage L) → Refusal → L → Type 0 where
  fails : {t : Stage L} {ts : List (Stage L)} → t.passes ≡ false → Stops (t ∷ ts) t.refusal t.leaves
  passes : {t : Stage L} {ts : List (Stage L)} {r : Refusal} {l : L} → t.passes ≡ true → Stops ts r l → Stops (t ∷ ts) r l

-- each stage whose refusal is r leaves l
pub data Leave {L : Type 0} (r : Refusal) (l : L) : List (Stage L) → Type 0 where
  no_stage : Leave r l []
  and_stage : {t : Stage L} {ts : List (Stage L)} → (t.refusal ≡ r → t.leaves ≡ l) → Leave r l ts → Leave r l (t ∷ ts)

-- Q holds of the refusal of each stage
abbrev pub Each : {L : Type 0} → (Refusal → Type 0) → List (Stage L) → Type 0
Each Q [] = Unit {0}
Each Q (t ∷ ts) = Q t.refusal × Each Q ts

-- Whether no test of the list has the number of the refusal r.
unfoldable pub without : Refusal → List Test → Bool
without r [] = true
without r (t ∷ ts) = not (eqb (number_of t.refusal) (number_of r)) && without r ts
