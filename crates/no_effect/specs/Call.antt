-- What the call `no_effect` answers and leaves, as one function of what it is given, for every input. Assumes nothing.
use Rattle.std.specs.Prelude.{ℕ, ◌+◌, ◌*◌, ◌≤◌, Bool, List, [], ◌∷◌, ◌++◌, leb, length, get_or, Err}
use Rattle.scratch.specs.Cleared.{cleared}
use Rattle.scratch.specs.Over.{over}
use Rattle.field.specs.declared.Counted.{Counted}
use Rattle.field.specs.declared.Refusal.TheVariants.{Scratch, Room}
use Rattle.field.specs.Field.{Field, variables, entries}
use Rattle.field.specs.Table.{Test, test}
use Rattle.field.specs.Tests.{words_fit, loose_tests, Loose}
use Rattle.field.specs.Grade.{grade_of}
use Rattle.calls.specs.Call as any
use Rattle.calls.specs.Call.{called, stage, usual}
use Rattle.no_effect.specs.Effect.{no_effect}
use Rattle.field.specs.Answers.{Answer, counted_answer}

-- What is lent to `no_effect`: the list of variables and the words.
pub record Lent : Type 0 where
  pub list : List ℕ
  pub words : List ℕ

-- The lent lists of `no_effect` in one record: the list of variables and the words.
abbrev pub lent : List ℕ → List ℕ → Lent
lent l u = record { list = l; words = u }

-- The answer of `no_effect`, and its two lent lists afterwards.
abbrev pub Left : Type 0
Left = any.Left (Answer Counted) Lent

-- What the call `no_effect` leaves, made of its answer and its two lent lists.
abbrev pub left : Answer Counted → List ℕ → List ℕ → Left
left r l u = any.left r (lent l u)

-- 1, 2, 14 to 17, and 5, and 8 of the u32 scratch alone, since there is no f64 scratch.
unfoldable pub word_tests : Field → ℕ → List Test
word_tests F words = loose_tests F ++ test Scratch (words_fit (variables F) (entries F) words) ∷ []

-- What passing these tests leaves: shape, finite weights, and word scratch long enough.
pub record Prepared (F : Field) (words : ℕ) : Type 0 where
  pub loose : Loose F
  pub words_room : 16 * variables F + 8 * entries F + 16 ≤ words

-- 9: the list has no room for all of them
unfoldable pub fits : Field → List ℕ → Bool
fits F l = leb (length (no_effect F)) (length l)

-- The whole table of the call, in its order: 1, 2, 14 to 17, 5, 8 and 9.
unfoldable pub no_effect_tests : Field → List ℕ → ℕ → List Test
no_effect_tests F l words = word_tests F words ++ test Room (fits F l) ∷ []

-- 1, 2, 14 to 17, 5 and 8, then room, then the variables: on 9 the list is all zeros, past test 8 scratch ends as zeros,
-- and what stands behind the last item is as it was (rules 3.9 to 3.11)
unfoldable pub no_effect_call : Field → List ℕ → List ℕ → Left
no_effect_call F l u =
    called
    (usual Err (lent l u) (word_tests F (length u)) (stage Room (fits F l) (lent (cleared 0 l) (cleared 0 u)) ∷ [])
    (left (counted_answer (grade_of F) (length (no_effect F))) (over (no_effect F) l) (cleared 0 u)))

-- Item t of the list that `no_effect` leaves.
abbrev pub item : Field → List ℕ → List ℕ → ℕ → ℕ
item F l u t = get_or (no_effect_call F l u).lent.list t 0
