-- What the call `propagate` answers and leaves, as one function of what it is given, for every input. Assumes nothing.
use Rattle.std.specs.Prelude.{ℕ, Bool, true, false, List, [], ◌∷◌, ◌++◌, length, Result, Err}
use Rattle.scratch.specs.Cleared.{cleared}
use Rattle.meaning.specs.Literal.{Answer, done, clash, propagate}
use Rattle.field.specs.declared.Refusal.{Refusal}
use Rattle.field.specs.declared.Refusal.TheVariants.{Clash}
use Rattle.field.specs.Table.{Test, test}
use Rattle.calls.specs.Call as any
use Rattle.calls.specs.Call.{called, stage, usual}
use Rattle.propagation.specs.Tests.{propagation_tests}
use Rattle.literals.specs.Ends.{rules}
use Rattle.field.specs.Answers.{passed}

-- Whether literal closure holds no variable both ways, so that the call is done.
abbrev pub agrees : Answer → Bool
agrees (done t) = true
agrees clash = false

-- The values that literal closure gives; the start values where it is a clash.
abbrev pub values_in : List ℕ → Answer → List ℕ
values_in s (done t) = t
values_in s clash = s

-- the whole table: 1, 6, 7, 8 and 10
abbrev pub propagation_table : List ℕ → List ℕ → ℕ → List Test
propagation_table s list words = propagation_tests s list words ++ test Clash (agrees (propagate (rules list) s)) ∷ []

-- What is lent to `propagate`: the start values and the words.
pub record Lent : Type 0 where
  pub values : List ℕ
  pub words : List ℕ

-- The lent lists of `propagate` in one record: the start values and the words.
abbrev pub lent : List ℕ → List ℕ → Lent
lent s u = record { values = s; words = u }

-- The answer of `propagate`, and its two lent lists afterwards.
abbrev pub Left : Type 0
Left = any.Left (Result Unit Refusal) Lent

-- What the call `propagate` leaves, made of its answer and its two lent lists.
abbrev pub left : Result Unit Refusal → List ℕ → List ℕ → Left
left r s u = any.left r (lent s u)

-- tests 1, 6, 7 and 8, then literal closure, whose values go into the start values; 10 leaves these as they were,
-- and past test 8 scratch ends as zeros
unfoldable pub propagate_call : List ℕ → List ℕ → List ℕ → Left
propagate_call s list u =
    called
    (usual Err (lent s u) (propagation_tests s list (length u)) (stage Clash (agrees (propagate (rules list) s)) (lent s (cleared 0 u)) ∷ [])
    (left passed (values_in s (propagate (rules list) s)) (cleared 0 u)))
