-- The tests that propagation makes (rule 3.5). Assumes nothing.
use Rattle.std.specs.Prelude.{ℕ, ◌%◌, Bool, ◌&&◌, List, [], ◌∷◌, leb, ltb, eqb, length}
use Rattle.scratch.specs.All.{all_below}
use Rattle.field.specs.declared.Refusal.TheVariants.{Variables, Start, Argument, Scratch}
use Rattle.field.specs.Table.{Test, test}
use Rattle.field.specs.Tests.{few_variables, start_fits, words_fit}
use Rattle.meaning.specs.Records.{Record}
use Rattle.constraints.specs.Record.{room, record_at}

-- 7: a set of 0 or above 15, ends that do not rise, or an end not below n (rule 6.3)
abbrev pub fits : ℕ → Record → Bool
fits n x = ltb 0 x.set && (ltb x.set 16 && (ltb x.lower x.higher && ltb x.higher n))

-- Whether every record of the list fits: its set is 1 to 15, and its ends rise and are below n.
unfoldable pub all_fit : ℕ → List ℕ → Bool
all_fit n list = all_below (λ t. fits n (record_at list t)) (room list)

-- 7: more than 65,536 records, or a part of one behind them
unfoldable pub constraints_fit : ℕ → List ℕ → Bool
constraints_fit n list = leb (length list) 196608 && (eqb (length list % 3) 0 && all_fit n list)

-- The tests of `propagate` before a clash: 1, 6, 7 and 8.
unfoldable pub propagation_tests : List ℕ → List ℕ → ℕ → List Test
propagation_tests s list words =
    test Variables (few_variables (length s))
    ∷ test Start (start_fits (length s) s)
    ∷ test Argument (constraints_fit (length s) list)
    ∷ test Scratch (words_fit (length s) (room list) words)
    ∷ []
