-- The text of an answer (rules 13.4 to 13.6), as bytes. Assumes nothing.
use Rattle.std.specs.Prelude.{ℕ, zero, suc, ◌+◌, ◌/◌, ◌%◌, ◌≤◌, ◌≡◌, Bool, not, ◌&&◌, cond, List, [], ◌∷◌, ◌++◌, ltb, length, get_or}
use Rattle.std.proofs.lemmas.List.Edits.{sets}
use Rattle.meaning.specs.Free.{is_free}
use Rattle.field.specs.declared.Grade.{Grade}
use Rattle.field.specs.declared.Grade.TheVariants.{Exact, Inexact}
use Rattle.scratch.specs.Over.{over}

-- The byte of the decimal digit n, a number below 10, in ASCII.
abbrev pub digit : ℕ → ℕ
digit n = 48 + n

-- the digits of a number that has k at most, with no zero before them
unfoldable pub digits : ℕ → ℕ → List ℕ
digits zero n = []
digits (suc k) n = cond (ltb n 10) (digit n ∷ []) (digits k (n / 10) ++ digit (n % 10) ∷ [])

-- a number below 10^20
unfoldable pub decimal : ℕ → List ℕ
decimal n = digits 20 n

-- The one byte of a space, which stands between the two numbers of an x line.
abbrev pub space : List ℕ
space = 32 ∷ []

-- The one byte that ends every line of the text, which is a line feed.
abbrev pub newline : List ℕ
newline = 10 ∷ []

-- refused and its number
unfoldable pub refused_text : ℕ → List ℕ
refused_text n = (114 ∷ 101 ∷ 102 ∷ 117 ∷ 115 ∷ 101 ∷ 100 ∷ 32 ∷ []) ++ (decimal n ++ newline)

-- grade exact, or grade inexact
unfoldable pub grade_line : Grade → List ℕ
grade_line Exact = 103 ∷ 114 ∷ 97 ∷ 100 ∷ 101 ∷ 32 ∷ 101 ∷ 120 ∷ 97 ∷ 99 ∷ 116 ∷ 10 ∷ []
grade_line Inexact = 103 ∷ 114 ∷ 97 ∷ 100 ∷ 101 ∷ 32 ∷ 105 ∷ 110 ∷ 101 ∷ 120 ∷ 97 ∷ 99 ∷ 116 ∷ 10 ∷ []

-- an x line is variable and forced value
unfoldable pub forced_line : ℕ → ℕ → List ℕ
forced_line i value = (120 ∷ 32 ∷ []) ++ (decimal i ++ (space ++ (decimal value ++ newline)))

-- end counts x lines
unfoldable pub end_line : ℕ → List ℕ
end_line count = (101 ∷ 110 ∷ 100 ∷ 32 ∷ []) ++ (decimal count ++ newline)

-- variable i was free and is not any more
abbrev pub is_forced : List ℕ → List ℕ → ℕ → Bool
is_forced start values i = is_free start i && not (is_free values i)

-- The variable i, as a list of one, where it is forced, and the empty list elsewhere.
abbrev pub forced_at : List ℕ → List ℕ → ℕ → List ℕ
forced_at start values i = cond (is_forced start values i) (i ∷ []) []

-- the forced variables below n, rising
unfoldable pub forced : List ℕ → List ℕ → ℕ → List ℕ
forced start values zero = []
forced start values (suc n) = forced start values n ++ forced_at start values n

-- The x lines of these variables, in order, each with its value.
unfoldable pub forced_lines : List ℕ → List ℕ → List ℕ
forced_lines values [] = []
forced_lines values (i ∷ is) = forced_line i (get_or values i 0) ++ forced_lines values is

-- The text of an answer: the grade, an x line for each forced variable, rising, and their count.
unfoldable pub answer_text : Grade → List ℕ → List ℕ → List ℕ
answer_text grade start values =
    let is = forced start values (length start) in
    grade_line grade ++ (forced_lines values is ++ end_line (length is))

-- ---- what a writer promises

-- the text stands from index at, the rest is as it was, and r is the index behind it
pub record Wrote (text before : List ℕ) (at : ℕ) (after : List ℕ) (r : ℕ) : Type 0 where
  pub list : after ≡ sets before at text
  pub next : r ≡ at + length text

-- the lines of the variables `is` stand from index at, r is the index behind them, room bytes on at most, and they are counted on from count to c
pub record Shows (values is before : List ℕ) (at count : ℕ) (after : List ℕ) (r c room : ℕ) : Type 0 where
  pub wrote : Wrote (forced_lines values is) before at after r
  pub counted : c ≡ count + length is
  pub short : r ≤ at + room

-- the text is the first r bytes, and the rest is as it was
pub record Written (text before after : List ℕ) (r : ℕ) : Type 0 where
  pub list : after ≡ over text before
  pub size : r ≡ length text
