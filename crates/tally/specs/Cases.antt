-- The lines that are worked by hand (rule 20.11): an input, the limit, and what is printed, byte by byte. Assumes nothing.
use Rattle.std.specs.Prelude.{ℕ, ◌^◌, ◌≡◌, List, [], ◌∷◌, ◌++◌}
use Rattle.records.specs.WellFormed.{weight, entry, given, spelled}
use Rattle.tally.specs.Tally.{tally_of}
use Rattle.tally.specs.Text.{tally_text}

-- A line worked by hand: an input, the limit of the totals, and what is printed.
pub record Case : Type 0 where
  pub input : List ℕ
  pub most : ℕ
  pub prints : List ℕ

-- A worked line from its three parts.
abbrev pub case : List ℕ → ℕ → List ℕ → Case
case input most prints = record { input = input; most = most; prints = prints }

-- The tally of the input prints just that.
abbrev pub Holds : Case → Type 0
Holds k = tally_text (tally_of k.most k.input) ≡ k.prints

-- The bits of 0.
abbrev pub nought : ℕ
nought = 0

-- The bits of 0.1.
abbrev pub tenth : ℕ
tenth = 0x3fb9_9999_9999_999a

-- The bits of 1.
abbrev pub one : ℕ
one = 0x3ff0_0000_0000_0000

-- The bits of 4.
abbrev pub four : ℕ
four = 0x4010_0000_0000_0000

-- The bits of 7.
abbrev pub seven : ℕ
seven = 0x401c_0000_0000_0000

-- The bits of -1.
abbrev pub minus_one : ℕ
minus_one = 0xbff0_0000_0000_0000

-- The bits of -5.
abbrev pub minus_five : ℕ
minus_five = 0xc014_0000_0000_0000

-- The limit of the program: 2^53.
abbrev pub limit : ℕ
limit = 2 ^ 53

-- Case g (18.1): c = (-5, -1), with 4 at (0,1).
abbrev pub field_a : List ℕ
field_a = spelled (weight minus_five ∷ weight minus_one ∷ entry 0 1 four ∷ [])

-- c = (-1, -1, 7), with 4 at (0,1), and variable 0 given 1.
abbrev pub field_b : List ℕ
field_b = spelled (weight minus_one ∷ weight minus_one ∷ weight seven ∷ entry 0 1 four ∷ given 0 1 ∷ [])

-- an empty input: 0 0 0 0 0 0 0 0 -
abbrev pub empty : Case
empty = case [] limit (48 ∷ 32 ∷ 48 ∷ 32 ∷ 48 ∷ 32 ∷ 48 ∷ 32 ∷ 48 ∷ 32 ∷ 48 ∷ 32 ∷ 48 ∷ 32 ∷ 48 ∷ 32 ∷ 45 ∷ 10 ∷ [])

-- Case g (18.1): 1 1 0 0 0 1 1 0 1000 0
abbrev pub case_g : Case
case_g = case field_a limit (49 ∷ 32 ∷ 49 ∷ 32 ∷ 48 ∷ 32 ∷ 48 ∷ 32 ∷ 48 ∷ 32 ∷ 49 ∷ 32 ∷ 49 ∷ 32 ∷ 48 ∷ 32 ∷ 49 ∷ 48 ∷ 48 ∷ 48 ∷ 32 ∷ 48 ∷ 10 ∷ [])

-- and a field with one variable given: 2 2 0 0 1 3 1 0 1000 0
abbrev pub one_given : Case
one_given = case (field_a ++ field_b) limit (50 ∷ 32 ∷ 50 ∷ 32 ∷ 48 ∷ 32 ∷ 48 ∷ 32 ∷ 49 ∷ 32 ∷ 51 ∷ 32 ∷ 49 ∷ 32 ∷ 48 ∷ 32 ∷ 49 ∷ 48 ∷ 48 ∷ 48 ∷ 32 ∷ 48 ∷ 10 ∷ [])

-- ZZ alone: 1 1 0 0 0 0 0 0 -
abbrev pub end_alone : Case
end_alone = case (spelled []) limit (49 ∷ 32 ∷ 49 ∷ 32 ∷ 48 ∷ 32 ∷ 48 ∷ 32 ∷ 48 ∷ 32 ∷ 48 ∷ 32 ∷ 48 ∷ 32 ∷ 48 ∷ 32 ∷ 45 ∷ 10 ∷ [])

-- one variable, given: 1 1 0 0 1 0 0 0 -
abbrev pub all_given : Case
all_given = case (spelled (weight one ∷ given 0 0 ∷ [])) limit (49 ∷ 32 ∷ 49 ∷ 32 ∷ 48 ∷ 32 ∷ 48 ∷ 32 ∷ 49 ∷ 32 ∷ 48 ∷ 32 ∷ 48 ∷ 32 ∷ 48 ∷ 32 ∷ 45 ∷ 10 ∷ [])

-- an inexact field: 1 0 1 0 0 1 0 1 500 0
abbrev pub inexact : Case
inexact = case (spelled (weight tenth ∷ weight nought ∷ [])) limit (49 ∷ 32 ∷ 48 ∷ 32 ∷ 49 ∷ 32 ∷ 48 ∷ 32 ∷ 48 ∷ 32 ∷ 49 ∷ 32 ∷ 48 ∷ 32 ∷ 49 ∷ 32 ∷ 53 ∷ 48 ∷ 48 ∷ 32 ∷ 48 ∷ 10 ∷ [])

-- a remainder: 1 1 0 0 0 1 0 2 333 1
abbrev pub remainder : Case
remainder = case (spelled (weight nought ∷ weight nought ∷ weight one ∷ [])) limit (49 ∷ 32 ∷ 49 ∷ 32 ∷ 48 ∷ 32 ∷ 48 ∷ 32 ∷ 48 ∷ 32 ∷ 49 ∷ 32 ∷ 48 ∷ 32 ∷ 50 ∷ 32 ∷ 51 ∷ 51 ∷ 51 ∷ 32 ∷ 49 ∷ 10 ∷ [])

-- a refused field between two: 2 2 0 1 0 2 2 0 1000 0
abbrev pub one_refused : Case
one_refused = case (field_a ++ (spelled (weight one ∷ entry 0 0 one ∷ []) ++ field_a)) limit (50 ∷ 32 ∷ 50 ∷ 32 ∷ 48 ∷ 32 ∷ 49 ∷ 32 ∷ 48 ∷ 32 ∷ 50 ∷ 32 ∷ 50 ∷ 32 ∷ 48 ∷ 32 ∷ 49 ∷ 48 ∷ 48 ∷ 48 ∷ 32 ∷ 48 ∷ 10 ∷ [])

-- a cut record: refused 11, 1 1 0 1 0 1 1 0 1000 0
abbrev pub cut : Case
cut = case (field_a ++ 86 ∷ 67 ∷ []) limit (114 ∷ 101 ∷ 102 ∷ 117 ∷ 115 ∷ 101 ∷ 100 ∷ 32 ∷ 49 ∷ 49 ∷ 10 ∷ 49 ∷ 32 ∷ 49 ∷ 32 ∷ 48 ∷ 32 ∷ 49 ∷ 32 ∷ 48 ∷ 32 ∷ 49 ∷ 32 ∷ 49 ∷ 32 ∷ 48 ∷ 32 ∷ 49 ∷ 48 ∷ 48 ∷ 48 ∷ 32 ∷ 48 ∷ 10 ∷ [])

-- four fields, and the limit 3: refused 19, 3 3 0 0 0 3 3 0 1000 0
abbrev pub limited : Case
limited = case (field_a ++ (field_a ++ (field_a ++ field_a))) 3 (114 ∷ 101 ∷ 102 ∷ 117 ∷ 115 ∷ 101 ∷ 100 ∷ 32 ∷ 49 ∷ 57 ∷ 10 ∷ 51 ∷ 32 ∷ 51 ∷ 32 ∷ 48 ∷ 32 ∷ 48 ∷ 32 ∷ 48 ∷ 32 ∷ 51 ∷ 32 ∷ 51 ∷ 32 ∷ 48 ∷ 32 ∷ 49 ∷ 48 ∷ 48 ∷ 48 ∷ 32 ∷ 48 ∷ 10 ∷ [])
