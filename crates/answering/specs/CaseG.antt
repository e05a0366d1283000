-- Case g of rule 18.1: the bytes of its records, and the text of its answer, byte by byte. Assumes nothing.
use Rattle.std.specs.Prelude.{ℕ, List, [], ◌∷◌, ◌++◌}

-- VC -5, VC -1, QE 0 1 4 and ZZ
abbrev pub input_g : List ℕ
input_g =
    (86 ∷ 67 ∷ 0 ∷ 0 ∷ 0 ∷ 0 ∷ 0 ∷ 0 ∷ 20 ∷ 192 ∷ [])
    ++ ((86 ∷ 67 ∷ 0 ∷ 0 ∷ 0 ∷ 0 ∷ 0 ∷ 0 ∷ 240 ∷ 191 ∷ [])
    ++ ((81 ∷ 69 ∷ 0 ∷ 0 ∷ 1 ∷ 0 ∷ 0 ∷ 0 ∷ 0 ∷ 0 ∷ 0 ∷ 0 ∷ 16 ∷ 64 ∷ [])
    ++ (90 ∷ 90 ∷ [])))

-- grade exact, x 0 1, x 1 0, end 2
abbrev pub output_g : List ℕ
output_g =
    (103 ∷ 114 ∷ 97 ∷ 100 ∷ 101 ∷ 32 ∷ 101 ∷ 120 ∷ 97 ∷ 99 ∷ 116 ∷ 10 ∷ [])
    ++ ((120 ∷ 32 ∷ 48 ∷ 32 ∷ 49 ∷ 10 ∷ []) ++ ((120 ∷ 32 ∷ 49 ∷ 32 ∷ 48 ∷ 10 ∷ []) ++ (101 ∷ 110 ∷ 100 ∷ 32 ∷ 50 ∷ 10 ∷ [])))
