-- The units that serve some fields (rules 2.2 to 2.4). Assumes nothing.
use Rattle.std.specs.Prelude.{ℕ, zero, suc, ◌+◌, false, cond, List, [], ◌∷◌, pos, negsuc}
use Rattle.std.specs.Float.{fin}
use Rattle.field.specs.Field.{Field}
use Rattle.field.specs.Grade.{finest, serves}
use Rattle.worked.specs.Fields.{nought, half, one, sixteenth, above_limit, alone, joined, swallowing, at_tolerance}

-- how many of the first k units serve
unfoldable pub serving_to : Field → ℕ → ℕ
serving_to F zero = 0
serving_to F (suc k) = serving_to F k + cond (serves (k + finest) F) 1 0

-- how many of the 41 units serve
abbrev pub serving : Field → ℕ
serving F = serving_to F 41

-- The fields whose units were worked by hand, each under the units that serve it.
abbrev pub graded : List Field
graded =
    -- n=0, and c=(0): every unit
    alone []
    ∷ alone (nought ∷ [])
    -- c=(1/16): 2^-20 to 2^-3
    ∷ alone (sixteenth ∷ [])
    -- c=(0.125,1024.5): 2^-19 to 2^-2
    ∷ alone (fin false 1 (negsuc 2) ∷ fin false 2049 (negsuc 0) ∷ [])
    -- c=(2^30,0.5): 1 alone
    ∷ alone (fin false 1 (pos 30) ∷ half ∷ [])
    -- c=(2^31): from 2
    ∷ alone (fin false 1 (pos 31) ∷ [])
    -- c=(2^50): 2^20 alone; c=(2^51): none
    ∷ alone (fin false 1 (pos 50) ∷ [])
    ∷ alone (fin false 1 (pos 51) ∷ [])
    -- c=(2^-21): 2^-20 alone; c=(2^-22): none
    ∷ alone (fin false 1 (negsuc 20) ∷ [])
    ∷ alone (fin false 1 (negsuc 21) ∷ [])
    -- c=(2^30+0.5), and c=(2^31,0), (0,1) 1, which were exact in halves: none
    ∷ alone (above_limit ∷ [])
    ∷ joined (fin false 1 (pos 31) ∷ nought ∷ []) one
    -- the swallowed rate, and c=(1e-10,0): none
    ∷ swallowing
    ∷ at_tolerance
    ∷ []

-- half of the smallest of each, 1094 for none
abbrev pub smallest : List ℕ
smallest = 1053 ∷ 1053 ∷ 1053 ∷ 1054 ∷ 1073 ∷ 1074 ∷ 1093 ∷ 1094 ∷ 1053 ∷ 1094 ∷ 1094 ∷ 1094 ∷ 1094 ∷ 1094 ∷ []

-- How many of the 41 units serve each of these fields, in their order.
abbrev pub many : List ℕ
many = 41 ∷ 41 ∷ 18 ∷ 18 ∷ 1 ∷ 20 ∷ 1 ∷ 0 ∷ 1 ∷ 0 ∷ 0 ∷ 0 ∷ 0 ∷ 0 ∷ []
