-- What a mask of a small part counts in whole numbers: linear parts, and weights of entries between members. Assumes nothing.
use Rattle.std.specs.Prelude.{ℕ, ◌^◌, cond, List, ltb, length, get_or}
use Rattle.std.specs.Int.Bits.{bit_or}
use Rattle.whole.specs.Whole.{Whole, nothing, ◌⊕◌, only, sum}
use Rattle.meaning.specs.Gradient.{view, gradient}
use Rattle.field.specs.Field.{Field, entries}
use Rattle.field.specs.Reading.{whole_of}
use Rattle.masks.specs.Masks.{has}
use Rattle.enumeration.specs.Terms.{entry_of}

-- what a free end counts: nothing
abbrev pub without : Whole → Whole
without q = nothing

-- the linear part of variable i at the values t
abbrev pub fixed_part : ℕ → Field → List ℕ → ℕ → Whole
fixed_part u F t i = gradient without (whole_of u F) (view t) i

-- the weight of the entry (i, j), and nothing where none stands
unfoldable pub pair_weight : ℕ → Field → ℕ → ℕ → Whole
pair_weight u F i j = cond (ltb (entry_of F i j) (entries F)) ((whole_of u F).weight (entry_of F i j)) nothing

-- what the members count whose bits the mask has
abbrev pub weighed : ℕ → Field → List ℕ → List ℕ → ℕ → Whole
weighed u F t ms mask =
    sum (length ms) (λ b. only (has mask (2 ^ b)) (fixed_part u F t (get_or ms b 0)))
    ⊕ sum (length ms) (λ b. sum (length ms) (λ a. only (has mask (bit_or (2 ^ a) (2 ^ b))) (pair_weight u F (get_or ms a 0) (get_or ms b 0))))
