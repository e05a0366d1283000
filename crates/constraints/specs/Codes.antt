-- The kinds of constraint in the code: their codes, and the kinds that the meaning has (rule 6.2). Assumes nothing.
use Rattle.std.specs.Prelude.{ℕ, Option, Some, None, [], ◌∷◌, get_or}
use Rattle.meaning.specs.Kinds as meaning
use Rattle.meaning.specs.Kinds.{at_least_one, exactly_one, no_more_than_one, greater_than, less_than, equal}
use Rattle.constraints.specs.declared.Kind.{Kind}
use Rattle.constraints.specs.declared.Kind.TheVariants.{AtLeastOne, ExactlyOne, NoMoreThanOne, GreaterThan, LessThan, Equal}

-- the code of each kind (rule 6.2)
abbrev pub code_of : Kind → ℕ
code_of AtLeastOne = 0
code_of ExactlyOne = 1
code_of NoMoreThanOne = 2
code_of GreaterThan = 3
code_of LessThan = 4
code_of Equal = 5

-- the kind of a code; a code above 5 has none
abbrev pub kind_of : ℕ → Option Kind
kind_of code = get_or (Some AtLeastOne ∷ Some ExactlyOne ∷ Some NoMoreThanOne ∷ Some GreaterThan ∷ Some LessThan ∷ Some Equal ∷ []) code None

-- the kind that the meaning has
abbrev pub meant : Kind → meaning.Kind
meant AtLeastOne = at_least_one
meant ExactlyOne = exactly_one
meant NoMoreThanOne = no_more_than_one
meant GreaterThan = greater_than
meant LessThan = less_than
meant Equal = equal
