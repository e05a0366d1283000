-- The values worked by hand of rules 18.1 to 18.8, and others beside them: each names its call, what it is given, and its answer. Assumes nothing.
use Rattle.std.specs.Prelude.{ℕ, ◌+◌, ◌-◌, ◌*◌, ◌/◌, true, false, List, [], ◌∷◌, ◌++◌, pos, Float, length, replicate, Err, Ok}
use Rattle.std.specs.Float.{fin}
use Rattle.weights.specs.Worth.{zero64}
use Rattle.scratch.specs.Cleared.{cleared}
use Rattle.constraints.specs.Record.{room}
use Rattle.field.specs.declared.Grade.{Grade}
use Rattle.field.specs.declared.Grade.TheVariants.{Exact, Inexact}
use Rattle.field.specs.declared.Refusal.{Refusal}
use Rattle.field.specs.declared.Refusal.TheVariants.{Row, Column, Repeat, Order, Argument, Room, Clash, Inexact as NotExact, Unforced, Sum}
use Rattle.field.specs.Answers.{answer_number, Answer, passed, counted_answer}
use Rattle.field.specs.Field.{Field, field_of, variables, entries}
use Rattle.calls.specs.Values as values
use Rattle.closure.specs.Call as closure
use Rattle.components.specs.Call as components
use Rattle.preprocess.specs.Call as preprocess
use Rattle.heavy.specs.Call as heavy
use Rattle.probe.specs.Call as probe
use Rattle.probes.specs.Call as probes
use Rattle.probes.specs.Route.{fast}
use Rattle.pairs.specs.Call as pairs
use Rattle.anchors.specs.Call as anchors
use Rattle.propagation.specs.Call as propagation
use Rattle.reason.specs.declared.Ground.{Ground}
use Rattle.reason.specs.declared.Ground.TheVariants.{Given, Lower, Upper}
use Rattle.reason.specs.Call as reason
use Rattle.sub_problem.specs.Call as sub-problem
use Rattle.kept.specs.Kept.{Kept, kept}
use Rattle.kept.specs.Calls as keeping
use Rattle.kept.specs.Operations.{Operation, pin, release, operated, operated_all}
use Rattle.mend.specs.Call as mend
use Rattle.allow.specs.declared.Allowed.{Allowed}
use Rattle.allow.specs.declared.Allowed.TheVariants.{Yes, No}
use Rattle.allow.specs.Call as allow
use Rattle.worked.specs.Fields.{nought, half, sixteenth, limit, above_limit, minus_half, minus_one, two, minus_two, three, minus_three, four, minus_four, minus_five, six, minus_six, seven, heavy_rate, one, least, minus_nought, huge, minus_huge}
use Rattle.worked.specs.Fields.{alone, joined, apart, opposed, swallowing, unbalanced, two_parts, overflowing, on_diagonal, with_zero, parted, popped, one_term, two_pairs, three_pairs, four_pairs, linked, at_tolerance, placed, cancelling, feared, staying, both_ways, waiting, in_chain, crossed, on_both_diagonals, edited, listed, whole_limit, past_whole, five}
use Rattle.pairs.specs.Answers.{paired_answer}
use Rattle.reason.specs.Answers.{reasoned_answer}
use Rattle.sub_problem.specs.Answers.{reduced_answer}
use Rattle.mend.specs.Answers.{mended_answer}

-- a call, the field with its grade, the start values, what else it is given, and what it answers
pub data Case : Type 0 where
  -- what is in the start values afterwards, and for the closure how many free variables have a flat row
  closes : Field → Grade → List ℕ → List ℕ → ℕ → Case
  completes : Field → Grade → List ℕ → List ℕ → Case
  preprocesses : Field → Grade → List ℕ → List ℕ → Case
  rounds : Field → Grade → List ℕ → List ℕ → Case
  -- the probed variable and value, and the values found
  probes_one : Field → Grade → List ℕ → ℕ → ℕ → List ℕ → Case
  -- the same by the fast route's own definition
  probes_fast : Field → Grade → List ℕ → ℕ → ℕ → List ℕ → Case
  -- the values and the records found
  probes_all : Field → Grade → List ℕ → List ℕ → List ℕ → Case
  -- the limit of candidates besides
  probes_some : Field → Grade → List ℕ → ℕ → List ℕ → List ℕ → Case
  -- the records found, how many they are, and how many pairs were examined
  compares : Field → Grade → List ℕ → List ℕ → ℕ → ℕ → Case
  -- the least size, and the anchors
  anchors_at : Field → Grade → List ℕ → ℕ → List ℕ → Case
  -- no field: start values and records, the answer, and what is in the start values afterwards
  propagates : List ℕ → List ℕ → Answer Unit → List ℕ → Case
  -- propagation is refused with 7, and all that was lent stays
  argues : List ℕ → List ℕ → Case
  -- the closure is refused, and all that was lent stays
  refuses : Field → Refusal → Case
  -- the variable, its ground, the unit k, which is 2^(k - 20), and the neighbours listed
  explains : Field → List ℕ → ℕ → Ground → ℕ → List ℕ → Case
  -- the variable has no reason: the list stays, and scratch is all zeros
  explains_none : Field → List ℕ → ℕ → Refusal → Case
  -- the smaller problem, its constant and the map back
  reduces : Field → Grade → List ℕ → Field → Float → List ℕ → Case
  -- the map list is too short for the smaller problem
  lacks_room : Field → List ℕ → List ℕ → Case
  -- a record is made and kept through operations, whose numbers follow: what it holds then, and the flat rows and the list of what closes from it
  keeps : Field → List ℕ → List Operation → List ℕ → Kept → ℕ → List ℕ → Case
  -- no record is made, and scratch is all zeros
  keeps_none : Field → List ℕ → Refusal → Case
  -- the mended field with its grade, and the numbers of the changes
  mends : Field → Grade → Field → List ℕ → Case
  -- a sum is not finite: nothing changes
  overflows : Field → Case
  -- the report is too short for the changes
  lacks_report : Field → List ℕ → Case
  -- no field: the number of variables and records, the answer, the assignment and the counts
  allows : ℕ → List ℕ → Answer Allowed → List ℕ → List ℕ → Case
  -- one place for a value or a count is missing
  lacks_places : ℕ → List ℕ → ℕ → ℕ → Case

-- ---- the list

-- Equal(0,1) and ExactlyOne(0,1): 01 and 10, then 00 and 11
abbrev pub both : List ℕ
both = 0 ∷ 1 ∷ 6 ∷ 0 ∷ 1 ∷ 9 ∷ []

-- All values worked by hand, one after another, each under the sentence that it stands for.
abbrev pub cases : List Case
cases =
    -- case a: nothing forced
    closes (alone []) Exact [] [] 0
    -- case b: the closure leaves 2, preprocess gives 0
    ∷ closes (alone (nought ∷ [])) Exact (2 ∷ []) (2 ∷ []) 1
    ∷ preprocesses (alone (nought ∷ [])) Exact (2 ∷ []) (0 ∷ [])
    -- cases c and d
    ∷ closes (alone (half ∷ [])) Exact (2 ∷ []) (0 ∷ []) 0
    ∷ closes (alone (minus_half ∷ [])) Exact (2 ∷ []) (1 ∷ []) 0
    -- rules 2.3 and 2.9: c=1/16 is exact, c=2^30+0.5 no longer
    ∷ closes (alone (sixteenth ∷ [])) Exact (2 ∷ []) (0 ∷ []) 0
    ∷ closes (alone (above_limit ∷ [])) Inexact (2 ∷ []) (0 ∷ []) 0
    -- cases e and f: a bound of exactly 0, and nothing
    ∷ closes (joined (nought ∷ nought ∷ []) two) Exact (2 ∷ 2 ∷ []) (2 ∷ 2 ∷ []) 0
    ∷ closes (joined (nought ∷ nought ∷ []) minus_two) Exact (2 ∷ 2 ∷ []) (2 ∷ 2 ∷ []) 0
    -- case g, and case h with x0 given 0
    ∷ closes (joined (minus_five ∷ minus_one ∷ []) four) Exact (2 ∷ 2 ∷ []) (1 ∷ 0 ∷ []) 0
    ∷ closes (joined (minus_five ∷ minus_one ∷ []) four) Exact (0 ∷ 2 ∷ []) (0 ∷ 1 ∷ []) 0
    -- case i: the probe gives ExactlyOne(0,1) and no value, pairs give nothing
    ∷ probes_all (joined (minus_one ∷ minus_one ∷ []) four) Exact (2 ∷ 2 ∷ []) (2 ∷ 2 ∷ []) (0 ∷ 1 ∷ 9 ∷ [])
    ∷ compares (joined (minus_one ∷ minus_one ∷ []) four) Exact (2 ∷ 2 ∷ []) [] 0 1
    -- case j: pairs give NoMoreThanOne(0,1)
    ∷ compares (joined (minus_one ∷ minus_one ∷ []) six) Exact (2 ∷ 2 ∷ []) (0 ∷ 1 ∷ 8 ∷ []) 1 1
    -- case k: 10; case l: done, unchanged
    ∷ propagates (1 ∷ 2 ∷ []) both (Err Clash) (1 ∷ 2 ∷ [])
    ∷ propagates (2 ∷ 2 ∷ []) both passed (2 ∷ 2 ∷ [])
    -- case m: preprocess 1,0, and the anchor 0 at least size 2
    ∷ preprocesses (joined (minus_half ∷ minus_half ∷ []) two) Exact (2 ∷ 2 ∷ []) (1 ∷ 0 ∷ [])
    ∷ anchors_at (joined (minus_half ∷ minus_half ∷ []) two) Exact (2 ∷ 2 ∷ []) 2 (0 ∷ [])
    -- case n
    ∷ closes (joined (minus_one ∷ minus_five ∷ []) four) Exact (2 ∷ 2 ∷ []) (0 ∷ 1 ∷ []) 0
    -- c=(1e-10,0) without entries: no pair constraint
    ∷ compares at_tolerance Inexact (2 ∷ 2 ∷ []) [] 0 1
    -- the swallowed rate: 0,0,1,1, as the Rust has it, graded inexact
    ∷ closes swallowing Inexact (2 ∷ 2 ∷ 2 ∷ 2 ∷ []) (0 ∷ 0 ∷ 1 ∷ 1 ∷ []) 0
    -- enumerated, the same field gives the best completion
    ∷ completes swallowing Inexact (2 ∷ 2 ∷ 2 ∷ 2 ∷ []) (1 ∷ 0 ∷ 1 ∷ 0 ∷ [])
    -- (i,j) and (j,i) are not merged in a row: each is bounded by itself
    ∷ closes opposed Exact (2 ∷ 2 ∷ []) (2 ∷ 2 ∷ []) 0
    -- a given 1 stays, at a variable of no effect too
    ∷ preprocesses (alone (nought ∷ [])) Exact (1 ∷ []) (1 ∷ [])
    -- preprocess leaves heavy's first round nothing; eleven variables need a second one
    ∷ rounds (joined (minus_half ∷ minus_half ∷ []) two) Exact (2 ∷ 2 ∷ []) (1 ∷ 0 ∷ [])
    ∷ rounds linked Exact (replicate 11 2) (1 ∷ 1 ∷ 1 ∷ 0 ∷ replicate 7 1)
    -- 10 and 01 have the same objective, and the lowest mask wins
    ∷ completes (joined (minus_half ∷ minus_half ∷ []) two) Exact (2 ∷ 2 ∷ []) (1 ∷ 0 ∷ [])
    -- a given variable parts two others, and its value counts in their linear parts
    ∷ completes parted Exact (2 ∷ 1 ∷ 2 ∷ []) (1 ∷ 1 ∷ 1 ∷ [])
    -- bits are in pop order: 1 and 2 are alike, and the last in, 2, has the lower bit
    ∷ completes popped Exact (2 ∷ 2 ∷ 2 ∷ []) (0 ∷ 0 ∷ 1 ∷ [])
    -- what a given variable adds is summed into one linear term first, where large weights swallow small ones
    ∷ completes one_term Inexact (2 ∷ 2 ∷ 1 ∷ []) (0 ∷ 0 ∷ 1 ∷ [])
    -- both probes of case i, and what a start value leaves out
    ∷ probes_one (joined (minus_one ∷ minus_one ∷ []) four) Exact (2 ∷ 2 ∷ []) 0 0 (0 ∷ 1 ∷ [])
    ∷ probes_one (joined (minus_one ∷ minus_one ∷ []) four) Exact (2 ∷ 2 ∷ []) 0 1 (1 ∷ 0 ∷ [])
    ∷ probes_one (joined (minus_one ∷ minus_one ∷ []) four) Exact (2 ∷ 0 ∷ []) 0 0 (0 ∷ 2 ∷ [])
    ∷ probes_one apart Exact (2 ∷ 2 ∷ 2 ∷ []) 0 1 (1 ∷ 0 ∷ 1 ∷ [])
    ∷ probes_one apart Exact (2 ∷ 2 ∷ 1 ∷ []) 0 1 (1 ∷ 0 ∷ 2 ∷ [])
    -- of two pairs a limit of 1 takes the heavier, and a limit of 0 none
    ∷ probes_all two_pairs Exact (2 ∷ 2 ∷ 2 ∷ 2 ∷ []) (2 ∷ 2 ∷ 2 ∷ 2 ∷ []) (0 ∷ 1 ∷ 9 ∷ 2 ∷ 3 ∷ 9 ∷ [])
    ∷ probes_some two_pairs Exact (2 ∷ 2 ∷ 2 ∷ 2 ∷ []) 1 (2 ∷ 2 ∷ 2 ∷ 2 ∷ []) (2 ∷ 3 ∷ 9 ∷ [])
    ∷ probes_some two_pairs Exact (2 ∷ 2 ∷ 2 ∷ 2 ∷ []) 0 (2 ∷ 2 ∷ 2 ∷ 2 ∷ []) []
    -- too small a component, one with a start value, a stored zero that joins nothing, and a sum that rounding would make 0
    ∷ anchors_at (joined (minus_half ∷ minus_half ∷ []) two) Exact (2 ∷ 2 ∷ []) 3 []
    ∷ anchors_at (joined (minus_half ∷ minus_half ∷ []) two) Exact (2 ∷ 0 ∷ []) 2 []
    ∷ anchors_at with_zero Exact (2 ∷ 2 ∷ 2 ∷ []) 0 (0 ∷ 2 ∷ [])
    ∷ anchors_at unbalanced Inexact (2 ∷ 2 ∷ 2 ∷ []) 0 []
    -- a sum of two parts that comes to 0, an overflow of 4c, and 2q on the diagonal
    ∷ anchors_at two_parts Inexact (2 ∷ 2 ∷ 2 ∷ []) 0 (0 ∷ [])
    ∷ anchors_at overflowing Inexact (2 ∷ 2 ∷ []) 0 []
    ∷ anchors_at on_diagonal Inexact (2 ∷ []) 1 (0 ∷ [])
    -- the first entry at fault, places as (row,column). n=2: (0,1) (2,0) is 14 at 1; (5,7) is 14 at 0, the row before the column; (0,9) is 15 at 0
    ∷ refuses (placed 2 (0 ∷ 2 ∷ []) (1 ∷ 0 ∷ [])) (Row 1)
    ∷ refuses (placed 2 (5 ∷ []) (7 ∷ [])) (Row 0)
    ∷ refuses (placed 2 (0 ∷ []) (9 ∷ [])) (Column 0)
    -- n=2: (0,1) (0,1) is 16 at 1; (1,1) (0,1) is 17 at 1; (0,1) (1,1) (0,1) is 17 at 2, a repeat of no entry before
    ∷ refuses (placed 2 (0 ∷ 0 ∷ []) (1 ∷ 1 ∷ [])) (Repeat 1)
    ∷ refuses (placed 2 (1 ∷ 0 ∷ []) (1 ∷ 1 ∷ [])) (Order 1)
    ∷ refuses (placed 2 (0 ∷ 1 ∷ 0 ∷ []) (1 ∷ 1 ∷ 1 ∷ [])) (Order 2)
    -- n=3: (0,1) (0,1) (3,0) is 16 at 1, the first entry at fault; n=0: (0,0) is 14 at 0
    ∷ refuses (placed 3 (0 ∷ 0 ∷ 3 ∷ []) (1 ∷ 1 ∷ 0 ∷ [])) (Repeat 1)
    ∷ refuses (placed 0 (0 ∷ []) (0 ∷ [])) (Row 0)
    -- flat rows: under a stored zero, after a neighbour was forced, none of a given variable, and one that the run's rows have and fresh ones have not
    ∷ closes (joined (nought ∷ nought ∷ []) nought) Exact (2 ∷ 2 ∷ []) (2 ∷ 2 ∷ []) 2
    ∷ closes (joined (minus_five ∷ minus_one ∷ []) two) Exact (2 ∷ 2 ∷ []) (1 ∷ 2 ∷ []) 1
    ∷ closes (alone (nought ∷ [])) Exact (0 ∷ []) (0 ∷ []) 0
    ∷ closes cancelling Inexact (2 ∷ 2 ∷ []) (2 ∷ 0 ∷ []) 1
    -- reasons, bounds in half units of 2^-20, which are halves times 2^20. Case g: x0 upper, none, -6; x1 lower, x0, 2
    ∷ explains (joined (minus_five ∷ minus_one ∷ []) four) (2 ∷ 2 ∷ []) 0 (Upper (fin true 3 (pos 21))) 0 []
    ∷ explains (joined (minus_five ∷ minus_one ∷ []) four) (2 ∷ 2 ∷ []) 1 (Lower (fin false 1 (pos 21))) 0 (0 ∷ [])
    -- case h: x1 upper, x0, -2; x0 given
    ∷ explains (joined (minus_five ∷ minus_one ∷ []) four) (0 ∷ 2 ∷ []) 1 (Upper (fin true 1 (pos 21))) 0 (0 ∷ [])
    ∷ explains (joined (minus_five ∷ minus_one ∷ []) four) (0 ∷ 2 ∷ []) 0 Given 0 []
    -- the bound with all entries to the listed so counted: 3, where the run had 2; a variable forced earlier is not listed while it waits: x0 alone, 2
    ∷ explains both_ways (2 ∷ 2 ∷ []) 1 (Lower (fin false 3 (pos 20))) 0 (0 ∷ [])
    ∷ explains waiting (2 ∷ 2 ∷ 2 ∷ []) 2 (Lower (fin false 1 (pos 21))) 0 (0 ∷ [])
    -- a stored zero lists its neighbour too: x0 upper, x1, -2
    ∷ explains (joined (minus_one ∷ nought ∷ []) nought) (2 ∷ 1 ∷ []) 0 (Upper (fin true 1 (pos 21))) 0 (1 ∷ [])
    -- in a coarse unit, 2^10: -2^40 is -2^31 half units
    ∷ explains (alone (heavy_rate ∷ [])) (2 ∷ []) 0 (Upper (fin true 1 (pos 31))) 30 []
    -- case e, free at the end; no such variable; the swallowed rate
    ∷ explains_none (joined (nought ∷ nought ∷ []) two) (2 ∷ 2 ∷ []) 0 Unforced
    ∷ explains_none (alone []) [] 0 Unforced
    ∷ explains_none swallowing (2 ∷ 2 ∷ 2 ∷ 2 ∷ []) 0 NotExact
    -- each mask's terms added afresh: c=(-MAX,-MAX) is minus infinity at mask 3 alone; c=(-0.0) is 0.0 at mask 1 too, and mask 0 wins
    ∷ completes (joined (least ∷ least ∷ []) nought) Inexact (2 ∷ 2 ∷ []) (1 ∷ 1 ∷ [])
    ∷ completes (alone (minus_nought ∷ [])) Exact (2 ∷ []) (0 ∷ [])
    -- c=(2^53,1,-2^53): mask 4 before mask 6 at -2^53 + 1; c=(1e308,1e308,-1e308): mask 4, with masks 3 and 7 infinite
    ∷ completes (in_chain (fin false 1 (pos 53) ∷ one ∷ fin true 1 (pos 53) ∷ [])) Inexact (2 ∷ 2 ∷ 2 ∷ []) (0 ∷ 0 ∷ 1 ∷ [])
    ∷ completes (in_chain (huge ∷ huge ∷ minus_huge ∷ [])) Inexact (2 ∷ 2 ∷ 2 ∷ []) (0 ∷ 0 ∷ 1 ∷ [])
    -- one record for one pair: what both probes of two variables say is one record, and what both differences of a pair give is one
    ∷ probes_all (joined (one ∷ nought ∷ []) minus_two) Exact (2 ∷ 2 ∷ []) (2 ∷ 2 ∷ []) (0 ∷ 1 ∷ 4 ∷ [])
    ∷ compares (joined (minus_five ∷ minus_one ∷ []) four) Exact (2 ∷ 2 ∷ []) (0 ∷ 1 ∷ 3 ∷ []) 1 1
    -- three pairs of values on an exact field, and all four on an inexact one; on both the value x0 = 0 is found besides
    ∷ probes_all three_pairs Exact (2 ∷ 2 ∷ 2 ∷ []) (0 ∷ 2 ∷ 2 ∷ []) (0 ∷ 1 ∷ 10 ∷ 0 ∷ 2 ∷ 2 ∷ 1 ∷ 2 ∷ 14 ∷ [])
    ∷ probes_all four_pairs Inexact (2 ∷ 2 ∷ 2 ∷ []) (0 ∷ 2 ∷ 2 ∷ []) (1 ∷ 2 ∷ 15 ∷ [])
    -- 10 and 11: x0=1 forbids both values of x1, x1=1 gives x0, and x0=0 gives nothing
    ∷ propagates (1 ∷ 2 ∷ []) (0 ∷ 1 ∷ 12 ∷ []) (Err Clash) (1 ∷ 2 ∷ [])
    ∷ propagates (2 ∷ 1 ∷ []) (0 ∷ 1 ∷ 12 ∷ []) passed (0 ∷ 1 ∷ [])
    ∷ propagates (0 ∷ 2 ∷ []) (0 ∷ 1 ∷ 12 ∷ []) passed (0 ∷ 2 ∷ [])
    -- all four: accepted, and a clash once either variable has a value
    ∷ propagates (2 ∷ 2 ∷ []) (0 ∷ 1 ∷ 15 ∷ []) passed (2 ∷ 2 ∷ [])
    ∷ propagates (1 ∷ 2 ∷ []) (0 ∷ 1 ∷ 15 ∷ []) (Err Clash) (1 ∷ 2 ∷ [])
    ∷ propagates (2 ∷ 0 ∷ []) (0 ∷ 1 ∷ 15 ∷ []) (Err Clash) (2 ∷ 0 ∷ [])
    -- 7: ends that do not rise, an empty set, a set above 15, an end not below n
    ∷ argues (2 ∷ 2 ∷ []) (1 ∷ 0 ∷ 6 ∷ [])
    ∷ argues (2 ∷ 2 ∷ []) (0 ∷ 0 ∷ 6 ∷ [])
    ∷ argues (2 ∷ 2 ∷ []) (0 ∷ 1 ∷ 0 ∷ [])
    ∷ argues (2 ∷ 2 ∷ []) (0 ∷ 1 ∷ 16 ∷ [])
    ∷ argues (2 ∷ 2 ∷ []) (0 ∷ 2 ∷ 6 ∷ [])
    -- the smaller problem: case g with x0=1, an entry of each kind with x1=1, a diagonal that stays and one that goes, all given
    ∷ reduces (joined (minus_five ∷ minus_one ∷ []) four) Exact (1 ∷ 2 ∷ []) (alone (one ∷ [])) minus_five (1 ∷ [])
    ∷ reduces crossed Exact (2 ∷ 1 ∷ 2 ∷ []) (joined (minus_two ∷ seven ∷ []) minus_six) minus_one (0 ∷ 2 ∷ [])
    ∷ reduces on_both_diagonals Inexact (1 ∷ 2 ∷ []) (field_of (two ∷ []) (0 ∷ []) (0 ∷ []) (six ∷ [])) three (1 ∷ [])
    ∷ reduces (alone (two ∷ [])) Exact (1 ∷ []) (alone []) two []
    -- c=(-0.0) is added to 0.0; c=(2^30,0), (0,1) 1, x1=1 leaves c=(2^30+0.5), which the list above grades inexact
    ∷ reduces (alone (minus_nought ∷ [])) Exact (2 ∷ []) (alone (nought ∷ [])) nought (0 ∷ [])
    ∷ reduces (joined (limit ∷ nought ∷ []) one) Exact (2 ∷ 1 ∷ []) (alone (above_limit ∷ [])) nought (0 ∷ [])
    -- two free variables, and a map list of one place
    ∷ lacks_room (joined (minus_five ∷ minus_one ∷ []) four) (2 ∷ 2 ∷ []) (7 ∷ [])
    -- a kept record: made; x1 pinned at 0; pinned again; released; another pinned, and a free one released
    ∷ keeps edited (2 ∷ 2 ∷ 2 ∷ []) [] [] (kept (2 ∷ 2 ∷ 2 ∷ []) (minus_one ∷ minus_six ∷ minus_half ∷ one ∷ minus_three ∷ half ∷ []) 1) 0 (0 ∷ 1 ∷ 1 ∷ [])
    ∷ keeps edited (2 ∷ 2 ∷ 2 ∷ []) (pin 1 0 ∷ []) (0 ∷ []) (kept (2 ∷ 0 ∷ 2 ∷ []) (minus_one ∷ nought ∷ half ∷ minus_one ∷ nought ∷ half ∷ []) 2) 0 (1 ∷ 0 ∷ 0 ∷ [])
    ∷ keeps edited (2 ∷ 2 ∷ 2 ∷ []) (pin 1 0 ∷ pin 1 0 ∷ []) (0 ∷ 7 ∷ []) (kept (2 ∷ 0 ∷ 2 ∷ []) (minus_one ∷ nought ∷ half ∷ minus_one ∷ nought ∷ half ∷ []) 2) 0 (1 ∷ 0 ∷ 0 ∷ [])
    ∷ keeps edited (2 ∷ 2 ∷ 2 ∷ []) (pin 1 0 ∷ release 1 ∷ []) (0 ∷ 0 ∷ []) (kept (2 ∷ 2 ∷ 2 ∷ []) (minus_one ∷ minus_six ∷ minus_half ∷ one ∷ minus_three ∷ half ∷ []) 1) 0 (0 ∷ 1 ∷ 1 ∷ [])
    ∷ keeps edited (2 ∷ 2 ∷ 2 ∷ []) (pin 0 1 ∷ release 2 ∷ []) (0 ∷ 7 ∷ []) (kept (1 ∷ 2 ∷ 2 ∷ []) (nought ∷ minus_four ∷ minus_half ∷ nought ∷ minus_three ∷ half ∷ []) 1) 0 (1 ∷ 1 ∷ 1 ∷ [])
    -- a bound of 0 is stored as 0.0; an inexact field has no record
    ∷ keeps (joined (minus_nought ∷ one ∷ []) minus_four) (2 ∷ 2 ∷ []) (pin 1 0 ∷ []) (0 ∷ []) (kept (2 ∷ 0 ∷ []) (nought ∷ nought ∷ nought ∷ nought ∷ []) 0) 1 (2 ∷ 0 ∷ [])
    ∷ keeps_none swallowing (2 ∷ 2 ∷ 2 ∷ 2 ∷ []) NotExact
    -- a mended list: out of order; a repeat; an entry outside, and a lone -0.0; all of them, with a sum that rounds at each step: (5 + 2^53) + 1
    ∷ mends (listed 2 (0 ∷ 1 ∷ []) (1 ∷ 0 ∷ []) (one ∷ two ∷ [])) Exact (listed 2 (1 ∷ 0 ∷ []) (0 ∷ 1 ∷ []) (two ∷ one ∷ [])) (0 ∷ 1 ∷ 1 ∷ 1 ∷ 1 ∷ 0 ∷ [])
    ∷ mends (listed 2 (0 ∷ 0 ∷ []) (1 ∷ 1 ∷ []) (one ∷ two ∷ [])) Exact (listed 2 (0 ∷ []) (1 ∷ []) (three ∷ [])) (1 ∷ 2 ∷ 0 ∷ [])
    ∷ mends (listed 2 (5 ∷ 1 ∷ 0 ∷ []) (0 ∷ 0 ∷ 1 ∷ []) (one ∷ three ∷ minus_nought ∷ [])) Exact (listed 2 (1 ∷ 0 ∷ []) (0 ∷ 1 ∷ []) (three ∷ minus_nought ∷ []))
    (0 ∷ 0 ∷ 65535 ∷ 1 ∷ 1 ∷ 0 ∷ 2 ∷ 1 ∷ 1 ∷ [])
    ∷ mends (listed 3 (2 ∷ 0 ∷ 2 ∷ 7 ∷ 0 ∷ 0 ∷ []) (1 ∷ 1 ∷ 1 ∷ 7 ∷ 1 ∷ 1 ∷ []) (one ∷ five ∷ minus_one ∷ four ∷ whole_limit ∷ one ∷ [])) Inexact
    (listed 3 (0 ∷ 2 ∷ []) (1 ∷ 1 ∷ []) (past_whole ∷ nought ∷ [])) (0 ∷ 1 ∷ 1 ∷ 1 ∷ 1 ∷ 0 ∷ 2 ∷ 2 ∷ 1 ∷ 3 ∷ 0 ∷ 65535 ∷ 4 ∷ 2 ∷ 0 ∷ 5 ∷ 2 ∷ 0 ∷ [])
    -- a sum that is not finite, one of dropped entries alone, and the first list with room for one change
    ∷ overflows (listed 2 (1 ∷ 1 ∷ 1 ∷ []) (0 ∷ 0 ∷ 0 ∷ []) (huge ∷ huge ∷ minus_huge ∷ []))
    ∷ mends (listed 2 (9 ∷ 9 ∷ []) (9 ∷ 9 ∷ []) (huge ∷ huge ∷ [])) Exact (listed 2 [] [] []) (0 ∷ 0 ∷ 65535 ∷ 1 ∷ 0 ∷ 65535 ∷ [])
    ∷ lacks_report (listed 2 (0 ∷ 1 ∷ []) (1 ∷ 0 ∷ []) (one ∷ two ∷ [])) (7 ∷ 7 ∷ 7 ∷ 9 ∷ [])
    -- both routes of a probe (rule 18.6): both force x0, whose row is made afresh; both keep a rounding in row 0, whose term the run itself takes out; both probes of case i
    ∷ probes_one feared Inexact (2 ∷ 2 ∷ []) 1 0 (0 ∷ 0 ∷ [])
    ∷ probes_fast feared Inexact (2 ∷ 2 ∷ []) 1 0 (0 ∷ 0 ∷ [])
    ∷ probes_one feared Inexact (2 ∷ 2 ∷ []) 1 1 (1 ∷ 1 ∷ [])
    ∷ probes_fast feared Inexact (2 ∷ 2 ∷ []) 1 1 (1 ∷ 1 ∷ [])
    ∷ probes_one staying Inexact (2 ∷ 2 ∷ 2 ∷ []) 2 0 (2 ∷ 0 ∷ 0 ∷ [])
    ∷ probes_fast staying Inexact (2 ∷ 2 ∷ 2 ∷ []) 2 0 (2 ∷ 0 ∷ 0 ∷ [])
    ∷ probes_fast (joined (minus_one ∷ minus_one ∷ []) four) Exact (2 ∷ 2 ∷ []) 0 0 (0 ∷ 1 ∷ [])
    ∷ probes_fast (joined (minus_one ∷ minus_one ∷ []) four) Exact (2 ∷ 2 ∷ []) 0 1 (1 ∷ 0 ∷ [])
    -- what records allow: Equal and ExactlyOne on one pair, in two records or in one; ExactlyOne alone
    ∷ allows 2 both (Ok (No 0)) (2 ∷ 2 ∷ []) (4 ∷ 4 ∷ 4 ∷ 4 ∷ [])
    ∷ allows 2 (0 ∷ 1 ∷ 15 ∷ []) (Ok (No 0)) (2 ∷ 2 ∷ []) (4 ∷ 4 ∷ 4 ∷ 4 ∷ [])
    ∷ allows 2 (0 ∷ 1 ∷ 9 ∷ []) (Ok Yes) (0 ∷ 1 ∷ []) (2 ∷ 2 ∷ 2 ∷ 2 ∷ [])
    -- 00 and 01: x0 is 1; not 00, then x1 equals x2: x0 is 0, so the others are 1
    ∷ allows 2 (0 ∷ 1 ∷ 3 ∷ []) (Ok Yes) (1 ∷ 0 ∷ []) (4 ∷ 1 ∷ 2 ∷ 2 ∷ [])
    ∷ allows 3 (0 ∷ 1 ∷ 1 ∷ 1 ∷ 2 ∷ 6 ∷ []) (Ok Yes) (0 ∷ 1 ∷ 1 ∷ []) (3 ∷ 1 ∷ 3 ∷ 2 ∷ 3 ∷ 2 ∷ [])
    -- x1 is 0, so x0 is 1 and x2 too; x1 can be neither, and x0 is not named
    ∷ allows 3 (0 ∷ 2 ∷ 4 ∷ 1 ∷ 2 ∷ 12 ∷ 0 ∷ 1 ∷ 1 ∷ []) (Ok Yes) (1 ∷ 0 ∷ 1 ∷ []) (6 ∷ 3 ∷ 3 ∷ 6 ∷ 6 ∷ 3 ∷ [])
    ∷ allows 3 (1 ∷ 2 ∷ 3 ∷ 1 ∷ 2 ∷ 12 ∷ []) (Ok (No 1)) (2 ∷ 2 ∷ 2 ∷ []) (1 ∷ 1 ∷ 4 ∷ 4 ∷ 4 ∷ 4 ∷ [])
    -- no variables, and no records
    ∷ allows 0 [] (Ok Yes) [] []
    ∷ allows 1 [] (Ok Yes) (0 ∷ []) (1 ∷ 1 ∷ [])
    -- one value or one count has no place
    ∷ lacks_places 2 (0 ∷ 1 ∷ 9 ∷ []) 1 4
    ∷ lacks_places 2 (0 ∷ 1 ∷ 9 ∷ []) 2 3
    ∷ []

-- ---- what each call leaves, and what the list says

-- the answer and all that was lent, as each call's promise has them
pub data Outcome : Type 0 where
  in_closing : closure.Left → Outcome
  in_start : values.Left → Outcome
  in_found : probe.Left → Outcome
  in_both : probes.Left → Outcome
  in_pairs : pairs.Left → Outcome
  in_anchors : anchors.Left → Outcome
  in_literals : propagation.Left → Outcome
  in_reason : reason.Left → Outcome
  in_lists : sub-problem.Left → Outcome
  in_record : List ℕ → Kept → keeping.Closed → Outcome
  in_making : keeping.Left → Outcome
  in_entries : mend.Left → Outcome
  in_reach : allow.Left → Outcome

-- Float scratch of the least length that the tests allow, with numbers in it.
abbrev pub floats : Field → List Float
floats F = replicate (8 * variables F + 4 * entries F + 16) two

-- Word scratch of the least length that the tests allow, with numbers in it.
abbrev pub words : Field → List ℕ
words F = replicate (16 * variables F + 8 * entries F + 16) 7

-- The word scratch of `propagate`, of the least length for these values and records, with numbers in it.
abbrev pub constraint_words : List ℕ → List ℕ → List ℕ
constraint_words s k = replicate (16 * length s + 8 * room k + 16) 7

-- The u64 scratch of `allow`, of the least length for n variables, with numbers in it.
abbrev pub reach_longs : ℕ → List ℕ
reach_longs n = replicate (128 * n) 7

-- The word scratch of `allow`, of the least length for n variables and these records, with numbers in it.
abbrev pub reach_words : ℕ → List ℕ → List ℕ
reach_words n k = replicate (16 * n + 8 * room k + 16) 7

-- Start values with nothing given: every variable of the field is free.
abbrev pub free : Field → List ℕ
free F = replicate (variables F) 2

-- a list with room for an answer, and an element more, which stays
abbrev pub lent : List ℕ → List ℕ
lent l = replicate (length l) 7 ++ (9 ∷ [])

-- An answer at the front of the list that was lent, with the element behind it as it was.
abbrev pub front : List ℕ → List ℕ
front l = l ++ (9 ∷ [])

-- the smaller problem, with zeros behind it as far as the field went
abbrev pub closed : Field → Field → Field
closed G F =
    field_of
    (G.linear ++ replicate (variables F - variables G) nought)
    (G.rows ++ replicate (entries F - entries G) 0)
    (G.cols ++ replicate (entries F - entries G) 0)
    (G.quad ++ replicate (entries F - entries G) nought)

-- bounds of two for each variable, with numbers in them
abbrev pub bounds : Field → List Float
bounds F = replicate (variables F + variables F) two

-- The number that one operation on the record answers: 0, or that of its refusal.
abbrev pub number_to : Field → Kept → Operation → ℕ
number_to F K (pin i v) = answer_number (keeping.pin_call F K i v).answer
number_to F K (release i) = answer_number (keeping.release_call F K i).answer

-- The numbers that these operations answer, one after another, each on what the last one left.
unfoldable pub numbers : Field → Kept → List Operation → List ℕ
numbers F K [] = []
numbers F K (o ∷ os) = number_to F K o ∷ numbers F (operated F K o) os

-- the record that is made, and what the operations leave of it
abbrev pub begun : Field → List ℕ → Kept
begun F s = keeping.record_left F s (bounds F) 7 (floats F) (words F)

-- The record that is made from s and then goes through these operations.
abbrev pub after : Field → List ℕ → List Operation → Kept
after F s os = operated_all F (begun F s) os

-- what the promise of each call gives
unfoldable pub given : Case → Outcome
given (closes F g s t flat) = in_closing (closure.closure_call F s (floats F) (words F))
given (completes F g s t) = in_start (components.components_call F s (floats F) (words F))
given (preprocesses F g s t) = in_start (preprocess.preprocess_call F s (floats F) (words F))
given (rounds F g s t) = in_start (heavy.heavy_call F s (floats F) (words F))
given (probes_one F g s i v t) = in_found (probe.probe_one_call F s i v (replicate (length t) 7) (floats F) (words F))
given (probes_fast F g s i v t) = in_found (probe.probe_one_by fast F s i v (replicate (length t) 7) (floats F) (words F))
given (probes_all F g s t k) = in_both (probes.probe_call F s (replicate (length t) 7) (lent k) (floats F) (words F))
given (probes_some F g s limit t k) = in_both (probes.probe_limited_call F s limit (replicate (length t) 7) (lent k) (floats F) (words F))
given (compares F g s k items examined) = in_pairs (pairs.pairs_call F s 250000 (lent k) (floats F) (words F))
given (anchors_at F g s least l) = in_anchors (anchors.anchors_call F s least (lent l) (floats F) (words F))
given (propagates s k r t) = in_literals (propagation.propagate_call s k (constraint_words s k))
given (argues s k) = in_literals (propagation.propagate_call s k (constraint_words s k))
given (refuses F r) = in_closing (closure.closure_call F (free F) (floats F) (words F))
given (explains F s i g k l) = in_reason (reason.reason_call F s i (lent l) (floats F) (words F))
given (explains_none F s i r) = in_reason (reason.reason_call F s i (lent []) (floats F) (words F))
given (reduces F g s G k b) = in_lists (sub-problem.sub_problem_call F s (lent b) (floats F) (words F))
given (lacks_room F s l) = in_lists (sub-problem.sub_problem_call F s l (floats F) (words F))
given (keeps F s os ns K flat l) =
    in_record (numbers F (begun F s) os) (after F s os) (keeping.close_call F (after F s os).values (after F s os).bounds (replicate (length l) 7) (floats F) (words F))
given (keeps_none F s r) = in_making (keeping.make_call F s (bounds F) 7 (floats F) (words F))
given (mends F g G l) = in_entries (mend.mend_call F (lent l) (floats F) (words F))
given (overflows F) = in_entries (mend.mend_call F (lent []) (floats F) (words F))
given (lacks_report F l) = in_entries (mend.mend_call F l (floats F) (words F))
given (allows n k r a c) = in_reach (allow.allow_call n k (lent a) (lent c) (reach_longs n) (reach_words n k))
given (lacks_places n k a c) = in_reach (allow.allow_call n k (replicate a 7) (replicate c 7) (reach_longs n) (reach_words n k))

-- what the list says: the answer, the values or the list with what is past it, and scratch that is all zeros
unfoldable pub expected : Case → Outcome
expected (closes F g s t flat) = in_closing (closure.left (counted_answer g flat) t (cleared zero64 (floats F)) (cleared 0 (words F)))
expected (completes F g s t) = in_start (values.left (Ok g) t (cleared zero64 (floats F)) (cleared 0 (words F)))
expected (preprocesses F g s t) = in_start (values.left (Ok g) t (cleared zero64 (floats F)) (cleared 0 (words F)))
expected (rounds F g s t) = in_start (values.left (Ok g) t (cleared zero64 (floats F)) (cleared 0 (words F)))
expected (probes_one F g s i v t) = in_found (probe.left (Ok g) t (cleared zero64 (floats F)) (cleared 0 (words F)))
expected (probes_fast F g s i v t) = in_found (probe.left (Ok g) t (cleared zero64 (floats F)) (cleared 0 (words F)))
expected (probes_all F g s t k) = in_both (probes.left (counted_answer g (room k)) t (front k) (cleared zero64 (floats F)) (cleared 0 (words F)))
expected (probes_some F g s limit t k) = in_both (probes.left (counted_answer g (room k)) t (front k) (cleared zero64 (floats F)) (cleared 0 (words F)))
expected (compares F g s k items examined) = in_pairs (pairs.left (paired_answer g items examined) (front k) (cleared zero64 (floats F)) (cleared 0 (words F)))
expected (anchors_at F g s least l) = in_anchors (anchors.left (counted_answer g (length l)) (front l) (cleared zero64 (floats F)) (cleared 0 (words F)))
expected (propagates s k r t) = in_literals (propagation.left r t (cleared 0 (constraint_words s k)))
expected (argues s k) = in_literals (propagation.left (Err Argument) s (constraint_words s k))
expected (refuses F r) = in_closing (closure.left (Err r) (free F) (floats F) (words F))
expected (explains F s i g k l) = in_reason (reason.left (reasoned_answer g k (length l)) (front l) (cleared zero64 (floats F)) (cleared 0 (words F)))
expected (explains_none F s i r) = in_reason (reason.left (Err r) (lent []) (cleared zero64 (floats F)) (cleared 0 (words F)))
expected (reduces F g s G k b) = in_lists (sub-problem.left (reduced_answer g (variables G) (entries G) k) (closed G F) (front b) (cleared zero64 (floats F)) (cleared 0 (words F)))
expected (lacks_room F s l) = in_lists (sub-problem.left (Err Room) F (cleared 0 l) (cleared zero64 (floats F)) (cleared 0 (words F)))
expected (keeps F s os ns K flat l) = in_record ns K (keeping.closed (counted_answer Exact flat) l (cleared zero64 (floats F)) (cleared 0 (words F)))
expected (keeps_none F s r) = in_making (keeping.left (Err r) (bounds F) 7 (cleared zero64 (floats F)) (cleared 0 (words F)))
expected (mends F g G l) =
    let H = closed G F in
    in_entries (mend.left (mended_answer g (entries G) (length l / 3)) H.rows H.cols H.quad (front l) (cleared zero64 (floats F)) (cleared 0 (words F)))
expected (overflows F) = in_entries (mend.left (Err Sum) F.rows F.cols F.quad (lent []) (floats F) (words F))
expected (lacks_report F l) = in_entries (mend.left (Err Room) F.rows F.cols F.quad (cleared 0 l) (cleared zero64 (floats F)) (cleared 0 (words F)))
expected (allows n k r a c) = in_reach (allow.left r (front a) (front c) (cleared 0 (reach_longs n)) (cleared 0 (reach_words n k)))
expected (lacks_places n k a c) = in_reach (allow.left (Err Room) (replicate a 0) (replicate c 0) (cleared 0 (reach_longs n)) (cleared 0 (reach_words n k)))
