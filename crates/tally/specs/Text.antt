-- The text of a tally: one line of totals parted by spaces, and a refusal's line before it (rules 20.7 and 20.9). Assumes nothing.
use Rattle.std.specs.Prelude.{ℕ, ◌+◌, ◌*◌, ◌/◌, ◌%◌, cond, List, [], ◌∷◌, ◌++◌, eqb}
use Rattle.text.specs.Text.{decimal, space, newline, refused_text}
use Rattle.tally.specs.declared.Tally.{Tally}
use Rattle.tally.specs.declared.Totals.{Totals}
use Rattle.tally.specs.declared.Ending.{Ending}
use Rattle.tally.specs.declared.Ending.TheVariants.{Whole, Malformed, Full}

-- numbers, each with a space behind it
unfoldable pub each_text : List ℕ → List ℕ
each_text [] = []
each_text (n ∷ ns) = (decimal n ++ space) ++ each_text ns

-- The forced per thousand of those not given, as a whole number and its remainder, or one dash where there are none (20.7).
unfoldable pub rate_text : ℕ → ℕ → List ℕ
rate_text forced rest = cond (eqb rest 0) (45 ∷ []) (decimal (1000 * forced / rest) ++ (space ++ decimal (1000 * forced % rest)))

-- the four numbers of fields, the four of variables, and the rate
unfoldable pub line_of : Totals → List ℕ
line_of t =
    each_text (t.read ∷ t.exact ∷ t.inexact ∷ t.refused ∷ [])
    ++ (each_text (t.given ∷ t.zero ∷ t.one ∷ t.free ∷ []) ++ (rate_text (t.zero + t.one) (t.zero + t.one + t.free) ++ newline))

-- The line of a refusal, which stands before the tally (20.9).
unfoldable pub ending_text : Ending → List ℕ
ending_text Whole = []
ending_text Malformed = refused_text 11
ending_text Full = refused_text 19

-- What is printed: the refusal, if there is one, and the line of totals.
unfoldable pub tally_text : Tally → List ℕ
tally_text y = ending_text y.ending ++ line_of y.totals
