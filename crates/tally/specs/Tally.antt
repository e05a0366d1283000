-- The tally of an input: which fields it counts, their totals, and how the reading ends (rule 20.8). Assumes nothing.
use Rattle.std.specs.Prelude.{ℕ, ◌+◌, ◌^◌, ◌≤◌, ◌≡◌, Bool, true, false, cond, List, [], ◌∷◌, ◌++◌, leb, ltb, length, Option, Some, None}
use Rattle.records.specs.Told.{Outcome, parsed}
use Rattle.tally.specs.Pieces.{Piece, field, fault, pieces, reads, exacts, inexacts, refusals, givens, zeros, ones, frees, sum_of}
use Rattle.tally.specs.declared.Totals.{Totals}
use Rattle.tally.specs.declared.Ending.{Ending}
use Rattle.tally.specs.declared.Ending.TheVariants.{Whole, Malformed, Full}
use Rattle.tally.specs.declared.Tally.{Tally}
use Rattle.tally.specs.declared.Reached.{Reached}
use Rattle.std.specs.declared.ops.ControlFlow.{ControlFlow}
use Rattle.std.specs.declared.ops.ControlFlow.TheVariants.{Continue, Break}

-- ---- totals

-- The eight totals.
abbrev pub totals : ℕ → ℕ → ℕ → ℕ → ℕ → ℕ → ℕ → ℕ → Totals
totals read exact inexact refused given to-zero to_one free =
    record { read = read; exact = exact; inexact = inexact; refused = refused; given = given; zero = to-zero; one = to_one; free = free }

-- Nothing counted yet.
abbrev pub none : Totals
none = totals 0 0 0 0 0 0 0 0

-- what one piece adds
unfoldable pub counts_of : Piece → Totals
counts_of p = totals (reads p) (exacts p) (inexacts p) (refusals p) (givens p) (zeros p) (ones p) (frees p)

-- the sums over pieces
unfoldable pub totals_of : List Piece → Totals
totals_of ps =
    totals (sum_of reads ps) (sum_of exacts ps) (sum_of inexacts ps) (sum_of refusals ps) (sum_of givens ps) (sum_of zeros ps) (sum_of ones ps) (sum_of frees ps)

-- Totals added up, each to its own.
unfoldable pub plus : Totals → Totals → Totals
plus t u =
    totals (t.read + u.read) (t.exact + u.exact) (t.inexact + u.inexact) (t.refused + u.refused) (t.given + u.given) (t.zero + u.zero) (t.one + u.one)
    (t.free + u.free)

-- no total passes the limit
pub record AtMost (most : ℕ) (t : Totals) : Type 0 where
  pub read : t.read ≤ most
  pub exact : t.exact ≤ most
  pub inexact : t.inexact ≤ most
  pub refused : t.refused ≤ most
  pub given : t.given ≤ most
  pub zero : t.zero ≤ most
  pub one : t.one ≤ most
  pub free : t.free ≤ most

-- No total passes 2^53.
abbrev pub Small : Totals → Type 0
Small t = AtMost (2 ^ 53) t

-- The larger of two numbers.
unfoldable pub larger : ℕ → ℕ → ℕ
larger a b = cond (ltb a b) b a

-- The largest of the eight totals.
unfoldable pub largest : Totals → ℕ
largest t = larger (larger (larger t.read t.exact) (larger t.inexact t.refused)) (larger (larger t.given t.zero) (larger t.one t.free))

-- Whether no total passes the limit, as a test.
unfoldable pub is_within : ℕ → Totals → Bool
is_within most t = leb (largest t) most

-- ---- the tally

-- The pieces that are counted where t was counted before: up to the first with which a total would pass the limit (20.8).
unfoldable pub counted : ℕ → Totals → List Piece → List Piece
counted most t [] = []
counted most t (p ∷ ps) = cond (is_within most (plus t (counts_of p))) (p ∷ counted most (plus t (counts_of p)) ps) []

-- Whether a record is malformed.
unfoldable pub has_fault : List Piece → Bool
has_fault [] = false
has_fault (field t ∷ ps) = has_fault ps
has_fault (fault ∷ ps) = true

-- 19 where a piece is not counted, else 11 where one is malformed
unfoldable pub ending_of : ℕ → Totals → List Piece → Ending
ending_of most t ps = cond (ltb (length (counted most t ps)) (length ps)) Full (cond (has_fault ps) Malformed Whole)

-- A tally from its two parts.
abbrev pub tally : Ending → Totals → Tally
tally e t = record { ending = e; totals = t }

-- the tally of an input where t was counted before
unfoldable pub tally_on : ℕ → Totals → List ℕ → Tally
tally_on most t s = tally (ending_of most t (pieces s)) (plus t (totals_of (counted most t (pieces s))))

-- the tally of an input
unfoldable pub tally_of : ℕ → List ℕ → Tally
tally_of most s = tally_on most none s

-- which pieces are counted: they stand in front, no total of theirs passes the limit, and with the next one, if there is one, a total would
pub record Counts (most : ℕ) (ps cs : List Piece) : Type 0 where
  pub rest : List Piece
  pub front : ps ≡ cs ++ rest
  pub within : AtMost most (totals_of cs)
  pub passes : (p : Piece) (qs : List Piece) → rest ≡ p ∷ qs → AtMost most (totals_of (cs ++ p ∷ [])) → ⊥

-- ---- a step

-- How far a reading has come, made of the totals and an index.
abbrev pub reached : Totals → ℕ → Reached
reached t at = record { totals = t; at = at }

-- what stands at the front of s: a field's counts and the index behind it, or none where it is malformed
unfoldable pub met_of : Outcome → Option Reached
met_of o = cond o.whole (Some (reached (counts_of (field o.told)) o.end)) None

-- What stands at the front of an input.
unfoldable pub met : List ℕ → Option Reached
met s = met_of (parsed s)

-- the totals with it, where none passes the limit
unfoldable pub added : ℕ → Totals → Option Reached → ControlFlow Tally Reached
added most t (Some m) = cond (is_within most (plus t m.totals)) (Continue (reached (plus t m.totals) m.at)) (Break (tally Full t))
added most t None = cond (is_within most (plus t (counts_of fault))) (Break (tally Malformed (plus t (counts_of fault)))) (Break (tally Full t))

-- One step: what stands at the front is counted, or the reading ends.
unfoldable pub stepped : ℕ → Totals → List ℕ → ControlFlow Tally Reached
stepped most t s = added most t (met s)
