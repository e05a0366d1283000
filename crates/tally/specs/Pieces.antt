-- The fields of an input, and what each adds to the totals, each total by a definition of its own (rules 20.1 to 20.5). Assumes nothing.
use Rattle.std.specs.Prelude.{ℕ, zero, suc, ◌+◌, Bool, true, false, not, ◌&&◌, cond, List, [], ◌∷◌, eqb, length, get_or, drop, Err, Ok}
use Rattle.meaning.specs.Free.{is_free}
use Rattle.field.specs.Grade.{is_exact_of}
use Rattle.field.specs.Table.{tested}
use Rattle.field.specs.Tests.{standard_tests}
use Rattle.run.specs.Run.{closure}
use Rattle.records.specs.Told.{Told, field_told, Outcome, parsed}
use Rattle.field.specs.Answers.{Answer, passed}

-- ---- the fields

-- a field of the input, or a malformed record, which ends the reading
pub data Piece : Type 0 where
  field : Told → Piece
  fault : Piece

-- a field, and those behind its ZZ
abbrev pub followed : (List ℕ → List Piece) → List ℕ → Outcome → List Piece
followed behind s o = cond o.whole (field o.told ∷ behind (drop o.end s)) (fault ∷ [])

-- k fields at most
unfoldable pub pieces_from : ℕ → List ℕ → List Piece
pieces_from zero s = []
pieces_from (suc k) [] = []
pieces_from (suc k) (b ∷ s) = followed (pieces_from k) (b ∷ s) (parsed (b ∷ s))

-- The fields one after another, each ended by ZZ (20.1); each has two bytes at least, so as many as there are bytes are enough.
unfoldable pub pieces : List ℕ → List Piece
pieces s = pieces_from (length s) s

-- ---- what one adds

-- 1 where it holds, else 0.
abbrev pub one : Bool → ℕ
one b = cond b 1 0

-- how many below n pass the test
unfoldable pub count_to : (ℕ → Bool) → ℕ → ℕ
count_to p zero = 0
count_to p (suc n) = count_to p n + one (p n)

-- Whether no test failed.
unfoldable pub has_passed : Answer Unit → Bool
has_passed (Ok x) = true
has_passed (Err r) = false

-- the tests 1 to 6 pass
unfoldable pub accepted : Told → Bool
accepted t = has_passed (tested (standard_tests (field_told t) t.start))

-- Whether a piece is a field that its tests accept.
unfoldable pub is_read : Piece → Bool
is_read (field t) = accepted t
is_read fault = false

-- the values at the end
unfoldable pub values_of : Told → List ℕ
values_of t = closure (field_told t) t.start

-- What a field has where it is read: a refused one counts as refused alone (20.5).
unfoldable pub of_read : (Told → ℕ) → Piece → ℕ
of_read g (field t) = cond (accepted t) (g t) 0
of_read g fault = 0

-- How many fields it is that are read: one or none.
abbrev pub reads : Piece → ℕ
reads = of_read (λ t. 1)

-- How many exact fields that are read.
abbrev pub exacts : Piece → ℕ
exacts = of_read (λ t. one (is_exact_of (field_told t)))

-- How many inexact fields that are read.
abbrev pub inexacts : Piece → ℕ
inexacts = of_read (λ t. one (not (is_exact_of (field_told t))))

-- How many refused ones: a field that a test refuses, or a malformed record.
abbrev pub refusals : Piece → ℕ
refusals p = one (not (is_read p))

-- a variable that no record gives, and that has the value at the end
unfoldable pub is_forced_to : ℕ → List ℕ → List ℕ → ℕ → Bool
is_forced_to value start values i = is_free start i && eqb (get_or values i 0) value

-- The variables that its records give.
abbrev pub givens : Piece → ℕ
givens = of_read (λ t. count_to (λ i. not (is_free t.start i)) (length t.linear))

-- The variables that no record gives and that are 0 at the end.
abbrev pub zeros : Piece → ℕ
zeros = of_read (λ t. count_to (is_forced_to 0 t.start (values_of t)) (length t.linear))

-- The variables that no record gives and that are 1 at the end.
abbrev pub ones : Piece → ℕ
ones = of_read (λ t. count_to (is_forced_to 1 t.start (values_of t)) (length t.linear))

-- The variables that are free at the end.
abbrev pub frees : Piece → ℕ
frees = of_read (λ t. count_to (is_free (values_of t)) (length t.linear))

-- all variables of a field that is read
abbrev pub variables : Piece → ℕ
variables = of_read (λ t. length t.linear)

-- The sum over pieces.
unfoldable pub sum_of : (Piece → ℕ) → List Piece → ℕ
sum_of g [] = 0
sum_of g (p ∷ ps) = g p + sum_of g ps
