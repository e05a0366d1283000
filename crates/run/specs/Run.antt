-- The gradient run (rules 4.7 to 4.11): variables are scanned upward, then a first-in queue is served.
-- Executable on every field, float by float. Assumes nothing.
use Rattle.std.specs.Prelude.{ℕ, zero, suc, ◌+◌, Bool, cond, ◌&&◌, List, [], ◌∷◌, ◌++◌, ltb, length, get_or, set, Float}
use Rattle.std.specs.Float.{nan}
use Rattle.meaning.specs.Free as free
use Rattle.field.specs.Field.{Field, variables}
use Rattle.rows.specs.declared.Row.{Row}
use Rattle.rows.specs.declared.Verdict.{Verdict}
use Rattle.rows.specs.declared.Verdict.TheVariants.{Zero, One, Flat, Open}
use Rattle.rows.specs.Row.{add_fixed, remove_free, judge_of, is_flat}
use Rattle.rows.specs.Model.{coeff_of, row_of}
use Rattle.rows.specs.Stored.{up_to}
use Rattle.places.specs.Places.{places, other_end}

-- the values so far, a row for each variable, and every variable forced so far, in the order in which they were forced
pub record Run : Type 0 where
  pub values : List ℕ
  pub rows : List Row
  pub queue : List ℕ

-- The row read for what is no variable: both bounds are NaN, so that it forces nothing and is not flat.
abbrev pub no_row : Row
no_row = record { lower = nan; upper = nan }

-- The row of variable t as the run holds it now, and no row where t is no variable.
abbrev pub row_for : Run → ℕ → Row
row_for run t = get_or run.rows t no_row

-- Whether variable t has no value yet in the run: its value is 2.
abbrev pub is_free : Run → ℕ → Bool
is_free run t = free.is_free run.values t

-- The run with r as the row of t, and nothing else changed.
abbrev pub with_row : Run → ℕ → Row → Run
with_row run t r = record { values = run.values; rows = set run.rows t r; queue = run.queue }

-- t takes the value x, and goes to the end of the queue
unfoldable pub force : Run → ℕ → ℕ → Run
force run t x = record { values = set run.values t x; rows = run.rows; queue = run.queue ++ (t ∷ []) }

-- a verdict that forces acts; a flat and an open row are passed over (rule 4.5)
unfoldable pub settle : Run → ℕ → Verdict → Run
settle run t (Zero b) = force run t 0
settle run t (One b) = force run t 1
settle run t Flat = run
settle run t Open = run

-- t is settled by the verdict on its row
unfoldable pub judged : Run → ℕ → Run
judged run t = settle run t (judge_of (row_for run t))

-- ---- the scan, upward (rule 4.7)

-- The scan at variable i: where it is still free, it is settled by the verdict on its row.
unfoldable pub scan_at : Run → ℕ → Run
scan_at run i = cond (is_free run i) (judged run i) run

-- The scan over the variables below i, rising.
unfoldable pub scan_to : Run → ℕ → Run
scan_to run zero = run
scan_to run (suc i) = scan_at (scan_to run i) i

-- ---- the queue, the first in it first: a free term is removed and the fixed one added, and the row judged after each (rule 4.8)

-- a row whose term of coefficient a was free, and is fixed at v
abbrev pub moved : Row → Float → ℕ → Row
moved r a v = add_fixed (remove_free r a) a v

-- The row of t, in the run, with one of its terms moved from free to fixed at v.
unfoldable pub move_row : Run → ℕ → Float → ℕ → Run
move_row run t a v = with_row run t (moved (row_for run t) a v)

-- variable i, whose value is v, at its place k: a free other end has its row moved and is judged
unfoldable pub serve_at : Field → ℕ → ℕ → Run → ℕ → Run
serve_at F i v run k =
    let t = other_end F.rows F.cols i k in
    cond (is_free run t) (judged (move_row run t (coeff_of F k) v) t) run

-- Variable i, whose value is v, served at each of these places, one after the other.
unfoldable pub serve_all : Field → ℕ → ℕ → Run → List ℕ → Run
serve_all F i v run [] = run
serve_all F i v run (k ∷ ks) = serve_all F i v (serve_at F i v run k) ks

-- Variable i served: the row of the other end of each of its places, rising, is moved and judged.
unfoldable pub serve : Field → Run → ℕ → Run
serve F run i = serve_all F i (get_or run.values i 0) run (places F.rows F.cols i)

-- the queue from position h on, in that many turns at most; each variable enters it once, so n turns do
unfoldable pub work : Field → ℕ → Run → ℕ → Run
work F zero run h = run
work F (suc turns) run h = cond (ltb h (length run.queue)) (work F turns (serve F run (get_or run.queue h 0)) (suc h)) run

-- ---- the run

-- The run from given values and rows: the scan over all variables, then the queue until none waits.
unfoldable pub propagate : Field → List ℕ → List Row → Run
propagate F s rows = work F (variables F) (scan_to (record { values = s; rows = rows; queue = [] }) (variables F)) 0

-- The run from the start values, with the rows that they have.
unfoldable pub closure_run : Field → List ℕ → Run
closure_run F s = propagate F s (up_to (row_of F s) (variables F))

-- The values at the end of the run: the start values, and every value that was forced.
unfoldable pub closure : Field → List ℕ → List ℕ
closure F s = (closure_run F s).values

-- ---- the rows of free variables that are flat at the end (rule 4.11)

-- How many of the variables below i are free and have a flat row.
unfoldable pub flat_to : List ℕ → List Row → ℕ → ℕ
flat_to values rows zero = 0
flat_to values rows (suc i) = flat_to values rows i + cond (free.is_free values i && is_flat (judge_of (get_or rows i no_row))) 1 0

-- How many free variables of a run have a flat row.
abbrev pub flat_rows : Run → ℕ
flat_rows run = flat_to run.values run.rows (length run.values)
