-- A probe with remembered rows, as the source works it: the rows at the start values are kept, and only those of the probed variable's
-- neighbours are made afresh, or on an exact field have its term moved. Executable on every field, float by float. Assumes nothing.
use Rattle.std.specs.Prelude.{ℕ, ◌+◌, ◌<◌, ◌≤◌, ◌≡◌, cond, List, [], ◌∷◌, length, get_or, set, drop, Float}
use Rattle.std.specs.Float.{nan, binary64}
use Rattle.std.specs.Float.Ieee.{mul}
use Rattle.weights.specs.Worth.{half64}
use Rattle.scratch.specs.Region.{region}
use Rattle.field.specs.Field.{Field, variables, Shaped, Standard, StartFor}
use Rattle.field.specs.Grade.{is_exact_of, grade_of}
use Rattle.rows.specs.declared.Row.{Row}
use Rattle.rows.specs.Row.{add_term}
use Rattle.rows.specs.Model.{coeff_of, row_of}
use Rattle.rows.specs.Stored.{up_to, row_on}
use Rattle.places.specs.Places.{places, other_end, Adjacent}
use Rattle.run.specs.Run.{Run, is_free, with_row, move_row, scan_to, propagate}
use Rattle.run.specs.Cells.{Cells, cells, base, run_in, Placed, Kept}
use Rattle.probing.specs.declared.Known.{Known}

-- ---- one row from its places

-- place k of t adds the term of its other end
abbrev pub add_place : List ℕ → List ℕ → List Float → List ℕ → ℕ → Row → ℕ → Row
add_place rows cols q s t r k = add_term r (mul binary64 half64 (get_or q k nan)) (get_or s (other_end rows cols t k) 0)

-- Row r of variable t with the term of each of these places added, in order.
unfoldable pub add_places : Field → List ℕ → ℕ → Row → List ℕ → Row
add_places F s t r [] = r
add_places F s t r (k ∷ ks) = add_places F s t (add_place F.rows F.cols F.quad s t r k) ks

-- what it asks: a field in standard form, a value for each variable, and the places
pub record Readable (F : Field) (s u : List ℕ) : Type 0 where
  pub shaped : Shaped F
  pub standard : Standard F
  pub values_long : length s ≡ variables F
  pub adjacent : Adjacent (variables F) F.rows F.cols u

-- ---- rows made afresh

-- the row of t is what it is at the values
unfoldable pub fresh_row : Field → Run → ℕ → Run
fresh_row F run t = with_row run t (row_of F run.values t)

-- variable i at its place k: the row of a free other end is made afresh
unfoldable pub fresh_at : Field → ℕ → Run → ℕ → Run
fresh_at F i run k =
    let t = other_end F.rows F.cols i k in
    cond (is_free run t) (fresh_row F run t) run

-- The run with the row of each free other end of these places of i made afresh, in order.
unfoldable pub fresh_all : Field → ℕ → Run → List ℕ → Run
fresh_all F i run [] = run
fresh_all F i run (k ∷ ks) = fresh_all F i (fresh_at F i run k) ks

-- The run with the rows of all free neighbours of i made afresh.
unfoldable pub fresh : Field → Run → ℕ → Run
fresh F run i = fresh_all F i run (places F.rows F.cols i)

-- ---- rows in which the term of the probed variable is moved

-- variable i takes the value v, at its place k: its term in the row of the other end was free and is fixed
unfoldable pub move_at : Field → ℕ → ℕ → Run → ℕ → Run
move_at F i v run k = move_row run (other_end F.rows F.cols i k) (coeff_of F k) v

-- The run with the term of i, whose value is v, moved in the row at each of these places, in order.
unfoldable pub move_all : Field → ℕ → ℕ → Run → List ℕ → Run
move_all F i v run [] = run
move_all F i v run (k ∷ ks) = move_all F i v (move_at F i v run k) ks

-- The run with the term of i, at the value v, moved in the rows of all its neighbours.
unfoldable pub moves : Field → ℕ → Run → ℕ → Run
moves F v run i = move_all F i v run (places F.rows F.cols i)

-- ---- a probe

-- the neighbours' rows after i took the value v: moved on an exact field, where no sum is rounded, and else made afresh
unfoldable pub renewed : Field → ℕ → Run → ℕ → Run
renewed F v run i = cond (is_exact_of F) (moves F v run i) (fresh F run i)

-- the values vs with the rows remembered from the start values s
unfoldable pub remembered : Field → List ℕ → List ℕ → Run
remembered F s vs = record { values = vs; rows = up_to (row_of F s) (variables F); queue = [] }

-- the start values with the one value added, the neighbours' rows renewed, and the run from there
unfoldable pub probe_run : Field → List ℕ → ℕ → ℕ → Run
probe_run F s i v =
    let run = renewed F v (remembered F s (set s i v)) i in
    propagate F run.values run.rows

-- the free variables whose row is strict at the start values, rising: those that a scan there would force
unfoldable pub candidates : Field → List ℕ → List ℕ
candidates F s = (scan_to (remembered F s s) (variables F)).queue

-- ---- where they stand in what is lent

-- the rows at the start values stand in front of the f64 scratch, and a copy of them behind; in the u32 scratch the candidates stand
-- behind the queue
pub record Remembers (F : Field) (s : List ℕ) (f : List Float) (u : List ℕ) (known : Known) : Type 0 where
  pub graded : known.grade ≡ grade_of F
  pub placed : Placed F (cells s f u 0)
  pub standard : Standard F
  pub start : StartFor (variables F) s
  pub rows : (t : ℕ) → t < variables F → row_on f (variables F) t ≡ row_of F s t
  pub copy : (t : ℕ) → t < variables F → row_on (drop (variables F + variables F) f) (variables F) t ≡ row_of F s t
  pub copy_room : variables F + variables F + (variables F + variables F) ≤ length f
  pub list_room : base F + variables F + variables F ≤ length u
  pub count : known.many ≡ length (candidates F s)
  pub listed : region (base F + variables F) known.many u ≡ candidates F s

-- the cells go from the workspace at s to what the probe of i at v leaves
pub record Probes (F : Field) (s : List ℕ) (i v : ℕ) (s₀ s₁ : Cells) : Type 0 where
  pub run : run_in F s₁ ≡ probe_run F s i v
  pub kept : Kept F s₀ s₁
