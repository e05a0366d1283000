-- The changes by the entries' marks: how many there are, and their numbers in the report. Assumes nothing.
use Rattle.std.specs.Prelude.{ℕ, zero, suc, ◌+◌, ◌*◌, ◌/◌, ◌%◌, ◌<◌, ◌≤◌, ◌≡◌, cond, List, [], ◌∷◌, ◌++◌, eqb, length, get_or}
use Rattle.std.proofs.lemmas.List.Edits.{sets}
use Rattle.mending.specs.Gathering.{first_mark}

-- no change: the first of its place, where it was
unfoldable pub step_of : ℕ → ℕ → ℕ
step_of mark k = cond (eqb mark (first_mark k)) 0 1

-- The three numbers that the report has for entry k by its mark; none where nothing happened to it.
unfoldable pub told_by : ℕ → ℕ → List ℕ
told_by mark k = cond (eqb mark (first_mark k)) [] (k ∷ mark / 65536 ∷ mark % 65536 ∷ [])

-- How many changes the first k of m entries make, whose marks stand from word 2m on.
unfoldable pub count_to : ℕ → List ℕ → ℕ → ℕ
count_to m u zero = 0
count_to m u (suc k) = count_to m u k + step_of (get_or u (2 * m + k) 0) k

-- The numbers of the report for the first k of m entries: three for each change, in input order.
unfoldable pub told_to : ℕ → List ℕ → ℕ → List ℕ
told_to m u zero = []
told_to m u (suc k) = told_to m u k ++ told_by (get_or u (2 * m + k) 0) k

-- the report has room for the change of entry k
pub record Puttable (at k mark : ℕ) (report : List ℕ) : Type 0 where
  pub room : at + 3 * step_of mark k ≤ length report
  pub small : k < 32768

-- the numbers l stand in the report from `at` on, and the next go behind them
pub record Puts (at next : ℕ) (l : List ℕ) (report report' : List ℕ) : Type 0 where
  pub behind : next ≡ at + length l
  pub is : report' ≡ sets report at l

-- the marks of m entries, and room for all their changes
pub record Reportable (m : ℕ) (u report : List ℕ) : Type 0 where
  pub few : m ≤ 32768
  pub marked : 8 * m + 16 ≤ length u
  pub room : 3 * count_to m u m ≤ length report
