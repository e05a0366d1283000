-- How what is found goes into the u32 scratch: probe values in a region, numbers of constraints behind those gathered. Assumes nothing.
use Rattle.std.specs.Prelude.{ℕ, zero, suc, ◌+◌, ◌<◌, ◌≤◌, ◌≡◌, ◌≢◌, cond, List, ltb, length, get_or, set}
use Rattle.probe.specs.Found.{Finding, found}
use Rattle.finding.specs.Finds.{wins, number_of, count_of, gives_at}

-- ---- the variables that the probe at 0 forced

-- the values in l of the first k variables of the list at `from` go into the words from `first` on
unfoldable pub lay_to : List ℕ → ℕ → ℕ → List ℕ → ℕ → List ℕ
lay_to l from first u zero = u
lay_to l from first u (suc k) =
    let w = lay_to l from first u k in
    set w (first + get_or w (from + k) 0) (get_or l (get_or w (from + k) 0) 0)

-- what it asks: the list holds variables, and stands behind the words that are written
pub record Layable (l u : List ℕ) (from count first : ℕ) : Type 0 where
  pub below : (p : ℕ) → p < count → get_or u (from + p) 0 < length l
  pub list_low : first + length l ≤ from
  pub list_room : from + count ≤ length u

-- ---- one finding

-- the words, and where the gathered numbers end
pub record Bench : Type 0 where
  pub words : List ℕ
  pub end : ℕ

-- The words together with where the gathered numbers end in them.
abbrev pub bench : List ℕ → ℕ → Bench
bench u end = record { words = u; end = end }

-- the finding d about the variable whose probe value stands at p; a number that stands for no constraint lies behind the end
unfoldable pub entered : Finding → ℕ → Bench → Bench
entered d p b = bench
    (set (set b.words p (wins d (get_or b.words p 0))) b.end (number_of d))
    (b.end + count_of (number_of d))

-- what is found of j, where what the probe at 0 gave stands from `first` on, 2 for none, and what that at 1 left is t
unfoldable pub finding_in : List ℕ → List ℕ → ℕ → ℕ → List ℕ → ℕ → Finding
finding_in s t i first u j = found i j (gives_at i j (get_or s j 0) (get_or u (first + j) 0)) (gives_at i j (get_or s j 0) (get_or t j 0))

-- The words after what is found of j has been entered, its probe value at `at` + j.
abbrev pub emit_at : List ℕ → List ℕ → ℕ → ℕ → ℕ → Bench → ℕ → Bench
emit_at s t i first at b j = entered (finding_in s t i first b.words j) (at + j) b

-- What entering the finding about variable j asks: small variables, and all places in their lists.
pub record Emits (s t u : List ℕ) (i j first at : ℕ) : Type 0 where
  pub small_i : i < 4096
  pub small_j : j < 4096
  pub start : j < length s
  pub value : j < length t
  pub first_in : first + j < length u
  pub value_in : at + j < length u

-- ---- the variables of a list

-- a variable whose value is below `least` is passed over
unfoldable pub emit_of : List ℕ → List ℕ → ℕ → ℕ → ℕ → ℕ → Bench → ℕ → Bench
emit_of s t i least first at b j = cond (ltb (get_or t j 0) least) b (emit_at s t i first at b j)

-- the first k variables of the list at `from`
unfoldable pub emit_to : List ℕ → List ℕ → ℕ → ℕ → ℕ → ℕ → ℕ → Bench → ℕ → Bench
emit_to s t i from least first at b zero = b
emit_to s t i from least first at b (suc k) =
    let c = emit_to s t i from least first at b k in
    emit_of s t i least first at c (get_or c.words (from + k) 0)

-- How many of the first k variables of the list at `from` have a value of at least `least`.
unfoldable pub chosen_to : List ℕ → ℕ → List ℕ → ℕ → ℕ → ℕ
chosen_to t least u from zero = 0
chosen_to t least u from (suc k) = chosen_to t least u from k + cond (ltb (get_or t (get_or u (from + k) 0) 0) least) 0 1

-- what all ask: the list holds variables and is not written, the parts stand one behind the other, and there is room for a number of each
pub record Emittable (s t u : List ℕ) (i from count least first at end : ℕ) : Type 0 where
  pub small_i : i < 4096
  pub few : length s ≤ 4096
  pub long : length t ≡ length s
  pub below : (p : ℕ) → p < count → get_or u (from + p) 0 < length s
  pub apart : (p : ℕ) → p < count → (j : ℕ) → j < length s → from + p ≢ at + j
  pub list_room : from + count ≤ end
  pub first_room : first + length s ≤ at
  pub value_room : at + length s ≤ end
  pub end_room : end + chosen_to t least u from count ≤ length u
