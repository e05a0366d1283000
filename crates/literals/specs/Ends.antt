-- The ends of the records of a list, by number: ends 2t and 2t + 1 are the lower and the higher of record t. Assumes nothing.
use Rattle.std.specs.Prelude.{ℕ, ◌+◌, ◌*◌, ◌-◌, ◌/◌, ◌%◌, ◌<◌, ◌≤◌, ◌≡◌, ◌≢◌, Bool, true, false, cond, ◌&&◌, ◌||◌, List, [], ◌∷◌, get_or, eqb}
use Rattle.meaning.specs.Kinds.{Pair}
use Rattle.meaning.specs.Literal.{Implication}
use Rattle.meaning.specs.Records.{pairs_in, rules_of}
use Rattle.constraints.specs.Record.{records}

-- the implications of a list of records
abbrev pub rules : List ℕ → List Implication
rules list = rules_of (records list)

-- The variable at end x: the lower one of its record for an even x, the higher one for an odd x.
unfoldable pub mine : List ℕ → ℕ → ℕ
mine list x = get_or list (3 * (x / 2) + x % 2) 0

-- The variable at the other end of the record that has the end x.
unfoldable pub other : List ℕ → ℕ → ℕ
other list x = get_or list (3 * (x / 2) + (1 - x % 2)) 0

-- The set of the record that has the end x: the pairs of values that it forbids.
unfoldable pub set_at : List ℕ → ℕ → ℕ
set_at list x = get_or list (3 * (x / 2) + 2) 0

-- a and b are one of the pairs
abbrev pub is_among : ℕ → ℕ → List Pair → Bool
is_among a b [] = false
is_among a b (p ∷ ps) = (eqb a p.first && eqb b p.second) || is_among a b ps

-- v here and w at the other end are forbidden; `forth` says that here is the lower end
abbrev pub barred : ℕ → Bool → ℕ → ℕ → Bool
barred pairs true v w = is_among v w (pairs_in pairs)
barred pairs false v w = is_among w v (pairs_in pairs)

-- what v here gives the other end: 0, 1, 2 for nothing, or 3 for both, where each value is forbidden
unfoldable pub gives : ℕ → Bool → ℕ → ℕ
gives pairs forth v = cond (barred pairs forth v 0) (cond (barred pairs forth v 1) 3 1) (cond (barred pairs forth v 1) 0 2)

-- What the value v at end x gives the other end: 0, 1, 2 for nothing, or 3 for both.
unfoldable pub says : List ℕ → ℕ → ℕ → ℕ
says list x v = gives (set_at list x) (eqb (x % 2) 0) v

-- ---- chains: each end leads to the last one before it that has the same variable

-- No chain of ends begins yet: the place of each variable's first end is 0.
abbrev pub Unlinked : ℕ → List ℕ → Type 0
Unlinked n u = (i : ℕ) → i < n → get_or u (2 * n + i) 0 ≡ 0

-- p - 1 is the last end below x with variable i, or p is 0 and there is none
pub record Last (list : List ℕ) (i x p : ℕ) : Type 0 where
  pub within : p ≤ x
  pub here : 0 < p → mine list (p - 1) ≡ i
  pub none : (y : ℕ) → p ≤ y → y < x → mine list y ≢ i

-- in u, where n values and a queue of n come first, a chain begins at 2n + i for each variable i, and end y leads on at 3n + y; the ends below x are in them
pub record Linked (list : List ℕ) (n : ℕ) (u : List ℕ) (x : ℕ) : Type 0 where
  pub head : (i : ℕ) → i < n → Last list i x (get_or u (2 * n + i) 0)
  pub next : (y : ℕ) → y < x → Last list (mine list y) y (get_or u (3 * n + y) 0)
