-- Rows in which the arrows of implications are marked. Assumes nothing.
use Rattle.std.specs.Prelude.{◌≡◌, Bool, false, ◌&&◌, ◌||◌, List, ℕ, ◌+◌, ◌*◌, ◌<◌, ◌≤◌, length, take, eqb, ltb}
use Rattle.meaning.specs.Literal.{Implication}
use Rattle.meaning.specs.Records.{rules_of}
use Rattle.constraints.specs.Record.{room, records}
use Rattle.reaching.specs.Via.{arrow, reaches}
use Rattle.bit_rows.specs.Rows.{bit_in, Holding}

-- The bits r together with a bit for each arrow of the implications E.
unfoldable pub more : List Implication → (ℕ → ℕ → Bool) → ℕ → ℕ → Bool
more E r a b = r a b || arrow E a b

-- the bits r, and each of the first m numbers leads to itself
unfoldable pub selves : ℕ → (ℕ → ℕ → Bool) → ℕ → ℕ → Bool
selves m r a b = r a b || (ltb a m && eqb a b)

-- w has the bits of w₀ and the arrows of E
abbrev pub Marked : List Implication → List ℕ → List ℕ → Type 0
Marked E w₀ w = Holding (more E (bit_in w₀)) w₀ w

-- 128 words for each variable are room for a row of each literal and for one row more
pub record Wide (n : ℕ) (w : List ℕ) : Type 0 where
  pub few : n ≤ 1024
  pub row_room : 128 * n ≤ length w

-- i and j have rows in w
pub record Between (i j : ℕ) (w : List ℕ) : Type 0 where
  pub first : i < 1024
  pub second : j < 1024
  pub first_room : i * 64 + 64 ≤ length w
  pub second_room : j * 64 + 64 ≤ length w

-- Where the loop over the records stands: the arrows of the first t are marked.
pub record Marking (list w₀ : List ℕ) (t : ℕ) (w : List ℕ) : Type 0 where
  pub within : t ≤ room list
  pub marked : Marked (rules_of (take t (records list))) w₀ w

-- where the loop over numbers stands that lead to themselves
pub record Selving (m : ℕ) (w₀ : List ℕ) (a : ℕ) (w : List ℕ) : Type 0 where
  pub within : a ≤ m
  pub held : Holding (selves a (bit_in w₀)) w₀ w

-- w has a row for each literal, with what it reaches, and behind them an empty one
pub record Filled (E : List Implication) (n : ℕ) (w₀ w : List ℕ) : Type 0 where
  pub long : length w ≡ length w₀
  pub rows : (a b : ℕ) → a < 2 * n → b < 2048 → bit_in w a b ≡ reaches E n a b
  pub last : (b : ℕ) → b < 2048 → bit_in w (2 * n) b ≡ false
