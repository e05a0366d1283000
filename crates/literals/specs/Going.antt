-- Propagation on its way, in u32 scratch: n values, a queue of at most n variables, and the chains of ends. Assumes nothing.
use Rattle.std.specs.Prelude.{ℕ, ◌+◌, ◌*◌, ◌<◌, ◌≤◌, ◌≡◌, ◌⊎◌, Bool, cond, Option, Some, None, List, length, get_or, take}
use Rattle.meaning.specs.Free.{frees}
use Rattle.meaning.specs.Literal.{Holds, BothWays, Answer, done, clash}
use Rattle.constraints.specs.Record.{room}
use Rattle.literals.specs.Ends.{rules, mine, other, says, Linked}

-- i is in the queue of u
pub record Queued (n : ℕ) (u : List ℕ) (tail i : ℕ) : Type 0 where
  pub at : ℕ
  pub below : at < tail
  pub is : get_or u (n + at) 0 ≡ i

-- i is a variable with a value
pub record Valued (n : ℕ) (u : List ℕ) (i : ℕ) : Type 0 where
  pub variable : i < n
  pub value : get_or u i 0 < 2

-- each value holds, and each variable with a value is in the queue, which has room for all that are free
pub record Going (list s u : List ℕ) (tail : ℕ) : Type 0 where
  pub long : 3 * length s + 2 * room list ≤ length u
  pub linked : Linked list (length s) u (2 * room list)
  pub queue_room : tail + frees (take (length s) u) ≤ length s
  pub queue : (h : ℕ) → h < tail → Valued (length s) u (get_or u (length s + h) 0)
  pub queued : (i : ℕ) → i < length s → (get_or u i 0 ≡ 2) ⊎ Queued (length s) u tail i
  pub sound : (i : ℕ) → i < length s → (get_or u i 0 ≡ 2) ⊎ Holds (rules list) s i (get_or u i 0)

-- what every step keeps: values, what is in the queue, and the chains
pub record Kept (n : ℕ) (u : List ℕ) (tail : ℕ) (u' : List ℕ) (tail' : ℕ) : Type 0 where
  pub long : length u' ≡ length u
  pub grows : tail ≤ tail'
  pub values : (i : ℕ) → i < n → (get_or u i 0 ≡ 2) ⊎ (get_or u' i 0 ≡ get_or u i 0)
  pub queue : (h : ℕ) → h < tail → get_or u' (n + h) 0 ≡ get_or u (n + h) 0
  pub rest : (y : ℕ) → 2 * n ≤ y → get_or u' y 0 ≡ get_or u y 0

-- what end x says of the other end stands: nothing, or the value that it has; both never stand
abbrev pub Stands : List ℕ → List ℕ → ℕ → Type 0
Stands list u x = (says list x (get_or u (mine list x) 0) ≡ 2) ⊎ (get_or u (other list x) 0 ≡ says list x (get_or u (mine list x) 0))

-- the first n elements are values
abbrev pub Small : ℕ → List ℕ → Type 0
Small n u = (i : ℕ) → i < n → get_or u i 0 ≤ 2

-- u is u₀ with its first i variables free
pub record Freed (i : ℕ) (u₀ u : List ℕ) : Type 0 where
  pub long : length u ≡ length u₀
  pub free : (j : ℕ) → j < i → get_or u j 0 ≡ 2
  pub rest : (y : ℕ) → i ≤ y → get_or u y 0 ≡ get_or u₀ y 0

-- the first i start values are in their places
abbrev pub Given : List ℕ → List ℕ → ℕ → Type 0
Given s u i = (j : ℕ) → j < i → (get_or s j 0 ≡ 2) ⊎ (get_or u j 0 ≡ get_or s j 0)

-- the start values below i are entered, and the others are still free
pub record Entering (list s u : List ℕ) (tail i : ℕ) : Type 0 where
  pub going : Going list s u tail
  pub given : Given s u i
  pub free : (j : ℕ) → i ≤ j → j < length s → get_or u j 0 ≡ 2

-- what serving leaves: the ends of P stand
pub record Served (list s : List ℕ) (P : ℕ → Type 0) (u : List ℕ) (tail : ℕ) (u' : List ℕ) (tail' : ℕ) : Type 0 where
  pub going : Going list s u' tail'
  pub kept : Kept (length s) u tail u' tail'
  pub stands : (y : ℕ) → y < 2 * room list → P y → Stands list u' y

-- a step goes on, with a new end of the queue, or a variable is held both ways
pub data Outcome (list s : List ℕ) (P : ℕ → Type 0) (u : List ℕ) (tail : ℕ) (u' : List ℕ) : Option ℕ → Type 0 where
  on : {tail' : ℕ} → Served list s P u tail u' tail' → Outcome list s P u tail u' (Some tail')
  clashed : BothWays (rules list) s → Outcome list s P u tail u' None

-- what a run found: values, or a clash
unfoldable pub found : Bool → List ℕ → Answer
found r t = cond r (done t) clash
