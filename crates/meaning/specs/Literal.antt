-- Literal closure, that of 2-satisfiability (rule 6.7), and propagation computed. A literal is a variable with a value. Assumes nothing.
use Rattle.std.specs.Prelude.{◌≡◌, ◌⊎◌, Bool, true, cond, not, ◌&&◌, ◌||◌, ℕ, ◌-◌, ◌<◌, length, get_or, eqb}
use mathlib.Core.List.{List, [], ◌∷◌, ◌++◌, Memᴰ}
use Rattle.meaning.specs.Passes.{closure}
use Rattle.meaning.specs.Kinds.{Pair, forbidden, Constraint}

-- that the variable `from` has the value `when` implies that `to` has `gives`
pub record Implication : Type 0 where
  pub from : ℕ
  pub when : ℕ
  pub to : ℕ
  pub gives : ℕ

-- i and j may not have the values p: where i has its value of p, j has the other one of its own.
abbrev pub forth : ℕ → ℕ → Pair → Implication
forth i j p = record { from = i; when = p.first; to = j; gives = 1 - p.second }

-- i and j may not have the values p: where j has its value of p, i has the other one of its own.
abbrev pub back : ℕ → ℕ → Pair → Implication
back i j p = record { from = j; when = p.second; to = i; gives = 1 - p.first }

-- What follows where i and j have none of these pairs of values: two implications for each pair.
abbrev pub bars : ℕ → ℕ → List Pair → List Implication
bars i j [] = []
bars i j (p ∷ ps) = forth i j p ∷ back i j p ∷ bars i j ps

-- All implications of a list of constraints, in order: two for each pair that one of them forbids.
unfoldable pub implications : List Constraint → List Implication
implications [] = []
implications (c ∷ cs) = bars c.first c.second (forbidden c.kind) ++ implications cs

-- LITERAL CLOSURE: variable i has the value v by the start values, or a literal that holds implies it
pub data Holds (E : List Implication) (s : List ℕ) : ℕ → ℕ → Type 0 where
  given : {i v : ℕ} → i < length s → v < 2 → get_or s i 0 ≡ v → Holds E s i v
  follows : {e : Implication} → Memᴰ e E → Holds E s e.from e.when → Holds E s e.to e.gives

-- some variable is held both ways
pub record BothWays (E : List Implication) (s : List ℕ) : Type 0 where
  pub at : ℕ
  pub zero : Holds E s at 0
  pub one : Holds E s at 1

-- t has just the literals that hold, and is free elsewhere
pub record Settled (E : List Implication) (s t : List ℕ) : Type 0 where
  pub as_long : length t ≡ length s
  pub has : (i v : ℕ) → Holds E s i v → get_or t i 0 ≡ v
  pub only : (i : ℕ) → i < length t → (get_or t i 0 ≡ 2) ⊎ Holds E s i (get_or t i 0)

-- ---- propagation, in steps and computed

-- the rule: an implication whose premise stands among the values
pub data Implies (E : List Implication) (s : List ℕ) : ℕ → ℕ → Type 0 where
  by : {e : Implication} → Memᴰ e E → get_or s e.from 0 ≡ e.when → Implies E s e.to e.gives

-- what the first implication for j with a standing premise gives, or 2
unfoldable pub implied : List Implication → List ℕ → ℕ → ℕ
implied [] s j = 2
implied (e ∷ es) s j = cond (eqb e.to j && eqb (get_or s e.from 0) e.when) e.gives (implied es s j)

-- every implication whose premise stands has its conclusion
unfoldable pub stands : List Implication → List ℕ → Bool
stands [] s = true
stands (e ∷ es) s = (not (eqb (get_or s e.from 0) e.when) || eqb (get_or s e.to 0) e.gives) && stands es s

-- What propagation says: done, with all values that follow, or a clash, where these break an implication.
pub data Answer : Type 0 where
  done : List ℕ → Answer
  clash : Answer

-- Propagation computed: the values closed under E where they obey every implication, and else a clash.
unfoldable pub propagate : List Implication → List ℕ → Answer
unfolding implied stands closure
propagate E s = cond (stands E (closure (implied E) s)) (done (closure (implied E) s)) clash
