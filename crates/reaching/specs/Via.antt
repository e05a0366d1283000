-- Reaching, computed: literals by number, Warshall's closure of a relation, and what is read off it. Assumes nothing.
use Rattle.std.specs.Prelude.{Bool, false, cond, ◌&&◌, ◌||◌, List, [], ◌∷◌, ◌++◌, ℕ, zero, suc, ◌+◌, ◌*◌, get_or, eqb, ltb}
use Rattle.meaning.specs.Literal.{Implication}

-- the literal (i, v) has the number 2i + v
abbrev pub literal : ℕ → ℕ → ℕ
literal i v = 2 * i + v

-- The value of a test: 1 where it passes, 0 where it does not.
abbrev pub bit : Bool → ℕ
bit b = cond b 1 0

-- an implication leads from literal a to literal b
unfoldable pub arrow : List Implication → ℕ → ℕ → Bool
arrow [] a b = false
arrow (e ∷ E) a b = (eqb (literal e.from e.when) a && eqb (literal e.to e.gives) b) || arrow E a b

-- Whether literal a leads to literal b in at most one step.
unfoldable pub within : List Implication → ℕ → ℕ → Bool
within E a b = eqb a b || arrow E a b

-- by r, with the numbers below k between: what the rows say after k stages
unfoldable pub via : (ℕ → ℕ → Bool) → ℕ → ℕ → ℕ → Bool
via r zero a b = r a b
via r (suc k) a b = via r k a b || (via r k a k && via r k k b)

-- Whether one literal of n variables reaches another by the implications E.
abbrev pub reaches : List Implication → ℕ → ℕ → ℕ → Bool
reaches E n = via (within E) (2 * n)

-- some number below n passes
unfoldable pub any_below : (ℕ → Bool) → ℕ → Bool
any_below p zero = false
any_below p (suc n) = any_below p n || p n

-- one of the first i choices x leads to b
unfoldable pub choices_lead : (ℕ → ℕ → Bool) → List ℕ → ℕ → ℕ → Bool
choices_lead r x i b = any_below (λ j. r (literal j (get_or x j 0)) b) i

-- variable i must be 1 after the choices x: its 0 leads to its 1, or an earlier choice does
unfoldable pub must : (ℕ → ℕ → Bool) → List ℕ → ℕ → Bool
must r x i = r (literal i 0) (literal i 1) || choices_lead r x i (literal i 1)

-- the first i choices: 1 exactly where it must be
unfoldable pub picked : (ℕ → ℕ → Bool) → ℕ → List ℕ
picked r zero = []
picked r (suc i) = picked r i ++ (bit (must r (picked r i) i) ∷ [])

-- each literal of variable i leads to the other
unfoldable pub contradicts : (ℕ → ℕ → Bool) → ℕ → Bool
contradicts r i = r (literal i 0) (literal i 1) && r (literal i 1) (literal i 0)

-- The lowest variable below n each of whose literals leads to the other, or n where there is none.
unfoldable pub first_contradictory : (ℕ → ℕ → Bool) → ℕ → ℕ
first_contradictory r zero = 0
first_contradictory r (suc n) = cond (ltb (first_contradictory r n) n) (first_contradictory r n) (cond (contradicts r n) n (suc n))

-- How many of the numbers below n pass, as a row's bits are counted.
unfoldable pub count_below : (ℕ → Bool) → ℕ → ℕ
count_below p zero = 0
count_below p (suc n) = count_below p n + bit (p n)
