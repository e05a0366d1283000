-- What the call answers and lists when all its tests pass: of implications E among n variables. Assumes nothing.
use Rattle.std.specs.Prelude.{Bool, cond, List, [], ◌∷◌, ◌++◌, ℕ, zero, suc, ◌*◌, ltb, replicate}
use Rattle.meaning.specs.Literal.{Implication}
use Rattle.reaching.specs.Via.{reaches, picked, first_contradictory, count_below}
use Rattle.allow.specs.declared.Allowed.{Allowed}
use Rattle.allow.specs.declared.Allowed.TheVariants.{Yes, No}

-- the lowest variable of which each literal reaches the other (rule 6.9), or n
abbrev pub named : List Implication → ℕ → ℕ
named E n = first_contradictory (reaches E n) n

-- The answer: no with the lowest variable each of whose literals reaches the other, and yes where there is none.
unfoldable pub allowed_of : List Implication → ℕ → Allowed
allowed_of E n = cond (ltb (named E n) n) (No (named E n)) Yes

-- all 2 where the answer is no, else 1 exactly where it must be (rule 6.10)
unfoldable pub assignment_of : List Implication → ℕ → List ℕ
assignment_of E n = cond (ltb (named E n) n) (replicate n 2) (picked (reaches E n) n)

-- of each of the first k numbers, how many below m it leads to
unfoldable pub counts_to : (ℕ → ℕ → Bool) → ℕ → ℕ → List ℕ
counts_to r m zero = []
counts_to r m (suc k) = counts_to r m k ++ count_below (r k) m ∷ []

-- how many literals each literal reaches, itself included (rule 6.11)
unfoldable pub counts_of : List Implication → ℕ → List ℕ
counts_of E n = counts_to (reaches E n) (2 * n) (2 * n)
