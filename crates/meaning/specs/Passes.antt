-- The closure computed, from a function that gives the value forced on a variable, or 2: n passes over the n variables. Assumes nothing.
use Rattle.std.specs.Prelude.{◌≡◌, ◌⊎◌, cond, List, ℕ, zero, suc, length, set}
use Rattle.meaning.specs.Free.{is_free}
use Rattle.meaning.specs.Steps.{Rule}

-- of the values that Q says are forced: v is 2 and none is, or v is
abbrev pub Decided : (ℕ → Type 0) → ℕ → Type 0
Decided Q v = ((v ≡ 2) × ((u : ℕ) → Q u → ⊥)) ⊎ Q v

-- the verdict is the value that the rule forces, or 2
abbrev pub Decides : Rule → (List ℕ → ℕ → ℕ) → Type 0
Decides R verdict = (s : List ℕ) (i : ℕ) → Decided (λ v. R s i v) (verdict s i)

-- a free variable takes its verdict
unfoldable pub visit : (List ℕ → ℕ → ℕ) → List ℕ → ℕ → List ℕ
visit verdict s i = cond (is_free s i) (set s i (verdict s i)) s

-- the variables below k are visited in turn
unfoldable pub pass : (List ℕ → ℕ → ℕ) → List ℕ → ℕ → List ℕ
unfolding visit
pass verdict s zero = s
pass verdict s (suc k) = visit verdict (pass verdict s k) k

-- So many passes over all variables, one after the other, each from the values that the last one left.
unfoldable pub passes : (List ℕ → ℕ → ℕ) → ℕ → List ℕ → List ℕ
unfolding pass
passes verdict zero s = s
passes verdict (suc k) s = pass verdict (passes verdict k s) (length s)

-- The values after as many passes as there are variables, after which no pass adds one.
unfoldable pub closure : (List ℕ → ℕ → ℕ) → List ℕ → List ℕ
unfolding passes
closure verdict s = passes verdict (length s) s
