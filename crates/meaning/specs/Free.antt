-- The values that are free: whether one is, how many are, and which. Assumes nothing.
use Rattle.std.specs.Prelude.{Bool, cond, List, [], ◌∷◌, ◌++◌, ℕ, zero, suc, eqb, get_or}

-- Whether variable i is free, which is where its value is 2.
abbrev pub is_free : List ℕ → ℕ → Bool
is_free s i = eqb (get_or s i 0) 2

-- how many values are free
unfoldable pub frees : List ℕ → ℕ
frees [] = 0
frees (v ∷ s) = cond (eqb v 2) (suc (frees s)) (frees s)

-- the free variables below n, rising
unfoldable pub free_to : List ℕ → ℕ → List ℕ
free_to s zero = []
free_to s (suc n) = free_to s n ++ cond (is_free s n) (n ∷ []) []
