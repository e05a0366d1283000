-- The numbers below n that pass a test, rising. Assumes nothing.
use Rattle.std.specs.Prelude.{ℕ, zero, suc, Bool, cond, List, [], ◌∷◌, ◌++◌}

-- The numbers below n that pass the test p, as a list that rises.
unfoldable pub picked : (ℕ → Bool) → ℕ → List ℕ
picked p zero = []
picked p (suc n) = cond (p n) (picked p n ++ n ∷ []) (picked p n)
