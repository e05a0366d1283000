-- A test at every number below a bound. Assumes nothing.
use Rattle.std.specs.Prelude.{ℕ, zero, suc, ◌≤◌, ◌≡◌, Bool, true, ◌&&◌}

-- Whether the test p passes at each of the numbers 0, 1 and so on below n.
unfoldable pub all_below : (ℕ → Bool) → ℕ → Bool
all_below p zero = true
all_below p (suc n) = p n && all_below p n

-- where a loop stands that tests 0, 1 and so on up to n: k numbers have passed
pub record Passing (p : ℕ → Bool) (n k : ℕ) : Type 0 where
  pub within : k ≤ n
  pub so_far : all_below p k ≡ true

-- where a loop stands that tests all of 0, 1 and so on up to n: `all` says whether the first k pass
pub record Testing (p : ℕ → Bool) (n k : ℕ) (all : Bool) : Type 0 where
  pub within : k ≤ n
  pub so_far : all ≡ all_below p k
