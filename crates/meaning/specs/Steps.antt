-- Values forced one after another, by any rule. Values are 0, 1, or 2 for free. Assumes nothing.
use Rattle.std.specs.Prelude.{◌≡◌, ◌⊎◌, List, ℕ, ◌≤◌, ◌<◌, length, get_or, set}

-- Every value is 0, 1, or 2 for free.
abbrev pub Valid : List ℕ → Type 0
Valid s = (i : ℕ) → get_or s i 0 ≤ 2

-- each place of s is free, or t has the same there
pub record Extends (s t : List ℕ) : Type 0 where
  pub as_long : length t ≡ length s
  pub kept : (i : ℕ) → (get_or s i 0 ≡ 2) ⊎ (get_or t i 0 ≡ get_or s i 0)

-- s contradicts none of the values of t
abbrev pub Agrees : List ℕ → List ℕ → Type 0
Agrees s t = (i : ℕ) → (get_or t i 0 ≡ 2) ⊎ ((get_or s i 0 ≡ 2) ⊎ (get_or s i 0 ≡ get_or t i 0))

-- R s i v: the values s force v on variable i
abbrev pub Rule : Type 1
Rule = List ℕ → ℕ → ℕ → Type 0

-- one after another, a free variable takes a value forced on it (rule 4.13)
pub data Steps (R : Rule) : List ℕ → List ℕ → Type 0 where
  stop : {s : List ℕ} → Steps R s s
  step : {s t : List ℕ} (i v : ℕ) → get_or s i 0 ≡ 2 → R s i v → Steps R (set s i v) t → Steps R s t

-- No step is left at t: the rule R forces no value on a variable that is free there.
abbrev pub Closed : Rule → List ℕ → Type 0
Closed R t = (i v : ℕ) → get_or t i 0 ≡ 2 → R t i v → ⊥

-- the closure of s is what stands when no step is left
pub record Closure (R : Rule) (s t : List ℕ) : Type 0 where
  pub reached : Steps R s t
  pub closed : Closed R t

-- what is forced is 0 or 1, and stays forced as values are fixed
pub record Lawful (R : Rule) : Type 0 where
  pub small : {s : List ℕ} {i v : ℕ} → R s i v → v < 2
  pub on : {s t : List ℕ} {i v : ℕ} → Extends s t → R s i v → R t i v

-- nothing forces two values on one variable
pub record Single (R : Rule) : Type 0 where
  pub one : {s : List ℕ} {i v w : ℕ} → R s i v → R s i w → v ≡ w
