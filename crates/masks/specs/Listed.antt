-- Terms kept on two lists, their values and the bits that each requires, in the order in which they are added. Assumes nothing.
use Rattle.std.specs.Prelude.{ℕ, zero, suc, ◌+◌, ◌≤◌, ◌≡◌, List, [], ◌∷◌, ◌++◌, length, get_or, Float}
use Rattle.std.specs.Float.{nan}
use Rattle.masks.specs.Masks.{Term, term}

-- both lists, and where the terms on them end
pub record Lists : Type 0 where
  pub end : ℕ
  pub values : List Float
  pub required : List ℕ

-- The two lists of terms put into one record, with the end of the terms on them.
abbrev pub lists : ℕ → List Float → List ℕ → Lists
lists end values required = record { end = end; values = values; required = required }

-- the first terms on two lists
unfoldable pub terms_on : List Float → List ℕ → ℕ → List Term
terms_on values required zero = []
terms_on values required (suc t) = terms_on values required t ++ (term (get_or required t 0) (get_or values t nan) ∷ [])

-- the two lists have n places or more
pub record Room (n : ℕ) (values : List Float) (required : List ℕ) : Type 0 where
  pub values_long : n ≤ length values
  pub required_long : n ≤ length required

-- the lists L are L₀ with these terms behind its own
pub record Listed (ts : List Term) (L₀ L : Lists) : Type 0 where
  pub terms : terms_on L.values L.required L.end ≡ terms_on L₀.values L₀.required L₀.end ++ ts
  pub ends : L.end ≡ L₀.end + length ts
  pub values_long : length L.values ≡ length L₀.values
  pub required_long : length L.required ≡ length L₀.required
