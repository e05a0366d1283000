-- What a run's verdicts rest on when the first h variables of its queue have been served: the start values, and the values of those h. Assumes nothing.
use Rattle.std.specs.Prelude.{ℕ, zero, suc, ◌<◌, ◌≡◌, ◌≢◌, List, length, get_or, set}
use Rattle.meaning.specs.Field as meaning
use Rattle.meaning.specs.Gradient.{view, Forced}

-- s with the values of the first h variables of the queue
unfoldable pub rests : List ℕ → List ℕ → List ℕ → ℕ → List ℕ
rests s values queue zero = s
rests s values queue (suc h) = set (rests s values queue h) (get_or queue h 0) (get_or values (get_or queue h 0) 0)

-- j stands in the queue
abbrev pub Stands : List ℕ → ℕ → Type 0
Stands queue j = (p : ℕ) × (p < length queue) × (get_or queue p 0 ≡ j)

-- the queue holds variables that were free in s; one that was free in s and has a value stands in the queue, and what the first h of the queue rest on forces its value
pub record Grounded (G : meaning.Field) (s values queue : List ℕ) (h : ℕ) : Type 0 where
  pub fresh : (p : ℕ) → p < length queue → get_or s (get_or queue p 0) 0 ≡ 2
  pub logged : (t : ℕ) → get_or s t 0 ≡ 2 → get_or values t 0 ≢ 2 → Stands queue t
  pub strict : (t : ℕ) → get_or s t 0 ≡ 2 → get_or values t 0 ≢ 2 → Forced G (view (rests s values queue h)) t (get_or values t 0)
