-- The order in which reasons stand: no variable's reason leads back to it. Assumes nothing.
use Rattle.std.specs.Prelude.{ℕ, suc, ◌<◌, cond, List, [], ◌∷◌, eqb, length, get_or}
use Rattle.meaning.specs.Free.{is_free}
use Rattle.field.specs.Field.{Field}
use Rattle.run.specs.Run.{closure_run}
use Rattle.reason.specs.Ground.{reason_list}

-- how many stand before j in a queue
unfoldable pub place_of : List ℕ → ℕ → ℕ
place_of [] j = 0
place_of (i ∷ queue) j = cond (eqb i j) 0 (suc (place_of queue j))

-- how early in the run: 0 for a given variable, and for another its place, from 1, among those that the closure's run forces, in order
unfoldable pub rank : Field → List ℕ → ℕ → ℕ
rank F s j = cond (is_free s j) (suc (place_of (closure_run F s).queue j)) 0

-- following reasons from i ends, whichever of those listed is taken each time: at a variable for which none is listed
pub data Ends (F : Field) (s : List ℕ) : ℕ → Type 0 where
  ends : {i : ℕ} → ((t : ℕ) → t < length (reason_list F s i) → Ends F s (get_or (reason_list F s i) t 0)) → Ends F s i
