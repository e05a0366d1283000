-- What the call works out: rounds of preprocess and full probe (rule 5.11). Assumes nothing.
use Rattle.std.specs.Prelude.{ℕ, zero, suc, cond, List, eqb, ltb, length, get_or}
use Rattle.meaning.specs.Free.{frees, free_to}
use Rattle.field.specs.Field.{Field, variables}
use Rattle.rows.specs.Stored.{up_to}
use Rattle.preprocess.specs.Working.{preprocess}
use Rattle.probes.specs.Call.{all_values}

-- w where it is a value, and v where it is 2 for none
unfoldable pub laid_at : ℕ → ℕ → ℕ
laid_at w v = cond (ltb w 2) w v

-- The values s, with those of t in their places wherever t has a value.
unfoldable pub laid_over : List ℕ → List ℕ → List ℕ
laid_over t s = up_to (λ j. laid_at (get_or t j 0) (get_or s j 0)) (length s)

-- the probe values at s, where every free variable is probed
unfoldable pub probe_values : Field → List ℕ → List ℕ
probe_values F s = all_values F s (free_to s (variables F))

-- preprocess, then the values of a full probe over what that leaves
unfoldable pub round : Field → List ℕ → List ℕ
round F s = let t = preprocess F s in laid_over (probe_values F t) t

-- at most k rounds, and the end after one that adds none
unfoldable pub rounds : Field → ℕ → List ℕ → List ℕ
rounds F zero s = s
rounds F (suc k) s = let t = round F s in cond (eqb (frees t) (frees s)) s (rounds F k t)

-- The values of the heavy call: at most n rounds, from the start values on.
unfoldable pub heavy : Field → List ℕ → List ℕ
heavy F s = rounds F (variables F) s

-- k rounds, without a stop: what the stop leaves out changes nothing
unfoldable pub all_rounds : Field → ℕ → List ℕ → List ℕ
all_rounds F zero s = s
all_rounds F (suc k) s = all_rounds F k (round F s)
