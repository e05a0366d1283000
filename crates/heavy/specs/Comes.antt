-- Where a value of the call comes from. Assumes nothing.
use Rattle.std.specs.Prelude.{ℕ, ◌<◌, ◌≡◌, ◌⊎◌, List, get_or}
use Rattle.field.specs.Field.{Field}
use Rattle.preprocess.specs.Working.{preprocess}
use Rattle.heavy.specs.Rounds.{probe_values, all_rounds}

-- in one of the first n rounds from s, before which it is free, variable i gets the value v: from preprocess, or from the full probe of what that leaves free
pub record Comes (F : Field) (s : List ℕ) (n i v : ℕ) : Type 0 where
  pub before : ℕ
  pub early : before < n
  pub free : get_or (all_rounds F before s) i 0 ≡ 2
  pub from : (let t = preprocess F (all_rounds F before s) in (get_or t i 0 ≡ v) ⊎ ((get_or t i 0 ≡ 2) × (get_or (probe_values F t) i 0 ≡ v)))
