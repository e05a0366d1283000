-- The findings case by case, as the code goes through them. Assumes nothing.
use Prim.Native.Nat.{ℕ, zero, suc, ◌<◌, ◌≤◌}
use mathlib.Core.Path.{◌≡◌, refl}
use mathlib.Core.Bool.{Bool, true, false, cond}
use mathlib.Core.Logic.{◌≢◌}
use mir.Val.{bool_byte}
use lib.Dec.{ltb}
use native.Mathlib.Omega.{arith}
use Rattle.meaning.specs.Kinds.{at_least_one, greater_than, joining}
use Rattle.meaning.specs.Records.{record_of}
use Rattle.constraints.specs.Keys.{key_of}
use Rattle.probe.specs.Found.{found}
use Rattle.finding.specs.Finds.{wins, number_of, count_of}

-- neither 0 nor 1
pub after_zero_none : (i j v : ℕ) {x : ℕ} → v ≢ 0 → v ≢ 1 → x ≡ key_of (record_of (joining greater_than i j)) → x ≡ number_of (found i j 0 v)
unfolding found number_of
after_zero_none i j zero a b e = absurd (a refl)
after_zero_none i j (suc zero) a b e = absurd (b refl)
after_zero_none i j (suc (suc v)) a b e = e

pub after_one_none : (i j v : ℕ) {x : ℕ} → v ≢ 0 → v ≢ 1 → x ≡ key_of (record_of (joining at_least_one i j)) → x ≡ number_of (found i j 1 v)
unfolding found number_of
after_one_none i j zero a b e = absurd (a refl)
after_one_none i j (suc zero) a b e = absurd (b refl)
after_one_none i j (suc (suc v)) a b e = e

pub after_none_none : (i j v : ℕ) → v ≢ 0 → v ≢ 1 → 268435456 ≡ number_of (found i j 2 v)
unfolding found number_of
after_none_none i j zero a b = absurd (a refl)
after_none_none i j (suc zero) a b = absurd (b refl)
after_none_none i j (suc (suc v)) a b = refl

pub number_none : (i j v w : ℕ) {x : ℕ} → v ≢ 0 → v ≢ 1 → x ≡ number_of (found i j 2 w) → x ≡ number_of (found i j v w)
unfolding found number_of
number_none i j zero w a b e = absurd (a refl)
number_none i j (suc zero) w a b e = absurd (b refl)
number_none i j (suc (suc v)) zero a b e = e
number_none i j (suc (suc v)) (suc zero) a b e = e
number_none i j (suc (suc v)) (suc (suc w)) a b e = e

-- the value
pub winner_none : (i j v w old : ℕ) → 1 < v → old ≡ wins (found i j v w) old
unfolding found wins
winner_none i j zero w old h = absurd (omega arith)
winner_none i j (suc zero) w old h = absurd (omega arith)
winner_none i j (suc (suc v)) zero old h = refl
winner_none i j (suc (suc v)) (suc zero) old h = refl
winner_none i j (suc (suc v)) (suc (suc w)) old h = refl

pub winner_same : (i j v w old : ℕ) → v ≤ 1 → v ≡ w → v ≡ wins (found i j v w) old
unfolding found wins
winner_same i j zero zero old h e = refl
winner_same i j zero (suc w) old h e = absurd (omega arith)
winner_same i j (suc zero) zero old h e = absurd (omega arith)
winner_same i j (suc zero) (suc zero) old h e = refl
winner_same i j (suc zero) (suc (suc w)) old h e = absurd (omega arith)
winner_same i j (suc (suc v)) w old h e = absurd (omega arith)

pub winner_differ : (i j v w old : ℕ) → v ≤ 1 → v ≢ w → old ≡ wins (found i j v w) old
unfolding found wins
winner_differ i j zero zero old h n = absurd (n refl)
winner_differ i j zero (suc zero) old h n = refl
winner_differ i j zero (suc (suc w)) old h n = refl
winner_differ i j (suc zero) zero old h n = refl
winner_differ i j (suc zero) (suc zero) old h n = absurd (n refl)
winner_differ i j (suc zero) (suc (suc w)) old h n = refl
winner_differ i j (suc (suc v)) w old h n = absurd (omega arith)

-- a test of a number as how many records it stands for
pub counts_told : (k : ℕ) {r : ℕ} → r ≡ bool_byte (ltb k 268435456) → (r ≡ count_of k) × (r ≤ 1)
unfolding count_of
counts_told k {r} e = go (ltb k 268435456) e
  where
    go : (b : Bool) → r ≡ bool_byte b → (r ≡ cond b 1 0) × (r ≤ 1)
    go true h = (h, omega (arith, h))
    go false h = (h, omega (arith, h))
