-- Values counted and laid over others, one a turn. Assumes nothing.
use Prim.Native.Nat.{ℕ, suc, ◌+◌, ◌<◌, ◌≤◌}
use mathlib.Core.Path.{◌≡◌, sym, ◌∙◌}
use mathlib.Core.Logic.{◌≢◌}
use mathlib.Core.Bool.{Bool, true, false, cond}
use mathlib.Core.List.{List}
use native.Mathlib.Numerals.{add-one}
use native.Mathlib.Omega.{arith}
use borrow.Author.Tests.{le-ltb}
use lib.Dec.{eqb}
use lib.ListN.{length, get_or, take, drop, replicate, length-drop, length-replicate}
use lib.Seq.{drop-cons, length-take-le}
use Rattle.meaning.specs.Free.{frees}
use Rattle.meaning.proofs.Free.{frees_le}
use Rattle.scratch.specs.Region.{region}
use Rattle.scratch.proofs.Region.{region_at}
use Rattle.ranking.specs.Listed.{step_of}
use Rattle.heavy.specs.Rounds.{laid_at}

-- ---- counting

-- the free ones among the first i, and those behind them, are all
pub record Counting (s : List ℕ) (count i : ℕ) : Type 0 where
  pub within : i ≤ length s
  pub few : count ≤ i
  pub all : count + frees (drop i s) ≡ frees s

pub counting_start : (s : List ℕ) → Counting s 0 0
counting_start s = record { within = omega arith; few = omega arith; all = omega arith }

module _ {s : List ℕ} {count i : ℕ} (now : Counting s count i) where
  pub counting_turn : i < length s → {r : ℕ} → r ≡ step_of (get_or s i 0) → Counting s (count + r) (i + 1)
  unfolding frees step_of
  counting_turn h {r} e = by (eqb (get_or s i 0) 2) e (rw (drop-cons s i 0 h) at now.all)
    where
      by : (b : Bool) → r ≡ cond b 1 0 → count + cond b (suc (frees (drop (suc i) s))) (frees (drop (suc i) s)) ≡ frees s → Counting s (count + r) (i + 1)
      by true p q = record { within = omega arith; few = omega (arith, now.few); all = rw (add-one i) (omega arith) }
      by false p q = record { within = omega arith; few = omega (arith, now.few); all = rw (add-one i) (omega arith) }

  pub counting_done : length s ≤ i → count ≡ frees s
  counting_done h = omega (arith, now.all, frees_le (drop i s), length-drop i s)

-- ---- laying over

pub laid_other : (w v : ℕ) → w ≢ 0 → w ≢ 1 → v ≡ laid_at w v
unfolding laid_at
laid_other w v no_zero no_one = rw (le-ltb w 2 (omega (arith, no_zero, no_one)))

-- one more word of a region goes over the value that is there
pub laid_word : (u : List ℕ) (at n j v v₀ : ℕ) {r : ℕ} → j < n → v ≡ v₀ → r ≡ laid_at (get_or u (at + j) 0) v → r ≡ laid_at (get_or (region at n u) j 0) v₀
laid_word u at n j v v₀ h e p = p ∙ rw (region_at at n u j 0 h, e)

-- ---- bytes at the front of an array

pub front_long : (n m : ℕ) → n ≤ m → n ≡ length {A = ℕ} (take n (replicate m 2))
front_long n m h = sym (length-take-le {A = ℕ} n (replicate m 2) (omega (arith, length-replicate {A = ℕ} m 2)))
