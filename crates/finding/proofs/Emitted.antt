-- One finding in the words: what the code stores, and how long the words are and how many numbers are gathered then. Assumes nothing.
use Prim.Native.Nat.{ℕ, ◌+◌, ◌<◌, ◌≤◌}
use mathlib.Core.Path.{◌≡◌}
use mathlib.Core.Bool.{Bool, true, false, cond}
use mathlib.Core.List.{List}
use native.Mathlib.Omega.{arith}
use borrow.Author.Tests.{lt-ltb, le-ltb}
use lib.Dec.{ltb}
use lib.ListN.{length, get_or, set, length-set}
use Rattle.probe.specs.Found.{Finding, found}
use Rattle.finding.specs.Finds.{wins, number_of, count_of, gives_at}
use Rattle.finding.specs.Emit.{Bench, bench, entered, emit_at, finding_in, emit_of}

count_most : (k : ℕ) → count_of k ≤ 1
unfolding count_of
count_most k = go (ltb k 268435456)
  where
    go : (b : Bool) → cond b 1 0 ≤ 1
    go true = omega arith
    go false = omega arith

pub entered_by : (u : List ℕ) (d : Finding) (p end : ℕ) {key w r : ℕ} → key ≡ number_of d → w ≡ wins d (get_or u p 0) → r ≡ count_of key
    → bench (set (set u p w) end key) (end + r) ≡ entered d p (bench u end)
unfolding entered
entered_by u d p end a b e = rw (e, a, b)

pub emit_by : (s t u : List ℕ) (i j first at end : ℕ) {v w x : ℕ} {b : Bench}
    → v ≡ gives_at i j (get_or s j 0) (get_or u (first + j) 0) → x ≡ get_or t j 0 → w ≡ gives_at i j (get_or s j 0) x
    → b ≡ entered (found i j v w) (at + j) (bench u end) → b ≡ emit_at s t i first at (bench u end) j
unfolding finding_in
emit_by s t u i j first at end e x f k = rw (← x, ← f, ← e) k

module _ (d : Finding) (p : ℕ) (b : Bench) where
  pub entered_long : length (entered d p b).words ≡ length b.words
  unfolding entered
  entered_long = simp (length-set)

  pub entered_low : b.end ≤ (entered d p b).end
  unfolding entered
  entered_low = omega arith

  pub entered_end : (entered d p b).end ≤ b.end + 1
  unfolding entered
  entered_end = omega (arith, count_most (number_of d))

module _ (s t : List ℕ) (i least first at : ℕ) (b : Bench) (j : ℕ) where
  pub emit_passed : get_or t j 0 < least → b ≡ emit_of s t i least first at b j
  unfolding emit_of
  emit_passed h = rw (lt-ltb (get_or t j 0) least h)

  pub emit_taken : least ≤ get_or t j 0 → emit_at s t i first at b j ≡ emit_of s t i least first at b j
  unfolding emit_of
  emit_taken h = rw (le-ltb (get_or t j 0) least h)
