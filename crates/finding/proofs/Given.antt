-- What a probe gives: nothing to the probed variable, and nothing where it leaves the start value. Assumes nothing.
use Prim.Native.Nat.{ℕ, ◌+◌}
use mathlib.Core.Path.{◌≡◌, refl, sym, ◌∙◌}
use mathlib.Core.Logic.{◌≢◌}
use mathlib.Core.Bool.{Bool, true, false, cond}
use mathlib.Core.List.{List}
use lib.Dec.{eqb}
use lib.ListN.{get_or}
use borrow.Author.Tests.{eq-eqb, ne_eqb, eqb-true}
use Rattle.probe.specs.Call.{new_at}
use Rattle.probe.specs.Found.{nothing, found}
use Rattle.finding.specs.Finds.{gives_at, finding_of}
use Rattle.finding.specs.Emit.{finding_in}

pub gives_self : {i j : ℕ} (s v : ℕ) → j ≡ i → gives_at i j s v ≡ 2
unfolding gives_at
gives_self {i} {j} s v e = rw (e, eq-eqb i i refl)

pub gives_start : (i j s v : ℕ) → v ≡ s → gives_at i j s v ≡ 2
unfolding gives_at new_at
gives_start i j s v e = go (eqb i j) (eqb s 2) refl
  where
    go : (a b : Bool) → eqb s 2 ≡ b → cond a 2 (cond b v 2) ≡ 2
    go true b q = refl
    go false true q = e ∙ eqb-true s 2 q
    go false false q = refl

-- a free variable other than the probed one is given its value
pub gives_new : (i j s v : ℕ) → j ≢ i → s ≡ 2 → gives_at i j s v ≡ v
unfolding gives_at new_at
gives_new i j s v d e = rw (ne_eqb i j (λ z. d (sym z)), e)

pub gives_twice : (i j s v : ℕ) → gives_at i j s (gives_at i j s v) ≡ gives_at i j s v
unfolding gives_at new_at
gives_twice i j s v = go (eqb i j) (eqb s 2)
  where
    go : (a b : Bool) → cond a 2 (cond b (cond a 2 (cond b v 2)) 2) ≡ cond a 2 (cond b v 2)
    go true b = refl
    go false true = refl
    go false false = refl

-- where neither probe gives a value, nothing is found
pub finds_none : (s : List ℕ) (i : ℕ) (t t' : List ℕ) (j : ℕ)
    → gives_at i j (get_or s j 0) (get_or t j 0) ≡ 2 → gives_at i j (get_or s j 0) (get_or t' j 0) ≡ 2 → finding_of s i t t' j ≡ nothing
unfolding finding_of found
finds_none s i t t' j a b = rw (a, b)

-- what is found from the words is what the probes find, where the word gives what the probe at 0 gives
pub finding_from : (s t t' : List ℕ) (i first : ℕ) (u : List ℕ) (j : ℕ) → gives_at i j (get_or s j 0) (get_or u (first + j) 0) ≡ gives_at i j (get_or s j 0) (get_or t j 0)
    → finding_in s t' i first u j ≡ finding_of s i t t' j
unfolding finding_in finding_of
finding_from s t t' i first u j e = rw e
