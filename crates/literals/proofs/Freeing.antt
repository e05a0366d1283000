-- Every variable made free, and zeros that begin no chain. Assumes nothing.
use Prim.Native.Nat.{ℕ, ◌+◌, ◌*◌, ◌≤◌}
use mathlib.Core.Path.{◌≡◌, refl, sym, ◌∙◌, subst}
use mathlib.Core.List.{List, ◌++◌}
use native.Mathlib.Decide.{dec_lt}
use native.Mathlib.Omega.{arith}
use lib.ListN.{length, take, drop, replicate, length-replicate, get_or-replicate, get_or-eq_default}
use lib.Seq.{length-take-le}
use Rattle.scratch.specs.Over.{over}
use Rattle.scratch.proofs.Over.{length_over, over_at, over_past}
use Rattle.literals.specs.Ends.{Unlinked}
use Rattle.literals.specs.Going.{Freed}

-- the first n elements filled with z: a list of z laid over the front
pub filled_over : {A : Type 0} (z : A) (n : ℕ) (s : List A) {front : List A} → n ≤ length s → front ≡ replicate (length (take n s)) z → front ++ drop n s ≡ over (replicate n z) s
unfolding over
filled_over z n s h e = rw (e, length-take-le n s h, length-replicate n z) refl

-- the first n elements filled with 2
pub freed : {n : ℕ} {u front : List ℕ} → n ≤ length u → front ≡ replicate (length (take n u)) 2 → Freed n u (front ++ drop n u)
freed {n} {u} {front} h e = subst (Freed n u) (sym (filled_over 2 n u h e)) (record {
  long = length_over twos u (omega (arith, long));
  free = λ j l. over_at twos u j 0 (omega (arith, long)) ∙ get_or-replicate n j 2 0 l;
  rest = λ y l. over_past twos u y 0 (omega (arith, long));
})
  where
    twos : List ℕ
    twos = replicate n 2

    long : length twos ≡ n
    long = length-replicate n 2

-- no chain begins among zeros
pub zeros_unlinked : (k n : ℕ) {u : List ℕ} → u ≡ replicate k 0 → Unlinked n u
zeros_unlinked k n {u} e i h = rw e (elim (dec_lt (2 * n + i) k) [
  | yes l ↦ get_or-replicate k (2 * n + i) 0 0 l
  | no l ↦ get_or-eq_default (replicate k 0) 0 {n = 2 * n + i} (omega (arith, length-replicate {A = ℕ} k 0))
])
