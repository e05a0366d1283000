-- The counts by place. Assumes nothing.
use mathlib.Core.Path.{◌≡◌, ◌∙◌}
use mathlib.Core.Logic.{⊎_elim}
use mathlib.Core.Bool.{Bool}
use mathlib.Core.List.{[], ◌∷◌}
use Prim.Native.Nat.{ℕ, zero, suc, ◌<◌}
use native.Mathlib.Omega.{arith}
use lib.ListN.{get_or, get_or-append}
use lib.Seq.{get_or_at}
use Rattle.meaning.proofs.Values.{below_or_at}
use Rattle.reaching.specs.Via.{count_below}
use Rattle.allow.specs.Answer.{counts_to}
use Rattle.allow.proofs.Choosing.{counts_length}

pub counts_at : (r : ℕ → ℕ → Bool) (m k a : ℕ) → a < k → get_or (counts_to r m k) a 0 ≡ count_below (r a) m
unfolding counts_to
counts_at r m zero a h = absurd (omega arith)
counts_at r m (suc k) a h =
    ⊎_elim
    (λ l. get_or-append (counts_to r m k) (count_below (r k) m ∷ []) 0 a (omega (arith, counts_length r m k)) ∙ counts_at r m k a l)
    (λ e. rw e (get_or_at (counts_to r m k) (count_below (r k) m) [] 0 k (counts_length r m k)))
    (below_or_at h)
