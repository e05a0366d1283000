-- On whole numbers of a unit the sum of a mask is worth the ledgers of the terms that count in it. Assumes nothing.
use Prim.Native.Nat.{ℕ, ◌+◌, ◌^◌, ◌≤◌}
use mathlib.Core.Bool.{Bool, true, false, cond}
use mathlib.Core.List.{List, [], ◌∷◌, ◌++◌}
use native.Mathlib.Omega.{arith}
use lib.Ieee.{Float, binary64, add}
use Rattle.whole.specs.Whole.{Whole, nothing, ◌⊕◌, only, Under}
use Rattle.weights.specs.Worth.{Worth}
use Rattle.weights.proofs.Worth.{add_worth, as_worth}
use Rattle.masks.specs.Masks.{Term, term, has, plus, sum_at}
use Rattle.masks.proofs.Summing.{sum_append}

-- these terms add the ledger a, of at most b either way, to the sum of the mask
pub record Adds (u mask : ℕ) (ts : List Term) (a : Whole) (b : ℕ) : Type 0 where
  pub under : Under b a
  pub worth : (x : Float) (c : Whole) (l : ℕ) → Worth u x c → Under l c → l + b ≤ 2 ^ 53 → Worth u (sum_at mask x ts) (c ⊕ a)

module _ {u mask : ℕ} where
  pub adds_none : Adds u mask [] nothing 0
  unfolding sum_at
  adds_none = record { under = omega arith; worth = λ x c l w h e. as_worth w (omega arith) }

  pub adds_one : {v : Float} {w : Whole} {b : ℕ} (r : ℕ) → Worth u v w → Under b w → Adds u mask (term r v ∷ []) (only (has mask r) w) b
  unfolding sum_at plus
  adds_one {v} {w} {b} r W U = by (has mask r)
    where
      under_by : (t : Bool) → Under b (only t w)
      under_by true = U
      under_by false = omega arith

      worth_by : (t : Bool) (x : Float) (c : Whole) (l : ℕ) → Worth u x c → Under l c → l + b ≤ 2 ^ 53 → Worth u (cond t (add binary64 x v) x) (c ⊕ only t w)
      worth_by true x c l X C e = add_worth X W (omega arith)
      worth_by false x c l X C e = as_worth X (omega arith)

      by : (t : Bool) → Adds u mask (term r v ∷ []) (only (has mask r) w) b
      by t = record { under = under_by (has mask r); worth = worth_by (has mask r) }

  pub adds_then : {ts us : List Term} {a a' : Whole} {b b' : ℕ} → Adds u mask ts a b → Adds u mask us a' b' → Adds u mask (ts ++ us) (a ⊕ a') (b + b')
  adds_then {ts} {us} {a} {a'} {b} {b'} A B = record {
    under = omega (arith, A.under, B.under);
    worth = λ x c l X C e.
        rw (sum_append mask x ts us)
        (as_worth (B.worth (sum_at mask x ts) (c ⊕ a) (l + b) (A.worth x c l X C (omega arith)) (omega (arith, A.under)) (omega arith)) (omega arith));
  }
