-- A row whose term of one end is taken out and put back at another byte: what it is worth. Assumes nothing.
use Prim.Native.Nat.{ℕ, zero, suc, ◌^◌, ◌≤◌}
use native.Mathlib.Omega.{arith}
use lib.IntN.{pos}
use lib.Ieee.{Float, binary64, mul, of_int}
use Rattle.whole.specs.Whole.{Whole, ◌⊕◌, ◌⊖◌, min0, max0, Under}
use Rattle.weights.specs.Worth.{Worth}
use Rattle.weights.proofs.Worth.{sub_worth, times_worth, as_worth}
use Rattle.meaning.specs.Gradient.{share}
use Rattle.meaning.proofs.Views.{share_under, min0_under, max0_under}
use Rattle.rows.specs.declared.Row.{Row}
use Rattle.rows.specs.Row.{add_term, remove_fixed, remove_term}
use Rattle.rows.specs.Counted.{RowWorth}
use Rattle.rows.proofs.Terms.{remove_free_worth, term_worth}

module _ {u : ℕ} {r : Row} {a b : Whole} (h : RowWorth u r a b) (near-a : Under (2 ^ 50) a) (near_b : Under (2 ^ 50) b) {q : Float} {c : Whole} (k : Worth u q c) (small : Under (2 ^ 31) c) where
  fixed_out : (v : ℕ) {d : Whole} → Worth u (mul binary64 q (of_int binary64 (pos v))) d → Under (2 ^ 31) d → RowWorth u (remove_fixed r q v) (a ⊖ d) (b ⊖ d)
  fixed_out v z w = record { lower = sub_worth h.lower z (omega arith); upper = sub_worth h.upper z (omega arith) }

  -- a term taken out, by the byte of the other end
  pub remove_term_worth : (v : ℕ) → v ≤ 2 → RowWorth u (remove_term r q v) (a ⊖ share (min0 c) c v) (b ⊖ share (max0 c) c v)
  unfolding remove_term share
  remove_term_worth zero l = fixed_out 0 (as_worth (times_worth 0 (omega arith) k (omega arith)) (omega arith)) (omega arith)
  remove_term_worth (suc zero) l = fixed_out 1 (as_worth (times_worth 1 (omega arith) k (omega arith)) (omega arith)) small
  remove_term_worth (suc (suc zero)) l = remove_free_worth h near-a near_b k small
  remove_term_worth (suc (suc (suc v))) l = absurd (omega arith)

-- and put back at another
pub turned_worth : {u : ℕ} {r : Row} {a b : Whole} → RowWorth u r a b → Under (2 ^ 49) a → Under (2 ^ 49) b → {q : Float} {c : Whole} → Worth u q c → Under (2 ^ 31) c → (old new : ℕ) → old ≤ 2 → new ≤ 2
    → RowWorth u (add_term (remove_term r q old) q new) (a ⊖ share (min0 c) c old ⊕ share (min0 c) c new) (b ⊖ share (max0 c) c old ⊕ share (max0 c) c new)
turned_worth h near-a near_b {c = c} k small old new l l' =
    let x = share_under (2 ^ 31) (min0 c) c old (min0_under (2 ^ 31) c small) small in
    let y = share_under (2 ^ 31) (max0 c) c old (max0_under (2 ^ 31) c small) small in
    term_worth (remove_term_worth h (omega arith) (omega arith) k small old l) (omega arith) (omega arith) k small new l'
