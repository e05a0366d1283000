-- Which fields that were exact in halves some unit still serves. Assumes nothing.
use Prim.Native.Nat.{ℕ, zero, suc, ◌<◌, ◌≤◌, ◌^◌}
use mathlib.Core.Path.{◌≡◌}
use mathlib.Core.Logic.{◌⊎◌, inl, inr, ⊎_elim, ◌↔◌}
use native.Mathlib.Omega.{arith}
use lib.Dec.{T}
use lib.ListN.{length}
use lib.Ieee.{Float, binary64}
use Rattle.whole.specs.Whole.{◌⊙◌, ◌≈◌}
use Rattle.weights.specs.Counts.{whole_in}
use Rattle.weights.specs.Worth.{Worth, read}
use Rattle.weights.proofs.Worth.{read_worth, worth_whole, finer_worth, same_worth}
use Rattle.field.specs.declared.Grade.TheVariants.{Exact}
use Rattle.field.specs.Field.{Field, entries}
use Rattle.field.specs.Grade.{grade_of, Weighs, Serves}
use Rattle.field.specs.Turned.{InHalves, Low, Even}
use Rattle.field.proofs.Exact.{some_serves}
use Rattle.field.proofs.Units.{whole_below, weighs_above, weighs_up}

split : (u v : ℕ) → (u < v) ⊎ (v ≤ u)
split u zero = inr (omega arith)
split zero (suc v) = inl (omega arith)
split (suc u) (suc v) = ⊎_elim (λ l. inl (omega arith)) (λ l. inr (omega arith)) (split u v)

-- 2^32 halves are 2^31 ones
ones : {x : Float} → Weighs 1073 (2 ^ 32) x → T (whole_in binary64 1074 x) → Weighs 1074 (2 ^ 31) x
ones {x} w t =
    let r = read 1074 x in
    let h : Worth 1074 x r = read_worth x (omega arith) t in
    let same : w.ledger ≈ r ⊙ 2 = same_worth w.worth (finer_worth 1 h) in
    record { ledger = r; worth = h; at_most = omega (arith, w.at_most); at_least = omega (arith, w.at_least) }

-- Theorem. WHAT TURNS INEXACT: a field that was exact stays so exactly if every |c| is at most 2^30, or every 2c and q is even.
pub stays_exact : (F : Field) → length F.rows ≡ entries F → InHalves F → (grade_of F ≡ Exact) ↔ (Low F ⊎ Even F)
stays_exact F long old = ((λ e. let s = (some_serves F long).0 e in go s.0 s.1), λ h. (some_serves F long).1 (⊎_elim low even h))
  where
    go : (u : ℕ) → Serves u F → Low F ⊎ Even F
    go u v = ⊎_elim
        (λ (l : u < 1074). inl (λ i b. weighs_above (v.exact.linear i b) (worth_whole (old.linear i b).worth) (omega arith) (omega arith)))
        (λ (l : 1074 ≤ u). inr record { linear = λ i b. whole_below (v.exact.linear i b).worth l; quad = λ k b. whole_below (v.exact.quad k b).worth (omega arith) })
        (split u 1074)

    low : Low F → (u : ℕ) × Serves u F
    low h = (1073, record { from = omega arith; to = omega arith; exact = record { standard = old.standard; linear = h; quad = old.quad } })

    even : Even F → (u : ℕ) × Serves u F
    even h = (
      1074,
      record {
        from = omega arith;
        to = omega arith;
        exact = record { standard = old.standard; linear = λ i b. ones (old.linear i b) (h.linear i b); quad = λ k b. weighs_up 1 (omega arith) (old.quad k b) (h.quad k b) };
      },
    )
