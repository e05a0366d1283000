-- A place that leads to t, or none. Assumes nothing.
use Prim.Native.Nat.{ℕ, zero, suc, ◌<◌}
use mathlib.Core.Path.{◌≡◌}
use mathlib.Core.Logic.{◌≢◌, ◌⊎◌, inl, inr, ⊎_elim}
use mathlib.Core.List.{List, [], ◌∷◌}
use native.Mathlib.Decide.{ℕ_discrete}
use native.Mathlib.Omega.{arith}
use lib.ListN.{length, get_or}
use Rattle.field.specs.Field.{Field}
use Rattle.places.specs.Places.{other_end}
use Rattle.probing.proofs.Afresh.{None}

pub record Leads (F : Field) (i t : ℕ) (ks : List ℕ) : Type 0 where
  pub place : ℕ
  pub within : place < length ks
  pub other : other_end F.rows F.cols i (get_or ks place 0) ≡ t

pub leads_or_none : (F : Field) (i t : ℕ) (ks : List ℕ) → Leads F i t ks ⊎ None F i t ks
leads_or_none F i t [] = inr (λ x h. absurd (omega arith))
leads_or_none F i t (k ∷ ks) = go (ℕ_discrete (other_end F.rows F.cols i k) t) (leads_or_none F i t ks)
  where
    more : other_end F.rows F.cols i k ≢ t → None F i t ks → None F i t (k ∷ ks)
    more ne none zero h = ne
    more ne none (suc x) h = none x (omega arith)

    go : Dec (other_end F.rows F.cols i k ≡ t) → Leads F i t ks ⊎ None F i t ks → Leads F i t (k ∷ ks) ⊎ None F i t (k ∷ ks)
    go (yes e) rest = inl (record { place = 0; within = omega arith; other = e })
    go (no ne) rest = ⊎_elim (λ h. inl (record { place = suc h.place; within = omega (arith, h.within); other = h.other })) (λ h. inr (more ne h)) rest
