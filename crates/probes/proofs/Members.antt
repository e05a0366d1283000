-- What stands in a list of numbers, by place and by membership. Assumes nothing.
use Prim.Native.Nat.{ℕ, zero, suc, ◌<◌}
use mathlib.Core.Path.{◌≡◌, refl, sym, subst}
use mathlib.Core.Logic.{⊎_elim}
use mathlib.Core.List.Memᴰ
use mathlib.Core.List.{List, [], ◌∷◌, Memᴰ}
use native.Mathlib.Omega.{arith}
use lib.ListN.{length, get_or}
use Rattle.ranking.proofs.Ordered.{Every}

-- the number at a place of the list is in it
pub at_in : (l : List ℕ) (t : ℕ) → t < length l → Memᴰ (get_or l t 0) l
at_in [] t h = absurd (omega arith)
at_in (x ∷ l) zero h = Memᴰ.head refl
at_in (x ∷ l) (suc t) h = Memᴰ.tail (at_in l t (omega arith))

-- a place of i
pub record PlaceOf (l : List ℕ) (i : ℕ) : Type 0 where
  pub at : ℕ
  pub within : at < length l
  pub is : get_or l at 0 ≡ i

pub in_at : (l : List ℕ) {i : ℕ} → Memᴰ i l → PlaceOf l i
in_at [] m = absurd (Memᴰ.not-nil m)
in_at (x ∷ l) m =
    ⊎_elim
    (λ e. record { at = 0; within = omega arith; is = sym e })
    (λ r. let p = in_at l r in record { at = suc p.at; within = omega (arith, p.within); is = p.is })
    (Memᴰ.cases_cons m)

-- what holds of every number of a list holds of each in it
pub every_in : (P : ℕ → Type 0) (l : List ℕ) → Every P l → {i : ℕ} → Memᴰ i l → P i
every_in P [] h m = absurd (Memᴰ.not-nil m)
every_in P (x ∷ l) h m = ⊎_elim (λ e. subst P (sym e) h.0) (λ r. every_in P l h.1 r) (Memᴰ.cases_cons m)
