-- The weights of variables are in order: none is a NaN, so each has a rank among the naturals. Assumes nothing.
use Prim.Native.Nat.{ℕ, suc, ◌+◌, ◌<◌}
use mathlib.Core.Path.{◌≡◌, refl, sym, ap₂, ◌∙◌}
use mathlib.Core.Bool.{Bool, true, false, cond}
use mathlib.Core.List.{List, [], ◌∷◌}
use native.Mathlib.Nat.{add-zero, ne_of_lt, ne_of_gt, le_of_lt, le_refl}
use native.Mathlib.Omega.{arith}
use borrow.Author.Tests.{lt-ltb, le-ltb, eq-eqb, ne_eqb}
use lib.Dec.{T, ltb, eqb}
use lib.ListN.{length, get_or}
use lib.Ieee.{Float, nan, inf, fin, binary64, add, lt, eq, ne, of_bits, fits}
use lib.Ieee.Fits.{add-fits}
use lib.Ieee.Scale.{overflow}
use Rattle.weights.specs.Counts.{Counts, minus}
use Rattle.weights.specs.Worth.{Worth, read, clear, magnitude, zero64}
use Rattle.weights.proofs.Sign.{add_clear, magnitude_clear}
use Rattle.weights.proofs.Worth.{lt_worth, eq_worth, worth_read}
use Rattle.expansion.specs.Exact.{Number}
use Rattle.expansion.proofs.Exact.{held_number, number_worth}
use Rattle.field.specs.Field.{Field, entries, quad_of, Shaped}
use Rattle.field.specs.Tests.{Finite}
use Rattle.places.specs.Places.{places}
use Rattle.places.proofs.Places.{places_touch}
use Rattle.anchors.specs.Sums.{on_diagonal, weight_at, weight_over, weight_of}

-- ---- the weights

record Weight (w : Float) : Type 0 where
  clear_one : T (clear w)
  held : T (fits binary64 w)

module _ {F : Field} (S : Shaped F) (fine : Finite F) where
  weight_at_lem : {w : Float} (k : ℕ) → k < entries F → Weight w → Weight (weight_at F w k)
  unfolding weight_at
  weight_at_lem {w} k h p = go (on_diagonal F k) (ne (quad_of F k) zero64)
    where
      go : (b d : Bool) → Weight (cond b w (cond d (add binary64 w (magnitude (quad_of F k))) w))
      go true d = p
      go false true = record {
        clear_one = add_clear binary64 w (magnitude (quad_of F k)) p.clear_one (magnitude_clear (quad_of F k) (fine.quad k h));
        held = add-fits binary64 w (magnitude (quad_of F k));
      }
      go false false = p

  weight_over_lem : {w : Float} (ks : List ℕ) → ((h : ℕ) → h < length ks → get_or ks h 0 < entries F) → Weight w → Weight (weight_over F w ks)
  unfolding weight_over
  weight_over_lem [] all p = p
  weight_over_lem {w = w} (k ∷ ks) all p = weight_over_lem {w = weight_at F w k} ks (λ h b. all (suc h) (omega arith)) (weight_at_lem k (all 0 (omega arith)) p)

  weight_of_lem : (i : ℕ) → Weight (weight_of F i)
  unfolding weight_of of_bits fits
  weight_of_lem i = weight_over_lem (places F.rows F.cols i) (λ h l. omega (arith, (places_touch F.rows F.cols i h l).0, S.rows_long)) (record { clear_one = tt; held = tt })

-- ---- ranks

pub data Ranked : Float → ℕ → Type 0 where
  number : {x : Float} {n : ℕ} → Worth 0 x (record { plus = n; less = 0 }) → n < overflow binary64 → Ranked x n
  infinite : {n : ℕ} → n ≡ overflow binary64 → Ranked (inf false) n

below_infinite : (x : Float) (p l : ℕ) → Counts binary64 0 x p l → (lt x (inf false) ≡ true) × (eq x (inf false) ≡ false)
unfolding Counts lt eq
below_infinite nan p l h = absurd h
below_infinite (inf s) p l h = absurd h
below_infinite (fin s m e) p l h = (refl, refl)

from_infinite : (y : Float) (p l : ℕ) → Counts binary64 0 y p l → (lt (inf false) y ≡ false) × (eq (inf false) y ≡ false)
unfolding Counts lt eq
from_infinite nan p l h = absurd h
from_infinite (inf s) p l h = absurd h
from_infinite (fin s m e) p l h = (refl, refl)

both_infinite : (lt (inf false) (inf false) ≡ false) × (eq (inf false) (inf false) ≡ true)
unfolding lt eq
both_infinite = (refl, refl)

pub lt_ranked : {x y : Float} {n m : ℕ} → Ranked x n → Ranked y m → lt x y ≡ ltb n m
lt_ranked {n = n} {m = m} (number h l) (number k r) = lt_worth h k ∙ ap₂ ltb (add-zero n) (add-zero m)
lt_ranked {x} {n = n} {m = m} (number h l) (infinite e) = (below_infinite x n 0 h.is).0 ∙ sym (lt-ltb n m (rw e l))
lt_ranked {y = y} {n = n} {m = m} (infinite e) (number k r) = (from_infinite y m 0 k.is).0 ∙ sym (le-ltb n m (rw e (le_of_lt r)))
lt_ranked {n = n} {m = m} (infinite e) (infinite d) = both_infinite.0 ∙ sym (le-ltb n m (rw (e, d) (le_refl (overflow binary64))))

pub eq_ranked : {x y : Float} {n m : ℕ} → Ranked x n → Ranked y m → eq x y ≡ eqb n m
eq_ranked {n = n} {m = m} (number h l) (number k r) = eq_worth h k ∙ ap₂ eqb (add-zero n) (add-zero m)
eq_ranked {x} {n = n} {m = m} (number h l) (infinite e) = (below_infinite x n 0 h.is).1 ∙ sym (ne_eqb n m (rw e (ne_of_lt l)))
eq_ranked {y = y} {n = n} {m = m} (infinite e) (number k r) = (from_infinite y m 0 k.is).1 ∙ sym (ne_eqb n m (rw e (ne_of_gt r)))
eq_ranked {n = n} {m = m} (infinite e) (infinite d) = both_infinite.1 ∙ sym (eq-eqb n m (e ∙ sym d))

-- each weight has one
rank : Float → ℕ
rank nan = 0
rank (inf s) = overflow binary64
rank (fin s m e) = (read 0 (fin s m e)).plus

under : (s : Bool) (size p o : ℕ) → size < o → cond s 0 size + 0 ≡ p + cond s size 0 → p < o
under true size p o l e = omega arith
under false size p o l e = omega arith

ranked : (w : Float) → Weight w → Ranked w (rank w)
unfolding rank minus
ranked nan p = absurd p.clear_one
ranked (inf true) p = absurd p.clear_one
ranked (inf false) p = infinite refl
ranked (fin true m e) p = absurd p.clear_one
ranked (fin false m e) p =
    let n : Number (fin false m e) = record { held = p.held; finite_one = tt } in
    let h = held_number n in
    let k : Worth 0 (fin false m e) (record { plus = cond h.sign 0 h.size; less = cond h.sign h.size 0 }) = record { unit = (number_worth n).unit; is = h.counts } in
    number (number_worth n) (under h.sign h.size (read 0 (fin false m e)).plus (overflow binary64) h.below (worth_read k))

-- the rank of variable i's weight
pub rank_of : Field → ℕ → ℕ
rank_of F i = rank (weight_of F i)

pub weight_ranked : {F : Field} → Shaped F → Finite F → (i : ℕ) → Ranked (weight_of F i) (rank_of F i)
unfolding rank_of
weight_ranked {F} S fine i = ranked (weight_of F i) (weight_of_lem S fine i)
