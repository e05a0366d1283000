-- A sum is invalid exactly if one of the f64 sums on its way is not finite, and it has at most as many parts as numbers were added. Assumes nothing.
use Prim.Native.Nat.{ℕ, suc, ◌+◌, ◌≤◌}
use mathlib.Core.Path.{◌≡◌, refl, sym, ap, ◌∙◌}
use mathlib.Core.Logic.{◌↔◌}
use mathlib.Core.Bool.{Bool, true, false, cond, ◌&&◌, false≢true}
use mathlib.Core.List.{List, [], ◌∷◌, ◌++◌}
use native.Mathlib.Omega.{arith}
use lib.ListN.{length}
use lib.Ieee.{Float, binary64, add, ne}
use lib.Ieee.Scale.{finite}
use Rattle.scratch.proofs.All.{both}
use Rattle.weights.specs.Worth.{zero64}
use Rattle.expansion.specs.Sum.{Expansion, parts, invalid, split_of, kept, plus}
use Rattle.expansion.specs.Exact.{add_all}
use Rattle.expansion.specs.Overflow.{sums_along, parts_along, sums_from, all_finite, Valid, Overflows}
use Rattle.expansion.proofs.Parting.{parted, first_not, plus_parted}

-- ---- all of them

pub all_append : (l r : List Float) → all_finite (l ++ r) ≡ (all_finite l && all_finite r)
unfolding all_finite
all_append [] r = refl
all_append (x ∷ l) r = go (finite x) (all_append l r)
  where
    go : (b : Bool) → all_finite (l ++ r) ≡ (all_finite l && all_finite r) → (b && all_finite (l ++ r)) ≡ ((b && all_finite l) && all_finite r)
    go true rest = rest
    go false rest = refl

stays_invalid : (l : List Float) → add_all invalid l ≡ invalid
unfolding add_all plus
stays_invalid [] = refl
stays_invalid (x ∷ l) = stays_invalid l

not_invalid : {l : List Float} {A : Type 0} → parts l ≡ invalid → A
not_invalid e = let z : ◌≡◌ {A = ℕ} 0 1 = cc in absurd (omega arith)

from_parts : (ps l : List Float) → (add_all (parts ps) l ≡ invalid) ↔ (all_finite (sums_from ps l) ≡ false)
unfolding add_all sums_from all_finite
from_parts ps [] = ((λ e. not_invalid e), λ e. absurd (false≢true (sym e)))
from_parts ps (x ∷ l) = rw (plus_parted x ps, all_append (sums_along x ps) (sums_from (parts_along x ps) l)) (go (all_finite (sums_along x ps)) (from_parts (parts_along x ps) l))
  where
    go : (b : Bool) → ((add_all (parts (parts_along x ps)) l ≡ invalid) ↔ (all_finite (sums_from (parts_along x ps) l) ≡ false))
        → (add_all (parted b (parts_along x ps)) l ≡ invalid) ↔ ((b && all_finite (sums_from (parts_along x ps) l)) ≡ false)
    go true h = h
    go false h = ((λ e. refl), λ e. stays_invalid l)

-- INVALID EXACTLY WHERE A SUM IS NOT FINITE
pub invalid_when : (l : List Float) → (add_all (parts []) l ≡ invalid) ↔ Overflows l
invalid_when l = from_parts [] l

-- and elsewhere it has parts
pub valid_parts : (l : List Float) → Valid l → (r : List Float) × (add_all (parts []) l ≡ parts r)
valid_parts l v = go (add_all (parts []) l) refl
  where
    go : (e : Expansion) → add_all (parts []) l ≡ e → (r : List Float) × (add_all (parts []) l ≡ parts r)
    go (parts r) h = (r, h)
    go invalid h = absurd (false≢true (sym ((invalid_when l).0 h) ∙ v))

-- what is added is among the sums
added_finite : (ps l : List Float) → all_finite (sums_from ps l) ≡ true → all_finite l ≡ true
unfolding sums_from all_finite
added_finite ps [] e = refl
added_finite ps (x ∷ l) e =
    let b : (all_finite (sums_along x ps) && all_finite (sums_from (parts_along x ps) l)) ≡ true = sym (all_append (sums_along x ps) (sums_from (parts_along x ps) l)) ∙ e in
    first (finite x) refl b (λ d. added_finite (parts_along x ps) l d)
  where
    first : (b : Bool) → finite x ≡ b → (all_finite (sums_along x ps) && all_finite (sums_from (parts_along x ps) l)) ≡ true
        → (all_finite (sums_from (parts_along x ps) l) ≡ true → all_finite l ≡ true) → (b && all_finite l) ≡ true
    first true h d rest = rest (both (all_finite (sums_along x ps)) (all_finite (sums_from (parts_along x ps) l)) d).1
    first false h d rest = absurd (false≢true (sym (first_not x ps h) ∙ (both (all_finite (sums_along x ps)) (all_finite (sums_from (parts_along x ps) l)) d).0))

pub valid_finite : (l : List Float) → Valid l → all_finite l ≡ true
valid_finite l v = added_finite [] l v

-- ---- how many parts

kept_few : (x : Float) (l : List Float) → length (kept x l) ≤ length l + 1
unfolding kept
kept_few x l = go (ne x zero64)
  where
    go : (b : Bool) → length (cond b (x ∷ l) l) ≤ length l + 1
    go true = omega arith
    go false = omega arith

along_few : (x : Float) (l : List Float) → length (parts_along x l) ≤ length l + 1
unfolding parts_along
along_few x [] = kept_few x []
along_few x (y ∷ ys) = omega (arith, kept_few (split_of x y).low (parts_along (add binary64 x y) ys), along_few (add binary64 x y) ys)

from_few : (ps l : List Float) {r : List Float} → add_all (parts ps) l ≡ parts r → length r ≤ length ps + length l
unfolding add_all
from_few ps [] {r} e = let same : ps ≡ r = cc in omega (arith, ap length same)
from_few ps (x ∷ l) {r} e = go (all_finite (sums_along x ps)) (rw (plus_parted x ps) at e) (λ h. from_few (parts_along x ps) l h)
  where
    go : (b : Bool) → add_all (parted b (parts_along x ps)) l ≡ parts r → (add_all (parts (parts_along x ps)) l ≡ parts r → length r ≤ length (parts_along x ps) + length l)
        → length r ≤ length ps + suc (length l)
    go true h rest = omega (arith, rest h, along_few x ps)
    go false h rest = not_invalid (sym (sym (stays_invalid l) ∙ h))

-- at most one part for each number added
pub parts_few : (l : List Float) {r : List Float} → add_all (parts []) l ≡ parts r → length r ≤ length l
parts_few l e = omega (arith, from_few [] l e)
