-- On every field, exact or not, a variable's sum is called 0 only where what is added comes to 0, without rounding; and where no sum overflows, exactly there. Assumes nothing.
use Prim.Native.Nat.{ℕ, suc, ◌<◌}
use mathlib.Core.Path.{◌≡◌, refl, sym, ap, ◌∙◌}
use mathlib.Core.Logic.{◌↔◌}
use mathlib.Core.Bool.{Bool, true, false, cond}
use mathlib.Core.List.{List, [], ◌∷◌, ◌++◌}
use native.Mathlib.Omega.{arith}
use lib.ListN.{length, get_or}
use lib.Ieee.{Float, binary64, mul, ne}
use lib.Ieee.Fits.{mul-fits}
use Rattle.whole.specs.Whole.{Zero}
use Rattle.weights.specs.Worth.{zero64, four64}
use Rattle.expansion.specs.Sum.{Expansion, parts, plus}
use Rattle.expansion.specs.Exact.{AllHeld, none_held, more_held, total, add_all}
use Rattle.expansion.proofs.Ladder.{sum_certain, sum_exactly}
use Rattle.field.specs.Field.{Field, entries, linear_of, quad_of, Shaped}
use Rattle.places.specs.Places.{places}
use Rattle.places.proofs.Places.{places_touch}
use Rattle.anchors.specs.Sums.{on_diagonal, doubled, balance_at, balance_over, balance_of, balanced}
use Rattle.anchors.specs.Rule.{terms_at, terms_over, terms, HeldWeights}

add_append : (e : Expansion) (l r : List Float) → add_all e (l ++ r) ≡ add_all (add_all e l) r
unfolding add_all
add_append e [] r = refl
add_append e (x ∷ l) r = add_append (plus x e) l r

balance_at_lem : (F : Field) (e : Expansion) (k : ℕ) → balance_at F e k ≡ add_all e (terms_at F k)
unfolding balance_at terms_at add_all
balance_at_lem F e k = go (on_diagonal F k) (ne (quad_of F k) zero64)
  where
    go : (b d : Bool) → cond b (plus (doubled F k) e) (cond d (plus (quad_of F k) e) e)
        ≡ add_all e (cond b (doubled F k ∷ []) (cond d (quad_of F k ∷ []) []))
    go true d = refl
    go false true = refl
    go false false = refl

pub balance_over_lem : (F : Field) (e : Expansion) (ks : List ℕ) → balance_over F e ks ≡ add_all e (terms_over F ks)
unfolding balance_over terms_over add_all
balance_over_lem F e [] = refl
balance_over_lem F e (k ∷ ks) = balance_over_lem F (balance_at F e k) ks ∙ ap (λ (a : Expansion). add_all a (terms_over F ks)) (balance_at_lem F e k) ∙ sym (add_append e (terms_at F k) (terms_over F ks))

pub balance_terms : (F : Field) (i : ℕ) → balance_of F i ≡ add_all (parts []) (terms F i)
unfolding balance_of terms add_all
balance_terms F i = balance_over_lem F (plus (mul binary64 four64 (linear_of F i)) (parts [])) (places F.rows F.cols i)

held_append : {l r : List Float} → AllHeld l → AllHeld r → AllHeld (l ++ r)
held_append none_held k = k
held_append (more_held t h) k = more_held t (held_append h k)

module _ {F : Field} (S : Shaped F) (h : HeldWeights F) where
  held_at : (k : ℕ) → k < entries F → AllHeld (terms_at F k)
  unfolding terms_at
  held_at k l = go (on_diagonal F k) (ne (quad_of F k) zero64)
    where
      go : (b d : Bool) → AllHeld (cond b (doubled F k ∷ []) (cond d (quad_of F k ∷ []) []))
      go true d = more_held (mul-fits binary64 _ (quad_of F k)) none_held
      go false true = more_held (h k l) none_held
      go false false = none_held

  held_over : (ks : List ℕ) → ((x : ℕ) → x < length ks → get_or ks x 0 < entries F) → AllHeld (terms_over F ks)
  unfolding terms_over
  held_over [] all = none_held
  held_over (k ∷ ks) all = held_append (held_at k (all 0 (omega arith))) (held_over ks (λ x l. all (suc x) (omega arith)))

  pub held_terms : (i : ℕ) → AllHeld (terms F i)
  unfolding terms
  held_terms i =
      more_held (mul-fits binary64 four64 (linear_of F i))
      (held_over (places F.rows F.cols i) (λ x l. omega (arith, (places_touch F.rows F.cols i x l).0, S.rows_long)))

  pub balance_certain : (i : ℕ) → balanced F i ≡ true → Zero (total (terms F i))
  unfolding balanced
  balance_certain i e = sum_certain (held_terms i) (rw (balance_terms F i) at e)

  pub balance_exactly : (i : ℕ) {r : List Float} → balance_of F i ≡ parts r → (balanced F i ≡ true) ↔ Zero (total (terms F i))
  unfolding balanced
  balance_exactly i e = rw (balance_terms F i) (sum_exactly (held_terms i) (sym (balance_terms F i) ∙ e))
