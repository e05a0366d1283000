-- Rows put back from their copies, and values from the start values. Assumes nothing.
use Prim.Native.Nat.{ℕ, ◌+◌, ◌<◌, ◌≤◌}
use mathlib.Core.Path.{◌≡◌, refl, sym, ap, ◌∙◌}
use mathlib.Core.Logic.{◌⊎◌, inl, inr, ⊎_elim}
use mathlib.Core.List.{List}
use native.Mathlib.Decide.{ℕ_discrete}
use native.Mathlib.Omega.{arith}
use lib.Ieee.{Float, nan}
use lib.ListN.{length, get_or, set, drop, length-set}
use lib.Seq.{get_or-drop, get_or-set_same, get_or-set_other, ext_get_or}
use Rattle.rows.specs.Stored.{row_on, put_row}
use Rattle.rows.proofs.Stored.{length_put}
use Rattle.places.specs.Places.{other_end, entry_in, end_in}
use Rattle.places.proofs.Places.{other_below}
use Rattle.places.proofs.Walk.{Along, walk_turn, turn_entry, turn_other, along_start, along_turn, along_end}
use Rattle.scanning.specs.Merge.{list_at}
use Rattle.workspace.specs.Restored.{back_at_of, back_all, back, Backable, From, Undoable}

-- ---- one row

pub copy_read : (n t : ℕ) (f : List Float) {f' : List Float}
    → f' ≡ put_row f n t (record { lower = get_or f (n + n + t) nan; upper = get_or f (n + n + (n + t)) nan }) → f' ≡ back_at_of n f t
copy_read n t f e = e ∙ rw (get_or-drop (n + n) f t nan, get_or-drop (n + n) f (n + t) nan)

-- ---- the loop over the places of x

pub record Backing (n : ℕ) (rows cols : List ℕ) (u : List ℕ) (x end p : ℕ) (f₀ f : List Float) : Type 0 where
  pub asks : Backable n rows cols f₀ u
  pub along : Along (back_all n rows cols x) n rows cols u u x end p f₀ f
  pub long : length f ≡ length f₀

pub back_start : {n : ℕ} {rows cols u : List ℕ} {x a b : ℕ} {f : List Float} → Backable n rows cols f u → x < n → a ≡ get_or u x 0 → b ≡ get_or u (x + 1) 0 → Backing n rows cols u x b a f f
back_start {n} {rows} {cols} {x = x} {f = f} B h ea eb = record { asks = B; along = along_start (back_all n rows cols x) f B.adjacent h ea eb; long = refl }

module _ {n : ℕ} {rows cols u : List ℕ} {x end p : ℕ} {f₀ f : List Float} (B : Backing n rows cols u x end p f₀ f) where
  back_other : (l : p < end) {t : ℕ} → t ≡ end_in (get_or u (n + 1 + p) 0) → t ≡ other_end rows cols x (entry_in (get_or u (n + 1 + p) 0))
  back_other l = turn_other (walk_turn B.along.walk l) refl

  pub back_asks : p < end → {t : ℕ} → t ≡ end_in (get_or u (n + 1 + p) 0) → (t < n) × (n + n + (n + n) ≤ length f)
  back_asks l e = (rw (back_other l e) (other_below rows cols x _ B.asks.ends (turn_entry (walk_turn B.along.walk l) refl)), omega (arith, B.asks.room, B.long))

  pub back_turn : {t : ℕ} {f' : List Float} → p < end → t ≡ end_in (get_or u (n + 1 + p) 0) → f' ≡ back_at_of n f t → Backing n rows cols u x end (p + 1) f₀ f'
  unfolding back_all
  back_turn {t} {f'} l e ef = record {
    asks = B.asks;
    along = along_turn B.along l refl (λ ks. ap (λ (z : List Float). back_all n rows cols x z ks) (sym (ef ∙ ap (back_at_of n f) (back_other l e))));
    long = ap length ef ∙ length_put f n t (row_on (drop (n + n) f) n t) ∙ B.long;
  }

  pub back_done : end ≤ p → f ≡ back n rows cols x f₀
  unfolding back back_all
  back_done l = along_end B.along l

-- ---- the values: those before h are put back

pub record Undoing (s u : List ℕ) (from count h : ℕ) (vs : List ℕ) : Type 0 where
  pub within : h ≤ count
  pub long : length vs ≡ length s
  pub room : from + count ≤ length u
  pub below : (p : ℕ) → p < count → list_at u from p < length s
  pub values : (j : ℕ) → (get_or vs j 0 ≡ get_or s j 0) ⊎ From u from count h j

pub undo_start : {s vs u : List ℕ} {from count : ℕ} → Undoable s vs u from count → Undoing s u from count 0 vs
undo_start U = record { within = omega arith; long = U.long; room = U.room; below = U.below; values = U.values }

-- a position from h on is h, or from h + 1 on
pub from_next : {u : List ℕ} {from count h j : ℕ} → From u from count h j → (j ≡ list_at u from h) ⊎ From u from count (h + 1) j
from_next {u} {from} {count} {h} {j} w = go (ℕ_discrete w.place h)
  where
    go : Dec (w.place ≡ h) → (j ≡ list_at u from h) ⊎ From u from count (h + 1) j
    go (yes e) = inl (sym w.holds ∙ ap (list_at u from) e)
    go (no ne) = inr (record { place = w.place; low = omega (arith, w.low); high = w.high; holds = w.holds })

module _ {s u : List ℕ} {from count h : ℕ} {vs : List ℕ} (U : Undoing s u from count h vs) where
  pub undo_below : h < count → {x : ℕ} → x ≡ list_at u from h → (x < length s) × (x < length vs)
  undo_below l e = let z = U.below h l in (omega arith, omega (arith, U.long))

  pub undo_turn : {x : ℕ} → h < count → x ≡ list_at u from h → Undoing s u from count (h + 1) (set vs x (get_or s x 0))
  undo_turn {x} l e = record {
    within = omega arith;
    long = length-set vs x (get_or s x 0) ∙ U.long;
    room = U.room;
    below = U.below;
    values = λ j. at j (ℕ_discrete j x);
  }
    where
      at : (j : ℕ) → Dec (j ≡ x) → (get_or (set vs x (get_or s x 0)) j 0 ≡ get_or s j 0) ⊎ From u from count (h + 1) j
      at j (yes q) = inl (rw q (get_or-set_same vs x (get_or s x 0) 0 (undo_below l e).1))
      at j (no ne) =
          let same = get_or-set_other vs x j (get_or s x 0) 0 ne in
          ⊎_elim (λ z. inl (same ∙ z)) (λ w. ⊎_elim (λ z. absurd (ne (z ∙ sym e))) (λ z. inr z) (from_next w)) (U.values j)

  pub undo_done : count ≤ h → vs ≡ s
  undo_done l = ext_get_or 0 vs s U.long (λ j z. ⊎_elim (λ e. e) (λ w. absurd (omega (arith, w.low, w.high))) (U.values j))
