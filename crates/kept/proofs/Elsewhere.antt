-- What an operation leaves as it was, whatever the record holds. Assumes nothing.
use Prim.Native.Nat.{ℕ, zero, suc, ◌+◌, ◌<◌, ◌≤◌}
use mathlib.Core.Path.{◌≡◌, refl, sym, ap, ◌∙◌}
use mathlib.Core.Logic.{◌≢◌, ⊎_elim}
use mathlib.Core.Bool.{Bool, true, false, cond, ◌&&◌}
use mathlib.Core.List.{List}
use native.Mathlib.Omega.{arith}
use borrow.Author.Tests.{eqb-true}
use lib.Dec.{eqb}
use lib.ListN.{length, get_or, set, length-set}
use lib.Seq.{get_or-set_other}
use lib.Ieee.{Float}
use Rattle.meaning.specs.Free.{is_free}
use Rattle.meaning.proofs.Values.{after_set}
use Rattle.field.specs.Field.{Field, variables, entries, row_end, column_end, Shaped, StartFor}
use Rattle.rows.specs.declared.Row.{Row}
use Rattle.rows.specs.Model.{coeff_of}
use Rattle.rows.specs.Stored.{row_on, put_row}
use Rattle.rows.proofs.Stored.{length_put, row_other}
use Rattle.places.specs.Places.{other_end}
use Rattle.run.proofs.Sight.{joins_other}
use Rattle.kept.specs.Kept.{Kept, Apart, meets, afresh, turned, turn_at, turn_to, changed}

-- a value set
pub start_set : {n : ℕ} {s : List ℕ} → StartFor n s → (i v : ℕ) → i < n → v ≤ 2 → StartFor n (set s i v)
start_set {s = s} start i v b l = record {
  long = length-set s i v ∙ start.long;
  small = λ j. ⊎_elim (λ z. omega (arith, z.1)) (λ z. omega (arith, start.small j)) (after_set s i v (omega (arith, start.long)) j);
}

module _ {F : Field} (shaped : Shaped F) where
  pub other_below : (i k : ℕ) → k < entries F → other_end F.rows F.cols i k < variables F
  unfolding other_end
  other_below i k l = by (eqb (row_end F k) i)
    where
      by : (b : Bool) → cond b (column_end F k) (row_end F k) < variables F
      by true = shaped.column_below k l
      by false = shaped.row_below k l

  module _ (s : List ℕ) (i old new : ℕ) where
    -- ---- one entry

    abbrev turned_row : List Float → ℕ → Row
    turned_row b k = turned (row_on b (variables F) (other_end F.rows F.cols i k)) (coeff_of F k) old new

    pub turn_at_long : (b : List Float) (k : ℕ) → length (turn_at F s i old new b k) ≡ length b
    unfolding turn_at
    turn_at_long b k = by (meets F.rows F.cols i k && is_free s (other_end F.rows F.cols i k))
      where
        by : (x : Bool) → length (cond x (put_row b (variables F) (other_end F.rows F.cols i k) (turned_row b k)) b) ≡ length b
        by true = length_put b (variables F) (other_end F.rows F.cols i k) (turned_row b k)
        by false = refl

    turn_at_other : (b : List Float) (k : ℕ) → k < entries F → variables F + variables F ≤ length b → (t : ℕ) → t < variables F
        → (meets F.rows F.cols i k ≡ true → is_free s (other_end F.rows F.cols i k) ≡ true → t ≢ other_end F.rows F.cols i k)
        → row_on (turn_at F s i old new b k) (variables F) t ≡ row_on b (variables F) t
    unfolding turn_at
    turn_at_other b k l room t below apart = by (meets F.rows F.cols i k) (is_free s (other_end F.rows F.cols i k)) refl refl
      where
        by : (x y : Bool) → meets F.rows F.cols i k ≡ x → is_free s (other_end F.rows F.cols i k) ≡ y
            → row_on (cond (x && y) (put_row b (variables F) (other_end F.rows F.cols i k) (turned_row b k)) b) (variables F) t ≡ row_on b (variables F) t
        by true true p q = row_other b (variables F) (other_end F.rows F.cols i k) (turned_row b k) (other_below i k l) room t below (apart p q)
        by true false p q = refl
        by false y p q = refl

    -- ---- all of them

    pub turn_to_long : (b : List Float) (k : ℕ) → length (turn_to F s i old new b k) ≡ length b
    unfolding turn_to
    turn_to_long b zero = refl
    turn_to_long b (suc k) = turn_at_long (turn_to F s i old new b k) k ∙ turn_to_long b k

    turn_to_other : (b : List Float) → variables F + variables F ≤ length b → (t : ℕ) → t < variables F
        → ((k : ℕ) → k < entries F → meets F.rows F.cols i k ≡ true → is_free s (other_end F.rows F.cols i k) ≡ true → t ≢ other_end F.rows F.cols i k)
        → (k : ℕ) → k ≤ entries F → row_on (turn_to F s i old new b k) (variables F) t ≡ row_on b (variables F) t
    unfolding turn_to
    turn_to_other b room t below apart zero l = refl
    turn_to_other b room t below apart (suc k) l =
        turn_at_other (turn_to F s i old new b k) k (omega arith) (omega (arith, turn_to_long b k)) t below (apart k (omega arith))
        ∙ turn_to_other b room t below apart k (omega arith)

    module _ (b : List Float) (room : variables F + variables F ≤ length b) (t : ℕ) (below : t < variables F) where
      -- a row whose variable has a value stays
      pub turn_fixed : get_or s t 0 ≢ 2 → (k : ℕ) → k ≤ entries F → row_on (turn_to F s i old new b k) (variables F) t ≡ row_on b (variables F) t
      turn_fixed n = turn_to_other b room t below (λ k l m f e. n (ap (λ (j : ℕ). get_or s j 0) e ∙ eqb-true _ _ f))

      -- so does one that no entry joins to i
      pub turn_apart : Apart F i t → (k : ℕ) → k ≤ entries F → row_on (turn_to F s i old new b k) (variables F) t ≡ row_on b (variables F) t
      unfolding other_end
      turn_apart a =
          turn_to_other b room t below (λ k l m f e. ⊎_elim
          (λ z. (a k l).0 z.0 (z.1 ∙ sym e))
          (λ z. (a k l).1 z.0 (z.1 ∙ sym e))
          (joins_other (row_end F k) (column_end F k) i m))

  -- ---- a record in which i takes the value v: the values of others stay, and the rows of those that have a value or that no entry joins to i
  module _ (K : Kept) (i v : ℕ) (below : i < variables F) (long : length K.bounds ≡ variables F + variables F) where
    pub changed_values : (changed F i v K).values ≡ set K.values i v
    unfolding changed
    changed_values = refl

    pub changed_long : length (changed F i v K).bounds ≡ length K.bounds
    unfolding changed
    changed_long = let s = set K.values i v in
        length_put (turn_to F s i (get_or K.values i 0) v K.bounds (entries F)) (variables F) i (afresh F s i)
        ∙ turn_to_long s i (get_or K.values i 0) v K.bounds (entries F)

    module _ (t : ℕ) (within : t < variables F) (other : t ≢ i) where
      passed : {b : List Float} → b ≡ turn_to F (set K.values i v) i (get_or K.values i 0) v K.bounds (entries F) → (r : Row)
          → row_on b (variables F) t ≡ row_on K.bounds (variables F) t → row_on (put_row b (variables F) i r) (variables F) t ≡ row_on K.bounds (variables F) t
      passed {b} e r h =
          let l : length b ≡ length K.bounds = ap length e ∙ turn_to_long (set K.values i v) i (get_or K.values i 0) v K.bounds (entries F) in
          row_other b (variables F) i r below (omega arith) t within other ∙ h

      pub fixed_stays : get_or K.values t 0 ≢ 2 → row_on (changed F i v K).bounds (variables F) t ≡ row_on K.bounds (variables F) t
      unfolding changed
      fixed_stays n = passed refl _
          (turn_fixed (set K.values i v) i (get_or K.values i 0) v K.bounds (omega arith) t within (λ e. n (sym (get_or-set_other K.values i t v 0 other) ∙ e)) (entries F) (omega arith))

      pub apart_stays : Apart F i t → row_on (changed F i v K).bounds (variables F) t ≡ row_on K.bounds (variables F) t
      unfolding changed
      apart_stays a = passed refl _ (turn_apart (set K.values i v) i (get_or K.values i 0) v K.bounds (omega arith) t within a (entries F) (omega arith))
