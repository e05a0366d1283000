-- THE EQUATION: on an exact field, a record made and then changed is the record made with the value set. Assumes nothing.
use Prim.Native.Nat.{ℕ, zero, suc, ◌+◌, ◌^◌, ◌<◌, ◌≤◌}
use mathlib.Core.Path.{◌≡◌, refl, sym, ap, ◌∙◌}
use mathlib.Core.Logic.{◌≢◌}
use mathlib.Core.Bool.{Bool, true, false, cond, ◌&&◌}
use mathlib.Core.List.{List}
use native.Mathlib.Decide.{ℕ_discrete}
use native.Mathlib.Nat.{le_refl}
use native.Mathlib.Omega.{arith}
use borrow.Author.Tests.{ne_eqb, eqb-true, eqb-false}
use lib.ListN.{length, get_or, set, drop_of_length-le}
use lib.Seq.{get_or-set_same, get_or-set_other}
use lib.Ieee.{Float}
use Rattle.whole.specs.Whole.{Whole, min0, max0, ◌≈◌, Under}
use Rattle.weights.specs.Worth.{zero64}
use Rattle.meaning.specs.Free.{is_free}
use Rattle.meaning.specs.Gradient.{View, view, see, gradient}
use Rattle.meaning.proofs.Values.{inside}
use Rattle.meaning.proofs.Views.{caught_up, see_here, see_variable, see_entry, see_apart}
use Rattle.field.specs.Field.{Field, variables, entries, row_end, column_end, Shaped, StartFor}
use Rattle.field.specs.Grade.{ExactIn}
use Rattle.field.specs.Reading.{whole_of}
use Rattle.rows.specs.declared.Row.{Row}
use Rattle.rows.specs.Row.{start_row, add_term, remove_term}
use Rattle.rows.specs.Model.{coeff_of, row_of}
use Rattle.rows.specs.Stored.{row_on, put_row}
use Rattle.rows.specs.Counted.{RowWorth}
use Rattle.rows.proofs.Stored.{length_put, row_same, row_other}
use Rattle.rows.proofs.Terms.{as_row}
use Rattle.rows.proofs.Turned.{turned_worth}
use Rattle.rows.proofs.Counted.{coeff_worth, weight_under, low_under, high_under, row_worth}
use Rattle.places.specs.Places.{other_end}
use Rattle.run.proofs.Sight.{Joins, Parts, joins_other, parts_other, neither}
use Rattle.kept.specs.Kept.{plain, stored_row, afresh, counted, made, meets, turned, turn_at, turn_to, changed}
use Rattle.kept.proofs.Plain.{plain_worth, plain_row}
use Rattle.kept.proofs.Seen.{see_turned}
use Rattle.kept.proofs.Bounds.{made_long, made_row, bounds_are}
use Rattle.kept.proofs.Elsewhere.{start_set, turn_to_long, turn_fixed}

-- ---- what is stored of a row, by the byte of its variable

pub stored_free : {v : ℕ} (r : Row) → v ≡ 2 → stored_row v r ≡ plain r
unfolding stored_row
stored_free r e = rw e refl

pub stored_fixed : {v : ℕ} (r : Row) → v ≢ 2 → stored_row v r ≡ start_row zero64
unfolding stored_row
stored_fixed {v} r n = rw (ne_eqb v 2 n) refl

-- ---- a stored row that is worth two whole numbers

record StoredWorth (u : ℕ) (x : Row) (a b : Whole) : Type 0 where
  from : Row
  is : x ≡ plain from
  worth : RowWorth u from a b

as_stored : {u : ℕ} {x : Row} {a b a' b' : Whole} → StoredWorth u x a b → a ≈ a' → b ≈ b' → StoredWorth u x a' b'
as_stored h p q = record { from = h.from; is = h.is; worth = as_row h.worth p q }

free_below : {n : ℕ} {s : List ℕ} → StartFor n s → (t : ℕ) → get_or s t 0 ≡ 2 → t < n
free_below {s = s} start t e = omega (arith, inside s t e, start.long)

-- where the pass over the entries stands: the first k see the new value of i, the others the old one; and the row of every other free variable is worth what they see
record Turning (u : ℕ) (F : Field) (s : List ℕ) (i old new : ℕ) (b : List Float) (k : ℕ) : Type 0 where
  seen : View
  others : (k' j : ℕ) → j ≢ i → seen k' j ≡ get_or s j 0
  done : (k' : ℕ) → k' < k → seen k' i ≡ new
  left : (k' : ℕ) → k ≤ k' → seen k' i ≡ old
  long : length b ≡ variables F + variables F
  rows : (t : ℕ) → t ≢ i → get_or s t 0 ≡ 2 → StoredWorth u (row_on b (variables F) t) (gradient min0 (whole_of u F) seen t) (gradient max0 (whole_of u F) seen t)

module _ {u : ℕ} {F : Field} (shaped : Shaped F) (exact : ExactIn u F) where
  near_low : (w : View) (t : ℕ) → t < variables F → Under (2 ^ 49) (gradient min0 (whole_of u F) w t)
  near_low w t l = low_under exact shaped t l w (entries F) (le_refl _)

  near_high : (w : View) (t : ℕ) → t < variables F → Under (2 ^ 49) (gradient max0 (whole_of u F) w t)
  near_high w t l = high_under exact shaped t l w (entries F) (le_refl _)

  module _ {s : List ℕ} (start : StartFor (variables F) s) {i old new : ℕ} (small-old : old ≤ 2) (small-new : new ≤ 2) where
    -- ---- one entry

    module _ {b : List Float} {k : ℕ} (T : Turning u F s i old new b k) (l : k < entries F) where
      abbrev sees : View
      sees = see T.seen k i new

      -- with new bounds, in which each row is worth what is seen now
      turned_to : (b' : List Float) → length b' ≡ length b
          → ((t : ℕ) → t ≢ i → get_or s t 0 ≡ 2 → StoredWorth u (row_on b' (variables F) t) (gradient min0 (whole_of u F) sees t) (gradient max0 (whole_of u F) sees t))
          → Turning u F s i old new b' (suc k)
      turned_to b' same rows = record {
        seen = sees;
        others = λ k' j n. see_variable T.seen k i new k' j n ∙ T.others k' j n;
        done = λ k' x. elim (ℕ_discrete k' k) [
          | yes e ↦ rw e (see_here T.seen k i new)
          | no n ↦ see_entry T.seen k i new k' i n ∙ T.done k' (omega arith)
        ];
        left = λ k' x. see_entry T.seen k i new k' i (λ e. omega arith) ∙ T.left k' (omega arith);
        long = same ∙ T.long;
        rows = rows;
      }

      stays : (t : ℕ) → t ≢ i → get_or s t 0 ≡ 2 → Parts (whole_of u F) k i t
          → StoredWorth u (row_on b (variables F) t) (gradient min0 (whole_of u F) sees t) (gradient max0 (whole_of u F) sees t)
      stays t n f p =
          as_stored (T.rows t n f)
          (omega (arith, see_apart (whole_of u F) T.seen k i new min0 t l p.0 p.1))
          (omega (arith, see_apart (whole_of u F) T.seen k i new max0 t l p.0 p.1))

      -- the row at the other end
      module _ (t : ℕ) (o : Joins (whole_of u F) k i t) (n : t ≢ i) (free : get_or s t 0 ≡ 2) where
        row_now : RowWorth u (row_on b (variables F) t) (gradient min0 (whole_of u F) T.seen t) (gradient max0 (whole_of u F) T.seen t)
        row_now = let h = T.rows t n free in
            let x = near_low T.seen t (free_below start t free) in
            let y = near_high T.seen t (free_below start t free) in
            rw h.is (plain_worth h.worth (omega arith) (omega arith))

        turns : StoredWorth u (turned (row_on b (variables F) t) (coeff_of F k) old new) (gradient min0 (whole_of u F) sees t) (gradient max0 (whole_of u F) sees t)
        turns = record {
          from = add_term (remove_term (row_on b (variables F) t) (coeff_of F k) old) (coeff_of F k) new;
          is = refl;
          worth =
              as_row
              (turned_worth row_now (near_low T.seen t (free_below start t free)) (near_high T.seen t (free_below start t free)) (coeff_worth exact k l) (weight_under exact k l) old new small-old small-new)
              (omega (arith, see_turned (whole_of u F) T.seen k i min0 t l (exact.standard k l) o old new (T.left k (le_refl _))))
              (omega (arith, see_turned (whole_of u F) T.seen k i max0 t l (exact.standard k l) o old new (T.left k (le_refl _))));
        }

      turn_entry : Turning u F s i old new (turn_at F s i old new b k) (suc k)
      unfolding turn_at other_end
      turn_entry = by (meets F.rows F.cols i k) (is_free s t₀) refl refl
        where
          t₀ : ℕ
          t₀ = other_end F.rows F.cols i k

          b₁ : List Float
          b₁ = put_row b (variables F) t₀ (turned (row_on b (variables F) t₀) (coeff_of F k) old new)

          by : (x y : Bool) → meets F.rows F.cols i k ≡ x → is_free s t₀ ≡ y → Turning u F s i old new (cond (x && y) b₁ b) (suc k)
          by false y p q =
              let z = neither (row_end F k) (column_end F k) i p in
              turned_to b refl (λ t n f. stays t n f ((λ _. z.1), λ _. z.0))
          by true false p q =
              let o : Joins (whole_of u F) k i t₀ = joins_other (row_end F k) (column_end F k) i p in
              turned_to b refl (λ t n f. stays t n f (parts_other (whole_of u F) k i t₀ t (exact.standard k l) o (λ e. eqb-false _ _ q (ap (λ (j : ℕ). get_or s j 0) (sym e) ∙ f))))
          by true true p q =
              let o : Joins (whole_of u F) k i t₀ = joins_other (row_end F k) (column_end F k) i p in
              let free : get_or s t₀ 0 ≡ 2 = eqb-true _ _ q in
              let r = turned (row_on b (variables F) t₀) (coeff_of F k) old new in
              turned_to b₁ (length_put b (variables F) t₀ r) (λ t n f. elim (ℕ_discrete t t₀) [
                | yes e ↦ rw (e, row_same b (variables F) t₀ r (free_below start t₀ free) (omega (arith, T.long))) (turns t₀ o (λ z. n (e ∙ z)) free)
                | no d ↦ rw (row_other b (variables F) t₀ r (free_below start t₀ free) (omega (arith, T.long)) t (free_below start t f) d)
                    (stays t n f (parts_other (whole_of u F) k i t₀ t (exact.standard k l) o d))
              ])

    turn_entries : {b : List Float} → Turning u F s i old new b 0 → (k : ℕ) → k ≤ entries F → Turning u F s i old new (turn_to F s i old new b k) k
    unfolding turn_to
    turn_entries T zero l = T
    turn_entries T (suc k) l = turn_entry (turn_entries T k (omega arith)) (omega arith)

    -- at the end every entry sees the values
    turned_end : {b : List Float} → Turning u F s i old new b (entries F) → get_or s i 0 ≡ new → (t : ℕ) → t ≢ i → get_or s t 0 ≡ 2 → row_on b (variables F) t ≡ plain (row_of F s t)
    turned_end T e t n f =
        let h = T.rows t n f in
        let l = free_below start t f in
        let x = near_low T.seen t l in
        let y = near_high T.seen t l in
        h.is ∙ plain_row h.worth (omega arith) (omega arith) (as_row (row_worth exact shaped t l start) (omega (arith, up min0)) (omega (arith, up max0)))
      where
        sight : (k j : ℕ) → k < entries F → T.seen k j ≡ get_or s j 0
        sight k j z = elim (ℕ_discrete j i) [
          | yes p ↦ rw p (T.done k z ∙ sym e)
          | no p ↦ T.others k j p
        ]

        up : (free : Whole → Whole) → gradient free (whole_of u F) T.seen t ≈ gradient free (whole_of u F) (view s) t
        up free = caught_up T.seen s (whole_of u F) sight free t

  -- ---- a record that was made

  module _ {s : List ℕ} (start : StartFor (variables F) s) (i v : ℕ) (within : i < variables F) (small : v ≤ 2) where
    abbrev s' : List ℕ
    s' = set s i v

    start' : StartFor (variables F) s'
    start' = start_set start i v within small

    own : get_or s' i 0 ≡ v
    own = get_or-set_same s i v 0 (omega (arith, start.long))

    other : (t : ℕ) → t ≢ i → get_or s' t 0 ≡ get_or s t 0
    other t n = get_or-set_other s i t v 0 n

    turn_start : Turning u F s' i (get_or s i 0) v (made F s).bounds 0
    turn_start = record {
      seen = view s;
      others = λ k j n. sym (other j n);
      done = λ k z. absurd (omega arith);
      left = λ k z. refl;
      long = made_long F s;
      rows = λ t n f.
          let free : get_or s t 0 ≡ 2 = sym (other t n) ∙ f in
          let l : t < variables F = omega (arith, inside s t free, start.long) in
          record { from = row_of F s t; is = made_row F s t l ∙ stored_free (row_of F s t) free; worth = row_worth exact shaped t l start };
    }

    abbrev passed : List Float
    passed = turn_to F s' i (get_or s i 0) v (made F s).bounds (entries F)

    passed_long : length passed ≡ variables F + variables F
    passed_long = turn_to_long shaped s' i (get_or s i 0) v (made F s).bounds (entries F) ∙ made_long F s

    passed_row : (t : ℕ) → t < variables F → t ≢ i → row_on passed (variables F) t ≡ afresh F s' t
    passed_row t l n = elim (ℕ_discrete (get_or s' t 0) 2) [
      | yes f ↦ turned_end start' (start.small i) small (turn_entries start' (start.small i) small turn_start (entries F) (le_refl _)) own t n f ∙ sym (stored_free (row_of F s' t) f)
      | no d ↦
          turn_fixed shaped s' i (get_or s i 0) v (made F s).bounds (omega (arith, made_long F s)) t l d (entries F) (le_refl _)
          ∙ made_row F s t l ∙ stored_fixed (row_of F s t) (λ e. d (other t n ∙ e)) ∙ sym (stored_fixed (row_of F s' t) d)
    ]

    pub changed_made : changed F i v (made F s) ≡ made F s'
    unfolding changed made
    changed_made = ap (counted s') (bounds_are (afresh F s') (variables F) passed_long (record {
      long = length_put passed (variables F) i (afresh F s' i);
      rows = λ t l. elim (ℕ_discrete t i) [
        | yes e ↦ rw e (row_same passed (variables F) i (afresh F s' i) within (omega (arith, passed_long)))
        | no n ↦ row_other passed (variables F) i (afresh F s' i) within (omega (arith, passed_long)) t l n ∙ passed_row t l n
      ];
      rest = drop_of_length-le (put_row passed (variables F) i (afresh F s' i)) {i = variables F + variables F} (omega (arith, length_put passed (variables F) i (afresh F s' i), passed_long))
          ∙ sym (drop_of_length-le passed {i = variables F + variables F} (omega (arith, passed_long)));
    }))
