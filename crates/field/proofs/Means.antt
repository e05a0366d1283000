-- In plain words, what each test of the table means, and what passing a group of them leaves, both ways. Assumes nothing.
use Prim.Native.Nat.{ℕ, zero, suc, ◌+◌, ◌*◌, ◌-◌, ◌<◌, ◌≤◌}
use mathlib.Core.Path.{◌≡◌, ap, ◌∙◌}
use mathlib.Core.Logic.{◌≢◌, ◌↔◌}
use mathlib.Core.Bool.{Bool, true, ◌&&◌}
use mathlib.Core.List.{List, [], ◌∷◌}
use native.Mathlib.Omega.{arith}
use lib.Dec.{T}
use lib.ListN.{length, get_or}
use lib.Ieee.{Float, nan}
use lib.Ieee.Scale.{finite}
use Rattle.scratch.specs.All.{Testing}
use Rattle.scratch.proofs.All.{testing_turn}
use Rattle.scratch.proofs.Means.{lt_is, le_is, eq_is, ne_is, true_is, both_is, either_is, every_is}
use Rattle.field.specs.declared.Refusal.TheVariants.{Variables, Lists, Diagonal, Weights, Start, Scratch}
use Rattle.field.specs.Field.{Field, variables, entries, row_end, column_end, Before, Shaped, StartFor}
use Rattle.field.specs.Table.{tested}
use Rattle.field.specs.Tests.{ends_below, is_before, rises_at, all_rise, all_finite, bytes_small, few_variables, lists_match, in_order, off_diagonal, weights_finite, start_fits, floats_fit, words_fit, shape_tests, loose_tests, open_tests, standard_tests, ready_tests, Loose, Admitted, Sound, Ready}
use Rattle.field.proofs.Table.{pass_is, last_is, group_is}
use Rattle.field.specs.Answers.{passed}

-- ---- each test

-- Theorem. 1 is not given exactly if n is at most 4,096.
pub few_means : (n : ℕ) → (few_variables n ≡ true) ↔ (n ≤ 4096)
unfolding few_variables
few_means n = le_is n 4096

-- Theorem. 2: exactly if the lists are of one length, at most 32,768.
pub lists_mean : (rows cols : List ℕ) (q : List Float)
    → (lists_match rows cols q ≡ true) ↔ ((length rows ≡ length q) × ((length cols ≡ length q) × (length q ≤ 32768)))
unfolding lists_match
lists_mean rows cols q = both_is _ _ (eq_is _ _) (both_is _ _ (eq_is _ _) (le_is _ _))

pub below_means : (n : ℕ) (ends : List ℕ) → (ends_below n ends ≡ true) ↔ ((k : ℕ) → k < length ends → get_or ends k 0 < n)
unfolding ends_below
below_means n ends = every_is _ (λ k. get_or ends k 0 < n) _ (λ k. lt_is _ _)

rise_means : (rows cols : List ℕ)
    → (all_rise rows cols ≡ true) ↔ ((k : ℕ) → k < length rows - 1 → Before (get_or rows k 0) (get_or cols k 0) (get_or rows (k + 1) 0) (get_or cols (k + 1) 0))
unfolding all_rise
rise_means rows cols =
    every_is (rises_at rows cols) (λ k. Before (get_or rows k 0) (get_or cols k 0) (get_or rows (k + 1) 0) (get_or cols (k + 1) 0)) _
    (λ k. either_is _ _ (lt_is _ _) (both_is _ _ (eq_is _ _) (lt_is _ _)))

-- a turn of the loop that tests entry k against the one before, j
pub rise_turn : (rows cols : List ℕ) {rise r : Bool} (j : ℕ) {k : ℕ} → k ≡ j + 1 → Testing (rises_at rows cols) (length rows - 1) j rise → k < length rows
    → r ≡ is_before (get_or rows j 0) (get_or cols j 0) (get_or rows k 0) (get_or cols k 0) → Testing (rises_at rows cols) (length rows - 1) (k + 1 - 1) (rise && r)
rise_turn rows cols {rise} {r} j {k} next now l e =
    let back : k + 1 - 1 ≡ j + 1 = omega (arith, next) in
    let e' : r ≡ rises_at rows cols j = e ∙ ap (λ (i : ℕ). is_before (get_or rows j 0) (get_or cols j 0) (get_or rows i 0) (get_or cols i 0)) next in
    rw back (testing_turn (rises_at rows cols) now (omega (arith, next)) e')

-- Theorem. 14 to 17: none exactly if every row and column is below n, and each entry stands before the next.
pub order_means : (n : ℕ) (rows cols : List ℕ)
    → (in_order n rows cols ≡ true) ↔ (((k : ℕ) → k < length rows → get_or rows k 0 < n) × (((k : ℕ) → k < length cols → get_or cols k 0 < n) × ((k : ℕ) → k < length rows - 1 → Before (get_or rows k 0) (get_or cols k 0) (get_or rows (k + 1) 0) (get_or cols (k + 1) 0))))
unfolding in_order
order_means n rows cols = both_is _ _ (below_means n rows) (both_is _ _ (below_means n cols) (rise_means rows cols))

-- Theorem. 4: exactly if no entry has its row equal to its column.
pub diagonal_means : (rows cols : List ℕ) → (off_diagonal rows cols ≡ true) ↔ ((k : ℕ) → k < length rows → get_or rows k 0 ≢ get_or cols k 0)
unfolding off_diagonal
diagonal_means rows cols = every_is _ (λ k. get_or rows k 0 ≢ get_or cols k 0) _ (λ k. ne_is _ _)

pub all_finite_means : (w : List Float) → (all_finite w ≡ true) ↔ ((k : ℕ) → k < length w → T (finite (get_or w k nan)))
unfolding all_finite
all_finite_means w = every_is _ (λ k. T (finite (get_or w k nan))) _ (λ k. true_is _)

-- Theorem. 5: exactly if every weight is finite.
pub finite_means : (c q : List Float)
    → (weights_finite c q ≡ true) ↔ (((i : ℕ) → i < length c → T (finite (get_or c i nan))) × ((k : ℕ) → k < length q → T (finite (get_or q k nan))))
unfolding weights_finite
finite_means c q = both_is _ _ (all_finite_means c) (all_finite_means q)

bytes_mean : (s : List ℕ) → (bytes_small s ≡ true) ↔ ((i : ℕ) → i < length s → get_or s i 0 ≤ 2)
unfolding bytes_small
bytes_mean s = every_is _ (λ i. get_or s i 0 ≤ 2) _ (λ i. le_is _ _)

-- past its end a list reads 0
everywhere : (s : List ℕ) → ((i : ℕ) → i < length s → get_or s i 0 ≤ 2) → (i : ℕ) → get_or s i 0 ≤ 2
everywhere [] h i = omega arith
everywhere (x ∷ s) h zero = h zero (omega arith)
everywhere (x ∷ s) h (suc i) = everywhere s (λ j l. h (suc j) (omega arith)) i

-- Theorem. 6: exactly if the start values are n bytes, none above 2.
pub start_means : (n : ℕ) (s : List ℕ) → (start_fits n s ≡ true) ↔ StartFor n s
unfolding start_fits
start_means n s =
    let t = both_is _ _ (eq_is (length s) n) (bytes_mean s) in
    ((λ e. record { long = (t.0 e).0; small = everywhere s (t.0 e).1 }), λ h. t.1 (h.long, λ i l. h.small i))

-- Theorem. 8: exactly if the scratch is as long as the table asks.
pub floats_mean : (n m floats : ℕ) → (floats_fit n m floats ≡ true) ↔ (8 * n + 4 * m + 16 ≤ floats)
unfolding floats_fit
floats_mean n m floats = le_is _ _

-- Theorem. 8: exactly if the u32 scratch is as long as the table asks, 16n + 8m + 16.
pub words_mean : (n m words : ℕ) → (words_fit n m words ≡ true) ↔ (16 * n + 8 * m + 16 ≤ words)
unfolding words_fit
words_mean n m words = le_is _ _

-- ---- the groups

-- Theorem. Tests 1, 2 and 14 to 17 pass exactly if the field has its shape.
pub shape_passes : (F : Field) → (tested (shape_tests F) ≡ passed) ↔ Shaped F
unfolding shape_tests
shape_passes F = ((λ e. to (t.0 e)), λ h. t.1 (from h))
  where
    Parts : Type 0
    Parts =
        (variables F ≤ 4096)
        × (((length F.rows ≡ entries F) × ((length F.cols ≡ entries F) × (entries F ≤ 32768)))
        × (((k : ℕ) → k < length F.rows → row_end F k < variables F)
        × (((k : ℕ) → k < length F.cols → column_end F k < variables F)
        × ((k : ℕ) → k < length F.rows - 1 → Before (row_end F k) (column_end F k) (row_end F (k + 1)) (column_end F (k + 1))))))

    t : (tested (shape_tests F) ≡ passed) ↔ Parts
    t = pass_is Variables _ _ (few_means _) (pass_is Lists _ _ (lists_mean _ _ _) (last_is _ _ (order_means _ _ _)))

    to : Parts → Shaped F
    to p = record {
      few_variables = p.0;
      few_entries = p.1.0.1.1;
      rows_long = p.1.0.0;
      cols_long = p.1.0.1.0;
      row_below = λ k l. p.1.1.0 k (omega (arith, p.1.0.0));
      column_below = λ k l. p.1.1.1.0 k (omega (arith, p.1.0.1.0));
      rising = λ k l. p.1.1.1.1 k (omega (arith, p.1.0.0));
    }

    from : Shaped F → Parts
    from h = (
      h.few_variables,
      (
        (h.rows_long, (h.cols_long, h.few_entries)),
        (
          (λ k l. h.row_below k (omega (arith, h.rows_long))),
          ((λ k l. h.column_below k (omega (arith, h.cols_long))), λ k l. h.rising k (omega (arith, h.rows_long))),
        ),
      ),
    )

-- Theorem. These and 5 pass exactly if the field has its shape and every weight is finite.
pub loose_passes : (F : Field) → (tested (loose_tests F) ≡ passed) ↔ Loose F
unfolding loose_tests
loose_passes F =
    let t = group_is (shape_tests F) _ (shape_passes F) (last_is Weights _ (finite_means F.linear F.quad)) in (
      (λ e. let p = t.0 e in record { shaped = p.0; finite_weights = record { linear = p.1.0; quad = p.1.1 } }),
      λ h. t.1 (h.shaped, (h.finite_weights.linear, h.finite_weights.quad)),
    )

-- Theorem. `open_tests` pass exactly if shape, weights, start values and scratch are as asked; a diagonal is allowed.
pub admitted_passes : (F : Field) (s : List ℕ) (floats words : ℕ) → (tested (open_tests F s floats words) ≡ passed) ↔ Admitted F s floats words
unfolding open_tests
admitted_passes F s floats words =
    let t = group_is (loose_tests F) _ (loose_passes F)
    (pass_is Start _ _ (start_means (variables F) s) (pass_is Scratch _ _ (floats_mean (variables F) (entries F) floats) (last_is Scratch _ (words_mean (variables F) (entries F) words)))) in (
      (λ e.
          let p = t.0 e in
          record { shaped = p.0.shaped; finite_weights = p.0.finite_weights; start = p.1.0; floats_room = p.1.1.0; words_room = p.1.1.1 }),
      λ h. t.1 (record { shaped = h.shaped; finite_weights = h.finite_weights }, (h.start, (h.floats_room, h.words_room))),
    )

-- what passing leaves, without the start values and the scratch
pub admitted_loose : {F : Field} {s : List ℕ} {floats words : ℕ} → Admitted F s floats words → Loose F
admitted_loose A = record { shaped = A.shaped; finite_weights = A.finite_weights }

-- Theorem. `standard_tests` pass exactly if the field is in standard form and finite, and the start values fit it.
pub standard_passes : (F : Field) (s : List ℕ) → (tested (standard_tests F s) ≡ passed) ↔ Sound F s
unfolding standard_tests
standard_passes F s =
    let t = group_is (shape_tests F) _ (shape_passes F)
    (pass_is Diagonal _ _ (diagonal_means F.rows F.cols) (pass_is Weights _ _ (finite_means F.linear F.quad) (last_is Start _ (start_means (variables F) s)))) in (
      (λ e.
          let p = t.0 e in
          let long : length F.rows ≡ entries F = p.0.rows_long in
          record {
            shaped = p.0;
            standard = λ k l. p.1.0 k (omega arith);
            finite_weights = record { linear = p.1.1.0.0; quad = p.1.1.0.1 };
            start = p.1.1.1;
          }),
      λ h. t.1 (h.shaped, ((λ k l. h.standard k (omega (arith, h.shaped.rows_long))), ((h.finite_weights.linear, h.finite_weights.quad), h.start))),
    )

-- what passing with start values leaves, without them
pub sound_loose : {F : Field} {s : List ℕ} → Sound F s → Loose F
sound_loose S = record { shaped = S.shaped; finite_weights = S.finite_weights }

-- Theorem. `ready_tests` pass exactly if the field and its start values are sound and both scratches are long enough.
pub ready_passes : (F : Field) (s : List ℕ) (floats words : ℕ) → (tested (ready_tests F s floats words) ≡ passed) ↔ Ready F s floats words
unfolding ready_tests
ready_passes F s floats words =
    let t = group_is (standard_tests F s) _ (standard_passes F s)
    (pass_is Scratch _ _ (floats_mean (variables F) (entries F) floats) (last_is Scratch _ (words_mean (variables F) (entries F) words))) in (
      (λ e. let p = t.0 e in record { sound = p.0; floats_room = p.1.0; words_room = p.1.1 }),
      λ h. t.1 (h.sound, (h.floats_room, h.words_room)),
    )
