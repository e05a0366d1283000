-- What the tests of propagation mean: all pass exactly if the start values, the list and the scratch are as the table asks. Assumes nothing.
use Prim.Native.Nat.{ℕ, ◌+◌, ◌*◌, ◌%◌, ◌≤◌}
use mathlib.Core.Path.{◌≡◌, refl}
use mathlib.Core.Logic.{◌↔◌}
use mathlib.Core.Bool.{true}
use mathlib.Core.List.{List}
use native.Mathlib.Nat.{div-add-mod'}
use native.Mathlib.Omega.{arith}
use native.Mathlib.Decide.{dec_lt}
use lib.Dec.{leb}
use lib.ListN.{length, get_or, get_or-eq_default}
use Rattle.scratch.proofs.Means.{lt_is, le_is, eq_is, both_is, every_is}
use Rattle.field.specs.declared.Refusal.TheVariants.{Variables, Start, Argument, Scratch}
use Rattle.field.specs.Table.{tested}
use Rattle.field.specs.Tests.{bytes_small, few_variables, start_fits, words_fit}
use Rattle.field.proofs.Table.{last_is, pass_is}
use Rattle.meaning.specs.Records.{Record}
use Rattle.constraints.specs.Record.{room, record_at, Fit}
use Rattle.literals.specs.Listed.{Listed, Ready}
use Rattle.propagation.specs.Tests.{fits, all_fit, constraints_fit, propagation_tests}
use Rattle.field.specs.Answers.{passed}

-- Theorem. A record passes the test exactly if its set is 1 to 15, and its ends rise and are below n.
pub fits_is : (n : ℕ) (x : Record) → (fits n x ≡ true) ↔ Fit n x
fits_is n x =
    let t = both_is _ _ (lt_is 0 x.set) (both_is _ _ (lt_is x.set 16) (both_is _ _ (lt_is x.lower x.higher) (lt_is x.higher n))) in (
      λ e. let p = t.0 e in record { proper = record { some = p.0; four = p.1.0 }; rising = p.1.1.0; below = p.1.1.1 },
      λ f. t.1 (f.proper.some, (f.proper.four, (f.rising, f.below))),
    )

-- Theorem. 7 is not given exactly if the list has whole records, not too many, each of which fits.
pub listed_is : (n : ℕ) (list : List ℕ) → (constraints_fit n list ≡ true) ↔ Listed n list
unfolding constraints_fit all_fit
listed_is n list =
    let every = every_is (λ t. fits n (record_at list t)) (λ t. Fit n (record_at list t)) (room list) (λ t. fits_is n (record_at list t)) in
    let t = both_is _ _ (le_is (length list) 196608) (both_is _ _ (eq_is (length list % 3) 0) every) in
    let d = div-add-mod' (length list) 3 in (
      λ e. let p = t.0 e in record { few = p.0; whole = omega (arith, p.1.0); fit = p.1.1 },
      λ l. t.1 (l.few, (omega (arith, l.whole), l.fit)),
    )

-- 6, for start values of any number
small_is : (s : List ℕ) → (start_fits (length s) s ≡ true) ↔ ((i : ℕ) → get_or s i 0 ≤ 2)
unfolding start_fits bytes_small
small_is s =
    let t = both_is _ _ (eq_is (length s) (length s)) (every_is (λ i. leb (get_or s i 0) 2) (λ i. get_or s i 0 ≤ 2) (length s) (λ i. le_is (get_or s i 0) 2)) in (
      λ e i. elim (dec_lt i (length s)) [ yes h ↦ (t.0 e).1 i h | no h ↦ omega (arith, get_or-eq_default s 0 {n = i} (omega arith)) ],
      λ h. t.1 (refl, λ i l. h i),
    )

-- Theorem. 1, 6, 7 and 8 pass exactly if the start values, the records and the scratch are as the table asks.
pub ready_is : (s list : List ℕ) (words : ℕ) → (tested (propagation_tests s list words) ≡ passed) ↔ Ready s list words
unfolding propagation_tests few_variables words_fit
ready_is s list words =
    let eight = last_is Scratch _ (le_is (16 * length s + 8 * room list + 16) words) in
    let t = pass_is Variables _ _ (le_is (length s) 4096) (pass_is Start _ _ (small_is s) (pass_is Argument _ _ (listed_is (length s) list) eight)) in (
      λ e. let p = t.0 e in record { few = p.0; small = p.1.0; listed = p.1.1.0; words_room = p.1.1.1 },
      λ r. t.1 (r.few, (r.small, (r.listed, r.words_room))),
    )
