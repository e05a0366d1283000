-- What the calls on a record answer has room in the number, and is what a caller reads from it. Assumes nothing.
use Prim.Native.Nat.{ℕ, ◌≤◌, ◌<◌}
use mathlib.Core.Path.{◌≡◌}
use mathlib.Core.List.{List, []}
use native.Mathlib.Omega.{arith}
use lib.ListN.{length}
use lib.Ieee.{Float}
use Rattle.field.specs.declared.Counted.{Counted}
use Rattle.field.specs.declared.Refusal.TheVariants.{Start, Argument, Scratch}
use Rattle.field.specs.Answers.{answer_number, Answer}
use Rattle.field.specs.Field.{Field, variables, StartFor}
use Rattle.field.specs.Faults.{Near}
use Rattle.field.proofs.Faults.{near_none, near_test, near_group, standard_near}
use Rattle.calls.specs.Call as any
use Rattle.calls.proofs.Usual.{answer_has}
use Rattle.rows.specs.Stored.{rows_on}
use Rattle.run.specs.Run.{flat_rows}
use Rattle.run.proofs.Theorems.{propagate_room}
use Rattle.run.proofs.FlatRows.{flat_few}
use Rattle.kept.specs.Kept.{Kept}
use Rattle.kept.specs.Calls.{record_tests, lent_tests, pin_tests, release_tests, left, make_call, pin_call, release_call, run_from, closed, close_call}
use Rattle.kept.proofs.Tests.{lent_passes}
use Rattle.packing.specs.Layout.{Reads, packed_checked, checked_count, packed_answer, answer_count, packed_counted, count_of}
use Rattle.packing.proofs.Reading.{checked_reads, answer_reads, counted_reads}
use Rattle.ombradiec.specs.Exported.{Exported}
use Rattle.ombradiec.specs.Reading.{AnswerRead, CountRead}
use Rattle.ombradiec.proofs.Answered.{answer_from}
use Rattle.ombradiec.proofs.Theorems.{number_from}
use Rattle.field.specs.declared.Grade.{Grade}
use Rattle.std.specs.Prelude.{Err}

-- ---- the tests

record_near : (F : Field) (s : List ℕ) (bounds : ℕ) → Near (record_tests F s bounds)
unfolding record_tests
record_near F s bounds = near_group _ _ (standard_near F s) (near_test Start _ _ (omega arith) near_none)

lent_near : (F : Field) (s : List ℕ) (bounds floats words : ℕ) → Near (lent_tests F s bounds floats words)
unfolding lent_tests
lent_near F s bounds floats words = near_group _ _ (record_near F s bounds) (near_test Scratch _ _ (omega arith) (near_test Scratch _ _ (omega arith) near_none))

pin_near : (F : Field) (s : List ℕ) (bounds i v : ℕ) → Near (pin_tests F s bounds i v)
unfolding pin_tests
pin_near F s bounds i v = near_group _ _ (record_near F s bounds) (near_test Argument _ _ (omega arith) near_none)

release_near : (F : Field) (s : List ℕ) (bounds i : ℕ) → Near (release_tests F s bounds i)
unfolding release_tests
release_near F s bounds i = near_group _ _ (record_near F s bounds) (near_test Argument _ _ (omega arith) near_none)

-- ---- make

module _ (F : Field) (s : List ℕ) (b : List Float) (n : ℕ) (f : List Float) (u : List ℕ) where
  keep_fits : answer_count (make_call F s b n f u).answer < 0x1000_0000
  unfolding make_call
  keep_fits =
      answer_has Err _ (lent_tests F s (length b) (length f) (length u)) _ _ (λ a. answer_count a < 0x1000_0000)
      (λ r e. omega (arith, lent_near F s (length b) (length f) (length u) r e)) (omega arith, tt) (λ e. omega arith)

  -- Theorem. The position that a refusal of `make` names has room in its number.
  pub keep_few : {a : Answer Grade} {b' : List Float} {n' : ℕ} {f' : List Float} {u' : List ℕ} → left a b' n' f' u' ≡ make_call F s b n f u → answer_count a < 0x1000_0000
  keep_few e = rw (answer_from e) keep_fits

  -- Theorem. What is read from the number of `make` is the refusal and the grade of its model.
  pub keep_reads : {b' : List Float} {n' : ℕ} {f' : List Float} {u' : List ℕ} {r : ℕ} → Exported packed_answer (λ a. left a b' n' f' u') r (make_call F s b n f u)
      → AnswerRead (make_call F s b n f u).answer r
  keep_reads e = rw (number_from e) (answer_reads _ keep_fits)

-- ---- pin and release

module _ (F : Field) (K : Kept) (i : ℕ) where
  module _ (v : ℕ) where
    pin_fits : checked_count (pin_call F K i v).answer < 0x1000_0000
    unfolding pin_call
    pin_fits =
        answer_has Err K (pin_tests F K.values (length K.bounds) i v) [] _ (λ a. checked_count a < 0x1000_0000)
        (λ r e. omega (arith, pin_near F K.values (length K.bounds) i v r e)) tt (λ e. omega arith)

    -- Theorem. The position that a refusal of `pin` names has room in its number.
    pub pin_few : {a : Answer Unit} {K' : Kept} → any.left a K' ≡ pin_call F K i v → checked_count a < 0x1000_0000
    pin_few e = rw (answer_from e) pin_fits

    -- Theorem. What is read from the number of `pin` is the refusal of its model.
    pub pin_reads : {K' : Kept} {r : ℕ} → Exported packed_checked (λ a. any.left a K') r (pin_call F K i v)
        → let a = (pin_call F K i v).answer in Reads r (answer_number a) 0 (checked_count a) 0
    pin_reads e = rw (number_from e) (checked_reads _ pin_fits)

  release_fits : checked_count (release_call F K i).answer < 0x1000_0000
  unfolding release_call
  release_fits =
      answer_has Err K (release_tests F K.values (length K.bounds) i) [] _ (λ a. checked_count a < 0x1000_0000)
      (λ r e. omega (arith, release_near F K.values (length K.bounds) i r e)) tt (λ e. omega arith)

  -- Theorem. The position that a refusal of `release` names has room in its number.
  pub release_few : {a : Answer Unit} {K' : Kept} → any.left a K' ≡ release_call F K i → checked_count a < 0x1000_0000
  release_few e = rw (answer_from e) release_fits

  -- Theorem. What is read from the number of `release` is the refusal of its model.
  pub release_reads : {K' : Kept} {r : ℕ} → Exported packed_checked (λ a. any.left a K') r (release_call F K i)
      → let a = (release_call F K i).answer in Reads r (answer_number a) 0 (checked_count a) 0
  release_reads e = rw (number_from e) (checked_reads _ release_fits)

-- ---- close: at most n

flat_within : (F : Field) {s : List ℕ} → StartFor (variables F) s → (b : List Float) → flat_rows (run_from F s b) ≤ variables F
unfolding run_from
flat_within F {s} start b = omega (arith, flat_few (run_from F s b).values (run_from F s b).rows (length (run_from F s b).values), (propagate_room F start (rows_on b (variables F))).valid.long)

module _ (F : Field) (s : List ℕ) (b : List Float) (l : List ℕ) (f : List Float) (u : List ℕ) where
  close_fits : count_of (close_call F s b l f u).answer < 0x1000_0000
  unfolding close_call
  close_fits =
      answer_has Err _ (lent_tests F s (length b) (length f) (length u)) _ _ (λ a. count_of a < 0x1000_0000)
      (λ r e. omega (arith, lent_near F s (length b) (length f) (length u) r e)) (omega arith, tt) (λ e.
      let sound = ((lent_passes F s (length b) (length f) (length u)).0 e).ready.sound in
      omega (arith, sound.shaped.few_variables, flat_within F sound.start b))

  -- Theorem. The count of flat rows that `close` answers, at most n, has room in its number.
  pub close_few : {a : Answer Counted} {l' : List ℕ} {f' : List Float} {u' : List ℕ} → closed a l' f' u' ≡ close_call F s b l f u → count_of a < 0x1000_0000
  close_few e = rw (answer_from e) close_fits

  -- Theorem. What is read from the number of `close` is the refusal, the grade and the count of its model.
  pub close_reads : {l' : List ℕ} {f' : List Float} {u' : List ℕ} {r : ℕ} → Exported packed_counted (λ a. closed a l' f' u') r (close_call F s b l f u)
      → CountRead (close_call F s b l f u).answer r
  close_reads e = rw (number_from e) (counted_reads _ close_fits)
