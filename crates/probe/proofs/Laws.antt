-- Loops that write one value a turn; from the tests to the answer. Assumes nothing.
use Prim.Native.Nat.{ℕ, ◌+◌, ◌<◌, ◌≤◌}
use mathlib.Core.Path.{◌≡◌, refl, sym, ◌∙◌}
use mathlib.Core.Logic.{◌≢◌, ◌↔◌}
use mathlib.Core.Bool.{true}
use mathlib.Core.List.{List}
use native.Mathlib.Omega.{arith}
use borrow.Author.Count.{below_more}
use borrow.Author.Tests.{eq-eqb, ne_eqb}
use lib.ListN.{length, get_or, set, length-set, replicate}
use lib.Seq.{get_or-set_same, get_or-set_other, ext_get_or}
use lib.Ieee.{Float}
use Rattle.weights.specs.Worth.{zero64}
use Rattle.scratch.proofs.Means.{lt_is, le_is, eq_is, both_is}
use Rattle.field.specs.declared.Grade.{Grade}
use Rattle.field.specs.declared.Refusal.{Refusal}
use Rattle.field.specs.declared.Refusal.TheVariants.{Argument, Scratch, Room}
use Rattle.field.specs.Field.{Field, variables, entries}
use Rattle.field.specs.Table.{tested}
use Rattle.field.specs.Tests.{shape_tests, standard_tests}
use Rattle.field.specs.Grade.{grade_of}
use Rattle.field.proofs.Table.{pass_is, last_is, group_is}
use Rattle.field.proofs.Means.{standard_passes, floats_mean, words_mean}
use Rattle.field.proofs.Faults.{fault_other}
use Rattle.calls.specs.Call.{without}
use Rattle.calls.proofs.Usual as usual
use Rattle.rows.specs.Stored.{up_to}
use Rattle.rows.proofs.Upto.{length_up_to, get_d_up_to}
use Rattle.probe.specs.Call.{may_probe, probe_tests, Probable, probe_one, left, probe_one_call, probe_one_by}
use Rattle.std.specs.Prelude.{Ok, Err}
use Rattle.field.specs.Answers.{passed}

-- ---- one value a turn

-- of a list s₀ the first i elements have become g 0, g 1 and so on
pub record WrittenTo (g : ℕ → ℕ) (s₀ s : List ℕ) (i : ℕ) : Type 0 where
  pub within : i ≤ length s₀
  pub long : length s ≡ length s₀
  pub so_far : (j : ℕ) → j < i → get_or s j 0 ≡ g j
  pub rest : (j : ℕ) → i ≤ j → get_or s j 0 ≡ get_or s₀ j 0

module _ (g : ℕ → ℕ) (s₀ : List ℕ) where
  pub write_start : WrittenTo g s₀ s₀ 0
  write_start = record { within = omega arith; long = refl; so_far = λ j h. absurd (omega arith); rest = λ j h. refl }

  pub write_turn : {s : List ℕ} {i x : ℕ} → WrittenTo g s₀ s i → i < length s₀ → x ≡ g i → WrittenTo g s₀ (set s i x) (i + 1)
  write_turn {s} {i} {x} now h e = record {
    within = omega arith;
    long = length-set s i x ∙ now.long;
    so_far = below_more (λ j. get_or (set s i x) j 0 ≡ g j) i
        (λ j l. get_or-set_other s i j x 0 (λ z. omega arith) ∙ now.so_far j l)
        (get_or-set_same s i x 0 (omega (arith, now.long)) ∙ e);
    rest = λ j l. get_or-set_other s i j x 0 (λ z. omega arith) ∙ now.rest j (omega arith);
  }

  pub write_done : {s : List ℕ} {i : ℕ} → WrittenTo g s₀ s i → length s₀ ≤ i → s ≡ up_to g (length s₀)
  write_done {s} {i} now h =
      ext_get_or 0 s (up_to g (length s₀)) (now.long ∙ sym (length_up_to g (length s₀))) (λ j l.
      now.so_far j (omega (arith, now.long)) ∙ sym (get_d_up_to g (length s₀) j 0 (omega (arith, now.long))))

-- the list of a list's own elements
pub up_to_own : (s : List ℕ) → up_to (λ j. get_or s j 0) (length s) ≡ s
up_to_own s = ext_get_or 0 _ s (length_up_to _ (length s)) (λ j l. get_d_up_to (λ j. get_or s j 0) (length s) j 0 (omega (arith, length_up_to (λ j. get_or s j 0) (length s))))

-- ---- the start values with one value added

pub set_same : {s t : List ℕ} (i v : ℕ) → t ≡ s → set t i v ≡ set s i v
set_same i v e = rw e

-- ---- the tests

-- Theorem. 7 is not given exactly if the variable is below n and free, and the value is 0 or 1.
pub may_mean : (n : ℕ) (s : List ℕ) (i v : ℕ) → (may_probe n s i v ≡ true) ↔ ((i < n) × ((get_or s i 0 ≡ 2) × (v ≤ 1)))
unfolding may_probe
may_mean n s i v = both_is _ _ (lt_is i n) (both_is _ _ (eq_is _ 2) (le_is v 1))

pub probe_passes : (F : Field) (s : List ℕ) (i v floats words : ℕ) → (tested (probe_tests F s i v floats words) ≡ passed) ↔ Probable F s i v floats words
unfolding probe_tests
probe_passes F s i v floats words =
    let t = group_is (standard_tests F s) _ (standard_passes F s)
    (pass_is Argument _ _ (may_mean (variables F) s i v)
    (pass_is Scratch _ _ (floats_mean (variables F) (entries F) floats) (last_is Scratch _ (words_mean (variables F) (entries F) words)))) in (
      (λ e.
          let p = t.0 e in
          record { ready = record { sound = p.0; floats_room = p.1.1.0; words_room = p.1.1.1 }; below = p.1.0.0; free = p.1.0.1.0; small = p.1.0.1.1 }),
      λ h. t.1 (h.ready.sound, ((h.below, (h.free, h.small)), (h.ready.floats_room, h.ready.words_room))),
    )

-- none of 1 to 8 gives 9
pub never_room : (F : Field) (s : List ℕ) (i v floats words : ℕ) → without Room (probe_tests F s i v floats words) ≡ true
unfolding without probe_tests standard_tests shape_tests
never_room F s i v floats words = rw (fault_other (variables F) F.rows F.cols 9 (omega arith)) refl

-- ---- the answer

module _ (F : Field) (s : List ℕ) (i v : ℕ) (t : List ℕ) (f : List Float) (u : List ℕ) where
  pub refused_call : {r : Refusal} → tested (probe_tests F s i v (length f) (length u)) ≡ Err r → left (Err r) t f u ≡ probe_one_call F s i v t f u
  unfolding probe_one_by
  refused_call e = usual.refused_call Err _ _ _ _ e

  module _ {t' : List ℕ} {f' : List Float} {u' : List ℕ} (k l : ℕ) (e : tested (probe_tests F s i v (length f) (length u)) ≡ passed)
      (ef : f' ≡ replicate k zero64) (lf : k ≡ length f) (eu : u' ≡ replicate l 0) (lu : l ≡ length u) where
    pub room_call : length t ≢ variables F → t' ≡ replicate (length t) 0 → left (Err Room) t' f' u' ≡ probe_one_call F s i v t f u
    unfolding probe_one_by
    room_call n et = rw (et, ef, lf, eu, lu) (usual.last_refuses Err _ _ Room _ _ e (ne_eqb _ _ n))

    pub done_call : {g : Grade} → length t ≡ variables F → g ≡ grade_of F → t' ≡ probe_one F s i v → left (Ok g) t' f' u' ≡ probe_one_call F s i v t f u
    unfolding probe_one_by
    done_call n eg et = rw (eg, et, ef, lf, eu, lu) (usual.last_passes Err _ _ Room _ _ e (eq-eqb _ _ n))
