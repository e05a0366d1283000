-- From the marks to the variables of no effect, and from the tests to the answer. Assumes nothing.
use Prim.Native.Nat.{ℕ, ◌<◌, ◌≤◌}
use mathlib.Core.Path.{◌≡◌, refl, ap, ◌∙◌}
use mathlib.Core.Logic.{◌↔◌}
use mathlib.Core.Bool.{Bool, true, ◌&&◌}
use mathlib.Core.List.{List}
use native.Mathlib.Omega.{arith}
use borrow.Author.Tests.{le-leb, lt-leb}
use lib.ListN.{length, get_or, replicate}
use lib.Seq.{sets}
use lib.Ieee.{Float, nan, eq}
use Rattle.weights.specs.Worth.{zero64}
use Rattle.scratch.specs.Over.{over}
use Rattle.scratch.proofs.Over.{over_sets}
use Rattle.field.specs.declared.Grade.{Grade}
use Rattle.field.specs.declared.Refusal.{Refusal}
use Rattle.field.specs.declared.Refusal.TheVariants.{Scratch, Room}
use Rattle.field.specs.Field.{Field, field_of, variables, entries}
use Rattle.field.specs.Table.{tested}
use Rattle.field.specs.Tests.{shape_tests, loose_tests}
use Rattle.field.specs.Grade.{grade_of}
use Rattle.field.proofs.Table.{last_is, group_is}
use Rattle.field.proofs.Means.{loose_passes, words_mean}
use Rattle.field.proofs.Faults.{fault_other}
use Rattle.calls.specs.Call.{without}
use Rattle.calls.proofs.Usual as usual
use Rattle.no_effect.specs.Putting.{Putting, putting, put_all}
use Rattle.no_effect.specs.Effect.{has_no_effect, no_effect, Marked, idle, found}
use Rattle.no_effect.specs.Call.{word_tests, Prepared, left, fits, no_effect_call}
use Rattle.no_effect.proofs.Chosen.{chosen_same}
use Rattle.no_effect.proofs.Marking.{mark_means}
use Rattle.field.specs.Answers.{counted_answer, passed}
use Rattle.std.specs.Prelude.{Err}

-- a variable without a mark and with c = 0 has no effect
module _ (c : List Float) (rows cols : List ℕ) (q : List Float) {u₀ : List ℕ} (u : List ℕ) (marked : Marked (length c) rows cols u₀ u) where
  pub idle_is : (i : ℕ) → i < length c → idle c u i ≡ has_no_effect (field_of c rows cols q) i
  unfolding has_no_effect
  idle_is i h = ap (λ (b : Bool). b && eq (get_or c i nan) zero64) (mark_means marked i h)

  pub idle_found : (l : List ℕ) → put_all (idle c u) (length c) l ≡ found (field_of c rows cols q) l
  unfolding found put_all
  idle_found l = ap (λ (s : List ℕ). putting (sets l 0 s) (length s)) (chosen_same (idle c u) (has_no_effect (field_of c rows cols q)) 0 (length c) (λ j h. idle_is j (omega arith)))

pub word_passes : (F : Field) (words : ℕ) → (tested (word_tests F words) ≡ passed) ↔ Prepared F words
unfolding word_tests
word_passes F words =
    let t = group_is (loose_tests F) _ (loose_passes F) (last_is Scratch _ (words_mean (variables F) (entries F) words)) in
    ((λ e. let p = t.0 e in record { loose = p.0; words_room = p.1 }), λ h. t.1 (h.loose, h.words_room))

-- none of the tests before 9 gives 9
pub never_room : (F : Field) (words : ℕ) → without Room (word_tests F words) ≡ true
unfolding without word_tests loose_tests shape_tests
never_room F words = rw (fault_other (variables F) F.rows F.cols 9 (omega arith)) refl

module _ (F : Field) (l u : List ℕ) where
  pub refused_call : {r : Refusal} → tested (word_tests F (length u)) ≡ Err r → left (Err r) l u ≡ no_effect_call F l u
  unfolding no_effect_call
  refused_call e = usual.refused_call Err _ _ _ _ e

  module _ {k : ℕ} {l' : List ℕ} (p : tested (word_tests F (length u)) ≡ passed) (e : putting l' k ≡ found F l) where
    count_is : k ≡ length (no_effect F)
    unfolding found put_all no_effect
    count_is = ap (λ (s : Putting). s.count) e

    list_is : k ≤ length l → l' ≡ over (no_effect F) l
    unfolding found put_all no_effect
    list_is h = ap (λ (s : Putting). s.list) e ∙ over_sets (no_effect F) l (omega (arith, count_is))

    pub done_call : {g : Grade} {u' : List ℕ} (j : ℕ) → g ≡ grade_of F → k ≤ length l → u' ≡ replicate j 0 → j ≡ length u → left (counted_answer g k) l' u' ≡ no_effect_call F l u
    unfolding no_effect_call fits
    done_call j eg h eu ju =
        rw (eg, list_is h, count_is, eu, ju) (usual.last_passes Err _ _ Room _ _ p (le-leb (length (no_effect F)) (length l) (omega (arith, count_is))))

    pub room_call : {l'' u' : List ℕ} (i j : ℕ) → length l < k → l'' ≡ replicate i 0 → i ≡ length l → u' ≡ replicate j 0 → j ≡ length u → left (Err Room) l'' u' ≡ no_effect_call F l u
    unfolding no_effect_call fits
    room_call i j h el il eu ju = rw (el, il, eu, ju) (usual.last_refuses Err _ _ Room _ _ p (lt-leb (length (no_effect F)) (length l) (omega (arith, count_is))))
