-- From the tests to the answer: what the calls leave on each path. Assumes nothing.
use Prim.Native.Nat.{ℕ, ◌<◌}
use mathlib.Core.Path.{◌≡◌, refl, sym, ◌∙◌}
use mathlib.Core.Logic.{◌≢◌}
use mathlib.Core.List.{List}
use borrow.Author.Tests.{eq-eqb, ne_eqb, le-leb, lt-leb}
use lib.ListN.{length, replicate}
use lib.Ieee.{Float}
use Rattle.weights.specs.Worth.{zero64}
use Rattle.scratch.specs.Cleared.{cleared}
use Rattle.scratch.specs.Region.{region}
use Rattle.constraints.specs.Record.{room}
use Rattle.field.specs.declared.Grade.{Grade}
use Rattle.field.specs.declared.Refusal.{Refusal}
use Rattle.field.specs.declared.Refusal.TheVariants.{Room}
use Rattle.field.specs.Field.{Field, variables}
use Rattle.field.specs.Table.{tested}
use Rattle.field.specs.Tests.{ready_tests, Ready}
use Rattle.field.specs.Grade.{grade_of}
use Rattle.field.proofs.Means.{ready_passes}
use Rattle.calls.specs.Call.{run}
use Rattle.calls.proofs.Usual as usual
use Rattle.twin.specs.Twin.{values_at}
use Rattle.probes.specs.Call.{Left, left, all_records, fits_by, candidates_call, candidates_by}
use Rattle.probes.specs.Standing.{settled}
use Rattle.probes.proofs.Standing.{AllHeld}
use Rattle.field.specs.Answers.{Answer, passed, counted_answer}
use Rattle.std.specs.Prelude.{Err}

-- ---- past the tests

module _ (F : Field) (s cands t k : List ℕ) (f : List Float) (u : List ℕ) (long : length t ≡ variables F) where
  pub done_answer : (k₁ u₁ : List ℕ) {t' u' : List ℕ} {f' : List Float} {held : ℕ} {g : Grade} (a b d : ℕ) → AllHeld F s cands k held k₁ u₁ → g ≡ grade_of F
      → t' ≡ region (values_at F) a u₁ → a ≡ length t → f' ≡ replicate b zero64 → b ≡ length f → u' ≡ replicate d 0 → d ≡ length u
      → left (counted_answer g held) t' k₁ f' u' ≡ settled F s cands t k f u
  unfolding fits_by run
  done_answer k₁ u₁ a b d A eg et lt ef lf eu lu =
      rw (eq-eqb _ _ long, le-leb _ _ A.fits, eg, A.count, A.list_is, et, lt, long, A.values_are, ef, lf, eu, lu) refl

  pub full_answer : {x : Left} (a e b d : ℕ) → room k < length (all_records F s cands)
      → x ≡ left (Err Room) (replicate a 0) (replicate e 0) (replicate b zero64) (replicate d 0) → a ≡ length t → e ≡ length k → b ≡ length f → d ≡ length u
      → x ≡ settled F s cands t k f u
  unfolding fits_by run
  full_answer a e b d more is lt lk lf lu = rw (eq-eqb _ _ long, lt-leb _ _ more, is, lt, lk, lf, lu) refl

-- what is settled depends on the lengths of what was lent alone
pub settled_as : (F : Field) (s k cands cands' t t' : List ℕ) (f f' : List Float) (u u' : List ℕ) {x : Left} → x ≡ settled F s cands t k f u
    → cands ≡ cands' → length t ≡ length t' → length f ≡ length f' → length u ≡ length u' → x ≡ settled F s cands' t' k f' u'
unfolding fits_by
settled_as F s k cands cands' t t' f f' u u' e ec lt lf lu = e ∙ rw (ec, lt, lf, lu)

-- ---- the tests

pub ready_of : (F : Field) (s : List ℕ) (floats words : ℕ) {x : Answer Unit} → x ≡ tested (ready_tests F s floats words) → x ≡ passed → Ready F s floats words
ready_of F s floats words is e = (ready_passes F s floats words).0 (sym is ∙ e)

module _ (F : Field) (s cands t k : List ℕ) (f : List Float) (u : List ℕ) {x : Answer Unit} (is : x ≡ tested (ready_tests F s (length f) (length u))) where
  pub refused_call : {r : Refusal} → x ≡ Err r → left (Err r) t k f u ≡ candidates_call F s cands t k f u
  unfolding candidates_by
  refused_call e = usual.refused_call Err _ _ _ _ (sym is ∙ e)

  module _ (passed : x ≡ passed) {y : Left} where
    pub room_call : length t ≢ variables F → y ≡ left (Err Room) (cleared 0 t) (cleared 0 k) (cleared zero64 f) (cleared 0 u) → y ≡ candidates_call F s cands t k f u
    unfolding candidates_by fits_by
    room_call n e = e ∙ usual.last_refuses Err _ _ Room _ _ (sym is ∙ passed) (rw (ne_eqb _ _ n))

    pub settled_call : y ≡ settled F s cands t k f u → y ≡ candidates_call F s cands t k f u
    unfolding candidates_by
    settled_call e = e ∙ usual.passed_call Err _ _ _ _ (sym is ∙ passed)
