-- What each stage leaves is what the next asks. Assumes nothing.
use Prim.Native.Nat.{ℕ, ◌+◌, ◌*◌, ◌≤◌}
use mathlib.Core.Path.{◌≡◌, ◌∙◌}
use mathlib.Core.List.{List}
use native.Mathlib.Omega.{arith}
use lib.ListN.{length}
use Rattle.field.specs.Field.{Field, variables}
use Rattle.field.specs.Tests.{Ready}
use Rattle.places.specs.Places.{EndsBelow}
use Rattle.places.proofs.Shape.{ends_below}
use Rattle.run.proofs.Theorems.{closure_extends}
use Rattle.components.specs.Stages.{Solvable, Solved}
use Rattle.preprocess.specs.Working.{with_no_effect, preprocess, Closes, Preprocesses}
use Rattle.preprocess.proofs.Idle.{idle_start}

module _ {F : Field} {s : List ℕ} {floats words : ℕ} (R : Ready F s floats words) where
  -- the places can be built,
  pub places_asked : EndsBelow (variables F) F.rows F.cols × (variables F + 1 + 2 * length F.rows ≤ words)
  places_asked = (ends_below R.sound.shaped, omega (arith, R.words_room, R.sound.shaped.rows_long))

  -- and the work can begin over them
  pub ready_built : {words' : ℕ} → words' ≡ words → Ready F s floats words'
  ready_built e = record { sound = R.sound; floats_room = R.floats_room; words_room = omega (arith, R.words_room) }

module _ {F : Field} {s t : List ℕ} {floats words : ℕ} (R : Ready F s floats words) (fixed : t ≡ with_no_effect F s) where
  -- the values are start values still
  pub ready_still : (words' : ℕ) → words' ≡ words → Ready F t floats words'
  ready_still words' e = record {
    sound = record {
      shaped = R.sound.shaped;
      standard = R.sound.standard;
      finite_weights = R.sound.finite_weights;
      start = rw fixed (idle_start F R.sound.start);
    };
    floats_room = R.floats_room;
    words_room = omega (arith, R.words_room);
  }

  -- the components can be solved where the closure leaves off
  module _ {u u' t' : List ℕ} (D : Closes F t u t' u') where
    pub solvable : length u ≡ words → Solvable F t' u'
    solvable e = record {
      shaped = R.sound.shaped;
      values_long = rw (D.values, fixed) ((closure_extends F (idle_start F R.sound.start)).as_long ∙ (idle_start F R.sound.start).long);
      adjacent = D.adjacent;
      room = omega (arith, R.words_room, R.sound.shaped.rows_long, D.words_long);
    }

    pub preprocessed : {t'' u'' : List ℕ} → Solved F t' u' t'' u'' → Preprocesses F s t'' u''
    unfolding preprocess
    preprocessed E = record { values = E.values ∙ rw (D.values, fixed); adjacent = E.adjacent }
