-- What a pass asks and leaves where one start value is set. Assumes nothing.
use Prim.Native.Nat.{ℕ, ◌<◌}
use mathlib.Core.Path.{◌≡◌, refl, sym, ◌∙◌}
use mathlib.Core.Logic.{◌≢◌}
use mathlib.Core.List.{List}
use native.Mathlib.Omega.{arith}
use lib.ListN.{length, get_or, set, length-set}
use lib.Seq.{get_or-set_same, get_or-set_other}
use lib.Ieee.{Float}
use Rattle.field.specs.Field.{Field}
use Rattle.rows.specs.Stored.{Fillable, Filled}
use Rattle.run.specs.First.{Closable}
use Rattle.probe.specs.Call.{Probable}

module _ (s : List ℕ) (i v j : ℕ) where
  pub set_here : j < length s → j ≡ i → v ≡ get_or (set s i v) j 0
  set_here h e = rw e (sym (get_or-set_same s i v 0 (omega (arith, h, e))))

  pub set_elsewhere : j ≢ i → get_or s j 0 ≡ get_or (set s i v) j 0
  set_elsewhere ne = sym (get_or-set_other s i j v 0 ne)

module _ {F : Field} {s : List ℕ} (i v : ℕ) {f : List Float} where
  pub fillable_set : Fillable F s f → Fillable F (set s i v) f
  fillable_set ready = record { shaped = ready.shaped; values_long = length-set s i v ∙ ready.values_long; room = ready.room }

  pub fillable_unset : Fillable F (set s i v) f → Fillable F s f
  fillable_unset ready = record { shaped = ready.shaped; values_long = sym (length-set s i v) ∙ ready.values_long; room = ready.room }

-- where the rows stand, the run may begin
pub runs_on : (F : Field) (s vs : List ℕ) (i v words : ℕ) (f₀ f : List Float) → Probable F s i v (length f₀) words → vs ≡ set s i v
    → Filled F (set s i v) f₀ f → Closable F vs (length f) words × Filled F vs f f
runs_on F s vs i v words f₀ f P e filled =
    let ready = P.ready in
    rw e (
      record {
        shaped = ready.sound.shaped;
        values_long = length-set s i v ∙ ready.sound.start.long;
        floats_room = omega (arith, ready.floats_room, filled.long);
        words_room = omega (arith, ready.words_room, ready.sound.shaped.rows_long);
      },
      record { long = refl; rows = filled.rows; rest = refl },
    )
