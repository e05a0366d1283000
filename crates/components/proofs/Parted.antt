-- Components found and enumerated in one pass are the components enumerated one after another. Assumes nothing.
use Prim.Native.Nat.{ℕ, zero, suc}
use mathlib.Core.Path.{◌≡◌, refl, sym, ap, ◌∙◌}
use mathlib.Core.Bool.{Bool, true, false, cond}
use mathlib.Core.List.{List, [], ◌∷◌, ◌++◌}
use native.Mathlib.Omega.{arith}
use lib.Dec.{eqb}
use lib.ListN.{length, get_or}
use Rattle.field.specs.Field.{Field, variables}
use Rattle.field.specs.Tests.{Ready}
use Rattle.places.specs.Places.{Built}
use Rattle.parts.specs.Walk.{members_from, marks_from, Parts, part_at, parts_to, components}
use Rattle.parts.specs.Cells.{Begun}
use Rattle.parts.proofs.Marks.{opened_free}
use Rattle.parts.proofs.Calls.{begun_placed}
use Rattle.components.specs.Small.{solved_part, solved_parts, small_parts}
use Rattle.components.specs.Stages.{Stage, stage, stage_at, stage_to, Standing, Staged, Solvable, Solved}

pub solved_append : (F : Field) (s : List ℕ) (ms ns : List (List ℕ)) → solved_parts F s (ms ++ ns) ≡ solved_parts F (solved_parts F s ms) ns
unfolding solved_parts
solved_append F s [] ns = refl
solved_append F s (m ∷ ms) ns = solved_append F (solved_part F s m) ms ns

-- where the pass stands after some starts
stage_of : Field → List ℕ → Parts → Stage
stage_of F s p = stage p.marks (solved_parts F s p.found)

stage_part : (F : Field) (s : List ℕ) (p : Parts) (i : ℕ) → stage_at F (stage_of F s p) i ≡ stage_of F s (part_at F true p i)
unfolding stage_at part_at stage_of solved_parts
stage_part F s p i = by (eqb (get_or p.marks i 0) 2)
  where
    by : (b : Bool)
        → cond b (stage (marks_from F true p.marks i) (solved_part F (solved_parts F s p.found) (members_from F true p.marks i))) (stage_of F s p)
        ≡ stage_of F s (cond b (record { marks = marks_from F true p.marks i; found = p.found ++ (members_from F true p.marks i ∷ []) }) p)
    by true = ap (λ (v : List ℕ). stage (marks_from F true p.marks i) v) (sym (solved_append F s p.found (members_from F true p.marks i ∷ [])))
    by false = refl

stage_parts : (F : Field) (s : List ℕ) (i : ℕ) → stage_to F (stage s s) i ≡ stage_of F s (parts_to F true s i)
unfolding stage_to parts_to stage_of solved_parts
stage_parts F s zero = refl
stage_parts F s (suc i) = ap (λ (g : Stage). stage_at F g i) (stage_parts F s i) ∙ stage_part F s (parts_to F true s i) i

-- ---- all starts

module _ {F : Field} {s u : List ℕ} (S : Solvable F s u) {u₁ : List ℕ} (B : Begun F false s u u₁) where
  pub begun_standing : Standing F s u₁
  begun_standing = record { placed = begun_placed S.shaped S.adjacent S.room B; values_long = S.values_long }

  -- Theorem. One pass over all starts leaves the values of all small components, each enumerated.
  pub all_solved : {s' u' : List ℕ} → Staged F (λ g. stage_to F g (variables F)) s u₁ s' u' → Solved F s u s' u'
  unfolding small_parts components stage_of
  all_solved D = record {
    values = ap (λ (g : Stage). g.values) (D.goes ∙ ap (λ (m : List ℕ). stage_to F (stage m s) (variables F)) (B.marks ∙ opened_free s) ∙ stage_parts F s (variables F));
    words_long = D.words_long ∙ B.long;
    adjacent = D.standing.placed.adjacent;
  }

-- what is ready can be solved, once the places are built
pub ready_solvable : {F : Field} {s u₀ u : List ℕ} (floats : ℕ) → Ready F s floats (length u₀) → Built (variables F) F.rows F.cols u₀ u → Solvable F s u
ready_solvable floats R B = record {
  shaped = R.sound.shaped;
  values_long = R.sound.start.long;
  adjacent = B.adjacent;
  room = omega (arith, R.words_room, R.sound.shaped.rows_long, B.long);
}
