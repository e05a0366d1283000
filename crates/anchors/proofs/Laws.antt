-- From the tests to the answer: what the call leaves where a test fails, where the list has room, and where it has not. Assumes nothing.
use Prim.Native.Nat.{ℕ, ◌<◌, ◌≤◌}
use mathlib.Core.Path.{◌≡◌, ◌∙◌}
use mathlib.Core.List.{List}
use borrow.Author.Tests.{le-leb, lt-leb}
use lib.ListN.{length, replicate}
use lib.Ieee.{Float}
use Rattle.weights.specs.Worth.{zero64}
use Rattle.scratch.proofs.Over.{over_sets}
use Rattle.field.specs.declared.Grade.{Grade}
use Rattle.field.specs.declared.Refusal.{Refusal}
use Rattle.field.specs.declared.Refusal.TheVariants.{Room}
use Rattle.field.specs.Field.{Field}
use Rattle.field.specs.Table.{tested}
use Rattle.field.specs.Tests.{open_tests}
use Rattle.field.specs.Grade.{grade_of}
use Rattle.calls.proofs.Usual as usual
use Rattle.anchors.specs.Model.{anchors_of}
use Rattle.anchors.specs.Call.{left, anchors_call}
use Rattle.anchors.specs.Cells.{Lists}
use Rattle.field.specs.Answers.{counted_answer, passed}
use Rattle.std.specs.Prelude.{Err}

module _ (F : Field) (s : List ℕ) (least : ℕ) (list : List ℕ) (f : List Float) (u : List ℕ) where
  pub refused_call : {r : Refusal} → tested (open_tests F s (length f) (length u)) ≡ Err r → left (Err r) list f u ≡ anchors_call F s least list f u
  unfolding anchors_call
  refused_call e = usual.refused_call Err _ _ _ _ e

  module _ (k l : ℕ) {list₁ : List ℕ} {r : ℕ} (e : tested (open_tests F s (length f) (length u)) ≡ passed) (L : Lists F s least list list₁ r) where
    pub counted_call : {g : Grade} {f' : List Float} {u' : List ℕ} → g ≡ grade_of F → r ≤ length list → f' ≡ replicate k zero64 → k ≡ length f → u' ≡ replicate l 0 → l ≡ length u
        → left (counted_answer g r) list₁ f' u' ≡ anchors_call F s least list f u
    unfolding anchors_call
    counted_call eg room ef lf eu lu =
        let enough : length (anchors_of F s least) ≤ length list = rw L.counted at room in
        rw (eg, L.counted, L.stored ∙ over_sets (anchors_of F s least) list enough, ef, lf, eu, lu) (usual.last_passes Err _ _ Room _ _ e (le-leb _ _ enough))

    pub full_call : {list₂ : List ℕ} {f' : List Float} {u' : List ℕ} (m : ℕ) → length list < r → list₂ ≡ replicate m 0 → m ≡ length list
        → f' ≡ replicate k zero64 → k ≡ length f → u' ≡ replicate l 0 → l ≡ length u → left (Err Room) list₂ f' u' ≡ anchors_call F s least list f u
    unfolding anchors_call
    full_call m full el ll ef lf eu lu =
        let over : length list < length (anchors_of F s least) = rw L.counted at full in
        rw (el, ll, ef, lf, eu, lu) (usual.last_refuses Err _ _ Room _ _ e (lt-leb _ _ over))
