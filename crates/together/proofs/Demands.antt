-- All anchors at once (rules 9.8 and 9.9), over the promises of the calls `anchors`, `closure`, `probe`, `probe_limited` and `pairs` alone. Assumes nothing.
use Prim.Native.Nat.{ℕ, ◌<◌}
use mathlib.Core.Path.{◌≡◌, sym, ap, ◌∙◌}
use mathlib.Core.List.{List}
use native.Mathlib.Omega.{arith}
use lib.ListN.{length, get_or, take}
use lib.Seq.{get_or-take}
use lib.Ieee.{Float}
use Rattle.field.specs.declared.Grade.TheVariants as grade
use Rattle.field.specs.Field.{Field}
use Rattle.field.specs.Grade.{Serves}
use Rattle.anchors.specs.Call.{anchors_call}
use Rattle.anchors.proofs.Demands.{fit, told, items, anchors_by_rule}
use Rattle.together.specs.Together.{AllAtOnce}
use Rattle.together.proofs.Choice.{choices_stand}
use Rattle.together.proofs.Obeying.{best_obeys_all}
use Rattle.field.specs.Answers.{counted_answer}

module _ (F : Field) (s : List ℕ) (least : ℕ) (list : List ℕ) (f : List Float) (u : List ℕ) (k : ℕ) (e : (anchors_call F s least list f u).answer ≡ counted_answer grade.Exact k) where
  -- Theorem. On an exact field, for every choice of 0 or 1 at each of the listed anchors, some best completion makes all those choices at once,
  -- and obeys every gradient value, probe value, probe constraint and pair constraint found from the same start values.
  pub all_at_once : {unit : ℕ} → Serves unit F → (choice : ℕ → ℕ) → ((j : ℕ) → j < k → choice j < 2)
      → AllAtOnce unit F s (anchors_call F s least list f u).lent.list k choice
  all_at_once serving choice few =
      let d = fit F s least list f u _ k e in
      let t = told F s least list f u _ k e in
      let long : length (take k (anchors_call F s least list f u).lent.list) ≡ k = ap length (items F s least list f u _ k e) ∙ t.1 in
      let c = choices_stand d.shaped serving.exact d.start (anchors_by_rule F s least list f u _ k e) choice (λ j h. few j (omega (arith, long))) in
      record {
        completion = c.0;
        best = c.1.0;
        chosen = λ j h. ap (λ (i : ℕ). get_or c.0 i 0) (sym (get_or-take k (anchors_call F s least list f u).lent.list j 0 h)) ∙ c.1.1 j (omega (arith, long));
        obeys = best_obeys_all t.0 serving c.1.0;
      }
