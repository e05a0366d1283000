-- Every best completion obeys what the calls find on an exact field, and what they list are records. Assumes nothing.
use Prim.Native.Nat.{ℕ, ◌<◌}
use mathlib.Core.Path.{◌≡◌, ap, ◌∙◌}
use mathlib.Core.List.{List}
use native.Mathlib.Omega.{arith}
use lib.ListN.{get_or}
use Rattle.meaning.specs.Field.{Best}
use Rattle.meaning.specs.Records.{Record, MeetsRecord}
use Rattle.meaning.proofs.Values.{fixed}
use Rattle.constraints.specs.Record.{Fit}
use Rattle.field.specs.declared.Grade.TheVariants.{Exact}
use Rattle.field.specs.Field.{Field, variables}
use Rattle.field.specs.Grade.{grade_of, Serves}
use Rattle.field.specs.Reading.{whole_of}
use Rattle.closure.specs.Call as closing
use Rattle.closure.proofs.Demands as closure
use Rattle.probes.proofs.FullCall.{probe_done_when, probe_list_fits, probe_best_has_values, probe_best_meets_all}
use Rattle.probes.proofs.LimitedCall.{limited_done_when, limited_list_fits, limited_best_has_values, limited_best_meets_all}
use Rattle.pairs.proofs.Demands as pairs
use Rattle.together.specs.Found.{Leaves, gradient_value, probe_value, limited_value, Lists, probe_record, limited_record, pair_record}
use Rattle.together.specs.Together.{Obeys}
use Rattle.field.specs.Answers.{counted_answer}
use Rattle.pairs.specs.Answers.{paired_answer}

-- each record that is listed is one that propagation takes
pub lists_fit : {F : Field} {s : List ℕ} {r : Record} → Lists F s r → Fit (variables F) r
lists_fit {F} {s} {r} (probe_record t k f u g count e m) = probe_list_fits F s t k f u e r m
lists_fit {F} {s} {r} (limited_record limit t k f u g count e m) = limited_list_fits F s limit t k f u e r m
lists_fit {F} {s} {r} (pair_record limit l f u g items examined e m) = pairs.list_fits F s limit l f u g items examined e r m

module _ {F : Field} {s : List ℕ} (exact : grade_of F ≡ Exact) {unit : ℕ} (serving : Serves unit F) {x : List ℕ} (best : Best (whole_of unit F) s x) where
  has_values : (i v : ℕ) → i < variables F → v < 2 → Leaves F s i v → get_or x i 0 ≡ v
  has_values i v below few (gradient_value f u g count e h) =
      let d = ap (λ (z : closing.Left). z.answer) (closure.done_leaves F s f u g count e) ∙ ap (λ g. counted_answer g (closing.flat F s)) exact in
      fixed ((closure.best_obeys F s f u _ d serving best).kept i) (omega (arith, h)) ∙ h
  has_values i v below few (probe_value t k f u g count e h) =
      let d = e ∙ ap (λ g. counted_answer g count) (((probe_done_when F s t k f u g count).0 e).graded ∙ exact) in
      probe_best_has_values F s t k f u d serving best i below (omega (arith, h)) ∙ h
  has_values i v below few (limited_value limit t k f u g count e h) =
      let d = e ∙ ap (λ g. counted_answer g count) (((limited_done_when F s limit t k f u g count).0 e).graded ∙ exact) in
      limited_best_has_values F s limit t k f u d serving best i below (omega (arith, h)) ∙ h

  meets : (r : Record) → Lists F s r → MeetsRecord x r
  meets r (probe_record t k f u g count e m) =
      probe_best_meets_all F s t k f u (e ∙ ap (λ g. counted_answer g count) (((probe_done_when F s t k f u g count).0 e).graded ∙ exact)) serving best r m
  meets r (limited_record limit t k f u g count e m) =
      limited_best_meets_all F s limit t k f u (e ∙ ap (λ g. counted_answer g count) (((limited_done_when F s limit t k f u g count).0 e).graded ∙ exact)) serving best r m
  meets r (pair_record limit l f u g items examined e m) =
      pairs.best_meets_all F s limit l f u items examined (e ∙ ap (λ g. paired_answer g items examined) (((pairs.done_when F s limit l f u g items examined).0 e).graded ∙ exact)) serving x best r m

  -- OBEYING: the grade is one in all calls, so that exact in one is exact in each
  pub best_obeys_all : Obeys F s x
  best_obeys_all = record { values = has_values; records = meets }
