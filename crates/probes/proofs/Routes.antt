-- The fast and the cold route leave the same: proved of the single probe, and from it of the three calls, on every input. Assumes nothing.
use Prim.Native.Nat.{ℕ, zero, suc, ◌<◌, ◌≤◌}
use mathlib.Core.Path.{◌≡◌, refl, sym, ap, ◌∙◌}
use mathlib.Core.List.{List}
use native.Mathlib.Nat.{le_refl}
use native.Mathlib.Omega.{arith}
use lib.Ieee.{Float}
use lib.ListN.{length, get_or}
use Rattle.meaning.specs.Records.{Record}
use Rattle.field.specs.Field.{Field, variables}
use Rattle.field.specs.Table.{tested}
use Rattle.field.specs.Tests.{ready_tests, Ready}
use Rattle.field.proofs.Means.{ready_passes}
use Rattle.calls.proofs.Usual as usual
use Rattle.rows.proofs.Upto.{up_to_same}
use Rattle.probing.proofs.Renewed.{probe_is_closure}
use Rattle.probe.specs.Call.{Route, cold, probe_tests, given_by, probe_one_by}
use Rattle.probe.specs.Found.{Finding}
use Rattle.probe.proofs.Laws.{probe_passes}
use Rattle.finding.specs.Finds.{wins, finding_by, records_to, values_after, records_found_by, values_found_by}
use Rattle.probes.specs.Call.{all_records_by, all_values_by, fits_by, candidates_by, probe_by, probe_limited_by}
use Rattle.probes.specs.Route.{fast, Agrees}
use Rattle.probes.specs.Rule.{FreeCandidates}
use Rattle.probes.proofs.Members.{at_in}
use Rattle.probes.proofs.Candidates.{full_free, limited_free}
use Rattle.std.specs.Prelude.{Err}
use Rattle.field.specs.Answers.{Answer, passed}

-- Theorem. THE EQUATION, over the single probe: on every field, exact or not, a probe with remembered rows leaves what one with rows made afresh leaves.
pub routes_agree : Agrees fast
routes_agree F S s start i v free small = probe_is_closure S start i v free small

-- ---- findings that are equal one by one

records_same : (g h : ℕ → Finding) → ((j : ℕ) → g j ≡ h j) → (l : List Record) (k : ℕ) → records_to g l k ≡ records_to h l k
unfolding records_to
records_same g h e l zero = refl
records_same g h e l (suc k) = rw (e k, records_same g h e l k) refl

values_same : (g h : ℕ → Finding) → ((j : ℕ) → g j ≡ h j) → (l : List ℕ) → values_after g l ≡ values_after h l
unfolding values_after
values_same g h e l = up_to_same _ _ (length l) (λ j b. ap (λ (d : Finding). wins d (get_or l j 0)) (e j))

-- ---- a route that agrees on single probes gives the same calls

module _ {R : Route} (agrees : Agrees R) where
  pub one_by : (F : Field) (s : List ℕ) (i v : ℕ) (t : List ℕ) (f : List Float) (u : List ℕ) → probe_one_by R F s i v t f u ≡ probe_one_by cold F s i v t f u
  unfolding probe_one_by given_by
  one_by F s i v t f u = go (tested (probe_tests F s i v (length f) (length u))) refl
    where
      go : (x : Answer Unit) → tested (probe_tests F s i v (length f) (length u)) ≡ x → probe_one_by R F s i v t f u ≡ probe_one_by cold F s i v t f u
      go (Err r) e = sym (usual.refused_call Err _ _ _ _ e) ∙ usual.refused_call Err _ _ _ _ e
      go passed e =
          let p = (probe_passes F s i v (length f) (length u)).0 e in
          rw (agrees F p.ready.sound.shaped s p.ready.sound.start i v p.free (omega (arith, p.small))) refl

  module _ {F : Field} {s : List ℕ} {floats words : ℕ} (ready : Ready F s floats words) where
    finding_by_lem : (i : ℕ) → get_or s i 0 ≡ 2 → (j : ℕ) → finding_by R F s i j ≡ finding_by cold F s i j
    unfolding finding_by
    finding_by_lem i free j =
        let at = agrees F ready.sound.shaped s ready.sound.start i in
        rw (at 0 free (omega arith), at 1 free (omega arith)) refl

    module _ (cands : List ℕ) (free : FreeCandidates s cands) where
      turn : (k : ℕ) → k < length cands → (j : ℕ) → finding_by R F s (get_or cands k 0) j ≡ finding_by cold F s (get_or cands k 0) j
      turn k h = finding_by_lem (get_or cands k 0) (free (get_or cands k 0) (at_in cands k h))

      records_by : (k : ℕ) → k ≤ length cands → records_found_by R F s cands k ≡ records_found_by cold F s cands k
      unfolding records_found_by
      records_by zero h = refl
      records_by (suc k) h = records_same _ _ (turn k (omega arith)) _ (variables F)
          ∙ ap (λ (l : List Record). records_to (finding_by cold F s (get_or cands k 0)) l (variables F)) (records_by k (omega arith))

      values_by : (k : ℕ) → k ≤ length cands → values_found_by R F s cands k ≡ values_found_by cold F s cands k
      unfolding values_found_by
      values_by zero h = refl
      values_by (suc k) h = values_same _ _ (turn k (omega arith)) _ ∙ ap (values_after (finding_by cold F s (get_or cands k 0))) (values_by k (omega arith))

      all_records_by_lem : all_records_by R F s cands ≡ all_records_by cold F s cands
      unfolding all_records_by
      all_records_by_lem = rw (records_by (length cands) (le_refl (length cands))) refl

      all_values_by_lem : all_values_by R F s cands ≡ all_values_by cold F s cands
      unfolding all_values_by
      all_values_by_lem = values_by (length cands) (le_refl (length cands))

  candidates_by_lem : (F : Field) (s cands t k : List ℕ) (f : List Float) (u : List ℕ) → FreeCandidates s cands
      → candidates_by R F s cands t k f u ≡ candidates_by cold F s cands t k f u
  unfolding candidates_by fits_by
  candidates_by_lem F s cands t k f u free = go (tested (ready_tests F s (length f) (length u))) refl
    where
      go : (x : Answer Unit) → tested (ready_tests F s (length f) (length u)) ≡ x → candidates_by R F s cands t k f u ≡ candidates_by cold F s cands t k f u
      go (Err r) e = sym (usual.refused_call Err _ _ _ _ e) ∙ usual.refused_call Err _ _ _ _ e
      go passed e =
          let ready = (ready_passes F s (length f) (length u)).0 e in
          rw (all_records_by_lem ready cands free, all_values_by_lem ready cands free) refl

  pub probe_by_lem : (F : Field) (s t k : List ℕ) (f : List Float) (u : List ℕ) → probe_by R F s t k f u ≡ probe_by cold F s t k f u
  unfolding probe_by
  probe_by_lem F s t k f u = candidates_by_lem F s _ t k f u (full_free s (variables F))

  pub limited_by : (F : Field) (s : List ℕ) (limit : ℕ) (t k : List ℕ) (f : List Float) (u : List ℕ)
      → probe_limited_by R F s limit t k f u ≡ probe_limited_by cold F s limit t k f u
  unfolding probe_limited_by
  limited_by F s limit t k f u = candidates_by_lem F s _ t k f u (limited_free F s limit)

-- ---- THE CALLS, on every input, refusals and 9 included: the answer, each answer list and both scratches

-- Theorem. The fast and the cold single probe answer and leave the same, on every input.
pub one_routes : (F : Field) (s : List ℕ) (i v : ℕ) (t : List ℕ) (f : List Float) (u : List ℕ) → probe_one_by fast F s i v t f u ≡ probe_one_by cold F s i v t f u
one_routes = one_by routes_agree

-- Theorem. The fast and the cold probe of all free variables answer and leave the same, on every input.
pub probe_routes : (F : Field) (s t k : List ℕ) (f : List Float) (u : List ℕ) → probe_by fast F s t k f u ≡ probe_by cold F s t k f u
probe_routes = probe_by_lem routes_agree

-- Theorem. The fast and the cold probe of some candidates answer and leave the same, on every input.
pub limited_routes : (F : Field) (s : List ℕ) (limit : ℕ) (t k : List ℕ) (f : List Float) (u : List ℕ)
    → probe_limited_by fast F s limit t k f u ≡ probe_limited_by cold F s limit t k f u
limited_routes = limited_by routes_agree
