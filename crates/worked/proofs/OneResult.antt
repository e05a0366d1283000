-- Two results that a call's promise permits are equal: the answer, and every lent slice afterwards. Assumes nothing.
use Prim.Native.Nat.{ℕ}
use mathlib.Core.Path.{◌≡◌, sym, ◌∙◌}
use mathlib.Core.List.{List}
use lib.Ieee.{Float}
use Rattle.field.specs.Field.{Field}
use Rattle.closure.specs.Call as closure
use Rattle.components.specs.Call as components
use Rattle.preprocess.specs.Call as preprocess
use Rattle.heavy.specs.Call as heavy
use Rattle.no_effect.specs.Call as no-effect
use Rattle.shift.specs.Call as shift
use Rattle.sub_problem.specs.Call as sub-problem
use Rattle.mend.specs.Call as mend
use Rattle.anchors.specs.Call as anchors
use Rattle.pairs.specs.Call as pairs
use Rattle.probe.specs.Call as probe
use Rattle.probes.specs.Call as probes
use Rattle.propagation.specs.Call as propagation
use Rattle.reason.specs.Call as reason
use Rattle.kept.specs.Kept.{Kept}
use Rattle.kept.specs.Calls as keeping
use Rattle.allow.specs.Call as allow
use Rattle.worked.specs.One.{One}

-- Theorem. A promise that is one equation permits one result.
pub one : {A : Type 0} {promised : A} → One promised
one r r' p q = p ∙ sym q

module _ (F : Field) (s : List ℕ) (f : List Float) (u : List ℕ) where
  -- Theorem. Any two results that the promise of `closure` permits are equal.
  pub closure_one : One (closure.closure_call F s f u)
  closure_one = one

  -- Theorem. Any two results that the promise of `components` permits are equal.
  pub components_one : One (components.components_call F s f u)
  components_one = one

  -- Theorem. Any two results that the promise of `preprocess` permits are equal.
  pub preprocess_one : One (preprocess.preprocess_call F s f u)
  preprocess_one = one

  -- Theorem. Any two results that the promise of `heavy` permits are equal.
  pub heavy_one : One (heavy.heavy_call F s f u)
  heavy_one = one

  -- Theorem. Any two results that the promise of `sub_problem` permits are equal.
  pub sub_problem_one : (list : List ℕ) → One (sub-problem.sub_problem_call F s list f u)
  sub_problem_one list = one

  -- Theorem. Any two results that the promise of `mend` permits are equal.
  pub mend_one : (report : List ℕ) → One (mend.mend_call F report f u)
  mend_one report = one

  -- Theorem. Any two results that the promise of `anchors` permits are equal.
  pub anchors_one : (least : ℕ) (list : List ℕ) → One (anchors.anchors_call F s least list f u)
  anchors_one least list = one

  -- Theorem. Any two results that the promise of `pairs` permits are equal.
  pub pairs_one : (limit : ℕ) (list : List ℕ) → One (pairs.pairs_call F s limit list f u)
  pairs_one limit list = one

  -- Theorem. Any two results that the promise of `probe_one` permits are equal.
  pub probe_one_one : (i v : ℕ) (values : List ℕ) → One (probe.probe_one_call F s i v values f u)
  probe_one_one i v values = one

  -- Theorem. Any two results that the promise of `probe_one` by a route permits are equal.
  pub probe_one_by : (R : probe.Route) (i v : ℕ) (values : List ℕ) → One (probe.probe_one_by R F s i v values f u)
  probe_one_by R i v values = one

  -- Theorem. Any two results that the promise of `probe` by a route permits are equal.
  pub probe_by : (R : probe.Route) (values list : List ℕ) → One (probes.probe_by R F s values list f u)
  probe_by R values list = one

  -- Theorem. Any two results that the promise of `probe_limited` by a route permits are equal.
  pub probe_limited_by : (R : probe.Route) (limit : ℕ) (values list : List ℕ) → One (probes.probe_limited_by R F s limit values list f u)
  probe_limited_by R limit values list = one

  -- Theorem. Any two results that the promise of `probe` permits are equal.
  pub probe_one : (values list : List ℕ) → One (probes.probe_call F s values list f u)
  probe_one values list = one

  -- Theorem. Any two results that the promise of `probe_limited` permits are equal.
  pub probe_limited_one : (limit : ℕ) (values list : List ℕ) → One (probes.probe_limited_call F s limit values list f u)
  probe_limited_one limit values list = one

  -- Theorem. Any two results that the promise of `make` permits are equal.
  pub make_one : (bounds : List Float) (strict : ℕ) → One (keeping.make_call F s bounds strict f u)
  make_one bounds strict = one

  -- Theorem. Any two results that the promise of `close` permits are equal.
  pub close_one : (bounds : List Float) (list : List ℕ) → One (keeping.close_call F s bounds list f u)
  close_one bounds list = one

  -- Theorem. Any two results that the promise of `reason` permits are equal.
  pub reason_one : (i : ℕ) (list : List ℕ) → One (reason.reason_call F s i list f u)
  reason_one i list = one

  -- Theorem. Any two results that the promise of `no_effect` permits are equal.
  pub no_effect_one : (list : List ℕ) → One (no-effect.no_effect_call F list u)
  no_effect_one list = one

  -- Theorem. Any two results that the promise of `shift` permits are equal.
  pub shift_one : One (shift.shift_call F)
  shift_one = one

-- Theorem. Any two results that the promise of `propagate` permits are equal.
pub propagate_one : (s list u : List ℕ) → One (propagation.propagate_call s list u)
propagate_one s list u = one

module _ (F : Field) (K : Kept) (i : ℕ) where
  -- Theorem. Any two results that the promise of `pin` permits are equal.
  pub pin_one : (v : ℕ) → One (keeping.pin_call F K i v)
  pin_one v = one

  -- Theorem. Any two results that the promise of `release` permits are equal.
  pub release_one : One (keeping.release_call F K i)
  release_one = one

-- Theorem. Any two results that the promise of `allow` permits are equal.
pub allow_one : (n : ℕ) (list a c w u : List ℕ) → One (allow.allow_call n list a c w u)
allow_one n list a c w u = one
