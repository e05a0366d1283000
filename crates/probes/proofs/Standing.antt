-- What stands before the walk, and what it leaves to hand over. Assumes nothing.
use Prim.Native.Nat.{ℕ, zero, suc, ◌+◌, ◌<◌, ◌≤◌}
use mathlib.Core.Path.{◌≡◌, sym, ap, ◌∙◌}
use mathlib.Core.List.{List}
use native.Mathlib.Omega.{arith}
use lib.Ieee.{Float}
use lib.ListN.{length, get_or, replicate}
use lib.Seq.{ext_get_or}
use Rattle.probing.specs.declared.Known.{Known}
use Rattle.scratch.specs.Region.{region}
use Rattle.scratch.proofs.Region.{length_region, region_at}
use Rattle.constraints.specs.Record.{room, filled}
use Rattle.field.specs.Field.{Field, variables}
use Rattle.rows.specs.Stored.{up_to}
use Rattle.rows.proofs.Upto.{length_up_to, get_d_up_to}
use Rattle.probe.specs.Found.{found}
use Rattle.finding.specs.Finds.{wins, finding_of, finding, finding_by, values_after, values_of, values_found_by}
use Rattle.twin.specs.Twin.{first_at, values_at}
use Rattle.twin.proofs.Framed.{remembers_front}
use Rattle.walking.specs.Walk.{candidates_at, Walkable, Walked, holds, full}
use Rattle.walking.proofs.Turned.{values_long}
use Rattle.probes.specs.Call.{all_records, all_records_by, all_values, all_values_by}
use Rattle.probes.specs.Standing.{Noned, Bytes, Standing}
use Rattle.std.specs.Prelude.{Option, Some, None}

clash : {A : Type 0} → ◌≡◌ {A = ℕ} 0 1 → A
clash z = absurd (omega arith)

-- ---- a region's words, one by one

pub up_to_region : (at n : ℕ) (u : List ℕ) → at + n ≤ length u → up_to (λ j. get_or u (at + j) 0) n ≡ region at n u
up_to_region at n u h =
    ext_get_or 0 _ (region at n u) (length_up_to _ n ∙ sym (length_region at n u h)) (λ j l.
    let k : j < n = omega (arith, l, length_up_to (λ j. get_or u (at + j) 0) n) in
    get_d_up_to (λ j. get_or u (at + j) 0) n j 0 k ∙ sym (region_at at n u j 0 k))

pub region_same : (at n : ℕ) (u u' : List ℕ) → at + n ≤ length u → length u' ≡ length u → ((j : ℕ) → j < n → get_or u' (at + j) 0 ≡ get_or u (at + j) 0)
    → region at n u' ≡ region at n u
region_same at n u u' h long same =
    let a = length_region at n u' (omega (arith, h, long)) in
    ext_get_or 0 (region at n u') (region at n u) (a ∙ sym (length_region at n u h)) (λ j l.
    let k : j < n = omega (arith, l, a) in region_at at n u' j 0 k ∙ same j k ∙ sym (region_at at n u j 0 k))

-- ---- the probe values are small

win_small : (i j v w old : ℕ) → old ≤ 2 → wins (found i j v w) old ≤ 2
unfolding wins found
win_small i j zero zero old h = omega arith
win_small i j zero (suc zero) old h = h
win_small i j zero (suc (suc w)) old h = h
win_small i j (suc zero) zero old h = h
win_small i j (suc zero) (suc zero) old h = omega arith
win_small i j (suc zero) (suc (suc w)) old h = h
win_small i j (suc (suc v)) zero old h = h
win_small i j (suc (suc v)) (suc zero) old h = h
win_small i j (suc (suc v)) (suc (suc w)) old h = h

twos : (n j : ℕ) → get_or (replicate n 2) j 0 ≤ 2
twos zero j = omega arith
twos (suc n) zero = omega arith
twos (suc n) (suc j) = twos n j

pub values_small : (F : Field) (s cands : List ℕ) (k j : ℕ) → j < variables F → get_or (values_of F s cands k) j 0 ≤ 2
unfolding values_found_by values_after finding_by finding_of
values_small F s cands zero j h = twos (variables F) j
values_small F s cands (suc k) j h =
    let old = values_of F s cands k in
    rw (get_d_up_to (λ j. wins (finding F s (get_or cands k 0) j) (get_or old j 0)) (length old) j 0 (omega (arith, values_long F s cands k)))
    (win_small (get_or cands k 0) j _ _ (get_or old j 0) (values_small F s cands k j h))

-- ---- before the walk

module _ {F : Field} {s : List ℕ} {f : List Float} {u u' : List ℕ} {known : Known} {count : ℕ} (S : Standing F s f u known count)
    (N : Noned (first_at F) (variables F + variables F) u u') where
  candidate_same : (h : ℕ) → get_or u' (candidates_at F + h) 0 ≡ get_or u (candidates_at F + h) 0
  candidate_same h = N.behind (candidates_at F + h) (omega arith)

  value_none : (j : ℕ) → j < variables F → get_or u' (values_at F + j) 0 ≡ 2
  value_none j h = let e : first_at F + (variables F + j) ≡ values_at F + j = omega arith in rw e at (N.none (variables F + j) (omega arith))

  pub standing_walkable : Walkable F s f u' known count
  standing_walkable = record {
    remembers = remembers_front F u u' N.front N.long S.remembers;
    few = S.remembers.placed.shaped.few_variables;
    within = S.within;
    free = λ h l. rw (candidate_same h) (S.free h l);
    first = λ j h. N.none j (omega arith);
    none = value_none;
    space = omega (arith, S.space, N.long);
  }

  -- the candidates are where they were
  pub standing_same : region (candidates_at F) count u' ≡ region (candidates_at F) count u
  standing_same = region_same (candidates_at F) count u u' (omega (arith, S.space, S.within)) N.long (λ h l. candidate_same h)

-- ---- after it

-- what is held where there was room
pub record AllHeld (F : Field) (s cands list₀ : List ℕ) (held : ℕ) (list u : List ℕ) : Type 0 where
  pub count : held ≡ length (all_records F s cands)
  pub fits : length (all_records F s cands) ≤ room list₀
  pub list_is : list ≡ filled (all_records F s cands) list₀
  pub values_are : region (values_at F) (variables F) u ≡ all_values F s cands

module _ (F : Field) (s cands list₀ list u : List ℕ) where
  pub all_held : {r : Option ℕ} {held : ℕ} → Walked F s cands list₀ r list u → r ≡ Some held → AllHeld F s cands list₀ held list u
  unfolding all_records_by all_values_by
  all_held (holds fits list values) e = record { count = cc; fits = fits; list_is = list; values_are = values }
  all_held (full more) e = clash (cc)

  pub none_held : {r : Option ℕ} → Walked F s cands list₀ r list u → r ≡ None → room list₀ < length (all_records F s cands)
  unfolding all_records_by
  none_held (holds fits list values) e = clash (cc)
  none_held (full more) e = more

  pub held_bytes : {held n : ℕ} → AllHeld F s cands list₀ held list u → n ≡ variables F → values_at F + variables F ≤ length u → Bytes (values_at F) n u
  unfolding all_values_by
  held_bytes A e h = record {
    room = omega (arith, h, e);
    small = λ j l.
        let k : j < variables F = omega (arith, l, e) in
        let v = values_small F s cands (length cands) j k in
        let z : get_or u (values_at F + j) 0 ≡ get_or (values_of F s cands (length cands)) j 0 =
        sym (region_at (values_at F) (variables F) u j 0 k) ∙ ap (λ (l : List ℕ). get_or l j 0) A.values_are in
        omega (arith, v, z);
  }
