-- What probes count has room in its number: at most n records of each of at most n candidates. Assumes nothing.
use Prim.Native.Nat.{ℕ, zero, suc, ◌+◌, ◌*◌, ◌≤◌, ◌<◌}
use mathlib.Core.List.{List}
use native.Mathlib.Nat.{suc-mul, mul_comm, mul-le-mul_right}
use native.Mathlib.Omega.{arith}
use lib.ListN.{length, get_or, take, length-take}
use lib.Ieee.{Float}
use Rattle.meaning.specs.Free.{free_to}
use Rattle.meaning.proofs.Free.{free_few}
use Rattle.meaning.specs.Records.{Record}
use Rattle.field.specs.Field.{Field, variables}
use Rattle.field.specs.Tests.{ready_tests}
use Rattle.field.proofs.Means.{ready_passes}
use Rattle.field.proofs.Faults.{ready_near}
use Rattle.calls.proofs.Usual.{answer_has}
use Rattle.probe.specs.Found.{Finding, nothing, value, constraint}
use Rattle.sorting.proofs.Numbers.{merged_length}
use Rattle.ranking.specs.Ranking.{ranks, ahead, mass_of}
use Rattle.ranking.proofs.Ordered.{ordered_length}
use Rattle.finding.specs.Finds.{added, finding, records_to, records_of, records_found_by}
use Rattle.probes.specs.Call.{all_records_by, candidates_call, candidates_by, probe_call, probe_by, probe_limited_call, probe_limited_by}
use Rattle.packing.specs.Layout.{count_of}
use Rattle.std.specs.Prelude.{Err}

-- ---- the records of some candidates

added_few : (x : Finding) (l : List Record) → length (added x l) ≤ suc (length l)
unfolding added
added_few nothing l = omega arith
added_few (value w) l = omega arith
added_few (constraint c) l = omega arith

of_one : (g : ℕ → Finding) (l : List Record) (k : ℕ) → length (records_to g l k) ≤ length l + k
unfolding records_to
of_one g l zero = omega arith
of_one g l (suc k) = omega (arith, of_one g l k, added_few (g k) (records_to g l k))

of_all : (F : Field) (s cands : List ℕ) (k : ℕ) → length (records_of F s cands k) ≤ k * variables F
unfolding records_found_by
of_all F s cands zero = omega arith
of_all F s cands (suc k) =
    omega (arith, of_all F s cands k, of_one (finding F s (get_or cands k 0)) (records_of F s cands k) (variables F), suc-mul k (variables F))

few_by_few : (k n : ℕ) → k ≤ n → n ≤ 4096 → k * n ≤ 16777216
few_by_few k n a b =
    omega (arith, mul-le-mul_right {m = k} {n = 4096} n (omega arith), mul-le-mul_right {m = n} {n = 4096} 4096 (omega arith), mul_comm 4096 n)

-- ---- the candidates

ranks_few : (F : Field) (s : List ℕ) (limit : ℕ) → length (take limit (ranks F s)) ≤ variables F
unfolding ranks
ranks_few F s limit =
    omega (arith, length-take limit (ranks F s), ordered_length (ahead (mass_of F s)) (free_to s (variables F)), free_few s (variables F))

-- ---- the calls

module _ (F : Field) (s cands t k : List ℕ) (f : List Float) (u : List ℕ) (few : length cands ≤ variables F) where
  candidates_fit : count_of (candidates_call F s cands t k f u).answer < 0x1000_0000
  unfolding candidates_by all_records_by
  candidates_fit =
      answer_has Err _ (ready_tests F s (length f) (length u)) _ _ (λ a. count_of a < 0x1000_0000) (λ r e. omega (arith, ready_near F s (length f) (length u) r e)) (omega arith, tt) (λ e.
      let small = ((ready_passes F s (length f) (length u)).0 e).sound.shaped.few_variables in
      omega (arith, merged_length (records_of F s cands (length cands)), of_all F s cands (length cands), few_by_few (length cands) (variables F) few small))

module _ (F : Field) (s t k : List ℕ) (f : List Float) (u : List ℕ) where
  -- Theorem. The count of records that `probe` finds has room in its number.
  pub probe_fits : count_of (probe_call F s t k f u).answer < 0x1000_0000
  unfolding probe_by
  probe_fits = candidates_fit F s (free_to s (variables F)) t k f u (free_few s (variables F))

  -- Theorem. The count of records that `probe_limited` finds has room in its number, whatever the limit.
  pub probe_limited_fits : (limit : ℕ) → count_of (probe_limited_call F s limit t k f u).answer < 0x1000_0000
  unfolding probe_limited_by
  probe_limited_fits limit = candidates_fit F s (take limit (ranks F s)) t k f u (ranks_few F s limit)
