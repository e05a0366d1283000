-- What `probe_limited` promises: the three demands over `probe_limited_call`, as FullCall has them over `probe_call`, and the limit. Assumes nothing.
use Prim.Native.Nat.{ℕ, ◌*◌, ◌<◌, ◌≤◌}
use mathlib.Core.Path.{◌≡◌, refl, sym, ap, ◌∙◌}
use mathlib.Core.Logic.{◌≢◌, ◌↔◌, ◌⊎◌}
use mathlib.Core.List.{List, [], Memᴰ}
use native.Mathlib.Omega.{arith}
use lib.ListN.{length, get_or, take, drop, replicate}
use lib.Ieee.{Float}
use Rattle.weights.specs.Worth.{zero64}
use Rattle.scratch.specs.Cleared.{cleared}
use Rattle.meaning.specs.Field as meaning
use Rattle.meaning.specs.Free.{free_to}
use Rattle.meaning.specs.Kinds.{Pair}
use Rattle.meaning.specs.Records.{Record, AllProper, MeetsRecord, Bans, Covered}
use Rattle.meaning.specs.Rising.{Rising, merged_list}
use Rattle.meaning.proofs.Rising.{holder}
use Rattle.constraints.specs.Record.{room, filled, Fit}
use Rattle.constraints.proofs.Records.{filled_none}
use Rattle.field.specs.declared.Grade.{Grade}
use Rattle.field.specs.declared.Grade.TheVariants.{Exact}
use Rattle.field.specs.declared.Refusal.{Refusal}
use Rattle.field.specs.declared.Refusal.TheVariants.{Room}
use Rattle.field.specs.Field.{Field, variables}
use Rattle.field.specs.Table.{FirstToFail}
use Rattle.field.specs.Tests.{Ready}
use Rattle.field.specs.Grade.{grade_of, Serves}
use Rattle.field.specs.Reading.{whole_of}
use Rattle.ranking.specs.Ranking.{ranks}
use Rattle.ranking.specs.Rightly.{RightlyRanked}
use Rattle.ranking.specs.EdgeMass.{RankedByMass}
use Rattle.ranking.proofs.Theorems.{ranks_only}
use Rattle.ranking.proofs.ExactMass.{ranks_exact}
use Rattle.finding.specs.Finds.{records_found_by, values_found_by}
use Rattle.probes.specs.Call.{all_records, all_records_by, all_values, all_values_by, Left, left, candidates_table, probe_call, probe_by, probe_limited_call, probe_limited_by}
use Rattle.probes.specs.Rule.{FreeCandidates, Given, GivesValue, Finds, FindsValue, LastGives, NoneGives}
use Rattle.probes.specs.Says.{listed, value_at, DoneSays, SameButValues, KeptIn}
use Rattle.probes.proofs.Demands as any
use Rattle.probes.proofs.Calls as call
use Rattle.probes.proofs.Candidates.{limited_free, larger_finds}
use Rattle.probes.proofs.Limited.{limit_all, calls_same}
use Rattle.field.specs.Answers.{counted_answer}
use Rattle.std.specs.Prelude.{Err}

module _ (F : Field) (s : List ℕ) (limit : ℕ) (t k : List ℕ) (f : List Float) (u : List ℕ) where
  -- its candidates: the first of the free variables by falling edge mass, then rising index
  abbrev chosen : List ℕ
  chosen = take limit (ranks F s)

  are_free : FreeCandidates s chosen
  are_free = limited_free F s limit

  -- Theorem. Any two results that the promise permits are equal.
  pub limited_one_result : (x y : Left) → x ≡ probe_limited_call F s limit t k f u → y ≡ probe_limited_call F s limit t k f u → x ≡ y
  limited_one_result x y p q = p ∙ sym q

  -- ---- refusals

  -- Theorem. DEMAND 1. The call is refused with r exactly if the tests before r's own pass, and its own fails.
  pub limited_refused_when : (r : Refusal)
      → ((probe_limited_call F s limit t k f u).answer ≡ Err r) ↔ FirstToFail (candidates_table F s (take limit (ranks F s)) t k (length f) (length u)) r
  unfolding probe_limited_by
  limited_refused_when = any.refused_when F s chosen t k f u

  -- Theorem. A refusal from 1 to 8 changes nothing lent.
  pub limited_refused_leaves : (r : Refusal) → r ≢ Room → (probe_limited_call F s limit t k f u).answer ≡ Err r → probe_limited_call F s limit t k f u ≡ left (Err r) t k f u
  unfolding probe_limited_by
  limited_refused_leaves = any.refused_leaves F s chosen t k f u

  -- Theorem. 9 is given exactly if the tests before it pass, and the value list is not n long or the records, merged by pair, are more than the list has room for.
  pub limited_room_when : ((probe_limited_call F s limit t k f u).answer ≡ Err Room)
      ↔ (Ready F s (length f) (length u) × ((length t ≢ variables F) ⊎ (room k < length (all_records F s (take limit (ranks F s))))))
  unfolding probe_limited_by
  limited_room_when = any.room_when F s chosen t k f u

  -- Theorem. It leaves both answer lists and both scratches all zeros.
  pub limited_room_leaves : (probe_limited_call F s limit t k f u).answer ≡ Err Room
      → probe_limited_call F s limit t k f u ≡ left (Err Room) (cleared 0 t) (cleared 0 k) (cleared zero64 f) (cleared 0 u)
  unfolding probe_limited_by
  limited_room_leaves = any.room_leaves F s chosen t k f u

  -- ---- done

  -- Theorem. The call is done exactly if every test passes, and then gives the grade and the number of records.
  pub limited_done_when : (g : Grade) (count : ℕ) → ((probe_limited_call F s limit t k f u).answer ≡ counted_answer g count) ↔ DoneSays F s (take limit (ranks F s)) t k f u g count
  unfolding probe_limited_by
  limited_done_when = any.done_when F s chosen t k f u

  module _ {g : Grade} {count : ℕ} (e : (probe_limited_call F s limit t k f u).answer ≡ counted_answer g count) where
    -- Theorem. Then the probe values are in the value list, the records at the front of their list, and both scratches are all zeros.
    pub limited_done_leaves : probe_limited_call F s limit t k f u
        ≡ left (counted_answer g count) (all_values F s (take limit (ranks F s))) (filled (all_records F s (take limit (ranks F s))) k) (cleared zero64 f) (cleared 0 u)
    unfolding probe_limited_by
    limited_done_leaves = any.done_leaves F s chosen t k f u g count e

    -- The first records of the list are those, no more and no fewer, and elements past the last of them are unchanged.
    pub limited_list_holds : listed count (probe_limited_call F s limit t k f u) ≡ all_records F s (take limit (ranks F s))
    unfolding probe_limited_by
    limited_list_holds = call.list_is F s chosen t k f u e

    -- Theorem. Elements of the list of constraints past the last record of these candidates are unchanged.
    pub limited_past_unchanged : drop (3 * count) (probe_limited_call F s limit t k f u).lent.constraints ≡ drop (3 * count) k
    unfolding probe_limited_by
    limited_past_unchanged = any.past_unchanged F s chosen t k f u g count e

    -- Theorem. The list is in rising order, one record for one pair.
    pub limited_list_rising : Rising (listed count (probe_limited_call F s limit t k f u))
    unfolding probe_limited_by
    limited_list_rising = call.list_rising F s chosen t k f u e

    -- Theorem. Each record is one that propagation takes.
    pub limited_list_fits : (r : Record) → Memᴰ r (listed count (probe_limited_call F s limit t k f u)) → Fit (variables F) r
    unfolding probe_limited_by
    limited_list_fits = call.list_fits F s chosen t k f u e are_free

    -- nothing is listed at a given variable
    pub limited_start_left_out : (j : ℕ) → j < variables F → get_or s j 0 ≢ 2 → value_at j (probe_limited_call F s limit t k f u) ≡ 2
    unfolding probe_limited_by
    limited_start_left_out = call.start_left_out F s chosen t k f u e

    -- On every field, for every list in which the free variables are ranked:
    module _ (L : List ℕ) (ranked : RightlyRanked F s L) where
      front_is : take limit L ≡ chosen
      unfolding probe_limited_by
      front_is = ap (take limit) (ranks_only F s (call.finite_weights F s chosen t k f u e) L ranked)

      -- Theorem. A pair is forbidden by the list exactly if the executable rule finds with one of the first `limit` of them a constraint that forbids it.
      pub limited_list_finds : (i j : ℕ) (p : Pair) → Bans (listed count (probe_limited_call F s limit t k f u)) i j p ↔ Finds F s (take limit L) i j p
      unfolding probe_limited_by
      limited_list_finds i j p = rw front_is (call.list_finds F s chosen t k f u e i j p)

      -- Theorem. A value below 2 stands at j exactly if the last of these that gives j one by the executable rule gives it, and 2 exactly if none does.
      pub limited_value_finds : (j : ℕ) → j < variables F → (w : ℕ) → w < 2
          → (value_at j (probe_limited_call F s limit t k f u) ≡ w) ↔ LastGives (λ i v. FindsValue F s i j v) (take limit L) (length (take limit L)) w
      unfolding probe_limited_by
      limited_value_finds j below w small = rw front_is (call.value_finds F s chosen t k f u e j below w small)

      -- Theorem. 2 stands at j exactly if none of the first `limit` gives j a value by the executable rule.
      pub limited_none_finds : (j : ℕ) → j < variables F
          → (value_at j (probe_limited_call F s limit t k f u) ≡ 2) ↔ NoneGives (λ i v. FindsValue F s i j v) (take limit L) (length (take limit L))
      unfolding probe_limited_by
      limited_none_finds j below = rw front_is (call.none_finds F s chosen t k f u e j below)

  -- ---- on an exact field

  -- Theorem. No record has a set of all four bits.
  pub limited_no_full_set : {count : ℕ} → (probe_limited_call F s limit t k f u).answer ≡ counted_answer Exact count
      → (r : Record) → Memᴰ r (listed count (probe_limited_call F s limit t k f u)) → r.set ≢ 15
  unfolding probe_limited_by
  limited_no_full_set e = call.no_full_set F s chosen t k f u are_free e

  -- ---- over whole numbers, in every unit that serves

  module _ {count : ℕ} (e : (probe_limited_call F s limit t k f u).answer ≡ counted_answer Exact count) {unit : ℕ} (serving : Serves unit F) where
    -- A list is ranked by edge mass exactly if it is the ranks.
    by_mass : (L : List ℕ) → (L ≡ ranks F s) ↔ RankedByMass (whole_of unit F) s L
    unfolding probe_limited_by
    by_mass =
        ranks_exact (call.shaped F s chosen t k f u are_free e) (call.finite_weights F s chosen t k f u e) serving s

    -- Theorem. There is such a list.
    pub limited_by_mass : RankedByMass (whole_of unit F) s (ranks F s)
    limited_by_mass = (by_mass (ranks F s)).0 refl

    -- For every list in which the free variables go by falling edge mass, then rising index:
    module _ (L : List ℕ) (ranked : RankedByMass (whole_of unit F) s L) where
      first_is : take limit L ≡ chosen
      first_is = ap (take limit) ((by_mass L).1 ranked)

      -- Theorem. DEMAND 2. A pair is forbidden by the list exactly if the probes of one of the first `limit` of them forbid it.
      pub limited_list_exact : (i j : ℕ) (p : Pair) → Bans (listed count (probe_limited_call F s limit t k f u)) i j p ↔ Given (whole_of unit F) s (λ i. Memᴰ i (take limit L)) i j p
      unfolding probe_limited_by
      limited_list_exact i j p = rw first_is (call.list_exact F s chosen t k f u are_free e serving i j p)

      -- Theorem. It is the one list of records, rising by pair, that forbids these.
      pub limited_list_only : (l : List Record) → AllProper l → Rising l
          → ((i j : ℕ) (p : Pair) → Bans l i j p ↔ Given (whole_of unit F) s (λ i. Memᴰ i (take limit L)) i j p) → l ≡ listed count (probe_limited_call F s limit t k f u)
      unfolding probe_limited_by
      limited_list_only l a r h = call.list_only F s chosen t k f u are_free e serving l a r (λ i j p. rw first_is at (h i j p))

      -- Theorem. A value below 2 stands at j exactly if the last of these whose two probes give j one value gives it, and 2 exactly if none does.
      pub limited_values_exact : (j : ℕ) → j < variables F → (w : ℕ) → w < 2
          → (value_at j (probe_limited_call F s limit t k f u) ≡ w) ↔ LastGives (λ i v. GivesValue (whole_of unit F) s i j v) (take limit L) (length (take limit L)) w
      unfolding probe_limited_by
      limited_values_exact j below w small = rw first_is (call.values_exact F s chosen t k f u are_free e serving j below w small)

      -- Theorem. 2 stands at j exactly if none of the first `limit` has two probes that give j one value, in whole numbers.
      pub limited_none_exact : (j : ℕ) → j < variables F
          → (value_at j (probe_limited_call F s limit t k f u) ≡ 2) ↔ NoneGives (λ i v. GivesValue (whole_of unit F) s i j v) (take limit L) (length (take limit L))
      unfolding probe_limited_by
      limited_none_exact j below = rw first_is (call.none_exact F s chosen t k f u are_free e serving j below)

    -- DEMAND 3. Every best completion of the start values has every value of the answer, and meets every record.
    module _ {x : List ℕ} (best : meaning.Best (whole_of unit F) s x) where
      -- Theorem. Every best completion of the start values has each value that the answer of some candidates finds.
      pub limited_best_has_values : (j : ℕ) → j < variables F → value_at j (probe_limited_call F s limit t k f u) < 2 → get_or x j 0 ≡ value_at j (probe_limited_call F s limit t k f u)
      unfolding probe_limited_by
      limited_best_has_values = call.best_has_values F s chosen t k f u are_free e serving best

      -- Theorem. Every best completion of the start values meets each record that some candidates give.
      pub limited_best_meets_all : (r : Record) → Memᴰ r (listed count (probe_limited_call F s limit t k f u)) → MeetsRecord x r
      unfolding probe_limited_by
      limited_best_meets_all = call.best_meets_all F s chosen t k f u are_free e serving best

-- ---- the limit

-- Theorem. A limit of 0 finds nothing: no record, every probe value 2, and the list of constraints as it was.
pub limit_none : (F : Field) (s t k : List ℕ) (f : List Float) (u : List ℕ) → Ready F s (length f) (length u) → length t ≡ variables F
    → probe_limited_call F s 0 t k f u ≡ left (counted_answer (grade_of F) 0) (replicate (variables F) 2) k (cleared zero64 f) (cleared 0 u)
unfolding probe_limited_by all_records_by records_found_by merged_list all_values_by values_found_by
limit_none F s t k f u ready long =
    let done = (any.done_when F s [] t k f u (grade_of F) 0).1 (record { ready = ready; values_long = long; enough = omega arith; graded = refl; counted = refl }) in
    any.done_leaves F s [] t k f u (grade_of F) 0 done ∙ ap (λ (z : List ℕ). left (counted_answer (grade_of F) 0) (replicate (variables F) 2) z (cleared zero64 f) (cleared 0 u)) (filled_none k)

-- Theorem. A larger limit keeps or enlarges each record, where both are done.
pub larger_limit : (F : Field) (s : List ℕ) (limit more : ℕ) → limit ≤ more
    → (t k : List ℕ) (f : List Float) (u t' k' : List ℕ) (f' : List Float) (u' : List ℕ) {g g' : Grade} {count count' : ℕ}
    → (probe_limited_call F s limit t k f u).answer ≡ counted_answer g count → (probe_limited_call F s more t' k' f' u').answer ≡ counted_answer g' count'
    → (r : Record) → Memᴰ r (listed count (probe_limited_call F s limit t k f u)) → KeptIn (listed count' (probe_limited_call F s more t' k' f' u')) r
larger_limit F s limit more h t k f u t' k' f' u' {count = count} {count' = count'} e e' r m =
    let a = listed count (probe_limited_call F s limit t k f u) in
    let b = listed count' (probe_limited_call F s more t' k' f' u') in
    let covered : Covered a b = rw (limited_list_holds F s limit t k f u e, limited_list_holds F s more t' k' f' u' e') (larger_finds F s limit more h) in
    let z = holder (λ x n. (limited_list_fits F s limit t k f u e x n).proper) (limited_list_rising F s more t' k' f' u' e') covered m in
    record { by = z.by; among = z.among; same_lower = z.on.lower; same_higher = z.on.higher; pairs = z.pairs }

-- Theorem. With a limit of at least the number of free variables the limited call answers and leaves what the full one does, but for the probe values.
pub limited_as_full : (F : Field) (s : List ℕ) (limit : ℕ) (t k : List ℕ) (f : List Float) (u : List ℕ) → length (free_to s (variables F)) ≤ limit
    → SameButValues (probe_limited_call F s limit t k f u) (probe_call F s t k f u)
unfolding probe_limited_by probe_by
limited_as_full F s limit t k f u h = calls_same _ F s (take limit (ranks F s)) (free_to s (variables F)) t k f u refl (limit_all F s limit h)
