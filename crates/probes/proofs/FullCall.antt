-- What `probe` promises: the three demands over `probe_call`. The start values are lent to be read alone, so no call changes them. Assumes nothing.
use Prim.Native.Nat.{ℕ, ◌*◌, ◌<◌}
use mathlib.Core.Path.{◌≡◌, sym, ◌∙◌}
use mathlib.Core.Logic.{◌≢◌, ◌↔◌, ◌⊎◌}
use mathlib.Core.List.{List, Memᴰ}
use native.Mathlib.Omega.{arith}
use lib.ListN.{length, get_or, drop}
use lib.Ieee.{Float}
use Rattle.weights.specs.Worth.{zero64}
use Rattle.scratch.specs.Cleared.{cleared}
use Rattle.meaning.specs.Field as meaning
use Rattle.meaning.specs.Free.{free_to}
use Rattle.meaning.specs.Kinds.{Pair}
use Rattle.meaning.specs.Records.{Record, AllProper, MeetsRecord, Bans}
use Rattle.meaning.specs.Rising.{Rising}
use Rattle.meaning.proofs.Values.{inside}
use Rattle.constraints.specs.Record.{room, filled, Fit}
use Rattle.field.specs.declared.Grade.{Grade}
use Rattle.field.specs.declared.Grade.TheVariants.{Exact}
use Rattle.field.specs.declared.Refusal.{Refusal}
use Rattle.field.specs.declared.Refusal.TheVariants.{Room}
use Rattle.field.specs.Field.{Field, variables}
use Rattle.field.specs.Table.{FirstToFail}
use Rattle.field.specs.Tests.{Ready}
use Rattle.field.specs.Grade.{Serves}
use Rattle.field.specs.Reading.{whole_of}
use Rattle.probes.specs.Call.{all_records, all_values, Left, left, candidates_table, probe_call, probe_by}
use Rattle.probes.specs.Rule.{FreeCandidates, Given, GivesValue, Finds, FindsValue, GreatestGives, NoFreeGives}
use Rattle.probes.specs.Says.{listed, value_at, DoneSays}
use Rattle.probes.proofs.Demands as any
use Rattle.probes.proofs.Calls as call
use Rattle.probes.proofs.Candidates.{in_free, full_free, greatest_gives, none_free_gives}
use Rattle.field.specs.Answers.{counted_answer}
use Rattle.std.specs.Prelude.{Err}

-- what counts as a candidate may be said in another way
given_as : {G : meaning.Field} {s : List ℕ} {C D : ℕ → Type 0} {i j : ℕ} {p : Pair} → ((i : ℕ) → C i → D i) → Given G s C i j p → Given G s D i j p
given_as alike h = record {
  candidate = h.candidate;
  chosen = alike h.candidate h.chosen;
  variable = h.variable;
  at_zero = h.at_zero;
  at_one = h.at_one;
  both = h.both;
  kind = h.kind;
  finds = h.finds;
  order = h.order;
  excludes = h.excludes;
}

module _ (F : Field) (s t k : List ℕ) (f : List Float) (u : List ℕ) where
  -- its candidates: the free variables, rising
  abbrev free : List ℕ
  free = free_to s (variables F)

  are_free : FreeCandidates s free
  are_free = full_free s (variables F)

  -- Theorem. Any two results that the promise permits are equal.
  pub probe_one_result : (x y : Left) → x ≡ probe_call F s t k f u → y ≡ probe_call F s t k f u → x ≡ y
  probe_one_result x y p q = p ∙ sym q

  -- ---- refusals

  -- Theorem. DEMAND 1. The call is refused with r exactly if the tests before r's own pass, and its own fails.
  pub probe_refused_when : (r : Refusal) → ((probe_call F s t k f u).answer ≡ Err r) ↔ FirstToFail (candidates_table F s (free_to s (variables F)) t k (length f) (length u)) r
  unfolding probe_by
  probe_refused_when = any.refused_when F s free t k f u

  -- Theorem. A refusal from 1 to 8 changes nothing lent.
  pub probe_refused_leaves : (r : Refusal) → r ≢ Room → (probe_call F s t k f u).answer ≡ Err r → probe_call F s t k f u ≡ left (Err r) t k f u
  unfolding probe_by
  probe_refused_leaves = any.refused_leaves F s free t k f u

  -- Theorem. 9 is given exactly if the tests before it pass, and the value list is not n long or the records, merged by pair, are more than the list has room for.
  pub probe_room_when : ((probe_call F s t k f u).answer ≡ Err Room)
      ↔ (Ready F s (length f) (length u) × ((length t ≢ variables F) ⊎ (room k < length (all_records F s (free_to s (variables F))))))
  unfolding probe_by
  probe_room_when = any.room_when F s free t k f u

  -- Theorem. It leaves both answer lists and both scratches all zeros.
  pub probe_room_leaves : (probe_call F s t k f u).answer ≡ Err Room
      → probe_call F s t k f u ≡ left (Err Room) (cleared 0 t) (cleared 0 k) (cleared zero64 f) (cleared 0 u)
  unfolding probe_by
  probe_room_leaves = any.room_leaves F s free t k f u

  -- ---- done

  -- Theorem. The call is done exactly if every test passes, and then gives the grade and the number of records.
  pub probe_done_when : (g : Grade) (count : ℕ) → ((probe_call F s t k f u).answer ≡ counted_answer g count) ↔ DoneSays F s (free_to s (variables F)) t k f u g count
  unfolding probe_by
  probe_done_when = any.done_when F s free t k f u

  module _ {g : Grade} {count : ℕ} (e : (probe_call F s t k f u).answer ≡ counted_answer g count) where
    long : length s ≡ variables F
    unfolding probe_by
    long = (call.start F s free t k f u e).long

    -- Theorem. Then the probe values are in the value list, the records at the front of their list, and both scratches are all zeros.
    pub probe_done_leaves : probe_call F s t k f u
        ≡ left (counted_answer g count) (all_values F s (free_to s (variables F))) (filled (all_records F s (free_to s (variables F))) k) (cleared zero64 f) (cleared 0 u)
    unfolding probe_by
    probe_done_leaves = any.done_leaves F s free t k f u g count e

    -- The first records of the list are those, no more and no fewer, and elements past the last of them are unchanged.
    pub probe_list_holds : listed count (probe_call F s t k f u) ≡ all_records F s (free_to s (variables F))
    unfolding probe_by
    probe_list_holds = call.list_is F s free t k f u e

    -- Theorem. Elements of the list of constraints past its last record are unchanged.
    pub probe_past_unchanged : drop (3 * count) (probe_call F s t k f u).lent.constraints ≡ drop (3 * count) k
    unfolding probe_by
    probe_past_unchanged = any.past_unchanged F s free t k f u g count e

    -- Theorem. On every field a pair is forbidden by the list exactly if the executable rule finds with a free variable a constraint that forbids it.
    pub probe_list_finds : (i j : ℕ) (p : Pair) → Bans (listed count (probe_call F s t k f u)) i j p ↔ Finds F s (free_to s (variables F)) i j p
    unfolding probe_by
    probe_list_finds = call.list_finds F s free t k f u e

    -- Theorem. The list is in rising order, one record for one pair.
    pub probe_list_rising : Rising (listed count (probe_call F s t k f u))
    unfolding probe_by
    probe_list_rising = call.list_rising F s free t k f u e

    -- Theorem. Each record is one that propagation takes.
    pub probe_list_fits : (r : Record) → Memᴰ r (listed count (probe_call F s t k f u)) → Fit (variables F) r
    unfolding probe_by
    probe_list_fits = call.list_fits F s free t k f u e are_free

    -- Theorem. On every field a value below 2 stands at j exactly if the greatest free variable that gives j one by the executable rule gives it, and 2 exactly if none does.
    pub probe_value_finds : (j : ℕ) → j < variables F → (w : ℕ) → w < 2
        → (value_at j (probe_call F s t k f u) ≡ w) ↔ GreatestGives (λ i v. FindsValue F s i j v) s w
    unfolding probe_by
    probe_value_finds j below w small =
        let z = call.value_finds F s free t k f u e j below w small in
        let y = greatest_gives s (variables F) long w in
        ((λ q. y.0 (z.0 q)), λ h. z.1 (y.1 h))

    -- Theorem. 2 stands at j exactly if no free variable gives j a value by the executable rule, on every field.
    pub probe_none_finds : (j : ℕ) → j < variables F → (value_at j (probe_call F s t k f u) ≡ 2) ↔ NoFreeGives (λ i v. FindsValue F s i j v) s
    unfolding probe_by
    probe_none_finds j below =
        let z = call.none_finds F s free t k f u e j below in
        let y = none_free_gives s (variables F) long in
        ((λ q. y.0 (z.0 q)), λ h. z.1 (y.1 h))

    -- nothing is listed at a given variable
    pub probe_start_left_out : (j : ℕ) → j < variables F → get_or s j 0 ≢ 2 → value_at j (probe_call F s t k f u) ≡ 2
    unfolding probe_by
    probe_start_left_out = call.start_left_out F s free t k f u e

  -- ---- on an exact field

  -- Theorem. No record has a set of all four bits.
  pub probe_no_full_set : {count : ℕ} → (probe_call F s t k f u).answer ≡ counted_answer Exact count → (r : Record) → Memᴰ r (listed count (probe_call F s t k f u)) → r.set ≢ 15
  unfolding probe_by
  probe_no_full_set e = call.no_full_set F s free t k f u are_free e

  -- ---- over whole numbers, in every unit that serves

  module _ {count : ℕ} (e : (probe_call F s t k f u).answer ≡ counted_answer Exact count) {unit : ℕ} (serving : Serves unit F) where
    given_free : {i j : ℕ} {p : Pair} → Given (whole_of unit F) s (λ i. Memᴰ i free) i j p ↔ Given (whole_of unit F) s (λ i. get_or s i 0 ≡ 2) i j p
    given_free = (given_as are_free, given_as (λ i q. in_free s (variables F) i (omega (arith, inside s i q, long e)) q))

    -- Theorem. DEMAND 2. A pair is forbidden by the list exactly if the probes of a free variable forbid it.
    pub probe_list_exact : (i j : ℕ) (p : Pair) → Bans (listed count (probe_call F s t k f u)) i j p ↔ Given (whole_of unit F) s (λ i. get_or s i 0 ≡ 2) i j p
    unfolding probe_by
    probe_list_exact i j p =
        let z = call.list_exact F s free t k f u are_free e serving i j p in
        ((λ m. given_free.0 (z.0 m)), λ h. z.1 (given_free.1 h))

    -- Theorem. It is the one list of records, rising by pair, that forbids these.
    pub probe_list_only : (l : List Record) → AllProper l → Rising l → ((i j : ℕ) (p : Pair) → Bans l i j p ↔ Given (whole_of unit F) s (λ i. get_or s i 0 ≡ 2) i j p)
        → l ≡ listed count (probe_call F s t k f u)
    unfolding probe_by
    probe_list_only l a r h =
        call.list_only F s free t k f u are_free e serving l a r (λ i j p. ((λ m. given_free.1 ((h i j p).0 m)), λ g. (h i j p).1 (given_free.0 g)))

    -- Theorem. A value below 2 stands at j exactly if the greatest free variable whose two probes give j one value gives it, and 2 exactly if none does.
    pub probe_values_exact : (j : ℕ) → j < variables F → (w : ℕ) → w < 2
        → (value_at j (probe_call F s t k f u) ≡ w) ↔ GreatestGives (λ i v. GivesValue (whole_of unit F) s i j v) s w
    unfolding probe_by
    probe_values_exact j below w small =
        let z = call.values_exact F s free t k f u are_free e serving j below w small in
        let y = greatest_gives s (variables F) (long e) w in
        ((λ q. y.0 (z.0 q)), λ h. z.1 (y.1 h))

    -- Theorem. 2 stands at j exactly if no free variable has two probes that give j one value, in whole numbers.
    pub probe_none_exact : (j : ℕ) → j < variables F → (value_at j (probe_call F s t k f u) ≡ 2) ↔ NoFreeGives (λ i v. GivesValue (whole_of unit F) s i j v) s
    unfolding probe_by
    probe_none_exact j below =
        let z = call.none_exact F s free t k f u are_free e serving j below in
        let y = none_free_gives s (variables F) (long e) in
        ((λ q. y.0 (z.0 q)), λ h. z.1 (y.1 h))

    -- DEMAND 3. Every best completion of the start values has every value of the answer, and meets every record.
    module _ {x : List ℕ} (best : meaning.Best (whole_of unit F) s x) where
      -- Theorem. Every best completion of the start values has each value that the answer finds.
      pub probe_best_has_values : (j : ℕ) → j < variables F → value_at j (probe_call F s t k f u) < 2 → get_or x j 0 ≡ value_at j (probe_call F s t k f u)
      unfolding probe_by
      probe_best_has_values = call.best_has_values F s free t k f u are_free e serving best

      -- Theorem. Every best completion of the start values meets each record of the answer.
      pub probe_best_meets_all : (r : Record) → Memᴰ r (listed count (probe_call F s t k f u)) → MeetsRecord x r
      unfolding probe_by
      probe_best_meets_all = call.best_meets_all F s free t k f u are_free e serving best
