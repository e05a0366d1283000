-- On exact fields the lists of the probe calls are what rule 7.4 gives over whole numbers, for any free candidates. Assumes nothing.
use Prim.Native.Nat.{ℕ, zero, suc, ◌<◌, ◌≤◌}
use mathlib.Core.Path.{◌≡◌, refl, sym, ap, ◌∙◌, subst}
use mathlib.Core.Logic.{◌≢◌, ◌↔◌}
use mathlib.Core.List.{List, Memᴰ}
use native.Mathlib.Omega.{arith}
use lib.ListN.{length, get_or, set}
use Rattle.meaning.specs.Field as meaning
use Rattle.meaning.specs.Kinds.{Pair, pair, Constraint, joining}
use Rattle.meaning.specs.Records.{Record, pairs_in, AllProper, MeetsRecord, Excludes, Bans}
use Rattle.meaning.specs.Rising.{Rising}
use Rattle.meaning.specs.Probe.{Probed}
use Rattle.meaning.proofs.Bans.{bans_of}
use Rattle.meaning.proofs.Theorems.{best_completion_exists}
use Rattle.field.specs.Field.{Field, variables, Shaped, StartFor}
use Rattle.field.specs.Grade.{ExactIn}
use Rattle.field.specs.Reading.{whole_of}
use Rattle.run.specs.Run.{closure}
use Rattle.run.proofs.Theorems as run
use Rattle.workspace.proofs.Theorems.{start_with}
use Rattle.probe.specs.Found.{found}
use Rattle.probe.proofs.Found.{none_value, none_constraint, found_value, value_holds, constraint_holds}
use Rattle.finding.specs.Finds.{finding}
use Rattle.probes.specs.Call.{all_records, all_values}
use Rattle.probes.specs.Rule.{FreeCandidates, BothGive, Given, GivesValue, Finds, FindsValue, LastGives, NoneGives}
use Rattle.probes.proofs.Members.{at_in}
use Rattle.probes.proofs.Excluded.{meets_apart}
use Rattle.probes.proofs.Table.{left, tabled, table_finds, value_found, found_of, looked}
use Rattle.probes.proofs.Later.{last_as, none_as}
use Rattle.probes.proofs.Gathered.{list_finds, rules_any_field, value_finds, none_finds}

-- ---- a set of all four bits

all_in : (a b : ℕ) → a < 2 → b < 2 → Memᴰ (pair a b) (pairs_in 15)
unfolding pairs_in
all_in zero zero h g = Memᴰ.head refl
all_in zero (suc zero) h g = Memᴰ.tail (Memᴰ.head refl)
all_in (suc zero) zero h g = Memᴰ.tail (Memᴰ.tail (Memᴰ.head refl))
all_in (suc zero) (suc zero) h g = Memᴰ.tail (Memᴰ.tail (Memᴰ.tail (Memᴰ.head refl)))
all_in (suc (suc a)) b h g = absurd (omega arith)
all_in zero (suc (suc b)) h g = absurd (omega arith)
all_in (suc zero) (suc (suc b)) h g = absurd (omega arith)

-- ---- on an exact field

module _ {u : ℕ} {F : Field} (shaped : Shaped F) (exact : ExactIn u F) {s : List ℕ} (start : StartFor (variables F) s) where
  -- ---- one candidate

  module _ (i : ℕ) (free : get_or s i 0 ≡ 2) where
    probed : (v : ℕ) → v < 2 → Probed (whole_of u F) s i v (closure F (set s i v))
    probed v small = run.closure_is_closure shaped exact (start_with start i v free small)

    left_small : (v : ℕ) → v < 2 → (j : ℕ) → left F s i v j ≤ 2
    left_small v small j = (run.closure_valid F (start_with start i v free small)).small j

    -- the floats leave what the probes give, and nothing else is given
    both_left : (j : ℕ) → i ≢ j → j < variables F → get_or s j 0 ≡ 2 → BothGive (whole_of u F) s i j (left F s i 0 j) (left F s i 1 j)
    both_left j other below there = record {
      other = other;
      below = below;
      free = there;
      closed₀ = closure F (set s i 0);
      closed₁ = closure F (set s i 1);
      probed₀ = probed 0 (omega arith);
      probed₁ = probed 1 (omega arith);
      gives₀ = refl;
      gives₁ = refl;
    }

    left_only : (v : ℕ) → v < 2 → (j : ℕ) {t : List ℕ} → Probed (whole_of u F) s i v t → left F s i v j ≡ get_or t j 0
    left_only v small j p = ap (λ (t : List ℕ). get_or t j 0) (sym (run.closure_is_only shaped exact (start_with start i v free small) p))

    left_both : {j a b : ℕ} → BothGive (whole_of u F) s i j a b → finding F s i j ≡ found i j a b
    left_both {j} {a} {b} h =
        let e₀ : left F s i 0 j ≡ a = left_only 0 (omega arith) j h.probed₀ ∙ h.gives₀ in
        let e₁ : left F s i 1 j ≡ b = left_only 1 (omega arith) j h.probed₁ ∙ h.gives₁ in
        found_of F s i j h.other h.free ∙ rw (e₀, e₁) refl

    -- the executable rule gives j the value w exactly if both probes do
    value_exact : (j w : ℕ) → j < variables F → FindsValue F s i j w ↔ GivesValue (whole_of u F) s i j w
    value_exact j w below = (to, λ h. left_both h.both ∙ value_found i j w h.small)
      where
        to : FindsValue F s i j w → GivesValue (whole_of u F) s i j w
        to e =
            let l = looked F s i j (λ z. none_value z) e in
            let z = found_value i j (left F s i 0 j) (left F s i 1 j) w l.finds in
            record { small = z.1.1; both = rw (z.0, z.1.0) at (both_left j l.other below l.free) }

  -- ---- any free candidates

  module _ (cands : List ℕ) (free : FreeCandidates s cands) where
    -- a pair that the executable rule forbids is forbidden over whole numbers, and the other way round
    finds_given : {a b : ℕ} {p : Pair} → Finds F s cands a b p ↔ Given (whole_of u F) s (λ i. Memᴰ i cands) a b p
    finds_given {a} {b} {p} = (to, from)
      where
        to : Finds F s cands a b p → Given (whole_of u F) s (λ i. Memᴰ i cands) a b p
        to h =
            let i = h.candidate in
            let j = h.variable in
            let here = free i h.chosen in
            let l = looked F s i j (λ z. none_constraint z) h.finds in
            let t = tabled i j (left F s i 0 j) (left F s i 1 j) (left_small i here 0 (omega arith) j) (left_small i here 1 (omega arith) j) l.finds in
            record {
              candidate = i;
              chosen = h.chosen;
              variable = j;
              at_zero = left F s i 0 j;
              at_one = left F s i 1 j;
              both = both_left i here j l.other h.below l.free;
              kind = t.kind;
              finds = t.finds;
              order = h.order;
              excludes = subst (λ (c : Constraint). Excludes c a p.first b p.second) t.is h.excludes;
            }

        from : Given (whole_of u F) s (λ i. Memᴰ i cands) a b p → Finds F s cands a b p
        from h = record {
          candidate = h.candidate;
          chosen = h.chosen;
          variable = h.variable;
          below = h.both.below;
          said = joining h.kind h.candidate h.variable;
          finds = left_both h.candidate (free h.candidate h.chosen) h.both ∙ table_finds h.candidate h.variable h.finds;
          order = h.order;
          excludes = h.excludes;
        }

    -- DEMAND 2. A pair is forbidden by the list exactly if two probes of a candidate forbid it.
    pub list_exact : (i j : ℕ) (p : Pair) → Bans (all_records F s cands) i j p ↔ Given (whole_of u F) s (λ i. Memᴰ i cands) i j p
    list_exact i j p =
        let e = list_finds F s cands i j p in
        ((λ f. finds_given.0 (e.0 f)), λ h. e.1 (finds_given.1 h))

    -- It is the one list of records, rising by pair, that forbids these.
    pub list_only : (l : List Record) → AllProper l → Rising l → ((i j : ℕ) (p : Pair) → Bans l i j p ↔ Given (whole_of u F) s (λ i. Memᴰ i cands) i j p)
        → l ≡ all_records F s cands
    list_only l a r h = rules_any_field F s cands l a r (λ i j p. ((λ f. finds_given.1 ((h i j p).0 f)), λ y. (h i j p).1 (finds_given.0 y)))

    given : (j : ℕ) → j < variables F → (k v : ℕ) → k < length cands → FindsValue F s (get_or cands k 0) j v ↔ GivesValue (whole_of u F) s (get_or cands k 0) j v
    given j below k v h = value_exact (get_or cands k 0) (free (get_or cands k 0) (at_in cands k h)) j v below

    given_back : (j : ℕ) → j < variables F → (k v : ℕ) → k < length cands → GivesValue (whole_of u F) s (get_or cands k 0) j v ↔ FindsValue F s (get_or cands k 0) j v
    given_back j below k v h = let z = given j below k v h in (z.1, z.0)

    -- A value below 2 stands at j exactly if the last candidate that gives j a value gives it,
    pub values_exact : (j : ℕ) → j < variables F → (w : ℕ) → w < 2
        → (get_or (all_values F s cands) j 0 ≡ w) ↔ LastGives (λ i v. GivesValue (whole_of u F) s i j v) cands (length cands) w
    values_exact j below w small =
        let e = value_finds F s cands j below w small in
        ((λ q. last_as cands (length cands) (given j below) w (e.0 q)), λ q. e.1 (last_as cands (length cands) (given_back j below) w q))

    -- and 2 exactly if none gives it any.
    pub none_exact : (j : ℕ) → j < variables F → (get_or (all_values F s cands) j 0 ≡ 2) ↔ NoneGives (λ i v. GivesValue (whole_of u F) s i j v) cands (length cands)
    none_exact j below =
        let e = none_finds F s cands j below in
        ((λ q. none_as cands (length cands) (given j below) (e.0 q)), λ q. e.1 (none_as cands (length cands) (given_back j below) q))

    -- DEMAND 3. Every best completion of the start values has every probe value of the list,
    module _ {x : List ℕ} (best : meaning.Best (whole_of u F) s x) where
      pub best_has_values : (j : ℕ) → j < variables F → get_or (all_values F s cands) j 0 < 2 → get_or x j 0 ≡ get_or (all_values F s cands) j 0
      best_has_values j below small =
          let w = get_or (all_values F s cands) j 0 in
          let h = (value_finds F s cands j below w small).0 refl in
          let i = get_or cands h.turn 0 in
          let here = free i (at_in cands h.turn h.within) in
          let l = looked F s i j (λ z. none_value z) h.gives in
          value_holds exact.standard start.long best i here (probed i here 0 (omega arith)) (probed i here 1 (omega arith)) j w l.finds

      -- and meets every record of the list.
      pub best_meets_all : (r : Record) → Memᴰ r (all_records F s cands) → MeetsRecord x r
      best_meets_all r m q =
          let h = (list_finds F s cands r.lower r.higher (pair (get_or x r.lower 0) (get_or x r.higher 0))).0 (bans_of m q) in
          let i = h.candidate in
          let here = free i h.chosen in
          let l = looked F s i h.variable (λ z. none_constraint z) h.finds in
          let met = constraint_holds exact.standard start.long best i here (probed i here 0 (omega arith)) (probed i here 1 (omega arith)) h.variable
          (left_small i here 0 (omega arith) h.variable) (left_small i here 1 (omega arith) h.variable) h.said l.finds in
          meets_apart x h.said r.lower r.higher met h.excludes

    -- There are best completions, and the values of each at a record's ends are a pair that it does not forbid: so no set has all four.
    pub no_full_set : (r : Record) → Memᴰ r (all_records F s cands) → r.set ≢ 15
    no_full_set r m e =
        let b = best_completion_exists (whole_of u F) s start.small in
        best_meets_all b.1 r m (rw e (all_in _ _ (b.1.completion.full r.lower) (b.1.completion.full r.higher)))
