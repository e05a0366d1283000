-- On every field: the records of all candidates forbid what the executable rule finds, and the last candidate that gives a value wins. Assumes nothing.
use Prim.Native.Nat.{ℕ, zero, suc, ◌<◌, ◌≤◌}
use mathlib.Core.Path.{◌≡◌, refl, sym, ap, ◌∙◌, subst}
use mathlib.Core.Logic.{◌≢◌, ◌⊎◌, inl, inr, ⊎_elim, ◌↔◌}
use mathlib.Core.List.Memᴰ
use mathlib.Core.List.{List, Memᴰ}
use native.Mathlib.Omega.{arith}
use lib.ListN.{length, get_or, length-replicate, get_or-replicate}
use Rattle.meaning.specs.Kinds.{Pair, Constraint}
use Rattle.meaning.specs.Records.{Record, AllProper, Proper, record_of, Bans, Covered}
use Rattle.meaning.specs.Rising.{Rising}
use Rattle.meaning.proofs.Values.{below_or_at, inside}
use Rattle.meaning.proofs.Sets.{some_pair}
use Rattle.meaning.proofs.Bans.{bans_of}
use Rattle.meaning.proofs.Records.{record_proper}
use Rattle.meaning.proofs.Rising.{merged_bans, merged_proper, merged_rising, rising_same}
use Rattle.constraints.specs.Record.{Fit}
use Rattle.field.specs.Field.{Field, variables}
use Rattle.rows.proofs.Upto.{length_up_to, get_d_up_to}
use Rattle.probe.specs.Found.{Finding, nothing, value, constraint}
use Rattle.probe.proofs.Found.{none_value, none_constraint, found_value}
use Rattle.finding.specs.Finds.{added, wins, finding_of, finding, finding_by, records_to, values_after, records_of, records_found_by, values_of, values_found_by}
use Rattle.probes.specs.Call.{all_records, all_records_by, all_values, all_values_by}
use Rattle.probes.specs.Rule.{FreeCandidates, Finds, FindsValue, LastGives, NoneGives}
use Rattle.probes.proofs.Members.{at_in, in_at}
use Rattle.probes.proofs.Excluded.{by_excludes, excluded_in}
use Rattle.probes.proofs.Table.{Between, found_between, looked}
use Rattle.probes.proofs.Later.{Stands, by_last, by_none, none_start, last_new, stands_on, stands_value, stands_none, stands_small}

-- ---- one finding

-- x is the record of the constraint that d is
record Says (d : Finding) (x : Record) : Type 0 where
  said : Constraint
  finds : d ≡ constraint said
  is : x ≡ record_of said

in_added : (d : Finding) (l : List Record) {x : Record} → Memᴰ x (added d l) → Says d x ⊎ Memᴰ x l
unfolding added
in_added nothing l m = inr m
in_added (value w) l m = inr m
in_added (constraint c) l m = ⊎_elim (λ e. inl (record { said = c; finds = refl; is = e })) inr (Memᴰ.cases_cons m)

old_added : (d : Finding) (l : List Record) {x : Record} → Memᴰ x l → Memᴰ x (added d l)
unfolding added
old_added nothing l m = m
old_added (value w) l m = m
old_added (constraint c) l m = Memᴰ.tail m

new_added : (d : Finding) (l : List Record) {x : Record} → Says d x → Memᴰ x (added d l)
unfolding added
new_added d l h = rw h.finds (Memᴰ.head h.is)

same_value : {v w : ℕ} → value v ≡ value w → v ≡ w
same_value e = cc

constraint_value : {c : Constraint} {w : ℕ} {A : Type 0} → constraint c ≡ value w → A
constraint_value e = let z : ◌≡◌ {A = ℕ} 0 1 = cc in absurd (omega arith)

value_small : (F : Field) (s : List ℕ) (i j : ℕ) {w : ℕ} → finding F s i j ≡ value w → w < 2
unfolding finding_by finding_of
value_small F s i j {w} e = (found_value i j _ _ w e).1.1

-- ---- the findings of one candidate

record SaysBelow (g : ℕ → Finding) (n : ℕ) (x : Record) : Type 0 where
  variable : ℕ
  below : variable < n
  says : Says (g variable) x

in_to : (g : ℕ → Finding) (l : List Record) (n : ℕ) {x : Record} → Memᴰ x (records_to g l n) → SaysBelow g n x ⊎ Memᴰ x l
unfolding records_to
in_to g l zero m = inr m
in_to g l (suc n) m =
    ⊎_elim
    (λ h. inl (record { variable = n; below = omega arith; says = h }))
    (λ r. ⊎_elim (λ h. inl (record { variable = h.variable; below = omega (arith, h.below); says = h.says })) inr (in_to g l n r))
    (in_added (g n) (records_to g l n) m)

old_to : (g : ℕ → Finding) (l : List Record) (n : ℕ) {x : Record} → Memᴰ x l → Memᴰ x (records_to g l n)
unfolding records_to
old_to g l zero m = m
old_to g l (suc n) m = old_added (g n) (records_to g l n) (old_to g l n m)

new_to : (g : ℕ → Finding) (l : List Record) (n j : ℕ) {x : Record} → j < n → Says (g j) x → Memᴰ x (records_to g l n)
unfolding records_to
new_to g l zero j h y = absurd (omega arith)
new_to g l (suc n) j {x} h y = go (below_or_at h) (λ b. new_to g l n j b y)
  where
    go : (j < n) ⊎ (j ≡ n) → (j < n → Memᴰ x (records_to g l n)) → Memᴰ x (added (g n) (records_to g l n))
    go (inl b) ih = old_added (g n) (records_to g l n) (ih b)
    go (inr e) ih = new_added (g n) (records_to g l n) (rw (← e) y)

-- x is the record of a constraint that the executable rule finds
record Recorded (F : Field) (s cands : List ℕ) (x : Record) : Type 0 where
  candidate : ℕ
  chosen : Memᴰ candidate cands
  variable : ℕ
  below : variable < variables F
  said : Constraint
  finds : finding F s candidate variable ≡ constraint said
  is : x ≡ record_of said

-- the ends of a constraint that is found are the candidate and the variable, and differ
found_ends : (F : Field) (s : List ℕ) (i j : ℕ) {c : Constraint} → finding F s i j ≡ constraint c → Between i j c × (c.first ≢ c.second)
found_ends F s i j e =
    let l = looked F s i j (λ z. none_constraint z) e in
    let b = found_between i j _ _ l.finds in
    (b, λ z. l.other (sym b.from ∙ z ∙ b.to))

module _ (F : Field) (s cands : List ℕ) where
  -- ---- all candidates

  found_in : (count : ℕ) → count ≤ length cands → {x : Record} → Memᴰ x (records_of F s cands count) → Recorded F s cands x
  unfolding records_found_by
  found_in zero h m = absurd (Memᴰ.not-nil m)
  found_in (suc k) h m =
      ⊎_elim
      (λ y. record {
        candidate = get_or cands k 0;
        chosen = at_in cands k (omega arith);
        variable = y.variable;
        below = y.below;
        said = y.says.said;
        finds = y.says.finds;
        is = y.says.is;
      })
      (λ r. found_in k (omega arith) r)
      (in_to (finding F s (get_or cands k 0)) (records_of F s cands k) (variables F) m)

  in_found : (count t : ℕ) → t < count → {x : Record} → SaysBelow (finding F s (get_or cands t 0)) (variables F) x → Memᴰ x (records_of F s cands count)
  unfolding records_found_by
  in_found zero t h y = absurd (omega arith)
  in_found (suc k) t h {x} y = go (below_or_at h) (λ b. in_found k t b y)
    where
      go : (t < k) ⊎ (t ≡ k) → (t < k → Memᴰ x (records_of F s cands k)) → Memᴰ x (records_of F s cands (suc k))
      go (inl b) ih = old_to (finding F s (get_or cands k 0)) (records_of F s cands k) (variables F) (ih b)
      go (inr e) ih = new_to (finding F s (get_or cands k 0)) (records_of F s cands k) (variables F) y.variable y.below (rw (← e) y.says)

  found_all : {x : Record} → Recorded F s cands x → Memᴰ x (records_of F s cands (length cands))
  found_all y =
      let p = in_at cands y.chosen in
      let e = ap (λ (i : ℕ). finding F s i y.variable) p.is in
      in_found (length cands) p.at p.within (record { variable = y.variable; below = y.below; says = record { said = y.said; finds = e ∙ y.finds; is = y.is } })

  found_proper : AllProper (records_of F s cands (length cands))
  found_proper x m = let y = found_in (length cands) (omega arith) m in subst Proper (sym y.is) (record_proper y.said)

  -- A pair is forbidden by the list exactly if the executable rule finds a constraint that forbids it,
  pub list_finds : (i j : ℕ) (p : Pair) → Bans (all_records F s cands) i j p ↔ Finds F s cands i j p
  unfolding all_records_by
  list_finds i j p =
      let all = merged_bans (records_of F s cands (length cands)) in (
        λ f.
            let g = all.to i j p f in
            let y = found_in (length cands) (omega arith) g.among in
            let z = by_excludes y.said (found_ends F s y.candidate y.variable y.finds).1 g y.is in
            record {
              candidate = y.candidate;
              chosen = y.chosen;
              variable = y.variable;
              below = y.below;
              said = y.said;
              finds = y.finds;
              order = z.0;
              excludes = z.1;
            },
        λ y.
            let m = found_all (record { candidate = y.candidate; chosen = y.chosen; variable = y.variable; below = y.below; said = y.said; finds = y.finds; is = refl }) in
            all.from i j p (excluded_in y.said (found_ends F s y.candidate y.variable y.finds).1 m (y.order, y.excludes)),
      )

  -- it is in rising order, one record for one pair,
  pub list_rising : Rising (all_records F s cands)
  unfolding all_records_by
  list_rising = merged_rising (records_of F s cands (length cands))

  -- and each of its sets has one to four pairs.
  pub list_proper : AllProper (all_records F s cands)
  unfolding all_records_by
  list_proper = merged_proper (records_of F s cands (length cands)) found_proper

  -- On every field the list is the one list of which all three hold.
  pub rules_any_field : (l : List Record) → AllProper l → Rising l → ((i j : ℕ) (p : Pair) → Bans l i j p ↔ Finds F s cands i j p) → l ≡ all_records F s cands
  rules_any_field l a r h =
      rising_same l (all_records F s cands) a list_proper r list_rising
      (record { to = λ i j p f. (list_finds i j p).1 ((h i j p).0 f); from = λ i j p f. (h i j p).1 ((list_finds i j p).0 f) })

  -- Each record is one that propagation takes: two variables, the lower first, and a set of one to four pairs.
  pub list_fits : FreeCandidates s cands → length s ≡ variables F → (x : Record) → Memᴰ x (all_records F s cands) → Fit (variables F) x
  list_fits free long x m =
      let proper = list_proper x m in
      let some = some_pair x.set proper.some proper.four in
      let y = (list_finds x.lower x.higher some.0).0 (bans_of m some.1) in
      let ends = (found_ends F s y.candidate y.variable y.finds).0 in
      let here = inside s y.candidate (free y.candidate y.chosen) in
      record {
        proper = proper;
        rising = y.order;
        below = ⊎_elim
            (λ e. omega (arith, e.1, ends.to, y.below))
            (λ e. omega (arith, e.0, ends.from, here, long))
            y.excludes;
      }

  -- ---- the values

  values_long : (k : ℕ) → length (values_of F s cands k) ≡ variables F
  unfolding values_found_by values_after
  values_long zero = length-replicate (variables F) 2
  values_long (suc k) = length_up_to (λ j. wins (finding F s (get_or cands k 0) j) (get_or (values_of F s cands k) j 0)) (length (values_of F s cands k)) ∙ values_long k

  -- There is one value for each variable.
  pub all_values_long : length (all_values F s cands) ≡ variables F
  unfolding all_values_by
  all_values_long = values_long (length cands)

  module _ (j : ℕ) (below : j < variables F) where
    first_value : get_or (values_of F s cands zero) j 0 ≡ 2
    unfolding values_found_by
    first_value = get_or-replicate (variables F) j 2 0 below

    next_value : (k : ℕ) → get_or (values_of F s cands (suc k)) j 0 ≡ wins (finding F s (get_or cands k 0) j) (get_or (values_of F s cands k) j 0)
    unfolding values_found_by values_after
    next_value k = get_d_up_to (λ j. wins (finding F s (get_or cands k 0) j) (get_or (values_of F s cands k) j 0)) (length (values_of F s cands k)) j 0 (omega (arith, values_long k))

    abbrev Gives : ℕ → ℕ → Type 0
    Gives i w = FindsValue F s i j w

    -- after some candidates the value of the last that gives one stands at j
    values_stand : (count : ℕ) → Stands Gives cands count (get_or (values_of F s cands count) j 0)
    unfolding wins
    values_stand zero = by_none first_value (none_start Gives cands)
    values_stand (suc k) = rw (next_value k) (go (finding F s (get_or cands k 0) j) refl (values_stand k))
      where
        go : (d : Finding) → finding F s (get_or cands k 0) j ≡ d → Stands Gives cands k (get_or (values_of F s cands k) j 0)
            → Stands Gives cands (suc k) (wins d (get_or (values_of F s cands k) j 0))
        go nothing e h = stands_on h (λ v g. none_value (sym e ∙ g))
        go (value w) e h = by_last (value_small F s (get_or cands k 0) j e) (last_new e)
        go (constraint c) e h = stands_on h (λ v g. constraint_value (sym e ∙ g))

    -- On every field a value stands at j exactly if the last candidate that gives j a value gives it,
    pub value_finds : (w : ℕ) → w < 2 → (get_or (all_values F s cands) j 0 ≡ w) ↔ LastGives Gives cands (length cands) w
    unfolding all_values_by
    value_finds w small = stands_value (values_stand (length cands)) (λ i v v' e e'. same_value (sym e ∙ e')) small

    -- and 2 exactly if none gives it any.
    pub none_finds : (get_or (all_values F s cands) j 0 ≡ 2) ↔ NoneGives Gives cands (length cands)
    unfolding all_values_by
    none_finds = stands_none (values_stand (length cands))

    -- nothing is listed at a given variable
    pub start_left_out : get_or s j 0 ≢ 2 → get_or (all_values F s cands) j 0 ≡ 2
    start_left_out n = none_finds.1 (record { none = λ k v h e. n (looked F s (get_or cands k 0) j (λ z. none_value z) e).free })

    -- Nothing else stands there.
    pub value_or_none : get_or (all_values F s cands) j 0 ≤ 2
    unfolding all_values_by
    value_or_none = stands_small (values_stand (length cands))

-- ---- other candidates

-- More candidates forbid no fewer pairs,
pub more_candidates : (F : Field) (s a b : List ℕ) → ((i : ℕ) → Memᴰ i a → Memᴰ i b) → Covered (all_records F s a) (all_records F s b)
more_candidates F s a b more i j p f =
    let y = (list_finds F s a i j p).0 f in
    (list_finds F s b i j p).1 (record {
      candidate = y.candidate;
      chosen = more y.candidate y.chosen;
      variable = y.variable;
      below = y.below;
      said = y.said;
      finds = y.finds;
      order = y.order;
      excludes = y.excludes;
    })

-- and the same candidates in any order give the same list.
pub same_candidates : (F : Field) (s a b : List ℕ) → ((i : ℕ) → Memᴰ i a ↔ Memᴰ i b) → all_records F s a ≡ all_records F s b
same_candidates F s a b same =
    rising_same (all_records F s a) (all_records F s b) (list_proper F s a) (list_proper F s b) (list_rising F s a) (list_rising F s b)
    (record { to = more_candidates F s a b (λ i. (same i).0); from = more_candidates F s b a (λ i. (same i).1) })
