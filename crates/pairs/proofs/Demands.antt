-- Demands 1 to 3 for pair dominance, over the promise of the call `pairs` alone. Assumes nothing.
use Prim.Native.Nat.{ℕ, ◌*◌, ◌/◌, ◌≤◌, ◌<◌}
use mathlib.Core.Path.{◌≡◌, refl, sym, ap, ◌∙◌}
use mathlib.Core.Logic.{◌≢◌, ◌↔◌}
use mathlib.Core.Bool.{Bool, true, false}
use mathlib.Core.List.Memᴰ
use mathlib.Core.List.{List, [], ◌∷◌, ◌++◌, append_assoc, Memᴰ}
use native.Mathlib.Omega.{arith}
use borrow.Author.Tests.{leb-false, lt-leb}
use lib.Dec.{T}
use lib.ListN.{length, get_or, take, drop, take-append-drop}
use lib.Seq.{take_at}
use lib.Ieee.{Float}
use lib.Ieee.Positive.{positive}
use Rattle.weights.specs.Worth.{zero64}
use Rattle.scratch.specs.Cleared.{cleared}
use Rattle.scratch.proofs.Means.{le_is}
use Rattle.meaning.specs.Field.{Best}
use Rattle.meaning.specs.Kinds.{Kind, Pair, pair, forbidden, joining, Meets}
use Rattle.meaning.specs.Records.{Record, AllProper, MeetsRecord, Bans}
use Rattle.meaning.specs.Rising.{Rising}
use Rattle.meaning.specs.Pair.{bit, dominated}
use Rattle.meaning.proofs.Bans.{bans_of}
use Rattle.meaning.proofs.Rising.{rising_same}
use Rattle.meaning.specs.Steps.{Extends}
use Rattle.field.specs.declared.Grade.{Grade}
use Rattle.field.specs.declared.Grade.TheVariants.{Exact as ExactGrade}
use Rattle.field.specs.declared.Refusal.{Refusal}
use Rattle.field.specs.declared.Refusal.TheVariants.{Room}
use Rattle.field.specs.Field.{Field, variables, StartFor}
use Rattle.field.specs.Table.{FirstToFail}
use Rattle.field.specs.Tests.{ready_tests, Ready}
use Rattle.field.specs.Grade.{grade_of, unit_of, Serves}
use Rattle.field.specs.Reading.{whole_of}
use Rattle.field.proofs.Table.{group_is, last_is}
use Rattle.field.proofs.Means.{ready_passes}
use Rattle.field.proofs.Exact.{exact_means}
use Rattle.calls.specs.Call.{table, no_stage}
use Rattle.calls.proofs.Call as any
use Rattle.calls.proofs.Usual as usual
use Rattle.calls.proofs.Usual.{this_stage, other_stage}
use Rattle.calls.proofs.Values.{never_room}
use Rattle.margins.specs.Exact.{Exact}
use Rattle.margins.specs.Model.{tolerance, bounds_of, pair_kinds}
use Rattle.margins.specs.Dominance.{Dominates, Four}
use Rattle.margins.proofs.Four.{four}
use Rattle.margins.proofs.Tolerance.{tolerance_positive}
use Rattle.margins.proofs.Verdict.{kind_means, kind_sound, kind_pattern, kind_stays}
use Rattle.constraints.specs.Record.{room, records, filled, Fit}
use Rattle.constraints.proofs.Records.{filled_rest, records_filled}
use Rattle.pairs.specs.declared.Paired.{Paired}
use Rattle.pairs.specs.Listing.{allowed, examined, pair_count, pair_records, found_in, found}
use Rattle.pairs.specs.Call.{Left, left, fits, pairs_table, pairs_call, listed, DoneSays, Ruled}
use Rattle.pairs.proofs.Examined.{examined_count, longer, FreePair, examined_free, examined_rise, still_examined}
use Rattle.pairs.proofs.CallLaws.{done_left}
use Rattle.pairs.proofs.Found.{Gives, Ordered, found_gives, gives_found, found_proper, found_on, found_rising, not_full}
use Rattle.field.specs.Answers.{Answer}
use Rattle.pairs.specs.Answers.{paired_answer}
use Rattle.std.specs.Prelude.{Err}
use Rattle.calls.proofs.Answers.{done_apart, same_refused, same_done}

-- Theorem. Any two results that the promise permits are equal.
pub one_result : (F : Field) (s : List ℕ) (limit : ℕ) (l : List ℕ) (f : List Float) (u : List ℕ) (x y : Left) → x ≡ pairs_call F s limit l f u → y ≡ pairs_call F s limit l f u → x ≡ y
one_result F s limit l f u = any.one_result (pairs_call F s limit l f u)

-- ---- what is found

-- an examined pair has the lower variable first
examined_ordered : (limit : ℕ) (s : List ℕ) → Ordered (examined limit s)
examined_ordered limit s p m = (examined_free limit s m).order

found_rises : (F : Field) (s : List ℕ) (limit : ℕ) → Rising (found F s limit)
unfolding found
found_rises F s limit = found_rising F s (examined limit s) (examined_ordered limit s) (examined_rise limit s)

all_proper : (F : Field) (s : List ℕ) (limit : ℕ) → AllProper (found F s limit)
unfolding found
all_proper F s limit = found_proper F s (examined limit s)

-- what is found forbids p of (i, j) exactly if the pair is examined and gives a kind that does
given_by : (F : Field) (s : List ℕ) (limit : ℕ) {i j : ℕ} {p : Pair} → Bans (found F s limit) i j p → Gives F s (examined limit s) i j p
unfolding found
given_by F s limit = found_gives F s (examined limit s) (examined_ordered limit s)

by_given : (F : Field) (s : List ℕ) (limit : ℕ) {i j : ℕ} {p : Pair} → Gives F s (examined limit s) i j p → Bans (found F s limit) i j p
unfolding found
by_given F s limit = gives_found F s (examined limit s) (examined_ordered limit s)

-- what a smaller limit finds stands at the front of what a larger one does
longer_found : (F : Field) (s : List ℕ) (limit more : ℕ) → limit ≤ more → (rest : List Record) × (found F s more ≡ found F s limit ++ rest)
unfolding found found_in
longer_found F s limit more h =
    let front = take (allowed limit) (examined more s) in
    let rest = drop (allowed limit) (examined more s) in (
      found_in F s rest,
      sym (ap (found_in F s) (take-append-drop (allowed limit) (examined more s))) ∙ found_append front rest ∙ ap (λ (z : List Pair). found_in F s z ++ found_in F s rest) (sym (longer limit more s h)),
    )
  where
    found_append : (ps qs : List Pair) → found_in F s (ps ++ qs) ≡ found_in F s ps ++ found_in F s qs
    found_append [] qs = refl
    found_append (p ∷ ps) qs = rw (found_append ps qs) (sym (append_assoc (pair_records F s p) (found_in F s ps) (found_in F s qs)))

-- the constraint of a pattern forbids the pattern alone
pattern_forbids : (a b : Bool) → forbidden (dominated a b) ≡ pair (bit a) (bit b) ∷ []
pattern_forbids true true = refl
pattern_forbids true false = refl
pattern_forbids false true = refl
pattern_forbids false false = refl

-- ---- the answer

module _ (F : Field) (s : List ℕ) (limit : ℕ) (l : List ℕ) (f : List Float) (u : List ℕ) where
  -- Theorem. DEMAND 1. Refused with r exactly if the tests before r's own pass, and its own fails: 9 is the last.
  pub refused_when : (r : Refusal) → ((pairs_call F s limit l f u).answer ≡ Err r) ↔ FirstToFail (pairs_table F s limit l (length f) (length u)) r
  unfolding pairs_call table
  refused_when = usual.refused_when Err _ _ _ _ same_refused done_apart refl

  -- Theorem. A refusal 1 to 8 changes nothing lent.
  pub refused_leaves : (r : Refusal) → r ≢ Room → (pairs_call F s limit l f u).answer ≡ Err r → pairs_call F s limit l f u ≡ left (Err r) l f u
  unfolding pairs_call
  refused_leaves r n e = usual.refused_leaves Err _ _ _ _ same_refused done_apart r (other_stage n no_stage) e

  -- Theorem. It is 9 exactly if all tests pass and there are more constraints than room.
  pub room_when : ((pairs_call F s limit l f u).answer ≡ Err Room) ↔ (Ready F s (length f) (length u) × (room l < length (found F s limit)))
  unfolding pairs_call
  room_when =
      let t = usual.last_when Err _ _ Room _ _ same_refused done_apart (never_room F s (length f) (length u)) (fits F s limit l) in
      let p = ready_passes F s (length f) (length u) in
      ((λ e. (p.0 (t.0 e).0, leb-false _ _ (t.0 e).1)), λ h. t.1 (p.1 h.0, lt-leb _ _ h.1))

  -- Theorem. On 9 the list and both scratches are all zeros.
  pub room_leaves : (pairs_call F s limit l f u).answer ≡ Err Room → pairs_call F s limit l f u ≡ left (Err Room) (cleared 0 l) (cleared zero64 f) (cleared 0 u)
  unfolding pairs_call
  room_leaves e = usual.later_leaves Err _ _ _ _ same_refused done_apart Room _ (never_room F s (length f) (length u)) (this_stage no_stage) e

  -- what the call answers and leaves when it is done
  abbrev result : Left
  result = done_left F s limit l f u

  passed : ((pairs_call F s limit l f u).answer ≡ result.answer) ↔ (Ready F s (length f) (length u) × (length (found F s limit) ≤ room l))
  unfolding pairs_call table
  passed =
      usual.done_when Err _ _ _ _ same_refused done_apart
      (group_is (ready_tests F s (length f) (length u)) _ (ready_passes F s (length f) (length u)) (last_is Room _ (le_is (length (found F s limit)) (room l))))

  ended : {g : Grade} {items pairs : ℕ} → (pairs_call F s limit l f u).answer ≡ paired_answer g items pairs → pairs_call F s limit l f u ≡ result
  unfolding pairs_call
  ended e = usual.done_leaves Err _ _ _ _ same_refused done_apart (λ r z. done_apart r (sym e ∙ z))

  -- Theorem. The call is done exactly if every test passes and the list has room, and then gives the grade, the number of constraints and the number of pairs by the formula.
  pub done_when : (g : Grade) (items pairs : ℕ) → ((pairs_call F s limit l f u).answer ≡ paired_answer g items pairs) ↔ DoneSays F s limit l f u g items pairs
  done_when g items pairs = (
    λ e.
        let w : result.answer ≡ (pairs_call F s limit l f u).answer = ap (λ (x : Left). x.answer) (sym (ended e)) in
        let q : result.answer ≡ paired_answer g items pairs = w ∙ e in
        let p = passed.0 (sym w) in
        let z = same_done q in
        let eg : g ≡ grade_of F = sym (ap (λ (x : Paired). x.grade) z) in
        let ei : items ≡ length (found F s limit) = sym (ap (λ (x : Paired). x.items) z) in
        let ep : pairs ≡ length (examined limit s) = sym (ap (λ (x : Paired). x.pairs) z) in
        record { ready = p.0; enough = p.1; graded = eg; counted = ei; pairs_counted = ep ∙ examined_count limit s },
    λ h. rw (h.graded, h.counted, h.pairs_counted, sym (examined_count limit s)) (passed.1 (h.ready, h.enough)),
  )

  module _ (g : Grade) (items pairs : ℕ) (e : (pairs_call F s limit l f u).answer ≡ paired_answer g items pairs) where
    -- Theorem. Then the records are at the front of the list, and both scratches are all zeros.
    pub done_leaves : pairs_call F s limit l f u ≡ left (paired_answer g items pairs) (filled (found F s limit) l) (cleared zero64 f) (cleared 0 u)
    done_leaves =
        let q : result.answer ≡ paired_answer g items pairs = ap (λ (x : Left). x.answer) (sym (ended e)) ∙ e in
        ended e ∙ ap (λ (a : Answer Paired). left a (filled (found F s limit) l) (cleared zero64 f) (cleared 0 u)) q

    -- Theorem. The first records of the list are those that the rule gives, no more and no fewer, and elements past the last of them are unchanged.
    pub list_holds : listed items (pairs_call F s limit l f u) ≡ found F s limit
    list_holds =
        rw (ap (λ (x : Left). x.lent.list) done_leaves, ((done_when g items pairs).0 e).counted, records_filled (found F s limit) l)
        (take_at (found F s limit) (records (drop (3 * length (found F s limit)) l)) (length (found F s limit)) refl)

    -- Theorem. Elements of the list past its last record are unchanged.
    pub past_unchanged : drop (3 * items) (pairs_call F s limit l f u).lent.list ≡ drop (3 * items) l
    past_unchanged = rw (ap (λ (x : Left). x.lent.list) done_leaves, ((done_when g items pairs).0 e).counted) (filled_rest (found F s limit) l)

    -- Theorem. They rise by pair: one record for one pair.
    pub list_rises : Rising (listed items (pairs_call F s limit l f u))
    list_rises = rw list_holds (found_rises F s limit)

    -- Theorem. Each is one that propagation takes.
    pub list_fits : (r : Record) → Memᴰ r (listed items (pairs_call F s limit l f u)) → Fit (variables F) r
    unfolding found
    list_fits r m =
        let n = rw list_holds at m in
        let free = examined_free limit s (found_on F s (examined limit s) (examined_ordered limit s) n) in
        record {
          proper = all_proper F s limit r n;
          rising = free.order;
          below = omega (arith, free.below, ((done_when g items pairs).0 e).ready.sound.start.long);
        }

    -- Theorem. No record has all four pairs, whatever the field.
    pub no_full_set : (r : Record) → Memᴰ r (listed items (pairs_call F s limit l f u)) → r.set ≢ 15
    unfolding found
    no_full_set r m = not_full F s (examined limit s) (examined_ordered limit s) (rw list_holds at m)

-- Theorem. DEMAND 3. A larger limit keeps each record and only lengthens the list: where both calls are done, the records of the smaller limit stand at the front of those of the larger.
pub longer_list : (F : Field) (s : List ℕ) (limit more : ℕ) → limit ≤ more
    → (l l' : List ℕ) (f f' : List Float) (u u' : List ℕ) (g g' : Grade) (items items' pairs pairs' : ℕ)
    → (pairs_call F s limit l f u).answer ≡ paired_answer g items pairs → (pairs_call F s more l' f' u').answer ≡ paired_answer g' items' pairs'
    → (rest : List Record) × (listed items' (pairs_call F s more l' f' u') ≡ listed items (pairs_call F s limit l f u) ++ rest)
longer_list F s limit more h l l' f f' u u' g g' items items' pairs pairs' e e' =
    let z = longer_found F s limit more h in
    (z.0, list_holds F s more l' f' u' g' items' pairs' e' ∙ z.1 ∙ ap (λ (x : List Record). x ++ z.0) (sym (list_holds F s limit l f u g items pairs e)))

module _ (F : Field) (s : List ℕ) (limit : ℕ) (l : List ℕ) (f : List Float) (u : List ℕ) (items pairs : ℕ) (e : (pairs_call F s limit l f u).answer ≡ paired_answer ExactGrade items pairs) where
  -- what an answer of done with the grade exact says of the field and the start values
  exact_in : {unit : ℕ} → Serves unit F → Exact unit F
  exact_in v = record { unit = omega (arith, v.to); exact = v.exact; shaped = ((done_when F s limit l f u ExactGrade items pairs).0 e).ready.sound.shaped }

  exact_field : Exact (unit_of F) F
  exact_field =
      let d = (done_when F s limit l f u ExactGrade items pairs).0 e in
      exact_in ((exact_means F d.ready.sound.shaped.rows_long).0 (sym d.graded))

  start : StartFor (variables F) s
  start = ((done_when F s limit l f u ExactGrade items pairs).0 e).ready.sound.start

  holds : listed items (pairs_call F s limit l f u) ≡ found F s limit
  holds = list_holds F s limit l f u ExactGrade items pairs e

  -- what an examined pair gives
  module _ {i j : ℕ} (m : Memᴰ (pair i j) (examined limit s)) where
    free_pair : FreePair s i j
    free_pair = examined_free limit s m

    first_below : i < variables F
    first_below = omega (arith, free_pair.order, free_pair.below, start.long)

    second_below : j < variables F
    second_below = omega (arith, free_pair.below, start.long)

    apart : i ≢ j
    apart z = omega (arith, free_pair.order)

    gives_exactly : {unit : ℕ} → Serves unit F → (a b : Bool) → Memᴰ (dominated a b) (pair_kinds F s i j) ↔ Dominates unit F s i j a b
    gives_exactly v = kind_means (exact_in v) start i j first_below second_below apart free_pair.first free_pair.second

    -- each kind that it gives is one of a pattern
    module _ {k : Kind} (h : Memᴰ k (pair_kinds F s i j)) where
      best_meets : {unit : ℕ} → Serves unit F → (x : List ℕ) → Best (whole_of unit F) s x → Meets x (joining k i j)
      best_meets v =
          let p = kind_pattern F s i j h in
          rw p.2 (kind_sound (exact_in v) start i j first_below second_below apart free_pair.first free_pair.second p.0 p.1 (rw p.2 at h))

      still_gives : {s' : List ℕ} → StartFor (variables F) s' → Extends s s' → get_or s' i 0 ≡ 2 → get_or s' j 0 ≡ 2 → Memᴰ k (pair_kinds F s' i j)
      still_gives start' more fi fj =
          let p = kind_pattern F s i j h in
          rw p.2 (kind_stays exact_field start start' more i j first_below second_below apart free_pair.first free_pair.second fi fj p.0 p.1 (rw p.2 at h))

  -- Theorem. DEMAND 2. On an exact field the list forbids the values p of (i, j) exactly if the pair is examined, p is a pattern, and f at the pattern
  -- less f at the opposite is above the tolerance for all values of the other free variables.
  pub list_exact : {unit : ℕ} → Serves unit F → (i j : ℕ) (p : Pair) → Bans (listed items (pairs_call F s limit l f u)) i j p ↔ Ruled unit F s limit i j p
  list_exact {unit} v i j p = rw holds (
    λ h.
        let g = given_by F s limit h in
        let k = kind_pattern F s i j g.gives in record {
          is_examined = g.is_pair;
          first = k.0;
          second = k.1;
          is = Memᴰ.eq_of_singleton (rw (k.2, pattern_forbids k.0 k.1) at g.forbids);
          dominates = (gives_exactly g.is_pair v k.0 k.1).0 (rw k.2 at g.gives);
        },
    λ h. by_given F s limit (record {
      is_pair = h.is_examined;
      kind = dominated h.first h.second;
      gives = (gives_exactly h.is_examined v h.first h.second).1 h.dominates;
      forbids = rw (pattern_forbids h.first h.second) (Memᴰ.head h.is);
    }),
  )

  -- Theorem. It is the one list of records, rising by pair, that forbids these.
  pub list_only : {unit : ℕ} → Serves unit F → (k : List Record) → AllProper k → Rising k → ((i j : ℕ) (p : Pair) → Bans k i j p ↔ Ruled unit F s limit i j p)
      → k ≡ listed items (pairs_call F s limit l f u)
  list_only v k a r h =
      rising_same k (listed items (pairs_call F s limit l f u)) a (rw holds (all_proper F s limit)) r (list_rises F s limit l f u ExactGrade items pairs e)
      (record { to = λ i j p b. (list_exact v i j p).1 ((h i j p).0 b); from = λ i j p b. (h i j p).1 ((list_exact v i j p).0 b) })

  -- Theorem. The four bounds are the least and the greatest over all values of the other free variables, in half units, and the tolerance is above 0.
  pub bounds_exact : {unit : ℕ} → Serves unit F → (i j : ℕ) → Memᴰ (pair i j) (examined limit s) → T (positive (tolerance F i j)) × Four unit F s i j (bounds_of F s i j)
  bounds_exact v i j m = (
    tolerance_positive (exact_in v) i j (first_below m) (second_below m),
    four (exact_in v) start i j (first_below m) (second_below m) (apart m) (free_pair m).first (free_pair m).second,
  )

  -- Theorem. DEMAND 3. Every best completion of the start values meets every record of the list.
  pub best_meets_all : {unit : ℕ} → Serves unit F → (x : List ℕ) → Best (whole_of unit F) s x → (r : Record) → Memᴰ r (listed items (pairs_call F s limit l f u)) → MeetsRecord x r
  best_meets_all v x best r m q =
      let g = given_by F s limit (rw holds at (bans_of m q)) in
      best_meets g.is_pair g.gives v x best g.forbids

  -- Theorem. A forbidden pair stays with further start values that fix neither of its variables, in a call with the same limit.
  pub further_keep : (s' l' : List ℕ) (f' : List Float) (u' : List ℕ) (items' pairs' : ℕ) → (pairs_call F s' limit l' f' u').answer ≡ paired_answer ExactGrade items' pairs' → Extends s s'
      → (i j : ℕ) (p : Pair) → get_or s' i 0 ≡ 2 → get_or s' j 0 ≡ 2 → Bans (listed items (pairs_call F s limit l f u)) i j p → Bans (listed items' (pairs_call F s' limit l' f' u')) i j p
  further_keep s' l' f' u' items' pairs' e' more i j p fi fj b =
      let g = given_by F s limit (rw holds at b) in
      let start' = ((done_when F s' limit l' f' u' ExactGrade items' pairs').0 e').ready.sound.start in
      rw (list_holds F s' limit l' f' u' ExactGrade items' pairs' e')
      (by_given F s' limit (record {
        is_pair = still_examined more limit g.is_pair fi fj;
        kind = g.kind;
        gives = still_gives g.is_pair g.gives start' more fi fj;
        forbids = g.forbids;
      }))

-- Theorem. At the limit 250,000 all 249,571 pairs of 707 free variables are examined, and of the 250,278 of 708 not all (rule 8.1).
pub counts_worked : (pair_count 250000 707 ≡ 249571) × ((pair_count 250000 708 ≡ 250000) × (708 * 707 / 2 ≡ 250278))
counts_worked = (refl, (refl, refl))
