-- The demands for a reason, over the promise of the call `reason` alone. Assumes nothing.
use Prim.Native.Nat.{ℕ, suc, ◌+◌, ◌<◌, ◌≤◌}
use mathlib.Core.Path.{◌≡◌, refl, sym, ap, ◌∙◌}
use mathlib.Core.Logic.{◌≢◌, ◌⊎◌, inl, inr, ◌↔◌}
use mathlib.Core.Bool.{Bool, true, false, cond}
use mathlib.Core.List.{List, []}
use native.Mathlib.Omega.{arith}
use borrow.Author.Tests.{eq-eqb, ne_eqb, leb-false, lt-leb}
use lib.ListN.{length, get_or}
use lib.Ieee.{Float}
use Rattle.weights.specs.Worth.{zero64}
use Rattle.scratch.specs.Cleared.{cleared}
use Rattle.scratch.specs.Over.{over}
use Rattle.scratch.proofs.Over.{over_at}
use Rattle.scratch.proofs.Means.{le_is}
use Rattle.meaning.specs.Free.{is_free}
use Rattle.field.specs.declared.Grade.TheVariants.{Exact, Inexact as NotExact}
use Rattle.field.specs.declared.Refusal.{Refusal}
use Rattle.field.specs.declared.Refusal.TheVariants.{Inexact, Unforced, Room}
use Rattle.field.specs.Field.{Field, variables}
use Rattle.field.specs.Table.{FirstToFail, fails, passes}
use Rattle.field.specs.Tests.{ready_tests, Ready}
use Rattle.field.specs.Grade.{finest, grade_of, unit_of, Serves}
use Rattle.field.specs.Reading.{whole_of}
use Rattle.field.proofs.Exact.{exact_means, unit_least}
use Rattle.field.proofs.Means.{ready_passes}
use Rattle.field.proofs.Table.{group_is, pass_is, last_is}
use Rattle.calls.specs.Call.{table, no_stage}
use Rattle.calls.proofs.Call as any
use Rattle.calls.proofs.Usual as usual
use Rattle.calls.proofs.Usual.{this_stage, other_stage}
use Rattle.calls.proofs.Values.{never_room}
use Rattle.run.specs.Run.{closure}
use Rattle.reason.specs.declared.Ground.{Ground}
use Rattle.reason.specs.declared.Ground.TheVariants.{Given}
use Rattle.reason.specs.Until.{basis}
use Rattle.reason.specs.Listed.{is_listed, listed_of, Only}
use Rattle.reason.specs.Ground.{least_unit, reason_of, reason_list, Says}
use Rattle.reason.specs.Rank.{rank, Ends}
use Rattle.reason.specs.Call.{Left, left, Reasonable, fits, reason_tests, because, reason_call, item}
use Rattle.reason.proofs.Laws.{same_because, apart_numbers, never_inexact, never_unforced, exact_true, exact_false, value_true, value_false, first_inexact, first_unforced, first_room}
use Rattle.calls.proofs.Answers.{same_refused, done_apart}
use Rattle.reason.proofs.Local.{same_gradient}
use Rattle.reason.proofs.Listed.{listed_at, listed_in, listed_rises, only_joined, only_some}
use Rattle.reason.proofs.Theorems.{basis_value, reason_says, says_same}
use Rattle.reason.proofs.Ranks.{listed_below, ending}
use Rattle.reason.specs.Answers.{reasoned_answer}
use Rattle.std.specs.Prelude.{Err}

-- Theorem. Any two results that the promise permits are equal.
pub one_result : (F : Field) (s : List ℕ) (i : ℕ) (l : List ℕ) (f : List Float) (u : List ℕ) (x y : Left) → x ≡ reason_call F s i l f u → y ≡ reason_call F s i l f u → x ≡ y
one_result F s i l f u = any.one_result (reason_call F s i l f u)

-- ---- answers

module _ (F : Field) (s : List ℕ) (i : ℕ) (l : List ℕ) (f : List Float) (u : List ℕ) where
  -- Theorem. The call is refused with r exactly if the tests before r's own pass, and its own fails: the closure's tests, then 12, 13 and 9.
  pub refused_when : (r : Refusal) → ((reason_call F s i l f u).answer ≡ Err r) ↔ FirstToFail (reason_tests F s i l (length f) (length u)) r
  unfolding reason_call reason_tests table
  refused_when = usual.refused_when Err _ _ _ _ same_refused done_apart refl

  -- Theorem. A refusal by the closure's tests changes nothing lent.
  pub refused_leaves : (r : Refusal) → r ≢ Inexact → r ≢ Unforced → r ≢ Room → (reason_call F s i l f u).answer ≡ Err r → reason_call F s i l f u ≡ left (Err r) l f u
  unfolding reason_call
  refused_leaves r a b c e = usual.refused_leaves Err _ _ _ _ same_refused done_apart r (other_stage a (other_stage b (other_stage c no_stage))) e

  -- Theorem. 12 is given exactly if those tests pass and the field is inexact.
  pub inexact_when : ((reason_call F s i l f u).answer ≡ Err Inexact) ↔ (Ready F s (length f) (length u) × (grade_of F ≡ NotExact))
  unfolding reason_call table
  inexact_when =
      let t = usual.later_when Err _ _ _ _ same_refused done_apart Inexact (never_inexact F s (length f) (length u)) in
      let p = ready_passes F s (length f) (length u) in
      let x = exact_false F in
      ((λ e. (p.0 (t.0 e).0, x.0 (first_inexact (t.0 e).1))), λ h. t.1 (p.1 h.0, fails (x.1 h.1)))

  -- Theorem. 13 exactly if they pass, the field is exact, and the variable is not below n or free in the closure.
  pub unforced_when : ((reason_call F s i l f u).answer ≡ Err Unforced)
      ↔ (Ready F s (length f) (length u) × ((grade_of F ≡ Exact) × (i < variables F → get_or (closure F s) i 0 ≡ 2)))
  unfolding reason_call table
  unforced_when =
      let t = usual.later_when Err _ _ _ _ same_refused done_apart Unforced (never_unforced F s (length f) (length u)) in
      let p = ready_passes F s (length f) (length u) in
      let x = exact_true F in
      let v = value_false F s i in
      ((λ e. let h = first_unforced (t.0 e).1 in (p.0 (t.0 e).0, (x.0 h.0, v.0 h.1))), λ h. t.1 (p.1 h.0, passes (x.1 h.1.0) (fails (v.1 h.1.1))))

  -- Theorem. 12 and 13 leave the list as it was, and the scratch as zeros.
  pub later_leaves : (r : Refusal) → (r ≡ Inexact) ⊎ (r ≡ Unforced) → (reason_call F s i l f u).answer ≡ Err r
      → reason_call F s i l f u ≡ left (Err r) l (cleared zero64 f) (cleared 0 u)
  unfolding reason_call
  later_leaves r (inl same) e = rw same (usual.later_leaves Err _ _ _ _ same_refused done_apart Inexact _ (never_inexact F s (length f) (length u))
      (this_stage (other_stage (apart_numbers (λ z. omega arith)) (other_stage (apart_numbers (λ z. omega arith)) no_stage))) (rw same at e))
  later_leaves r (inr same) e = rw same (usual.later_leaves Err _ _ _ _ same_refused done_apart Unforced _ (never_unforced F s (length f) (length u))
      (other_stage (apart_numbers (λ z. omega arith)) (this_stage (other_stage (apart_numbers (λ z. omega arith)) no_stage))) (rw same at e))

  -- Theorem. 9 is given exactly if all that passes, and more are listed than the list has places.
  pub room_when : ((reason_call F s i l f u).answer ≡ Err Room) ↔ (Reasonable F s i (length f) (length u) × (length l < length (reason_list F s i)))
  unfolding reason_call table fits
  room_when =
      let t = usual.later_when Err _ _ _ _ same_refused done_apart Room (never_room F s (length f) (length u)) in
      let p = ready_passes F s (length f) (length u) in
      let x = exact_true F in
      let v = value_true F s i in (
        (λ e. let h = first_room (t.0 e).1 in
            let w = v.0 h.1.0 in
            (record { ready = p.0 (t.0 e).0; exact = x.0 h.0; below = w.0; fixed = w.1 }, leb-false _ _ h.1.1)),
        λ h. t.1 (p.1 h.0.ready, passes (x.1 h.0.exact) (passes (v.1 (h.0.below, h.0.fixed)) (fails (lt-leb _ _ h.1)))),
      )

  -- Theorem. On 9 the list and the scratch are all zeros.
  pub room_leaves : (reason_call F s i l f u).answer ≡ Err Room → reason_call F s i l f u ≡ left (Err Room) (cleared 0 l) (cleared zero64 f) (cleared 0 u)
  unfolding reason_call
  room_leaves e = usual.later_leaves Err _ _ _ _ same_refused done_apart Room _ (never_room F s (length f) (length u))
      (other_stage (apart_numbers (λ z. omega arith)) (other_stage (apart_numbers (λ z. omega arith)) (this_stage no_stage))) e

  -- Theorem. It is done exactly if all that passes, and the list has room.
  pub done_when : ((reason_call F s i l f u).answer ≡ because F s i) ↔ (Reasonable F s i (length f) (length u) × (length (reason_list F s i) ≤ length l))
  unfolding reason_call table fits
  done_when =
      let t = usual.done_when Err _ _ _ _ same_refused done_apart
      (group_is (ready_tests F s (length f) (length u)) _ (ready_passes F s (length f) (length u))
      (pass_is Inexact _ _ (exact_true F) (pass_is Unforced _ _ (value_true F s i) (last_is Room _ (le_is (length (reason_list F s i)) (length l)))))) in (
        (λ e. let h = t.0 e in (record { ready = h.0; exact = h.1.0; below = h.1.1.0.0; fixed = h.1.1.0.1 }, h.1.1.1)),
        λ h. t.1 (h.0.ready, (h.0.exact, ((h.0.below, h.0.fixed), h.1))),
      )

  -- ---- an answer: its ground g, its unit k and its m items

  module _ {g : Ground} {k m : ℕ} (e : (reason_call F s i l f u).answer ≡ reasoned_answer g k m) where
    -- Theorem. The items are at the front of the list, the rest of it is unchanged, and the scratch is all zeros.
    pub done_leaves : reason_call F s i l f u ≡ left (because F s i) (over (reason_list F s i) l) (cleared zero64 f) (cleared 0 u)
    unfolding reason_call
    done_leaves = usual.done_leaves Err _ _ _ _ same_refused done_apart (λ r z. done_apart r (sym e ∙ z))

    -- Theorem. The field and the start values are as the table asks, the field is exact, and the variable has a value in the closure.
    pub reasonable : Reasonable F s i (length f) (length u)
    reasonable = (done_when.0 (ap (λ (x : Left). x.answer) done_leaves)).0

    answer_is : (g ≡ reason_of F s i) × ((k ≡ least_unit F) × (m ≡ length (reason_list F s i)))
    answer_is = same_because (sym e ∙ ap (λ (x : Left). x.answer) done_leaves)

    item_is : (t : ℕ) → t < m → item F s i l f u t ≡ get_or (reason_list F s i) t 0
    item_is t h = ap (λ (x : Left). get_or x.lent.list t 0) done_leaves ∙ over_at (reason_list F s i) l t 0 (omega (arith, answer_is.1.1))

    serving : Serves (unit_of F) F
    serving = (exact_means F reasonable.ready.sound.shaped.rows_long).0 reasonable.exact

    unit_is : k + finest ≡ unit_of F
    unit_is = omega (arith, answer_is.1.0, serving.from)

    -- Theorem. THE UNIT: the field is exact in it, and it is the smallest in which it is.
    pub unit_serves : Serves (k + finest) F
    unit_serves = rw unit_is serving

    -- Theorem. No unit that serves the field is smaller than the one that is answered.
    pub unit_smallest : {v : ℕ} → Serves v F → k + finest ≤ v
    unit_smallest h = rw unit_is (unit_least h)

    -- Theorem. A given variable: no bound, and nothing listed.
    pub given_says : get_or s i 0 ≢ 2 → (g ≡ Given) × (m ≡ 0)
    unfolding reason_of reason_list
    given_says n = (answer_is.0 ∙ rw (ne_eqb (get_or s i 0) 2 n) refl, answer_is.1.1 ∙ rw (ne_eqb (get_or s i 0) 2 n) refl)

    -- ---- the items

    -- Theorem. They rise.
    pub items_rise : (t : ℕ) → suc t < m → item F s i l f u t < item F s i l f u (suc t)
    unfolding reason_list listed_of
    items_rise t h = rw (item_is t (omega arith), item_is (suc t) h) (go (is_free s i) (omega (arith, answer_is.1.1)))
      where
        go : (b : Bool) → suc t < length (cond b (listed_of F (basis F s i) i) []) → get_or (cond b (listed_of F (basis F s i) i) []) t 0 < get_or (cond b (listed_of F (basis F s i) i) []) (suc t) 0
        go true h = listed_rises F (basis F s i) i (variables F) t (suc t) (omega arith) h
        go false h = absurd (omega arith)

    -- Theorem. Each item has a reason of its own and a lower rank: so it is given, or is forced earlier in the run.
    pub items_below : (t : ℕ) → t < m → Reasonable F s (item F s i l f u t) (length f) (length u) × (rank F s (item F s i l f u t) < rank F s i)
    items_below t h =
        let r = reasonable in
        let x = listed_below r.ready.sound.shaped serving.exact r.ready.sound.start i r.fixed t (omega (arith, answer_is.1.1)) in
        rw (item_is t h) (record { ready = r.ready; exact = r.exact; below = x.0; fixed = x.1.0 }, x.1.1)

    -- Theorem. Following reasons ends.
    pub reasons_end : Ends F s i
    reasons_end = let r = reasonable in ending r.ready.sound.shaped serving.exact r.ready.sound.start i r.fixed

    -- ---- the bound

    module _ (free : get_or s i 0 ≡ 2) where
      list_is : reason_list F s i ≡ listed_of F (basis F s i) i
      unfolding reason_list
      list_is = rw (eq-eqb (get_or s i 0) 2 free) refl

      count_is : m ≡ length (listed_of F (basis F s i) i)
      count_is = answer_is.1.1 ∙ ap length list_is

      place_is : (t : ℕ) → t < m → item F s i l f u t ≡ get_or (listed_of F (basis F s i) i) t 0
      place_is t h = item_is t h ∙ ap (λ (x : List ℕ). get_or x t 0) list_is

      -- Theorem. Each item is a neighbour that the bound counts as fixed, given or served in the run by then,.
      pub items_listed : (t : ℕ) → t < m → is_listed F (basis F s i) i (item F s i l f u t) ≡ true
      unfolding listed_of
      items_listed t h = rw (place_is t h) (listed_at F (basis F s i) i (variables F) t (omega (arith, count_is))).1

      -- Theorem. Each neighbour that the bound counts as fixed is an item.
      pub listed_items : (j : ℕ) → j < variables F → is_listed F (basis F s i) i j ≡ true → (t : ℕ) × ((t < m) × (item F s i l f u t ≡ j))
      unfolding listed_of
      listed_items j b h =
          let a = listed_in F (basis F s i) i (variables F) j b h in
          let c : a.0 < m = omega (arith, count_is, a.1) in
          (a.0, (c, place_is a.0 c ∙ a.2))

      -- Theorem. THE BOUND: with only the listed values fixed, and all else free, it is low or high of the variable, in half units, and it is strict on the side of its value.
      pub bound_says : {x : List ℕ} → Only (variables F) m (item F s i l f u) (closure F s) x → Says (whole_of (k + finest) F) x i (get_or (closure F s) i 0) g
      unfolding listed_of
      bound_says {x} o =
          let r = reasonable in
          let at : Only (variables F) (length (listed_of F (basis F s i) i)) (λ t. get_or (listed_of F (basis F s i) i) t 0) (closure F s) x = record {
            long = o.long;
            listed_fixed = λ t h. let c : t < m = omega (arith, count_is) in rw (place_is t c) at (o.listed_fixed t c);
            others_free = λ j b n. o.others_free j b (λ t c z. n t (omega (arith, count_is)) (sym (place_is t c) ∙ z));
          } in
          rw (unit_is, answer_is.0)
          (says_same (same_gradient F i (basis F s i) x (unit_of F) r.ready.sound.shaped (only_joined F (basis F s i) i (closure F s) (basis_value F r.ready.sound.start i) at))
          (reason_says r.ready.sound.shaped serving r.ready.sound.start i free r.fixed r.below))

      -- Theorem. There are such values.
      pub some_only : (x : List ℕ) × Only (variables F) m (item F s i l f u) (closure F s) x
      unfolding listed_of
      some_only =
          let a = only_some F (basis F s i) i (closure F s) (basis_value F reasonable.ready.sound.start i) in (
            a.0,
            record {
              long = a.1.long;
              listed_fixed = λ t h. rw (place_is t h) (a.1.listed_fixed t (omega (arith, count_is)));
              others_free = λ j b n. a.1.others_free j b (λ t c z. n t (omega (arith, count_is)) (place_is t (omega (arith, count_is)) ∙ z));
            },
          )
