-- Two runs whose rows are worth the same keep step: on an exact field all rows that are worth low and high of the free variables lead to the same
-- values and the same queue. Assumes nothing.
use Prim.Native.Nat.{ℕ, zero, suc, ◌+◌, ◌<◌, ◌≤◌}
use mathlib.Core.Path.{◌≡◌, refl, sym, ap, ap₂, ◌∙◌}
use mathlib.Core.Bool.{Bool, true, false, cond, ◌||◌}
use mathlib.Core.List.{List, [], ◌∷◌, ◌++◌}
use native.Mathlib.Nat.{add-zero, zero-add}
use native.Mathlib.Omega.{arith}
use borrow.Author.Tests.{eqb-true, eqb-false, ltb-true}
use lib.ListN.{length, get_or, set}
use lib.Dec.{eqb, ltb}
use Rattle.whole.specs.Whole.{Whole}
use Rattle.meaning.specs.Gradient.{View, view, see}
use Rattle.field.specs.Field.{Field, variables, entries, row_end, column_end, Shaped, StartFor}
use Rattle.field.specs.Grade.{ExactIn}
use Rattle.field.specs.Reading.{whole_of}
use Rattle.rows.specs.declared.Row.{Row}
use Rattle.rows.specs.declared.Verdict.TheVariants.{Zero, One, Flat, Open}
use Rattle.rows.specs.Row.{both_zero}
use Rattle.rows.specs.Counted.{RowWorth}
use Rattle.rows.specs.Model.{coeff_of}
use Rattle.rows.proofs.Terms.{judge_worth}
use Rattle.places.specs.Places.{keep, places_from, places, other_end}
use Rattle.run.specs.Run.{Run, row_for, is_free, force, settle, judged, scan_at, scan_to, move_row, serve_at, serve_all, serve, work, propagate}
use Rattle.run.specs.Ended.{RowsWorth}
use Rattle.run.proofs.Invariant.{Holds, Serving, judged_holds, judged_serving}
use Rattle.run.proofs.Sight.{meets, Joins, joins_other, parts_other, neither, sees_none, sees_one, moved_counted}
use Rattle.run.proofs.Serve.{first_holds}
use Rattle.run.proofs.Bridge.{unscanned_holds, scan_past}

-- the same values and the same queue
pub record Agree (run other : Run) : Type 0 where
  pub values : other.values ≡ run.values
  pub queue : other.queue ≡ run.queue

-- both runs hold at one view
pub record Abreast (u : ℕ) (F : Field) (s : List ℕ) (run other : Run) (w : View) (b h e c : ℕ) : Type 0 where
  pub one : Holds u F s run w b h e c
  pub two : Holds u F s other w b h e c
  pub agree : Agree run other

-- rows that are worth the same are judged alike
judged_agree : {u : ℕ} {a b : Whole} (run other : Run) (t : ℕ) → RowWorth u (row_for run t) a b → RowWorth u (row_for other t) a b → Agree run other → Agree (judged run t) (judged other t)
unfolding judged settle force
judged_agree {a = a} {b} run other t h g d = rw (judge_worth h, judge_worth g) (go (ltb a.less a.plus) (ltb b.plus b.less) (both_zero (row_for run t)) (both_zero (row_for other t)))
  where
    given : (v : ℕ) → Agree (force run t v) (force other t v)
    given v = record { values = ap (λ (l : List ℕ). set l t v) d.values; queue = ap (λ (l : List ℕ). l ++ (t ∷ [])) d.queue }

    go : (x y o o' : Bool)
        → Agree (settle run t (cond x (Zero (row_for run t).lower) (cond y (One (row_for run t).upper) (cond o Flat Open))))
        (settle other t (cond x (Zero (row_for other t).lower) (cond y (One (row_for other t).upper) (cond o' Flat Open))))
    go true y o o' = given 0
    go false true o o' = given 1
    go false false true true = d
    go false false true false = d
    go false false false true = d
    go false false false false = d

same_free : {run other : Run} {b : Bool} → Agree run other → (t : ℕ) → is_free run t ≡ b → is_free other t ≡ b
same_free d t e = ap (λ (l : List ℕ). eqb (get_or l t 0) 2) d.values ∙ e

-- ---- a variable is served

record Turns (u : ℕ) (F : Field) (s : List ℕ) (h i v k : ℕ) (run other : Run) : Type 0 where
  seen : View
  abreast : Abreast u F s run other seen (variables F) (suc h) i k
  serving : Serving run.values run.queue h i v
  serving' : Serving other.values other.queue h i v

record Rests (u : ℕ) (F : Field) (s : List ℕ) (b h : ℕ) (run other : Run) : Type 0 where
  seen : View
  last : ℕ
  abreast : Abreast u F s run other seen b h last (entries F)

module _ {u : ℕ} {F : Field} (shaped : Shaped F) (exact : ExactIn u F) {s : List ℕ} {h i v : ℕ} where
  turn : (k : ℕ) (run other : Run) → k < entries F → meets F i k ≡ true → Turns u F s h i v k run other → Turns u F s h i v (suc k) (serve_at F i v run k) (serve_at F i v other k)
  unfolding serve_at other_end move_row
  turn k run other l m a = go (is_free run t) refl
    where
      t : ℕ
      t = other_end F.rows F.cols i k

      o : Joins (whole_of u F) k i t
      o = joins_other (row_end F k) (column_end F k) i m

      A : Abreast u F s run other a.seen (variables F) (suc h) i k
      A = a.abreast

      go : (b : Bool) → is_free run t ≡ b
          → Turns u F s h i v (suc k) (cond b (judged (move_row run t (coeff_of F k) v) t) run) (cond (is_free other t) (judged (move_row other t (coeff_of F k) v) t) other)
      go true e =
          let f = eqb-true _ _ e in
          let e' : is_free other t ≡ true = same_free A.agree t e in
          let f' = eqb-true _ _ e' in
          rw e' record {
            seen = see a.seen k i v;
            abreast = record {
              one = sees_one shaped exact A.one a.serving l t o f;
              two = sees_one shaped exact A.two a.serving' l t o f';
              agree = judged_agree (move_row run t (coeff_of F k) v) (move_row other t (coeff_of F k) v) t
                  ((moved_counted shaped exact A.one a.serving l t o f).worth t f) ((moved_counted shaped exact A.two a.serving' l t o f').worth t f')
                  (record { values = A.agree.values; queue = A.agree.queue });
            };
            serving = judged_serving (move_row run t (coeff_of F k) v) t f a.serving;
            serving' = judged_serving (move_row other t (coeff_of F k) v) t f' a.serving';
          }
      go false e =
          let e' : is_free other t ≡ false = same_free A.agree t e in
          rw e' record {
            seen = see a.seen k i v;
            abreast = record {
              one = sees_none shaped exact A.one a.serving l (λ j f.
                  parts_other (whole_of u F) k i t j (exact.standard k l) o (λ n. eqb-false _ _ e (ap (λ (y : ℕ). get_or run.values y 0) (sym n) ∙ f)));
              two = sees_none shaped exact A.two a.serving' l (λ j f.
                  parts_other (whole_of u F) k i t j (exact.standard k l) o (λ n. eqb-false _ _ e' (ap (λ (y : ℕ). get_or other.values y 0) (sym n) ∙ f)));
              agree = A.agree;
            };
            serving = a.serving;
            serving' = a.serving';
          }

  pass_by : (k : ℕ) (run other : Run) → k < entries F → meets F i k ≡ false → Turns u F s h i v k run other → Turns u F s h i v (suc k) run other
  pass_by k run other l m a =
      let n = neither (row_end F k) (column_end F k) i m in
      record {
        seen = see a.seen k i v;
        abreast = record {
          one = sees_none shaped exact a.abreast.one a.serving l (λ j f. ((λ e. n.1), (λ e. n.0)));
          two = sees_none shaped exact a.abreast.two a.serving' l (λ j f. ((λ e. n.1), (λ e. n.0)));
          agree = a.abreast.agree;
        };
        serving = a.serving;
        serving' = a.serving';
      }

  turns : (rs cs : List ℕ) (k : ℕ) (run other : Run) → length rs ≡ length cs → k + length rs ≡ entries F
      → ((j : ℕ) → get_or rs j 0 ≡ row_end F (k + j)) → ((j : ℕ) → get_or cs j 0 ≡ column_end F (k + j))
      → Turns u F s h i v k run other → Turns u F s h i v (entries F) (serve_all F i v run (places_from rs cs i k)) (serve_all F i v other (places_from rs cs i k))
  unfolding serve_all places_from keep
  turns [] [] k run other e f p q a = rw (← f, add-zero k) a
  turns [] (c ∷ cs) k run other e f p q a = absurd (omega arith)
  turns (r ∷ rs) [] k run other e f p q a = absurd (omega arith)
  turns (r ∷ rs) (c ∷ cs) k run other e f p q a =
      go (eqb r i || eqb c i)
      (ap₂ (λ (y z : ℕ). eqb y i || eqb z i) (sym (p 0 ∙ ap (row_end F) (add-zero k))) (sym (q 0 ∙ ap (column_end F) (add-zero k))))
      (λ next next' b. turns rs cs (suc k) next next' (omega arith) (omega arith) (λ j. p (suc j) ∙ ap (row_end F) (omega arith)) (λ j. q (suc j) ∙ ap (column_end F) (omega arith)) b)
    where
      here : k < entries F
      here = omega arith

      go : (b : Bool) → meets F i k ≡ b
          → ((next next' : Run) → Turns u F s h i v (suc k) next next'
          → Turns u F s h i v (entries F) (serve_all F i v next (places_from rs cs i (suc k))) (serve_all F i v next' (places_from rs cs i (suc k))))
          → Turns u F s h i v (entries F) (serve_all F i v run (keep b k (places_from rs cs i (suc k)))) (serve_all F i v other (keep b k (places_from rs cs i (suc k))))
      go true m rest = rest (serve_at F i v run k) (serve_at F i v other k) (turn k run other here m a)
      go false m rest = rest run other (pass_by k run other here m a)

module _ {u : ℕ} {F : Field} (shaped : Shaped F) (exact : ExactIn u F) {s : List ℕ} where
  serves : (h : ℕ) (run other : Run) → h < length run.queue → Rests u F s (variables F) h run other
      → Rests u F s (variables F) (suc h) (serve F run (get_or run.queue h 0)) (serve F other (get_or other.queue h 0))
  unfolding serve places
  serves h run other l a =
      go (get_or other.queue h 0) (get_or other.values (get_or other.queue h 0) 0) same
      (ap (λ (y : ℕ). get_or other.values y 0) same ∙ ap (λ (x : List ℕ). get_or x i 0) A.agree.values)
    where
      A : Abreast u F s run other a.seen (variables F) h a.last (entries F)
      A = a.abreast

      i : ℕ
      i = get_or run.queue h 0

      v : ℕ
      v = get_or run.values i 0

      same : get_or other.queue h 0 ≡ i
      same = ap (λ (q : List ℕ). get_or q h 0) A.agree.queue

      l' : h < length other.queue
      l' = omega (arith, ap (λ (q : List ℕ). length q) A.agree.queue)

      first : Turns u F s h i v 0 run other
      first = record {
        seen = a.seen;
        abreast = record { one = first_holds run l A.one; two = rw same at (first_holds other l' A.two); agree = A.agree };
        serving = record { before = l; at = refl; value = refl; small = A.one.room.fixed h l };
        serving' = record { before = l'; at = same; value = ap (λ (x : List ℕ). get_or x i 0) A.agree.values; small = A.one.room.fixed h l };
      }

      rest : Rests u F s (variables F) (suc h) (serve_all F i v run (places_from F.rows F.cols i 0)) (serve_all F i v other (places_from F.rows F.cols i 0))
      rest =
          let t = turns shaped exact F.rows F.cols 0 run other (shaped.rows_long ∙ sym shaped.cols_long) (zero-add _ ∙ shaped.rows_long)
          (λ j. ap (row_end F) (sym (zero-add j))) (λ j. ap (column_end F) (sym (zero-add j))) first in
          record { seen = t.seen; last = i; abreast = t.abreast }

      go : (j x : ℕ) → j ≡ i → x ≡ v
          → Rests u F s (variables F) (suc h) (serve_all F i v run (places_from F.rows F.cols i 0)) (serve_all F j x other (places_from F.rows F.cols j 0))
      go j x e f = rw (e, f) rest

  works : (turns : ℕ) (run other : Run) (h : ℕ) → Rests u F s (variables F) h run other → Agree (work F turns run h) (work F turns other h)
  unfolding work
  works zero run other h a = a.abreast.agree
  works (suc turns) run other h a =
      go (ltb h (length run.queue)) (ltb h (length other.queue)) refl (ap (λ (q : List ℕ). ltb h (length q)) a.abreast.agree.queue) (λ b. works turns next next' (suc h) (serves h run other b a))
    where
      next : Run
      next = serve F run (get_or run.queue h 0)

      next' : Run
      next' = serve F other (get_or other.queue h 0)

      go : (b c : Bool) → ltb h (length run.queue) ≡ b → c ≡ ltb h (length run.queue) → (h < length run.queue → Agree (work F turns next (suc h)) (work F turns next' (suc h)))
          → Agree (cond b (work F turns next (suc h)) run) (cond c (work F turns next' (suc h)) other)
      go true c e d rest = rw (d, e) (rest (ltb-true _ _ e))
      go false c e d rest = rw (d, e) a.abreast.agree

  -- ---- the scan

  module _ (start : StartFor (variables F) s) (rows rows' : List Row) (long : variables F ≤ length rows) (long' : variables F ≤ length rows')
      (worth : RowsWorth u F s rows) (worth' : RowsWorth u F s rows') where
    scans : (i : ℕ) → Rests u F s i 0 (scan_to (record { values = s; rows = rows; queue = [] }) i) (scan_to (record { values = s; rows = rows'; queue = [] }) i)
    unfolding scan_to scan_at
    scans zero = record {
      seen = view s;
      last = 0;
      abreast = record {
        one = unscanned_holds start rows long worth;
        two = unscanned_holds start rows' long' worth';
        agree = record { values = refl; queue = refl };
      };
    }
    scans (suc i) = go (scans i) (is_free run i) refl
      where
        run : Run
        run = scan_to (record { values = s; rows = rows; queue = [] }) i

        other : Run
        other = scan_to (record { values = s; rows = rows'; queue = [] }) i

        go : Rests u F s i 0 run other → (b : Bool) → is_free run i ≡ b → Rests u F s (suc i) 0 (cond b (judged run i) run) (cond (is_free other i) (judged other i) other)
        go a true e =
            let A = a.abreast in
            let f : get_or run.values i 0 ≡ 2 = eqb-true _ _ e in
            let e' : is_free other i ≡ true = same_free A.agree i e in
            let f' : get_or other.values i 0 ≡ 2 = eqb-true _ _ e' in
            rw e' record {
              seen = a.seen;
              last = a.last;
              abreast = record {
                one = judged_holds i A.one.room A.one.counted (λ t b n. A.one.quiet t (omega arith)) A.one.queued A.one.grounded f;
                two = judged_holds i A.two.room A.two.counted (λ t b n. A.two.quiet t (omega arith)) A.two.queued A.two.grounded f';
                agree = judged_agree run other i (A.one.counted.worth i f) (A.two.counted.worth i f') A.agree;
              };
            }
        go a false e =
            let A = a.abreast in
            let e' : is_free other i ≡ false = same_free A.agree i e in
            rw e' record {
              seen = a.seen;
              last = a.last;
              abreast = record { one = scan_past i A.one e; two = scan_past i A.two e'; agree = A.agree };
            }

    pub worth_agree : Agree (propagate F s rows) (propagate F s rows')
    unfolding propagate
    worth_agree = works (variables F) _ _ 0 (scans (variables F))
