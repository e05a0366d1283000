-- A variable is served: its places are the entries, in their order, that have it at an end; the others change no row. Assumes nothing.
use Prim.Native.Nat.{ℕ, suc, ◌+◌, ◌<◌}
use mathlib.Core.Path.{◌≡◌, refl, sym, ap, ap₂, ◌∙◌}
use mathlib.Core.Logic.{◌⊎◌, inl, inr, ⊎_elim}
use mathlib.Core.Bool.{Bool, true, false, cond, ◌||◌}
use mathlib.Core.List.{List, [], ◌∷◌}
use native.Mathlib.Decide.{ℕ_discrete}
use native.Mathlib.Nat.{add-zero, zero-add, le_refl}
use native.Mathlib.Omega.{arith}
use borrow.Author.Tests.{eqb-true, eqb-false}
use lib.ListN.{length, get_or}
use lib.Dec.{eqb}
use Rattle.meaning.specs.Gradient.{View, see}
use Rattle.field.specs.Field.{Field, variables, entries, row_end, column_end, Shaped}
use Rattle.field.specs.Grade.{ExactIn}
use Rattle.field.specs.Reading.{whole_of}
use Rattle.rows.specs.Model.{coeff_of}
use Rattle.places.specs.Places.{keep, places_from, places, other_end}
use Rattle.run.specs.Run.{Run, is_free, judged, move_row, serve_at, serve_all, serve}
use Rattle.run.proofs.Invariant.{Queued, Waits, Holds, Serving, judged_serving}
use Rattle.run.proofs.Rests.{grounded_more}
use Rattle.run.proofs.Sight.{meets, Joins, joins_other, parts_other, neither, sees_none, sees_one}

-- where the run stands before entry k, while i is served
pub record Turn (u : ℕ) (F : Field) (s : List ℕ) (h i v k : ℕ) (run : Run) : Type 0 where
  pub seen : View
  pub holds : Holds u F s run seen (variables F) (suc h) i k
  pub serving : Serving run.values run.queue h i v

-- and where it stands with the first h of the queue served
pub record Rest (u : ℕ) (F : Field) (s : List ℕ) (b h : ℕ) (run : Run) : Type 0 where
  pub seen : View
  pub last : ℕ
  pub holds : Holds u F s run seen b h last (entries F)

module _ {u : ℕ} {F : Field} (shaped : Shaped F) (exact : ExactIn u F) {s : List ℕ} {h i v : ℕ} where
  -- entry k is a place of i
  turn : (k : ℕ) (run : Run) → k < entries F → meets F i k ≡ true → Turn u F s h i v k run → Turn u F s h i v (suc k) (serve_at F i v run k)
  unfolding serve_at other_end move_row
  turn k run l m a = go (is_free run t) refl
    where
      t : ℕ
      t = other_end F.rows F.cols i k

      o : Joins (whole_of u F) k i t
      o = joins_other (row_end F k) (column_end F k) i m

      go : (b : Bool) → is_free run t ≡ b → Turn u F s h i v (suc k) (cond b (judged (move_row run t (coeff_of F k) v) t) run)
      go true e = record {
        seen = see a.seen k i v;
        holds = sees_one shaped exact a.holds a.serving l t o (eqb-true _ _ e);
        serving = judged_serving (move_row run t (coeff_of F k) v) t (eqb-true _ _ e) a.serving;
      }
      go false e = record {
        seen = see a.seen k i v;
        holds = sees_none shaped exact a.holds a.serving l (λ j f.
            parts_other (whole_of u F) k i t j (exact.standard k l) o (λ n. eqb-false _ _ e (ap (λ (y : ℕ). get_or run.values y 0) (sym n) ∙ f)));
        serving = a.serving;
      }

  -- it is not
  pass_by : (k : ℕ) (run : Run) → k < entries F → meets F i k ≡ false → Turn u F s h i v k run → Turn u F s h i v (suc k) run
  pass_by k run l m a =
      let n = neither (row_end F k) (column_end F k) i m in
      record {
        seen = see a.seen k i v;
        holds = sees_none shaped exact a.holds a.serving l (λ j f. ((λ e. n.1), (λ e. n.0)));
        serving = a.serving;
      }

  -- the entries from k on, by the places among them
  turns : (rs cs : List ℕ) (k : ℕ) (run : Run) → length rs ≡ length cs → k + length rs ≡ entries F
      → ((j : ℕ) → get_or rs j 0 ≡ row_end F (k + j)) → ((j : ℕ) → get_or cs j 0 ≡ column_end F (k + j))
      → Turn u F s h i v k run → Turn u F s h i v (entries F) (serve_all F i v run (places_from rs cs i k))
  unfolding serve_all places_from keep
  turns [] [] k run e f p q a = rw (← f, add-zero k) a
  turns [] (c ∷ cs) k run e f p q a = absurd (omega arith)
  turns (r ∷ rs) [] k run e f p q a = absurd (omega arith)
  turns (r ∷ rs) (c ∷ cs) k run e f p q a =
      go (eqb r i || eqb c i)
      (ap₂ (λ (y z : ℕ). eqb y i || eqb z i) (sym (p 0 ∙ ap (row_end F) (add-zero k))) (sym (q 0 ∙ ap (column_end F) (add-zero k))))
      (λ next b. turns rs cs (suc k) next (omega arith) (omega arith) (λ j. p (suc j) ∙ ap (row_end F) (omega arith)) (λ j. q (suc j) ∙ ap (column_end F) (omega arith)) b)
    where
      here : k < entries F
      here = omega arith

      go : (b : Bool) → meets F i k ≡ b → ((next : Run) → Turn u F s h i v (suc k) next → Turn u F s h i v (entries F) (serve_all F i v next (places_from rs cs i (suc k))))
          → Turn u F s h i v (entries F) (serve_all F i v run (keep b k (places_from rs cs i (suc k))))
      go true m rest = rest (serve_at F i v run k) (turn k run here m a)
      go false m rest = rest run (pass_by k run here m a)

-- the variable at the cursor is seen by no entry yet
pub first_holds : {u : ℕ} {F : Field} {s : List ℕ} {w : View} {b h last : ℕ} (run : Run) → h < length run.queue → Holds u F s run w b h last (entries F)
    → Holds u F s run w b (suc h) (get_or run.queue h 0) 0
first_holds {F = F} {w = w} {h = h} {last = last} run l a = record {
  room = a.room;
  counted = a.counted;
  quiet = a.quiet;
  queued = record {
    cursor = l;
    waiting = λ p b. q.waiting p (omega arith);
    ahead = λ k b m. q.waiting h (le_refl h) l k;
    caught = λ j f. ⊎_elim (λ g. inl (λ k m e. g k m (λ y. m))) (λ g. go j g (ℕ_discrete g.0 h)) (q.caught j f);
  };
  grounded = grounded_more a.room h l a.grounded;
}
  where
    q : Queued run.values run.queue w (entries F) h last (entries F)
    q = a.queued

    go : (j : ℕ) (g : Waits run.queue h j) → Dec (g.0 ≡ h)
        → ((k : ℕ) → k < entries F → (j ≡ get_or run.queue h 0 → k < 0) → w k j ≡ get_or run.values j 0) ⊎ Waits run.queue (suc h) j
    go j g (yes e) = inl (λ k m n. absurd (omega (arith, n (sym g.3 ∙ ap (λ (y : ℕ). get_or run.queue y 0) e))))
    go j g (no e) = inr (g.0, omega (arith, g.1), g.2, g.3)

module _ {u : ℕ} {F : Field} (shaped : Shaped F) (exact : ExactIn u F) {s : List ℕ} (h : ℕ) (run : Run) (l : h < length run.queue) (a : Rest u F s (variables F) h run) where
  first_turn : Turn u F s h (get_or run.queue h 0) (get_or run.values (get_or run.queue h 0) 0) 0 run
  first_turn = record {
    seen = a.seen;
    holds = first_holds run l a.holds;
    serving = record { before = l; at = refl; value = refl; small = a.holds.room.fixed h l };
  }

  pub serve_rest : Rest u F s (variables F) (suc h) (serve F run (get_or run.queue h 0))
  unfolding serve places
  serve_rest =
      let t = turns shaped exact F.rows F.cols 0 run (shaped.rows_long ∙ sym shaped.cols_long) (zero-add _ ∙ shaped.rows_long)
      (λ j. ap (row_end F) (sym (zero-add j))) (λ j. ap (column_end F) (sym (zero-add j))) first_turn in
      record { seen = t.seen; last = get_or run.queue h 0; holds = t.holds }
