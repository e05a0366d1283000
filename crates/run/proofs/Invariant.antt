-- What holds throughout a run over an exact field, and that a judged variable keeps it. Assumes nothing.
use Prim.Native.Nat.{ℕ, ◌+◌, ◌≤◌, ◌<◌}
use mathlib.Core.Path.{◌≡◌, refl, sym, ap, ◌∙◌}
use mathlib.Core.Logic.{◌≢◌, ◌⊎◌, inl, inr, ⊎_elim}
use mathlib.Core.Bool.{Bool, true, false, cond}
use mathlib.Core.List.{List, [], ◌∷◌, ◌++◌}
use native.Mathlib.Decide.{ℕ_discrete}
use native.Mathlib.Omega.{arith}
use borrow.Author.Tests.{ltb-true, ltb-false}
use lib.ListN.{length, get_or, set, length-append, get_or-append}
use lib.Seq.{get_or-append_seam}
use lib.Dec.{ltb}
use Rattle.whole.specs.Whole.{Whole, min0, max0, ◌≈◌}
use Rattle.meaning.specs.Field as meaning
use Rattle.meaning.specs.Steps.{Steps, stop, step}
use Rattle.meaning.specs.Gradient.{View, Lags, gradient, Forced, zero_by, one_by, Forces}
use Rattle.meaning.proofs.Values.{inside, after_set}
use Rattle.meaning.proofs.Passes.{steps_join}
use Rattle.meaning.proofs.Theorems.{lagging_forces}
use Rattle.field.specs.Field.{Field, variables, entries}
use Rattle.field.specs.Reading.{whole_of}
use Rattle.rows.specs.declared.Verdict.TheVariants.{Zero, One, Flat, Open}
use Rattle.rows.specs.Row.{both_zero}
use Rattle.rows.specs.Counted.{RowWorth}
use Rattle.rows.proofs.Terms.{judge_worth}
use Rattle.run.specs.Run.{Run, row_for, force, settle, judged}
use Rattle.run.specs.Room.{Room}
use Rattle.run.specs.Rests.{Grounded}
use Rattle.run.proofs.Keeps.{ByForce, by_judged}
use Rattle.run.proofs.Room.{free_after, fixed_after, old_or_new, room_after}
use Rattle.run.proofs.Rests.{grounded_force}

-- ---- the invariant: the room of every run, what its values rest on, and three parts more

-- ROWS: the values are reached by steps, each entry sees a variable as free or as it is, and a free variable's row is worth what the entries see
pub record Counted (u : ℕ) (F : Field) (s : List ℕ) (run : Run) (w : View) : Type 0 where
  pub reached : Steps (Forces (whole_of u F)) s run.values
  pub rows_long : variables F ≤ length run.rows
  pub lag : Lags w run.values
  pub worth : (t : ℕ) → get_or run.values t 0 ≡ 2 → RowWorth u (row_for run t) (gradient min0 (whole_of u F) w t) (gradient max0 (whole_of u F) w t)

-- VERDICTS: what is seen forces nothing on t; nor on any free variable below b, or on any but e
abbrev pub Still : meaning.Field → View → ℕ → Type 0
Still G w t = (v : ℕ) → Forced G w t v → ⊥

abbrev pub Quiet : meaning.Field → List ℕ → View → ℕ → Type 0
Quiet G values w b = (t : ℕ) → t < b → get_or values t 0 ≡ 2 → Still G w t

abbrev pub QuietBut : meaning.Field → List ℕ → View → ℕ → ℕ → Type 0
QuietBut G values w b e = (t : ℕ) → t < b → t ≢ e → get_or values t 0 ≡ 2 → Still G w t

-- j is in the queue, at h or later
abbrev pub Waits : List ℕ → ℕ → ℕ → Type 0
Waits queue h j = (p : ℕ) × (h ≤ p) × (p < length queue) × (get_or queue p 0 ≡ j)

-- THE QUEUE: no entry sees what waits from h on; of m entries each sees what has a value and does not wait, but e is seen by those below c alone
pub record Queued (values queue : List ℕ) (w : View) (m h e c : ℕ) : Type 0 where
  pub cursor : h ≤ length queue
  pub waiting : (p : ℕ) → h ≤ p → p < length queue → (k : ℕ) → w k (get_or queue p 0) ≡ 2
  pub ahead : (k : ℕ) → c ≤ k → k < m → w k e ≡ 2
  pub caught : (j : ℕ) → get_or values j 0 ≢ 2 → ((k : ℕ) → k < m → (j ≡ e → k < c) → w k j ≡ get_or values j 0) ⊎ Waits queue h j

pub record Holds (u : ℕ) (F : Field) (s : List ℕ) (run : Run) (w : View) (b h e c : ℕ) : Type 0 where
  pub room : Room (variables F) s run.values run.queue
  pub counted : Counted u F s run w
  pub quiet : Quiet (whole_of u F) run.values w b
  pub queued : Queued run.values run.queue w (entries F) h e c
  pub grounded : Grounded (whole_of u F) s run.values run.queue h

-- views with equal bounds at t force the same on it
pub still_same : {G : meaning.Field} {w w' : View} {t : ℕ} → gradient min0 G w' t ≈ gradient min0 G w t → gradient max0 G w' t ≈ gradient max0 G w t → Still G w t → Still G w' t
still_same p q still v (zero_by h) = still 0 (zero_by (omega arith))
still_same p q still v (one_by h) = still 1 (one_by (omega arith))

-- ---- a free variable takes a value that is forced

module _ {u : ℕ} {F : Field} {s : List ℕ} {run : Run} {w : View} (c : Counted u F s run w) (t v : ℕ) (free : get_or run.values t 0 ≡ 2) (l : v < 2) where
  force_counted : Forces (whole_of u F) run.values t v → Counted u F s (force run t v) w
  unfolding force
  force_counted f = record {
    reached = steps_join c.reached (step t v free f stop);
    rows_long = c.rows_long;
    lag = λ k j. ⊎_elim inl (λ d. seen k j d) (c.lag k j);
    worth = λ j h. c.worth j (free_after run.values t v free l j h).1;
  }
    where
      seen : (k j : ℕ) → w k j ≡ get_or run.values j 0 → (w k j ≡ 2) ⊎ (w k j ≡ get_or (set run.values t v) j 0)
      seen k j d = ⊎_elim
          (λ z. inl (d ∙ ap (λ (x : ℕ). get_or run.values x 0) z.0 ∙ free))
          (λ e. inr (d ∙ sym e))
          (after_set run.values t v (inside run.values t free) j)

  force_queued : {m h e k : ℕ} → Queued run.values run.queue w m h e k → Queued (force run t v).values (force run t v).queue w m h e k
  unfolding force
  force_queued q = record {
    cursor = omega (arith, q.cursor, longer);
    waiting = λ p x z k. ⊎_elim
        (λ o. ap (w k) o.1 ∙ q.waiting p x o.0 k)
        (λ o. ap (w k) o.1 ∙ ⊎_elim (λ e. e) (λ e. e ∙ free) (c.lag k t))
        (old_or_new run.queue t p z);
    ahead = q.ahead;
    caught = λ j z. ⊎_elim
        (λ y. inr (length run.queue, q.cursor, omega (arith, longer), get_or-append_seam run.queue t [] 0 ∙ sym y.0))
        (λ y. ⊎_elim
        (λ g. inl (λ k a b. g k a b ∙ sym y))
        (λ g. inr (g.0, g.1, omega (arith, g.2, longer), get_or-append run.queue (t ∷ []) 0 g.0 g.2 ∙ g.3))
        (q.caught j (λ x. z (y ∙ x))))
        (after_set run.values t v (inside run.values t free) j);
  }
    where
      longer : length (run.queue ++ (t ∷ [])) ≡ length run.queue + 1
      longer = length-append run.queue (t ∷ [])

-- ---- a free variable is judged by its row

module _ {u : ℕ} {F : Field} {s : List ℕ} {run : Run} {w : View} {b h e k : ℕ} (t : ℕ) (room : Room (variables F) s run.values run.queue) (c : Counted u F s run w)
    (q : QuietBut (whole_of u F) run.values w b t) (d : Queued run.values run.queue w (entries F) h e k)
    (g : Grounded (whole_of u F) s run.values run.queue h) (free : get_or run.values t 0 ≡ 2) where
  forced : {v : ℕ} → v < 2 → Forced (whole_of u F) w t v → Holds u F s (force run t v) w b h e k
  unfolding force
  forced {v} l f = record {
    room = room_after room t v free l;
    counted = force_counted c t v free l (lagging_forces (whole_of u F) w run.values c.lag f);
    quiet = λ j a z. let o = free_after run.values t v free l j z in q j a o.0 o.1;
    queued = force_queued c t v free l d;
    grounded = grounded_force room t v free l w h d.cursor g c.lag d.waiting f;
  }

  pub judged_holds : Holds u F s (judged run t) w b h e k
  unfolding judged settle
  judged_holds = rw (judge_worth (c.worth t free)) (go (ltb lo.less lo.plus) (ltb hi.plus hi.less) (both_zero (row_for run t)) refl refl)
    where
      lo : Whole
      lo = gradient min0 (whole_of u F) w t

      hi : Whole
      hi = gradient max0 (whole_of u F) w t

      still : lo.plus ≤ lo.less → hi.less ≤ hi.plus → Still (whole_of u F) w t
      still x y v (zero_by f) = omega arith
      still x y v (one_by f) = omega arith

      passed : Still (whole_of u F) w t → Holds u F s run w b h e k
      passed n = record {
        room = room;
        counted = c;
        quiet = λ j a f. elim (ℕ_discrete j t) [ yes i ↦ rw i n | no i ↦ q j a i f ];
        queued = d;
        grounded = g;
      }

      go : (x y o : Bool) → ltb lo.less lo.plus ≡ x → ltb hi.plus hi.less ≡ y
          → Holds u F s (settle run t (cond x (Zero (row_for run t).lower) (cond y (One (row_for run t).upper) (cond o Flat Open)))) w b h e k
      go true y o p z = forced (omega arith) (zero_by (ltb-true _ _ p))
      go false true o p z = forced (omega arith) (one_by (ltb-true _ _ z))
      go false false true p z = passed (still (ltb-false _ _ p) (ltb-false _ _ z))
      go false false false p z = passed (still (ltb-false _ _ p) (ltb-false _ _ z))

-- ---- i, with the value v, stands at the cursor

pub record Serving (values queue : List ℕ) (h i v : ℕ) : Type 0 where
  pub before : h < length queue
  pub at : get_or queue h 0 ≡ i
  pub value : get_or values i 0 ≡ v
  pub small : v < 2

abbrev ServingOf : ℕ → ℕ → ℕ → Run → Type 0
ServingOf h i v run = Serving run.values run.queue h i v

module _ {h i v : ℕ} where
  serving_force : ByForce (ServingOf h i v)
  unfolding force
  serving_force run t x free l z = record {
    before = omega (arith, z.before, length-append run.queue (t ∷ []));
    at = get_or-append run.queue (t ∷ []) 0 h z.before ∙ z.at;
    value = fixed_after run.values t x free i (rw z.value z.small) ∙ z.value;
    small = z.small;
  }

  pub judged_serving : (run : Run) (t : ℕ) → get_or run.values t 0 ≡ 2 → ServingOf h i v run → ServingOf h i v (judged run t)
  judged_serving = by_judged (ServingOf h i v) serving_force
