-- Rows made afresh once each are rows made afresh at every place: what is left out is made at a place that is not. Assumes nothing.
use Prim.Native.Nat.{ℕ, ◌<◌}
use mathlib.Core.Path.{◌≡◌, refl, sym, ap, ◌∙◌}
use mathlib.Core.Logic.{◌≢◌, ◌⊎◌, inl, inr, ⊎_elim}
use mathlib.Core.List.{List, [], ◌∷◌}
use native.Mathlib.Decide.{ℕ_discrete}
use native.Mathlib.Omega.{arith}
use borrow.Author.Tests.{ne_eqb}
use lib.ListN.{length, get_or}
use lib.Seq.{ext_get_or}
use Rattle.field.specs.Field.{Field, variables, entries, Shaped}
use Rattle.rows.specs.declared.Row.{Row}
use Rattle.rows.specs.Model.{row_of}
use Rattle.places.specs.Places.{places, other_end, Touches}
use Rattle.places.proofs.Places.{places_touch, other_column, other_row}
use Rattle.places.proofs.Shape.{other_end_below}
use Rattle.scanning.proofs.Order.{places_all}
use Rattle.run.specs.Run.{Run, no_row, row_for}
use Rattle.probing.specs.Remembered.{fresh_at, fresh_all, fresh}
use Rattle.probing.specs.Once.{Paired}
use Rattle.probing.proofs.Afresh.{None, Same, at_same, all_same, at_here, at_other, fresh_or_kept, none_kept}
use Rattle.probing.proofs.Leads.{Leads, leads_or_none}

pub fixed_at : (F : Field) (i : ℕ) (run : Run) (k : ℕ) → get_or run.values (other_end F.rows F.cols i k) 0 ≢ 2 → fresh_at F i run k ≡ run
unfolding fresh_at
fixed_at F i run k ne = rw (ne_eqb (get_or run.values (other_end F.rows F.cols i k) 0) 2 ne)

-- the row of a fixed variable is left
fixed_kept : (F : Field) (i : ℕ) (run : Run) (ks : List ℕ) (t : ℕ) → get_or run.values t 0 ≢ 2 → row_for (fresh_all F i run ks) t ≡ row_for run t
unfolding fresh_all
fixed_kept F i run [] t ne = refl
fixed_kept F i run (k ∷ ks) t ne =
    fixed_kept F i (fresh_at F i run k) ks t (λ e. ne (sym (ap (λ (vs : List ℕ). get_or vs t 0) (at_same F i run k).values) ∙ e))
    ∙ go (ℕ_discrete (other_end F.rows F.cols i k) t)
  where
    here : other_end F.rows F.cols i k ≡ t → row_for (fresh_at F i run k) t ≡ row_for run t
    here e = ap (λ (r : Run). row_for r t) (fixed_at F i run k (λ z. ne (ap (λ (x : ℕ). get_or run.values x 0) (sym e) ∙ z)))

    go : Dec (other_end F.rows F.cols i k ≡ t) → row_for (fresh_at F i run k) t ≡ row_for run t
    go (yes e) = here e
    go (no n) = at_other F i run k t n

module _ {F : Field} (S : Shaped F) (i : ℕ) (run₀ : Run) (long : length run₀.rows ≡ variables F) where
  -- where it is to end
  abbrev goal : ℕ → Row
  goal t = row_for (fresh F run₀ i) t

  goal_free : (k t : ℕ) → k < entries F → Touches F.rows F.cols i k → other_end F.rows F.cols i k ≡ t → get_or run₀.values t 0 ≡ 2 → goal t ≡ row_of F run₀.values t
  unfolding fresh
  goal_free k t h touch e free =
      let m = places_all F.rows F.cols i k (omega (arith, S.rows_long)) (S.cols_long ∙ sym S.rows_long) touch in
      ⊎_elim (λ z. z) (λ z. absurd (z.1 m.place m.within (ap (other_end F.rows F.cols i) m.holds ∙ e)))
      (fresh_or_kept F i run₀ (places F.rows F.cols i) t free (omega (arith, long, other_end_below S i h (sym e))))

  goal_fixed : (t : ℕ) → get_or run₀.values t 0 ≢ 2 → goal t ≡ row_for run₀ t
  unfolding fresh
  goal_fixed t ne = fixed_kept F i run₀ (places F.rows F.cols i) t ne

  -- on the way there: each row is as it was, or as it is to be
  pub record Toward (run : Run) : Type 0 where
    pub same : Same F i run₀ run
    pub each : (t : ℕ) → (row_for run t ≡ row_for run₀ t) ⊎ (row_for run t ≡ goal t)

  -- the row at place k is as it is to be
  abbrev pub Made : Run → ℕ → Type 0
  Made run k = row_for run (other_end F.rows F.cols i k) ≡ goal (other_end F.rows F.cols i k)

  pub toward_start : Toward run₀
  toward_start = record { same = record { values = refl; queue = refl; rows_long = refl }; each = λ t. inl refl }

  module _ {run : Run} (T : Toward run) (k : ℕ) (h : k < entries F) (touch : Touches F.rows F.cols i k) where
    pub made_here : Made (fresh_at F i run k) k
    made_here = go (ℕ_discrete (get_or run.values t 0) 2)
      where
        t : ℕ
        t = other_end F.rows F.cols i k

        below : t < variables F
        below = other_end_below S i h refl

        go : Dec (get_or run.values t 0 ≡ 2) → Made (fresh_at F i run k) k
        go (yes e) =
            at_here F i run k t e (omega (arith, T.same.rows_long, long, below)) refl ∙ ap (λ (vs : List ℕ). row_of F vs t) T.same.values
            ∙ sym (goal_free k t h touch refl (sym (ap (λ (vs : List ℕ). get_or vs t 0) T.same.values) ∙ e))
        go (no n) =
            ap (λ (r : Run). row_for r t) (fixed_at F i run k n)
            ∙ ⊎_elim (λ z. z ∙ sym (goal_fixed t (λ e. n (ap (λ (vs : List ℕ). get_or vs t 0) T.same.values ∙ e)))) (λ z. z) (T.each t)

    pub toward_turn : Toward (fresh_at F i run k)
    toward_turn =
        let a = at_same F i run k in
        record {
          same = record { values = a.values ∙ T.same.values; queue = a.queue ∙ T.same.queue; rows_long = a.rows_long ∙ T.same.rows_long };
          each = λ t. go t (ℕ_discrete (other_end F.rows F.cols i k) t);
        }
      where
        go : (t : ℕ) → Dec (other_end F.rows F.cols i k ≡ t) → (row_for (fresh_at F i run k) t ≡ row_for run₀ t) ⊎ (row_for (fresh_at F i run k) t ≡ goal t)
        go t (yes e) = inr (rw (← e) made_here)
        go t (no n) = ⊎_elim (λ z. inl (at_other F i run k t n ∙ z)) (λ z. inr (at_other F i run k t n ∙ z)) (T.each t)

    -- what is made stays so
    pub made_still : (l : ℕ) → Made run l → Made (fresh_at F i run k) l
    made_still l m = go (ℕ_discrete (other_end F.rows F.cols i k) (other_end F.rows F.cols i l))
      where
        go : Dec (other_end F.rows F.cols i k ≡ other_end F.rows F.cols i l) → Made (fresh_at F i run k) l
        go (yes e) = rw (← e) made_here
        go (no n) = at_other F i run k (other_end F.rows F.cols i l) n ∙ m

  -- all places made, or paired with one that is: this is the end
  pub toward_done : {run : Run} → Toward run → ((k : ℕ) → k < entries F → Touches F.rows F.cols i k → Made run k ⊎ Paired F i k) → run ≡ fresh F run₀ i
  unfolding fresh
  toward_done {run} T all =
      let a = all_same F i run₀ (places F.rows F.cols i) in
      same_run (T.same.values ∙ sym a.values)
      (ext_get_or no_row run.rows (fresh F run₀ i).rows (T.same.rows_long ∙ sym a.rows_long) (λ t h. by t (leads_or_none F i t (places F.rows F.cols i))))
      (T.same.queue ∙ sym a.queue)
    where
      same_run : {r r' : Run} → r.values ≡ r'.values → r.rows ≡ r'.rows → r.queue ≡ r'.queue → r ≡ r'
      same_run e f g = rw (e, f, g) refl

      -- the entry with i as its row is not paired
      row_made : (k : ℕ) → k < entries F → get_or F.rows k 0 ≡ i → Made run k
      row_made k h e = ⊎_elim (λ z. z) (λ z. absurd (z.apart e)) (all k h (inl e))

      made : (k : ℕ) → k < entries F → Touches F.rows F.cols i k → Made run k
      made k h touch = ⊎_elim (λ z. z)
          (λ z. rw (other_row F.rows F.cols i k z.apart, ← z.far, ← other_column F.rows F.cols i z.entry z.near)
          (row_made z.entry (omega (arith, z.within, S.rows_long)) z.near))
          (all k h touch)

      by : (t : ℕ) → Leads F i t (places F.rows F.cols i) ⊎ None F i t (places F.rows F.cols i) → row_for run t ≡ goal t
      by t (inl l) =
          let p = places_touch F.rows F.cols i l.place l.within in
          rw l.other at (made (get_or (places F.rows F.cols i) l.place 0) (omega (arith, p.0, S.rows_long)) p.1)
      by t (inr none) = ⊎_elim (λ z. z ∙ sym (none_kept F i run₀ (places F.rows F.cols i) t none)) (λ z. z) (T.each t)
