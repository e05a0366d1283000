-- The variable at the cursor is seen by one entry more: the row at the entry's other end, where it is free, is moved and judged. Assumes nothing.
use Prim.Native.Nat.{ℕ, suc, ◌<◌}
use mathlib.Core.Path.{◌≡◌, refl, sym, ◌∙◌}
use mathlib.Core.Logic.{◌≢◌, ◌⊎◌, inl, inr, ⊎_elim}
use mathlib.Core.Bool.{Bool, true, false, cond, ◌||◌, true≢false}
use mathlib.Core.List.{List}
use native.Mathlib.Decide.{ℕ_discrete}
use native.Mathlib.Nat.{le_refl}
use native.Mathlib.Omega.{arith}
use borrow.Author.Tests.{eqb-true, eqb-false}
use lib.ListN.{get_or, length-set}
use lib.Seq.{get_or-set_same, get_or-set_other}
use lib.Dec.{eqb}
use Rattle.whole.specs.Whole.{Whole, ◌⊕◌, ◌⊖◌, min0, max0, ◌≈◌}
use Rattle.meaning.specs.Field as meaning
use Rattle.meaning.specs.Gradient.{View, Lags, see, share, gradient}
use Rattle.meaning.proofs.Values.{inside}
use Rattle.meaning.proofs.Views.{see_here, see_variable, see_entry, see_apart, see_joined}
use Rattle.field.specs.Field.{Field, variables, entries, row_end, column_end, Shaped}
use Rattle.field.specs.Grade.{ExactIn}
use Rattle.field.specs.Reading.{whole_of}
use Rattle.rows.specs.Model.{coeff_of}
use Rattle.rows.specs.Counted.{RowWorth}
use Rattle.rows.proofs.Terms.{as_row, moved_worth}
use Rattle.rows.proofs.Counted.{coeff_worth, weight_under, low_under, high_under}
use Rattle.run.specs.Run.{Run, row_for, judged, no_row, moved, move_row}
use Rattle.run.proofs.Invariant.{Counted, Still, Queued, Holds, Serving, still_same, judged_holds}

-- ---- the ends of an entry

-- i is an end of entry k
abbrev pub meets : Field → ℕ → ℕ → Bool
meets F i k = eqb (row_end F k) i || eqb (column_end F k) i

-- entry k joins i to t
abbrev pub Joins : meaning.Field → ℕ → ℕ → ℕ → Type 0
Joins G k i t = ((G.row k ≡ i) × (G.column k ≡ t)) ⊎ ((G.column k ≡ i) × (G.row k ≡ t))

-- it does not
abbrev pub Parts : meaning.Field → ℕ → ℕ → ℕ → Type 0
Parts G k i t = (G.row k ≡ t → G.column k ≢ i) × (G.column k ≡ t → G.row k ≢ i)

pub joins_other : (r c i : ℕ) → (eqb r i || eqb c i) ≡ true → ((r ≡ i) × (c ≡ cond (eqb r i) c r)) ⊎ ((c ≡ i) × (r ≡ cond (eqb r i) c r))
joins_other r c i h = go (eqb r i) refl h
  where
    go : (b : Bool) → eqb r i ≡ b → (b || eqb c i) ≡ true → ((r ≡ i) × (c ≡ cond b c r)) ⊎ ((c ≡ i) × (r ≡ cond b c r))
    go true e z = inl (eqb-true _ _ e, refl)
    go false e z = inr (eqb-true _ _ z, refl)

pub parts_other : (G : meaning.Field) (k i t j : ℕ) → G.row k ≢ G.column k → Joins G k i t → j ≢ t → Parts G k i j
parts_other G k i t j d z n = ⊎_elim
    (λ y. ((λ e x. d (y.0 ∙ sym x)), (λ e x. n (sym e ∙ y.1))))
    (λ y. ((λ e x. n (sym e ∙ y.1)), (λ e x. d (x ∙ sym y.0))))
    z

pub neither : (r c i : ℕ) → (eqb r i || eqb c i) ≡ false → (r ≢ i) × (c ≢ i)
neither r c i h = go (eqb r i) refl h
  where
    go : (b : Bool) → eqb r i ≡ b → (b || eqb c i) ≡ false → (r ≢ i) × (c ≢ i)
    go true e z = absurd (true≢false z)
    go false e z = (eqb-false _ _ e, eqb-false _ _ z)

-- ---- entry k sees i, whose value is v

module _ {u : ℕ} {F : Field} (shaped : Shaped F) (exact : ExactIn u F) {s : List ℕ} {run : Run} {w : View} {h i v k : ℕ}
    (a : Holds u F s run w (variables F) (suc h) i k) (z : Serving run.values run.queue h i v) (l : k < entries F) where
  lag_see : Lags (see w k i v) run.values
  lag_see k' j = go (ℕ_discrete k' k) (ℕ_discrete j i)
    where
      go : Dec (k' ≡ k) → Dec (j ≡ i) → (see w k i v k' j ≡ 2) ⊎ (see w k i v k' j ≡ get_or run.values j 0)
      go (yes e) (yes f) = inr (rw (e, f) (see_here w k i v ∙ sym z.value))
      go (no e) f = rw (see_entry w k i v k' j e) (a.counted.lag k' j)
      go (yes e) (no f) = rw (see_variable w k i v k' j f) (a.counted.lag k' j)

  queued_see : Queued run.values run.queue (see w k i v) (entries F) (suc h) i (suc k)
  queued_see = record {
    cursor = a.queued.cursor;
    waiting = λ p x y j. see_variable w k i v j _ (λ e. a.room.apart h p x y (z.at ∙ sym e)) ∙ a.queued.waiting p x y j;
    ahead = λ j x y. see_entry w k i v j i (omega arith) ∙ a.queued.ahead j (omega arith) y;
    caught = λ j f. ⊎_elim (λ g. inl (λ k' x y. go j g k' x y (ℕ_discrete k' k) (ℕ_discrete j i))) inr (a.queued.caught j f);
  }
    where
      go : (j : ℕ) → ((k' : ℕ) → k' < entries F → (j ≡ i → k' < k) → w k' j ≡ get_or run.values j 0) → (k' : ℕ) → k' < entries F → (j ≡ i → k' < suc k)
          → Dec (k' ≡ k) → Dec (j ≡ i) → see w k i v k' j ≡ get_or run.values j 0
      go j g k' x y (yes e) (yes f) = rw (e, f) (see_here w k i v ∙ sym z.value)
      go j g k' x y (no e) f = see_entry w k i v k' j e ∙ g k' x (λ o. omega (arith, y o))
      go j g k' x y (yes e) (no f) = see_variable w k i v k' j f ∙ g k' x (λ o. absurd (f o))

  -- a row that entry k does not join to i is as it was
  module _ (t : ℕ) (p : Parts (whole_of u F) k i t) where
    same : (free : Whole → Whole) → gradient free (whole_of u F) (see w k i v) t ≈ gradient free (whole_of u F) w t
    same free = see_apart (whole_of u F) w k i v free t l p.0 p.1

    still_apart : Still (whole_of u F) w t → Still (whole_of u F) (see w k i v) t
    still_apart = still_same (same min0) (same max0)

    worth_apart : get_or run.values t 0 ≡ 2 → RowWorth u (row_for run t) (gradient min0 (whole_of u F) (see w k i v) t) (gradient max0 (whole_of u F) (see w k i v) t)
    worth_apart f = as_row (a.counted.worth t f) (omega (arith, same min0)) (omega (arith, same max0))

  -- where it joins no free variable to i, no row changes
  pub sees_none : ((t : ℕ) → get_or run.values t 0 ≡ 2 → Parts (whole_of u F) k i t) → Holds u F s run (see w k i v) (variables F) (suc h) i (suc k)
  sees_none p = record {
    room = a.room;
    counted = record {
      reached = a.counted.reached;
      rows_long = a.counted.rows_long;
      lag = lag_see;
      worth = λ t f. worth_apart t (p t f) f;
    };
    quiet = λ t b f. still_apart t (p t f) (a.quiet t b f);
    queued = queued_see;
    grounded = a.grounded;
  }

  -- where it joins a free t to i, the row of t changes
  module _ (t : ℕ) (o : Joins (whole_of u F) k i t) (free : get_or run.values t 0 ≡ 2) where
    below : t < variables F
    below = omega (arith, inside run.values t free, a.room.valid.long)

    others : (j : ℕ) → j ≢ t → Parts (whole_of u F) k i j
    others j n = parts_other (whole_of u F) k i t j (exact.standard k l) o n

    worth_moved : RowWorth u (moved (row_for run t) (coeff_of F k) v) (gradient min0 (whole_of u F) (see w k i v) t) (gradient max0 (whole_of u F) (see w k i v) t)
    worth_moved =
        as_row
        (moved_worth (a.counted.worth t free) (low_under exact shaped t below w (entries F) (le_refl _)) (high_under exact shaped t below w (entries F) (le_refl _))
        (coeff_worth exact k l) (weight_under exact k l) v z.small)
        (omega (arith, joined min0))
        (omega (arith, joined max0))
      where
        q : Whole
        q = (whole_of u F).weight k

        joined : (f : Whole → Whole) → gradient f (whole_of u F) (see w k i v) t ≈ gradient f (whole_of u F) w t ⊖ f q ⊕ share (f q) q v
        joined f = see_joined (whole_of u F) w k i v f t l (exact.standard k l) o (a.queued.ahead k (le_refl _) l)

    pub moved_counted : Counted u F s (move_row run t (coeff_of F k) v) (see w k i v)
    unfolding move_row
    moved_counted = record {
      reached = a.counted.reached;
      rows_long = omega (arith, length-set run.rows t (moved (row_for run t) (coeff_of F k) v), a.counted.rows_long);
      lag = lag_see;
      worth = λ j f. elim (ℕ_discrete j t) [
        | yes e ↦ rw (e, get_or-set_same run.rows t (moved (row_for run t) (coeff_of F k) v) no_row (omega (arith, below, a.counted.rows_long))) worth_moved
        | no n ↦ rw (get_or-set_other run.rows t j (moved (row_for run t) (coeff_of F k) v) no_row n) (worth_apart j (others j n) f)
      ];
    }

    pub sees_one : Holds u F s (judged (move_row run t (coeff_of F k) v) t) (see w k i v) (variables F) (suc h) i (suc k)
    unfolding move_row
    sees_one = judged_holds t a.room moved_counted (λ j b n f. still_apart j (others j n) (a.quiet j b f)) queued_see a.grounded free
