-- Where the rows joined to the variables that a probe fixed are put back, every row is that at the start values. Assumes nothing.
use Prim.Native.Nat.{ℕ, zero, suc, ◌+◌, ◌<◌, ◌≤◌}
use mathlib.Core.Path.{◌≡◌, refl, sym, ap, ◌∙◌}
use mathlib.Core.Logic.{◌≢◌, ◌⊎◌, inl, inr, ⊎_elim}
use mathlib.Core.List.{List, [], ◌∷◌}
use native.Mathlib.Decide.{ℕ_discrete}
use native.Mathlib.Omega.{arith}
use lib.Ieee.{Float, nan}
use lib.ListN.{length, get_or, set, drop, length-set, length-drop}
use lib.Seq.{get_or-drop, get_or-set_same, get_or-set_other, ext_get_or}
use Rattle.field.specs.Field.{Field, variables}
use Rattle.rows.specs.Model.{row_of}
use Rattle.rows.specs.Stored.{row_on, Filled}
use Rattle.rows.proofs.Stored.{length_put, rest_put, row_same, row_other}
use Rattle.places.specs.Places.{places, other_end, EndsBelow}
use Rattle.places.proofs.Places.{places_touch, other_below}
use Rattle.places.proofs.Shape.{ends_below}
use Rattle.run.specs.Cells.{Cells, base}
use Rattle.scanning.specs.Merge.{list_at, Joined}
use Rattle.workspace.specs.Restored.{back_at_of, back_all, back, Backable, From, Undoable, Reached, Rowed, Rowable, Touched}
use Rattle.workspace.specs.Shifted.{Shifted}
use Rattle.scanning.proofs.Order.{places_all}
use Rattle.probing.proofs.Afresh.{None}
use Rattle.workspace.proofs.Backed.{from_next}

module _ (F : Field) (E : EndsBelow (variables F) F.rows F.cols) (x : ℕ) where
  -- the places of a list lead to variables
  abbrev Into : List ℕ → Type 0
  Into ks = (p : ℕ) → p < length ks → other_end F.rows F.cols x (get_or ks p 0) < variables F

  into_places : Into (places F.rows F.cols x)
  into_places p h = other_below F.rows F.cols x (get_or (places F.rows F.cols x) p 0) E (places_touch F.rows F.cols x p h).0

  all_long : (f : List Float) (ks : List ℕ) → length (back_all (variables F) F.rows F.cols x f ks) ≡ length f
  unfolding back_all
  all_long f [] = refl
  all_long f (k ∷ ks) = all_long (back_at_of (variables F) f (other_end F.rows F.cols x k)) ks ∙ length_put f (variables F) (other_end F.rows F.cols x k) _

  all_rest : (f : List Float) (ks : List ℕ) → Into ks → drop (variables F + variables F) (back_all (variables F) F.rows F.cols x f ks) ≡ drop (variables F + variables F) f
  unfolding back_all
  all_rest f [] into = refl
  all_rest f (k ∷ ks) into =
      all_rest (back_at_of (variables F) f (other_end F.rows F.cols x k)) ks (λ p h. into (suc p) (omega arith))
      ∙ rest_put f (variables F) (other_end F.rows F.cols x k) _ (into 0 (omega arith))

  -- a row is put back, or is as it was, and then no place leads there
  back_or_kept : (f : List Float) (ks : List ℕ) → Into ks → variables F + variables F ≤ length f → (t : ℕ) → t < variables F
      → (row_on (back_all (variables F) F.rows F.cols x f ks) (variables F) t ≡ row_on (drop (variables F + variables F) f) (variables F) t)
      ⊎ ((row_on (back_all (variables F) F.rows F.cols x f ks) (variables F) t ≡ row_on f (variables F) t) × None F x t ks)
  unfolding back_all
  back_or_kept f [] into room t h = inr (refl, λ p z. absurd (omega arith))
  back_or_kept f (k ∷ ks) into room t h =
      ⊎_elim (λ e. inl (e ∙ ap (λ (l : List Float). row_on l (variables F) t) (rest_put f (variables F) j _ (into 0 (omega arith)))))
      (λ e. last e.0 e.1 (ℕ_discrete j t))
      (back_or_kept (back_at_of (variables F) f j) ks (λ p z. into (suc p) (omega arith)) (omega (arith, length_put f (variables F) j (row_on (drop (variables F + variables F) f) (variables F) j))) t h)
    where
      j : ℕ
      j = other_end F.rows F.cols x k

      more : j ≢ t → None F x t ks → None F x t (k ∷ ks)
      more ne none zero z = ne
      more ne none (suc p) z = none p (omega arith)

      last : row_on (back_all (variables F) F.rows F.cols x (back_at_of (variables F) f j) ks) (variables F) t ≡ row_on (back_at_of (variables F) f j) (variables F) t → None F x t ks → Dec (j ≡ t)
          → (row_on (back_all (variables F) F.rows F.cols x (back_at_of (variables F) f j) ks) (variables F) t ≡ row_on (drop (variables F + variables F) f) (variables F) t)
          ⊎ ((row_on (back_all (variables F) F.rows F.cols x (back_at_of (variables F) f j) ks) (variables F) t ≡ row_on f (variables F) t) × None F x t (k ∷ ks))
      last e none (yes q) = inl (e ∙ rw q (row_same f (variables F) t (row_on (drop (variables F + variables F) f) (variables F) t) h room))
      last e none (no ne) = inr (e ∙ row_other f (variables F) j (row_on (drop (variables F + variables F) f) (variables F) j) (into 0 (omega arith)) room t h (λ z. ne (sym z)), more ne none)

-- ---- the neighbours of one variable

module _ (F : Field) {f : List Float} {u : List ℕ} (B : Backable (variables F) F.rows F.cols f u) (x : ℕ) {f' : List Float} (e : f' ≡ back (variables F) F.rows F.cols x f) where
  pub back_long : length f' ≡ length f
  unfolding back
  back_long = ap length e ∙ all_long F B.ends x f (places F.rows F.cols x)

  pub back_rest : drop (variables F + variables F) f' ≡ drop (variables F + variables F) f
  unfolding back
  back_rest = ap (drop (variables F + variables F)) e ∙ all_rest F B.ends x f (places F.rows F.cols x) (into_places F B.ends x)

  pub back_able : Backable (variables F) F.rows F.cols f' u
  back_able = record { ends = B.ends; adjacent = B.adjacent; room = omega (arith, B.room, back_long) }

  back_at : (t : ℕ) → t < variables F → (row_on f' (variables F) t ≡ row_on (drop (variables F + variables F) f) (variables F) t)
      ⊎ ((row_on f' (variables F) t ≡ row_on f (variables F) t) × None F x t (places F.rows F.cols x))
  unfolding back
  back_at t h = rw e (back_or_kept F B.ends x f (places F.rows F.cols x) (into_places F B.ends x) (omega (arith, B.room)) t h)

  not_joined : (t : ℕ) → None F x t (places F.rows F.cols x) → Joined F x t → ⊥
  not_joined t none j =
      let m = places_all F.rows F.cols x j.entry j.within B.ends.same j.touches in
      none m.place m.within (ap (other_end F.rows F.cols x) m.holds ∙ j.other)

  -- the rows that are joined to x are done
  pub rowed_back : {s : List ℕ} {Y Y' : ℕ → Type 0} → Rowed F s Y f → ((y : ℕ) → Y y → (y ≡ x) ⊎ Y' y) → Rowed F s Y' f'
  rowed_back {s} {Y} {Y'} R split = record {
    rows = λ t h. ⊎_elim (λ q. inl (q ∙ R.copy t h)) (λ q. kept t h q.0 q.1) (back_at t h);
    copy = λ t h. ap (λ (l : List Float). row_on l (variables F) t) back_rest ∙ R.copy t h;
    room = omega (arith, R.room, back_long);
  }
    where
      kept : (t : ℕ) → t < variables F → row_on f' (variables F) t ≡ row_on f (variables F) t → None F x t (places F.rows F.cols x)
          → (row_on f' (variables F) t ≡ row_of F s t) ⊎ Reached F Y' t
      kept t h q none =
          ⊎_elim (λ z. inl (q ∙ z))
          (λ r. ⊎_elim (λ z. absurd (not_joined t none (rw z at r.joined))) (λ y. inr (record { variable = r.variable; fixed = y; joined = r.joined })) (split r.variable r.fixed))
          (R.rows t h)

-- ---- the loop over a list of variables: those before h are done

pub record Backs (F : Field) (s u : List ℕ) (from count h : ℕ) (f₀ f : List Float) : Type 0 where
  pub within : h ≤ count
  pub asks : Backable (variables F) F.rows F.cols f u
  pub room : from + count ≤ length u
  pub below : (p : ℕ) → p < count → list_at u from p < variables F
  pub rowed : Rowed F s (From u from count h) f
  pub long : length f ≡ length f₀
  pub rest : drop (variables F + variables F) f ≡ drop (variables F + variables F) f₀

pub backs_start : {F : Field} {s u : List ℕ} {from count : ℕ} {f : List Float} → Rowable F s u from count f → Backs F s u from count 0 f f
backs_start R = record { within = omega arith; asks = R.asks; room = R.room; below = R.below; rowed = R.rowed; long = refl; rest = refl }

module _ {F : Field} {s u : List ℕ} {from count h : ℕ} {f₀ f : List Float} (B : Backs F s u from count h f₀ f) where
  pub backs_asks : {x : ℕ} → h < count → x ≡ list_at u from h → Backable (variables F) F.rows F.cols f u × (x < variables F)
  backs_asks l e = (B.asks, rw e (B.below h l))

  pub backs_turn : {x : ℕ} {f' : List Float} → h < count → x ≡ list_at u from h → f' ≡ back (variables F) F.rows F.cols x f → Backs F s u from count (h + 1) f₀ f'
  backs_turn {x} l e ef = record {
    within = omega arith;
    asks = back_able F B.asks x ef;
    room = B.room;
    below = B.below;
    rowed = rowed_back F B.asks x ef B.rowed (λ y w. ⊎_elim (λ q. inl (q ∙ sym e)) inr (from_next w));
    long = back_long F B.asks x ef ∙ B.long;
    rest = back_rest F B.asks x ef ∙ B.rest;
  }

  pub backs_done : count ≤ h → Filled F s f₀ f
  backs_done l = record {
    long = B.long;
    rows = λ t z. ⊎_elim (λ e. e) (λ r. absurd (omega (arith, r.fixed.low, r.fixed.high))) (B.rowed.rows t z);
    rest = B.rest;
  }

-- ---- all that a probe of i touched

module _ {F : Field} {s : List ℕ} {i : ℕ} {c : Cells} (T : Touched F s i c) where
  pub touched_able : Backable (variables F) F.rows F.cols c.floats c.words
  touched_able = record { ends = ends_below T.placed.shaped; adjacent = T.placed.adjacent; room = T.rowed.room }

  pub touched_rows : {f₁ : List Float} → f₁ ≡ back (variables F) F.rows F.cols i c.floats → Rowable F s c.words (base F) c.tail f₁
  touched_rows e = record {
    asks = back_able F touched_able i e;
    room = omega (arith, T.placed.words_room, T.placed.queue_room);
    below = T.placed.queue_below;
    rowed = rowed_back F touched_able i e T.rowed (λ y w. w);
  }

  -- the rows before are forgotten
  pub touched_filled : {f₁ f₂ : List Float} → f₁ ≡ back (variables F) F.rows F.cols i c.floats → Filled F s f₁ f₂ → Filled F s c.floats f₂
  touched_filled e W = record { long = W.long ∙ back_long F touched_able i e; rows = W.rows; rest = W.rest ∙ back_rest F touched_able i e }

  -- all rows are what their copies were
  pub touched_copied : {f₁ : List Float} → Shifted nan (variables F + variables F) 0 (variables F + variables F) c.floats f₁ → Filled F s c.floats f₁
  touched_copied {f₁} S = record { long = S.long; rows = row; rest = rest }
    where
      n : ℕ
      n = variables F

      from_copy : (j : ℕ) → j < n + n → get_or f₁ j nan ≡ get_or (drop (n + n) c.floats) j nan
      from_copy j h = let e : 0 + j ≡ j = omega arith in ap (λ k. get_or f₁ k nan) (sym e) ∙ S.moved j h ∙ sym (get_or-drop (n + n) c.floats j nan)

      row : (t : ℕ) → t < n → row_on f₁ n t ≡ row_of F s t
      row t h = rw (from_copy t (omega arith), from_copy (n + t) (omega arith)) (T.rowed.copy t h)

      rest : drop (n + n) f₁ ≡ drop (n + n) c.floats
      rest =
          ext_get_or nan _ _ (rw (length-drop (n + n) f₁, length-drop (n + n) c.floats, S.long))
          (λ j z. get_or-drop (n + n) f₁ j nan ∙ S.behind_it (n + n + j) (omega arith) ∙ sym (get_or-drop (n + n) c.floats j nan))

  pub touched_values : Undoable s (set c.values i (get_or s i 0)) c.words (base F) c.tail
  touched_values = record {
    long = length-set c.values i (get_or s i 0) ∙ T.placed.values_long ∙ sym T.start_long;
    room = omega (arith, T.placed.words_room, T.placed.queue_room);
    below = λ p h. omega (arith, T.placed.queue_below p h, T.start_long);
    values = λ j. at j (ℕ_discrete j i);
  }
    where
      at : (j : ℕ) → Dec (j ≡ i) → (get_or (set c.values i (get_or s i 0)) j 0 ≡ get_or s j 0) ⊎ From c.words (base F) c.tail 0 j
      at j (yes q) = inl (rw q (get_or-set_same c.values i (get_or s i 0) 0 (omega (arith, T.here, T.placed.values_long))))
      at j (no ne) =
          let same = get_or-set_other c.values i j (get_or s i 0) 0 ne in
          ⊎_elim (λ z. inl (same ∙ z)) (λ w. ⊎_elim (λ z. absurd (ne z)) inr w) (T.values j)
