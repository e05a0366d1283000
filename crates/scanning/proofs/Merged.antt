-- The merge of three rising lists is the scan: all variables below b are done, and none between b and the least head is free with a strict
-- row. Assumes nothing.
use Prim.Native.Nat.{ℕ, ◌+◌, ◌*◌, ◌-◌, ◌<◌, ◌≤◌}
use mathlib.Core.Path.{◌≡◌, refl, sym, ap, ◌∙◌}
use mathlib.Core.Logic.{⊎_elim}
use mathlib.Core.Bool.{Bool, true, false}
use mathlib.Core.List.{List, []}
use native.Mathlib.Numerals.{add-one}
use native.Mathlib.Decide.{ℕ_discrete}
use Rattle.std.specs.Prelude.{min}
use Rattle.std.proofs.Math.Nat.{min-le_left, min-le_right, le-min}
use native.Mathlib.Omega.{arith}
use borrow.Author.Tests.{eq-eqb}
use lib.ListN.{length, get_or, drop}
use lib.Seq.{get_or-drop}
use Rattle.scratch.specs.Region.{region}
use Rattle.field.specs.Field.{Field, variables, entries, Shaped}
use Rattle.rows.specs.Row.{is_strict}
use Rattle.rows.specs.Stored.{row_on}
use Rattle.rows.proofs.Upto.{get_d_up_to}
use Rattle.places.specs.Places.{entry_in}
use Rattle.places.proofs.Places.{other_column, other_row}
use Rattle.places.proofs.Slices.{front_get_d}
use Rattle.places.proofs.Walk.{part_long, part_most}
use Rattle.run.specs.Run.{no_row, row_for, scan_at, scan_to}
use Rattle.run.specs.Cells.{Cells, base, run_in, Kept, Does}
use Rattle.run.proofs.Cells.{does_same, does_as, does_then}
use Rattle.scanning.specs.declared.Cursor.{Cursor}
use Rattle.scanning.specs.Merge.{Next, always, list_at, place_at, near_at, far_at, Through, Listed, Joined, Covers}
use Rattle.scanning.proofs.Scanned.{scan_some}
use Rattle.scanning.proofs.Search.{Behind, Rises, behind_next, head_from, head_least}
use Rattle.scanning.proofs.Order.{place_entry, above_rises, beside_rises, Stands, stands}

-- ---- what is stored in the queue leaves the candidates and the places

same_rest : (a : ℕ) (l m : List ℕ) → drop a l ≡ drop a m → (j : ℕ) → a ≤ j → get_or l j 0 ≡ get_or m j 0
same_rest a l m e j h =
    let q : a + (j - a) ≡ j = omega arith in
    rw q at (sym (get_or-drop a l (j - a) 0) ∙ ap (λ (t : List ℕ). get_or t (j - a) 0) e ∙ get_or-drop a m (j - a) 0)

module _ {F : Field} {s₀ s : Cells} (K : Kept F s₀ s) where
  pub list_kept : (p : ℕ) → list_at s.words (base F + variables F) p ≡ list_at s₀.words (base F + variables F) p
  list_kept p = same_rest (base F + s.tail) s.words s₀.words K.words_rest (base F + variables F + p) (omega (arith, K.placed.queue_room))

  place_kept : (p : ℕ) → p < 2 * length F.rows → place_at s.words (variables F + 1) p ≡ place_at s₀.words (variables F + 1) p
  place_kept p h = ap entry_in (front_get_d (base F) s.words s₀.words K.front (variables F + 1 + p) (omega arith))

next_as : {pick pick' : ℕ → Bool} {val val' : ℕ → ℕ} {b at end n : ℕ} {r : Cursor} → Next pick val b at end n r
    → ((p : ℕ) → p < end → pick' p ≡ pick p) → ((p : ℕ) → p < end → val' p ≡ val p) → Next pick' val' b at end n r
next_as {r = r} N ep ev = record {
  from = N.from;
  to = N.to;
  passed = λ p l h e. rw (ev p (omega (arith, N.to))) (N.passed p l h (sym (ep p (omega (arith, N.to))) ∙ e));
  found = λ h. (ep r.at h ∙ (N.found h).0, (N.found h).1 ∙ sym (ev r.at h));
  least = N.least;
  none = N.none;
}

-- ---- where the merge stands: b variables are done, and the cursors at h, x and y have passed what is below b

pub record Merging (F : Field) (i many first last b h x y : ℕ) (s₀ s : Cells) : Type 0 where
  pub covers : Covers F i many s₀
  pub empty : s₀.tail ≡ 0
  pub within : b ≤ variables F
  pub does : Does F (λ run. scan_to run b) s₀ s
  pub first_is : first ≡ get_or s₀.words i 0
  pub last_is : last ≡ get_or s₀.words (i + 1) 0
  pub listed : Behind always (list_at s₀.words (base F + variables F)) 0 many h b
  pub above : Behind (near_at F.rows s₀.words (variables F + 1) i) (far_at F.cols s₀.words (variables F + 1)) first last x b
  pub beside : Behind (near_at F.cols s₀.words (variables F + 1) i) (far_at F.rows s₀.words (variables F + 1)) first last y b

pub merge_start : {F : Field} {i many first last : ℕ} {s : Cells} → s.tail ≡ 0 → Covers F i many s → first ≡ get_or s.words i 0 → last ≡ get_or s.words (i + 1) 0
    → Merging F i many first last 0 0 first first s s
unfolding scan_to
merge_start {first = first} {last = last} empty C ef el =
    let l : first ≤ last = omega (arith, part_long C.placed.adjacent C.here) in
    record {
      covers = C;
      empty = empty;
      within = omega arith;
      does = does_same C.placed refl;
      first_is = ef;
      last_is = el;
      listed = record { from = omega arith; to = omega arith; passed = λ p a z. absurd (omega arith) };
      above = record { from = omega arith; to = l; passed = λ p a z. absurd (omega arith) };
      beside = record { from = omega arith; to = l; passed = λ p a z. absurd (omega arith) };
    }

module _ {F : Field} {i many first last b h x y : ℕ} {s₀ s : Cells} (M : Merging F i many first last b h x y s₀ s) where
  most : last ≤ 2 * length F.rows
  most = omega (arith, part_most M.covers.placed.adjacent M.covers.here, M.last_is)

  -- what the searches ask
  pub list_reads : (h ≤ many) × (base F + variables F + many ≤ length s.words)
  list_reads = (M.listed.to, omega (arith, M.covers.list_room, M.does.kept.words_long))

  through : (near far : List ℕ) (at : ℕ) → first ≤ at → at ≤ last → length near ≡ entries F → length far ≡ entries F → Through near far s.words (variables F + 1) at last
  through near far at low high ln lf = record {
    start = high;
    room = omega (arith, most, M.covers.placed.adjacent.room, M.does.kept.words_long);
    same = lf ∙ sym ln;
    entry = λ p l m.
        rw (place_kept M.does.kept p (omega (arith, most)), ln)
        (place_entry M.covers.placed.shaped M.covers.placed.adjacent M.covers.here (omega (arith, M.first_is)) (omega (arith, M.last_is)));
  }

  pub above_reads : Through F.rows F.cols s.words (variables F + 1) x last
  above_reads = through F.rows F.cols x M.above.from M.above.to M.covers.placed.shaped.rows_long M.covers.placed.shaped.cols_long

  pub beside_reads : Through F.cols F.rows s.words (variables F + 1) y last
  beside_reads = through F.cols F.rows y M.beside.from M.beside.to M.covers.placed.shaped.cols_long M.covers.placed.shaped.rows_long

  pub merge_done : variables F ≤ b → Does F (λ run. scan_to run (variables F)) s₀ s
  merge_done l = let e : b ≡ variables F = omega (arith, M.within) in rw e at M.does

  -- ---- a turn: the three cursors have gone on, and t is the least of their heads

  module _ {r₁ r₂ r₃ : Cursor} {t m : ℕ} (l : b < variables F)
      (N₁ : Next always (list_at s.words (base F + variables F)) b h many (variables F) r₁)
      (N₂ : Next (near_at F.rows s.words (variables F + 1) i) (far_at F.cols s.words (variables F + 1)) b x last (variables F) r₂)
      (N₃ : Next (near_at F.cols s.words (variables F + 1) i) (far_at F.rows s.words (variables F + 1)) b y last (variables F) r₃)
      (em : m ≡ min r₂.head r₃.head) (et : t ≡ min r₁.head m) where
    in_list : Next always (list_at s₀.words (base F + variables F)) b h many (variables F) r₁
    in_list = next_as N₁ (λ p z. refl) (λ p z. sym (list_kept M.does.kept p))

    same_place : (p : ℕ) → p < last → place_at s₀.words (variables F + 1) p ≡ place_at s.words (variables F + 1) p
    same_place p z = sym (place_kept M.does.kept p (omega (arith, most)))

    in_above : Next (near_at F.rows s₀.words (variables F + 1) i) (far_at F.cols s₀.words (variables F + 1)) b x last (variables F) r₂
    in_above = next_as N₂ (λ p z. rw (same_place p z)) (λ p z. ap (λ (k : ℕ). get_or F.cols k 0) (same_place p z))

    in_beside : Next (near_at F.cols s₀.words (variables F + 1) i) (far_at F.rows s₀.words (variables F + 1)) b y last (variables F) r₃
    in_beside = next_as N₃ (λ p z. rw (same_place p z)) (λ p z. ap (λ (k : ℕ). get_or F.rows k 0) (same_place p z))

    least₁ : t ≤ r₁.head
    least₁ = omega (arith, min-le_left r₁.head m)

    least₂ : t ≤ r₂.head
    least₂ = omega (arith, min-le_right r₁.head m, min-le_left r₂.head r₃.head)

    least₃ : t ≤ r₃.head
    least₃ = omega (arith, min-le_right r₁.head m, min-le_right r₂.head r₃.head)

    pub from_b : b ≤ t
    from_b = rw et (le-min (head_from N₁ (omega arith)) (rw em (le-min (head_from N₂ (omega arith)) (head_from N₃ (omega arith)))))

    -- a candidate or a neighbour from b on is t or more
    not_listed : (d : ℕ) → b ≤ d → Listed F s₀.words many d → t ≤ d
    not_listed d low z =
        omega (arith, least₁, z.holds, head_least M.listed in_list (λ p q a c e _ _. M.covers.rising p q c e) z.place (omega arith) z.within refl (omega (arith, z.holds)))

    not_joined : (d : ℕ) → b ≤ d → Joined F i d → t ≤ d
    not_joined d low z = by (ℕ_discrete (get_or F.rows z.entry 0) i)
      where
        shaped : Shaped F
        shaped = M.covers.placed.shaped

        st : Stands shaped M.covers.placed.adjacent M.covers.here z.entry
        st = stands shaped M.covers.placed.adjacent M.covers.here z.entry (omega (arith, z.within, shaped.rows_long)) z.touches

        rises₂ : Rises (near_at F.rows s₀.words (variables F + 1) i) (far_at F.cols s₀.words (variables F + 1)) first last
        rises₂ = rw (M.first_is, M.last_is) (above_rises shaped M.covers.placed.adjacent M.covers.here)

        rises₃ : Rises (near_at F.cols s₀.words (variables F + 1) i) (far_at F.rows s₀.words (variables F + 1)) first last
        rises₃ = rw (M.first_is, M.last_is) (beside_rises shaped M.covers.placed.adjacent M.covers.here)

        by : Dec (get_or F.rows z.entry 0 ≡ i) → t ≤ d
        by (yes e) =
            let v : far_at F.cols s₀.words (variables F + 1) st.position ≡ d
            = ap (λ (k : ℕ). get_or F.cols k 0) st.holds ∙ sym (other_column F.rows F.cols i z.entry e) ∙ z.other in
            let n : near_at F.rows s₀.words (variables F + 1) i st.position ≡ true = rw st.holds (eq-eqb _ _ e) in
            omega (arith, least₂, v, head_least M.above in_above rises₂ st.position (omega (arith, st.from, M.first_is)) (omega (arith, st.to, M.last_is)) n (omega (arith, v)))
        by (no ne) =
            let e : get_or F.cols z.entry 0 ≡ i = ⊎_elim (λ q. absurd (ne q)) (λ q. q) z.touches in
            let v : far_at F.rows s₀.words (variables F + 1) st.position ≡ d
            = ap (λ (k : ℕ). get_or F.rows k 0) st.holds ∙ sym (other_row F.rows F.cols i z.entry ne) ∙ z.other in
            let n : near_at F.cols s₀.words (variables F + 1) i st.position ≡ true = rw st.holds (eq-eqb _ _ e) in
            omega (arith, least₃, v, head_least M.beside in_beside rises₃ st.position (omega (arith, st.from, M.first_is)) (omega (arith, st.to, M.last_is)) n (omega (arith, v)))

    -- so between b and t no free variable's row is strict
    quiet : (d : ℕ) → b ≤ d → d < t → d < variables F → get_or (run_in F s₀).values d 0 ≡ 2 → is_strict (row_for (run_in F s₀) d) ≡ false
    unfolding run_in
    quiet d low high below free = by (is_strict (row_for (run_in F s₀) d)) refl
      where
        never : is_strict (row_for (run_in F s₀) d) ≡ true → ⊥
        never strict =
            ⊎_elim (λ z. omega (arith, not_listed d low z)) (λ z. omega (arith, not_joined d low z))
            (M.covers.all d below free (ap is_strict (sym (get_d_up_to (row_on s₀.floats (variables F)) (variables F) d no_row below)) ∙ strict))

        by : (b : Bool) → is_strict (row_for (run_in F s₀) d) ≡ b → is_strict (row_for (run_in F s₀) d) ≡ false
        by true e = absurd (never e)
        by false e = e

    empty_queue : (run_in F s₀).queue ≡ []
    unfolding run_in region
    empty_queue = rw M.empty

    skip : (e : ℕ) → b ≤ e → e ≤ t → e ≤ variables F → Does F (λ run. scan_to run e) s₀ s
    skip e p q r = does_as (λ run. scan_to run e) M.does (sym (scan_some (run_in F s₀) empty_queue b e p (λ d low high free. quiet d low (omega arith) (omega arith) free)))

    pub merge_stop : variables F ≤ t → Does F (λ run. scan_to run (variables F)) s₀ s
    merge_stop z = skip (variables F) (omega arith) z (omega arith)

    pub merge_turn : {s' : Cells} → t < variables F → Does F (λ run. scan_at run t) s s' → Merging F i many first last (t + 1) r₁.at r₂.at r₃.at s₀ s'
    unfolding scan_to
    merge_turn z D = record {
      covers = M.covers;
      empty = M.empty;
      within = omega arith;
      does = does_as (λ run. scan_to run (t + 1)) (does_then (λ run. scan_at run t) (skip t from_b (omega arith) (omega arith)) D) (rw add-one);
      first_is = M.first_is;
      last_is = M.last_is;
      listed = behind_next M.listed in_list (omega (arith, from_b));
      above = behind_next M.above in_above (omega (arith, from_b));
      beside = behind_next M.beside in_beside (omega (arith, from_b));
    }
