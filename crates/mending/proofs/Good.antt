-- A list already good comes back unchanged, with an empty report. Assumes nothing.
use Prim.Native.Nat.{ℕ, zero, suc, ◌+◌, ◌*◌, ◌-◌, ◌<◌, ◌≤◌}
use mathlib.Core.Path.{◌≡◌, refl, sym, ap, ◌∙◌}
use mathlib.Core.Logic.{⊎_elim}
use mathlib.Core.Bool.{true, false}
use mathlib.Core.List.{List, [], ◌∷◌, ◌++◌, map, map-append}
use native.Mathlib.Nat.{eq-or-lt_of_le, le_of_suc-le-suc, mul-le-mul_right, add-mul, one-mul}
use native.Mathlib.Omega.{arith}
use borrow.Author.Tests.{lt-ltb}
use lib.ListN.{length, get_or, length-set, length-map, get_or-append}
use lib.Seq.{get_or-set_same, get_or-set_other, get_or-append-add, ext_get_or}
use lib.Ieee.{Float, nan}
use Rattle.ranking.specs.Ranking.{insert}
use Rattle.ranking.proofs.Ordered.{Every}
use Rattle.field.specs.Field.{Field, variables, entries, row_end, column_end, quad_of, Shaped}
use Rattle.mending.specs.Places.{all_places, place_of, sum_at, places_of, row_in, column_in, mended}
use Rattle.mending.specs.Changes.{Change, change_at, changes_to, changes_of}
use Rattle.mending.specs.Lineup.{lineup_to, lineup, up_to}
use Rattle.mending.specs.Gathering.{first_mark, mark_of, Gathered, gathered, is_last_of, take_one, take_all_of}
use Rattle.mending.specs.Report.{step_of}
use Rattle.mending.proofs.Lists.{every_as, insert_last}
use Rattle.mending.proofs.Entries.{inside_at, place_inside, place_most}
use Rattle.mending.proofs.Lines.{goes_in, none_yet}
use Rattle.mending.proofs.Gathers.{last_not, take_append, Complete, gathers}
use Rattle.mending.proofs.Masses.{up_to_long, up_below}
use Rattle.mending.proofs.Marks.{before, before_places, step_tells}
use Rattle.mending.proofs.Told.{step_none}
use Rattle.mending.proofs.Kept.{parts_of}
use Rattle.mending.proofs.Accepted.{map_at}

up_to_at : (m t : ℕ) → t < m → get_or (up_to m) t 0 ≡ t
unfolding up_to
up_to_at zero t h = absurd (omega arith)
up_to_at (suc m) t h = ⊎_elim (λ e. last e) (λ l. get_or-append (up_to m) (m ∷ []) 0 t (omega (arith, up_to_long m)) ∙ up_to_at m t l) (eq-or-lt_of_le (le_of_suc-le-suc h))
  where
    last : t ≡ m → get_or (up_to m ++ m ∷ []) t 0 ≡ t
    last e =
        let i : t ≡ length (up_to m) + 0 = omega (arith, up_to_long m) in
        ap (λ (j : ℕ). get_or (up_to m ++ m ∷ []) j 0) i ∙ get_or-append-add (up_to m) (m ∷ []) 0 0 ∙ sym e

every_map : (g : ℕ → ℕ) (b : ℕ) (l : List ℕ) → Every (λ x. g x < b) l → Every (λ x. x < b) (map g l)
every_map g b [] h = tt
every_map g b (x ∷ l) h = (h.0, every_map g b l h.1)

-- one column further is n places further
further : (n c c' r r' : ℕ) → r < n → c < c' → c * n + r < c' * n + r'
further n c c' r r' h g =
    let i : suc c * n ≤ c' * n = mul-le-mul_right n g in
    omega (arith, i, add-mul c 1 n, one-mul n)

module _ (F : Field) (S : Shaped F) where
  -- ---- its places rise

  place_is : (k : ℕ) → k < entries F → column_end F k * variables F + row_end F k ≡ place_of F k
  place_is k h = inside_at F k refl refl (S.row_below k h) (S.column_below k h)

  next_higher : (k : ℕ) → k + 1 < entries F → place_of F k < place_of F (k + 1)
  next_higher k h =
      rw (sym (place_is k (omega arith)), sym (place_is (k + 1) h))
      (⊎_elim (λ c. further (variables F) (column_end F k) (column_end F (k + 1)) (row_end F k) (row_end F (k + 1)) (S.row_below k (omega arith)) c)
      (λ e. omega (arith, e.1, ap (λ (c : ℕ). c * variables F) e.0)) (S.rising k h))

  later : (j d : ℕ) → j + suc d < entries F → place_of F j < place_of F (j + suc d)
  later j zero h = next_higher j h
  later j (suc d) h =
      let e : j + suc (suc d) ≡ j + suc d + 1 = omega arith in
      let g : place_of F (j + suc d) < place_of F (j + suc d + 1) = next_higher (j + suc d) (omega arith) in
      rw e (omega (arith, later j d (omega arith), g))

  rises : (j k : ℕ) → j < k → k < entries F → place_of F j < place_of F k
  rises j k h g = let e : k ≡ j + suc (k - suc j) = omega arith in rw e (later j (k - suc j) (omega arith))

  -- ---- so they stand in order

  lines_stay : (k : ℕ) → k ≤ entries F → lineup_to F k (suc (all_places F)) ≡ up_to k
  unfolding up_to
  lines_stay zero h = none_yet F (suc (all_places F))
  lines_stay (suc k) h =
      sym (goes_in F (before F) (entries F) (before_places F) k h (suc (all_places F)) (omega (arith, place_most F k)))
      ∙ ap (insert (before F) k) (lines_stay k (omega arith))
      ∙ insert_last (before F) k (up_to k) (every_as (λ y. y < k) (λ y. before F y k ≡ true) (λ y l. (before_places F).lower y k (omega arith) h (rises y k l h)) (up_to k) (up_below k))

  lineup_stays : lineup F ≡ up_to (entries F)
  unfolding lineup
  lineup_stays = lines_stay (entries F) (omega arith)

  -- ---- and each opens a place of its own

  record Opened (k : ℕ) (g : Gathered) : Type 0 where
    pub places : g.places ≡ map (place_of F) (up_to k)
    pub sums : g.sums ≡ map (quad_of F) (up_to k)
    pub long : length g.marks ≡ entries F
    pub marks : (j : ℕ) → j < k → get_or g.marks j 0 ≡ first_mark j

  opens : (k : ℕ) → k < entries F → {g : Gathered} → Opened k g → Opened (suc k) (take_one F g k)
  unfolding take_one up_to
  opens k h {g} O =
      let inside : place_of F k < all_places F = rw (sym (place_is k h)) (place_inside (variables F) (row_end F k) (column_end F k) (S.row_below k h) (S.column_below k h)) in
      let new : is_last_of (place_of F k) g.places ≡ false =
      ap (is_last_of (place_of F k)) O.places
      ∙ last_not (place_of F k) (map (place_of F) (up_to k)) (every_map (place_of F) (place_of F k) (up_to k) (every_as (λ y. y < k) (λ y. place_of F y < place_of F k) (λ y l. rises y k l h) (up_to k) (up_below k))) in
      let long : length g.places ≡ k = ap length O.places ∙ length-map (up_to k) (place_of F) ∙ up_to_long k in
      rw (lt-ltb (place_of F k) (all_places F) inside, new) record {
        places = ap (λ (l : List ℕ). l ++ place_of F k ∷ []) O.places ∙ sym (map-append (place_of F) (up_to k) (k ∷ []));
        sums = ap (λ (l : List Float). l ++ quad_of F k ∷ []) O.sums ∙ sym (map-append (quad_of F) (up_to k) (k ∷ []));
        long = length-set g.marks k (first_mark (length g.places)) ∙ O.long;
        marks = λ j l. ⊎_elim
            (λ e. rw e (get_or-set_same g.marks k (first_mark (length g.places)) 0 (omega (arith, O.long)) ∙ ap first_mark long))
            (λ e. get_or-set_other g.marks k j (first_mark (length g.places)) 0 (λ z. omega arith) ∙ O.marks j e)
            (eq-or-lt_of_le (le_of_suc-le-suc l));
      }

  all_open : (ms : List ℕ) → length ms ≡ entries F → (k : ℕ) → k ≤ entries F → Opened k (take_all_of F (gathered [] [] ms) (up_to k))
  unfolding up_to take_all_of
  all_open ms e zero h = record { places = refl; sums = refl; long = e; marks = λ j l. absurd (omega arith) }
  all_open ms e (suc k) h = rw (take_append F (gathered [] [] ms) (up_to k) (k ∷ [])) (opens k h (all_open ms e k (omega arith)))

  complete : Complete F (take_all_of F (gathered [] [] (up_to (entries F))) (lineup F))
  complete = gathers F (up_to (entries F)) (up_to_long (entries F))

  opened : Opened (entries F) (take_all_of F (gathered [] [] (up_to (entries F))) (lineup F))
  opened = rw lineup_stays (all_open (up_to (entries F)) (up_to_long (entries F)) (entries F) (omega arith))

  places_are : places_of F ≡ map (place_of F) (up_to (entries F))
  places_are = sym complete.places ∙ opened.places

  sums_are : map (sum_at F) (places_of F) ≡ map (quad_of F) (up_to (entries F))
  sums_are = sym complete.sums ∙ opened.sums

  mark_is : (k : ℕ) → k < entries F → mark_of F k ≡ first_mark k
  mark_is k h = sym (complete.marks k h) ∙ opened.marks k h

  -- ---- it comes back

  back : {A : Type 0} (g : ℕ → A) (l : List A) (d : A) → length l ≡ entries F → ((k : ℕ) → k < entries F → g (place_of F k) ≡ get_or l k d) → map g (places_of F) ≡ l
  back {A} g l d long h =
      let size : length (map g (places_of F)) ≡ entries F = length-map (places_of F) g ∙ ap length places_are ∙ length-map (up_to (entries F)) (place_of F) ∙ up_to_long (entries F) in
      ext_get_or d (map g (places_of F)) l (size ∙ sym long) (λ k z.
      let K : k < entries F = omega (arith, size) in
      map_at g (places_of F) k d (omega (arith, size, length-map (places_of F) g))
      ∙ ap (λ (p : List ℕ). g (get_or p k 0)) places_are
      ∙ ap g (map_at (place_of F) (up_to (entries F)) k 0 (omega (arith, up_to_long (entries F))) ∙ ap (place_of F) (up_to_at (entries F) k K))
      ∙ h k K)

  quad_back : map (quad_of F) (up_to (entries F)) ≡ F.quad
  quad_back =
      let size : length (map (quad_of F) (up_to (entries F))) ≡ entries F = length-map (up_to (entries F)) (quad_of F) ∙ up_to_long (entries F) in
      ext_get_or nan (map (quad_of F) (up_to (entries F))) F.quad size (λ k z.
      let K : k < entries F = omega (arith, size) in
      map_at (quad_of F) (up_to (entries F)) k nan (omega (arith, up_to_long (entries F))) ∙ ap (quad_of F) (up_to_at (entries F) k K))

  pub good_unchanged : mended F ≡ F
  unfolding mended
  good_unchanged =
      let n = variables F in
      rw (
        back (row_in n) F.rows 0 S.rows_long (λ k h. ap (row_in n) (sym (place_is k h)) ∙ (parts_of n (row_end F k) (column_end F k) (S.row_below k h)).1),
        back (column_in n) F.cols 0 S.cols_long (λ k h. ap (column_in n) (sym (place_is k h)) ∙ (parts_of n (row_end F k) (column_end F k) (S.row_below k h)).0),
        sums_are,
        quad_back,
      )

  none_changes : (k : ℕ) → k ≤ entries F → changes_to F k ≡ []
  unfolding changes_to
  none_changes zero h = refl
  none_changes (suc k) h = rw (none_changes k (omega arith)) (empty (change_at F k) (sym (step_tells F S.few_entries k h) ∙ ap (λ (x : ℕ). step_of x k) (mark_is k h) ∙ no_step))
    where
      empty : (l : List Change) → length l ≡ 0 → l ≡ []
      empty [] e = refl
      empty (x ∷ l) e = absurd (omega arith)

      no_step : step_of (first_mark k) k ≡ 0
      no_step = sym (step_none (first_mark k) k refl refl)

  pub good_no_changes : changes_of F ≡ []
  unfolding changes_of
  good_no_changes = none_changes (entries F) (omega arith)
