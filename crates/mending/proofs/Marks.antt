-- What the marks tell are the changes of the model, and there are no more places than entries. Assumes nothing.
use Prim.Native.Nat.{ℕ, zero, suc, ◌+◌, ◌*◌, ◌/◌, ◌%◌, ◌-◌, ◌<◌, ◌≤◌}
use mathlib.Core.Path.{◌≡◌, refl, sym, ap, ap₂, ◌∙◌}
use mathlib.Core.Bool.{Bool, true, false, cond, ◌&&◌, ◌||◌}
use mathlib.Core.List.{List, [], ◌∷◌, ◌++◌, append_assoc}
use native.Mathlib.Nat.{add-zero, add-div_left, add-mod_left, div-eq_of_lt, mod-eq_of_lt}
use native.Mathlib.Omega.{arith}
use borrow.Author.Tests.{eq-eqb, ne_eqb, eqb-true, eqb-false, lt-ltb, le-ltb}
use lib.Dec.{lit<, eqb, ltb}
use lib.ListN.{length, get_or, length-append}
use lib.Ieee.{Float}
use Rattle.ranking.proofs.Ordered.{insert_length}
use Rattle.field.specs.Field.{Field, entries}
use Rattle.mending.specs.Places.{is_inside, all_places, place_of, entries_at, is_empty, places_to, places_of}
use Rattle.mending.specs.Changes.{Change, dropped, moved, joined, numbers_of, position_of, is_first, change_at, changes_to, changes_of, numbered}
use Rattle.mending.specs.Lineup.{lineup_to, lineup, up_to}
use Rattle.mending.specs.Gathering.{dropped_mark, first_mark, joined_mark, mark_of, Gathered, gathered, is_last_of, take_one, take_all_of}
use Rattle.mending.specs.Report.{step_of, told_by, count_to, told_to}
use Rattle.mending.proofs.Entries.{place_most}
use Rattle.mending.proofs.Lines.{ByPlace, goes_in, none_yet}
use Rattle.mending.proofs.Gathers.{gathers}
use Rattle.mending.proofs.Masses.{up_to_long}

-- ---- no more places than entries

-- by place, then position
abbrev pub before : Field → ℕ → ℕ → Bool
before F i j = ltb (place_of F i) (place_of F j) || (eqb (place_of F i) (place_of F j) && ltb i j)

pub before_places : (F : Field) → ByPlace F (before F) (entries F)
before_places F = record {
  lower = λ i j h g l. rw (lt-ltb (place_of F i) (place_of F j) l);
  higher = λ i j h g l. rw (le-ltb (place_of F i) (place_of F j) (omega arith), ne_eqb (place_of F i) (place_of F j) (λ e. omega arith));
  earlier = λ i j h g e l. rw (le-ltb (place_of F i) (place_of F j) (omega arith), eq-eqb (place_of F i) (place_of F j) e, lt-ltb i j l);
}

module _ (F : Field) where
  lines_long : (k : ℕ) → k ≤ entries F → length (lineup_to F k (suc (all_places F))) ≡ k
  lines_long zero h = ap length (none_yet F (suc (all_places F)))
  lines_long (suc k) h =
      ap length (sym (goes_in F (before F) (entries F) (before_places F) k h (suc (all_places F)) (omega (arith, place_most F k))))
      ∙ insert_length (before F) k (lineup_to F k (suc (all_places F)))
      ∙ ap suc (lines_long k (omega arith))

  pub lineup_long : length (lineup F) ≡ entries F
  unfolding lineup
  lineup_long = lines_long (entries F) (omega arith)

  one_more : (g : Gathered) (e : ℕ) → length (take_one F g e).places ≤ suc (length g.places)
  unfolding take_one
  one_more g e = go (ltb (place_of F e) (all_places F)) (is_last_of (place_of F e) g.places) _ _ _ _ _
    where
      go : (a b : Bool) (s t : List Float) (x y z : List ℕ)
          → length (cond a (cond b (gathered g.places s x) (gathered (g.places ++ place_of F e ∷ []) t y)) (gathered g.places g.sums z)).places ≤ suc (length g.places)
      go true true s t x y z = omega arith
      go true false s t x y z = omega (arith, length-append g.places (place_of F e ∷ []))
      go false b s t x y z = omega arith

  all_more : (l : List ℕ) (g : Gathered) → length (take_all_of F g l).places ≤ length g.places + length l
  unfolding take_all_of
  all_more [] g = omega arith
  all_more (e ∷ l) g = omega (arith, all_more l (take_one F g e), one_more g e)

  pub places_few : length (places_of F) ≤ entries F
  places_few =
      let C = gathers F (up_to (entries F)) (up_to_long (entries F)) in
      omega (arith, ap length C.places, all_more (lineup F) (gathered [] [] (up_to (entries F))), lineup_long)

  -- a place stands no later than there are places below it
  position_rises : (p d : ℕ) → length (places_to F p) ≤ length (places_to F (p + d))
  unfolding places_to
  position_rises p zero = rw (add-zero p) (omega arith)
  position_rises p (suc d) =
      let e : p + suc d ≡ suc (p + d) = omega arith in
      rw e (go (is_empty (entries_at F (p + d))) (position_rises p d))
    where
      go : (b : Bool) → length (places_to F p) ≤ length (places_to F (p + d)) → length (places_to F p) ≤ length (cond b (places_to F (p + d)) (places_to F (p + d) ++ (p + d) ∷ []))
      go true h = h
      go false h = omega (arith, length-append (places_to F (p + d)) ((p + d) ∷ []))

  pub position_few : (k : ℕ) → position_of F (place_of F k) ≤ entries F
  unfolding places_of
  position_few k =
      let e : all_places F ≡ place_of F k + (all_places F - place_of F k) = omega (arith, place_most F k) in
      let h : length (places_to F (place_of F k)) ≤ length (places_to F (all_places F)) = rw e (position_rises (place_of F k) (all_places F - place_of F k)) in
      omega (arith, h, places_few)

-- ---- a mark and a change say the same

first_parts : (o : ℕ) → o < 65536 → ((65536 + o) / 65536 ≡ 1) × ((65536 + o) % 65536 ≡ o)
first_parts o h = (add-div_left o (lit< tt) ∙ ap (λ (x : ℕ). x + 1) (div-eq_of_lt h), add-mod_left 65536 o ∙ mod-eq_of_lt h)

joined_parts : (o : ℕ) → o < 65536 → ((131072 + o) / 65536 ≡ 2) × ((131072 + o) % 65536 ≡ o)
joined_parts o h =
    let e : 131072 + o ≡ 65536 + (65536 + o) = omega arith in (
      ap (λ (x : ℕ). x / 65536) e ∙ add-div_left (65536 + o) (lit< tt) ∙ ap (λ (x : ℕ). x + 1) (first_parts o h).0,
      ap (λ (x : ℕ). x % 65536) e ∙ add-mod_left 65536 (65536 + o) ∙ (first_parts o h).1,
    )

module _ (F : Field) (few : entries F ≤ 32768) (k : ℕ) (K : k < entries F) where
  o : ℕ
  o = position_of F (place_of F k)

  tells : (step_of (mark_of F k) k ≡ length (change_at F k)) × (told_by (mark_of F k) k ≡ numbered (change_at F k))
  unfolding mark_of change_at step_of told_by numbered o
  tells = go (is_inside F k) (is_first F k) (eqb o k) refl
    where
      O : o < 65536
      O = omega (arith, position_few F k)

      mark : Bool → Bool → ℕ
      mark a b = cond a (cond b (first_mark o) (joined_mark o)) dropped_mark

      change : Bool → Bool → Bool → List Change
      change a b c = cond a (cond b (cond c [] (moved k o ∷ [])) (joined k o ∷ [])) (dropped k ∷ [])

      go : (a b c : Bool) → eqb o k ≡ c
          → (cond (eqb (mark a b) (first_mark k)) 0 1 ≡ length (change a b c))
          × (cond (eqb (mark a b) (first_mark k)) [] (k ∷ mark a b / 65536 ∷ mark a b % 65536 ∷ []) ≡ numbered (change a b c))
      go false b c e = rw (ne_eqb 65535 (65536 + k) (λ z. omega arith)) (refl, refl)
      go true false c e =
          let P = joined_parts o O in
          rw (ne_eqb (131072 + o) (65536 + k) (λ z. omega arith), P.0, P.1) (refl, refl)
      go true true true e = rw (eq-eqb (65536 + o) (65536 + k) (ap (λ (x : ℕ). 65536 + x) (eqb-true o k e))) (refl, refl)
      go true true false e =
          let P = first_parts o O in
          let n = eqb-false o k e in
          rw (ne_eqb (65536 + o) (65536 + k) (λ z. n (omega arith)), P.0, P.1) (refl, refl)

  pub step_tells : step_of (mark_of F k) k ≡ length (change_at F k)
  step_tells = tells.0

  pub mark_tells : told_by (mark_of F k) k ≡ numbered (change_at F k)
  mark_tells = tells.1

-- ---- all of them

pub numbered_append : (a b : List Change) → numbered (a ++ b) ≡ numbered a ++ numbered b
unfolding numbered
numbered_append [] b = refl
numbered_append (x ∷ a) b = ap (λ (l : List ℕ). numbers_of x ++ l) (numbered_append a b) ∙ sym (append_assoc (numbers_of x) (numbered a) (numbered b))

module _ (F : Field) (few : entries F ≤ 32768) (u : List ℕ) (marks : (k : ℕ) → k < entries F → get_or u (2 * entries F + k) 0 ≡ mark_of F k) where
  counts_to : (k : ℕ) → k ≤ entries F → count_to (entries F) u k ≡ length (changes_to F k)
  unfolding count_to changes_to
  counts_to zero h = refl
  counts_to (suc k) h =
      ap₂ (λ (x y : ℕ). x + y) (counts_to k (omega arith)) (ap (λ (x : ℕ). step_of x k) (marks k h) ∙ step_tells F few k h)
      ∙ sym (length-append (changes_to F k) (change_at F k))

  tells_to : (k : ℕ) → k ≤ entries F → told_to (entries F) u k ≡ numbered (changes_to F k)
  unfolding told_to changes_to numbered
  tells_to zero h = refl
  tells_to (suc k) h =
      ap₂ (λ (x y : List ℕ). x ++ y) (tells_to k (omega arith)) (ap (λ (x : ℕ). told_by x k) (marks k h) ∙ mark_tells F few k h)
      ∙ sym (numbered_append (changes_to F k) (change_at F k))

  pub counts_changes : count_to (entries F) u (entries F) ≡ length (changes_of F)
  unfolding changes_of
  counts_changes = counts_to (entries F) (omega arith)

  pub tells_changes : told_to (entries F) u (entries F) ≡ numbered (changes_of F)
  unfolding changes_of
  tells_changes = tells_to (entries F) (omega arith)
