-- One entry more in scratch, and the pass over all of them. Assumes nothing.
use Prim.Native.Nat.{ℕ, zero, suc, ◌+◌, ◌*◌, ◌-◌, ◌<◌, ◌≤◌}
use mathlib.Core.Path.{◌≡◌, refl, sym, ap, ◌∙◌}
use mathlib.Core.Bool.{Bool, true, false, cond, true≢false}
use mathlib.Core.List.{List, [], ◌∷◌}
use native.Mathlib.Numerals.{add-one}
use native.Mathlib.Omega.{arith}
use borrow.Author.Tests.{lt-ltb, le-ltb}
use lib.Dec.{eqb}
use lib.ListN.{length, get_or, set, take, length-set}
use lib.Seq.{take-suc, take_all}
use lib.Ieee.{Float, nan, binary64, add}
use Rattle.scratch.specs.Region.{region}
use Rattle.scratch.proofs.Region.{length_region, region_at, region_set, region_push, region_below, region_above}
use Rattle.ranking.proofs.Ordered.{Every, every_append, every_at}
use Rattle.field.specs.Field.{Field, entries, quad_of}
use Rattle.mending.specs.Places.{all_places, place_of, entries_to, is_empty}
use Rattle.mending.specs.Lineup.{lineup_to, lineup, Roomy}
use Rattle.mending.specs.Gathering.{Gathered, gathered, is_last_of, take_one, take_all_of, gathered_in, Takable, Taken, Gathers}
use Rattle.mending.proofs.Lists.{front_at}
use Rattle.mending.proofs.Entries.{entries_there}
use Rattle.mending.proofs.Gathers.{take_append, gathers}

-- ---- the last place

module _ (m o p : ℕ) (u : List ℕ) where
  pub none_last : o ≡ 0 → false ≡ is_last_of p (region m o u)
  unfolding is_last_of region
  none_last e = rw e

  pub last_word : 0 < o → m + o ≤ length u → {r : ℕ} → r ≡ get_or u (m + (o - 1)) 0 → eqb r p ≡ is_last_of p (region m o u)
  unfolding is_last_of
  last_word h g {r} is =
      let long = length_region m o u g in
      ap (λ (i : ℕ). eqb i p) is ∙ sym (go (region m o u) refl long (ap (λ (i : ℕ). get_or (region m o u) (i - 1) 0) long ∙ region_at m o u (o - 1) 0 (omega arith)))
    where
      go : (l : List ℕ) → region m o u ≡ l → length (region m o u) ≡ o → get_or (region m o u) (length (region m o u) - 1) 0 ≡ get_or u (m + (o - 1)) 0
          → cond (is_empty (region m o u)) false (eqb (get_or (region m o u) (length (region m o u) - 1) 0) p) ≡ eqb (get_or u (m + (o - 1)) 0) p
      go [] e long read = absurd (omega (arith, ap length e))
      go (x ∷ l) e long read = ap (λ (b : Bool). cond b false (eqb (get_or (region m o u) (length (region m o u) - 1) 0) p)) (ap (is_empty {A = ℕ}) e) ∙ ap (λ (i : ℕ). eqb i p) read

  pub some_last : is_last_of p (region m o u) ≡ true → 0 < o
  unfolding is_last_of region
  some_last = go o
    where
      go : (n : ℕ) → is_last_of p (region m n u) ≡ true → 0 < n
      go zero e = absurd (true≢false (sym e))
      go (suc n) e = omega arith

-- ---- one entry

module _ {F : Field} {e o : ℕ} {f : List Float} {u : List ℕ} (R : Takable F e o f u) {p : ℕ} (at : p ≡ place_of F e) where
  places_long : length (region (entries F) o u) ≡ o
  places_long = length_region (entries F) o u (omega (arith, R.few, R.words))

  pub drops : all_places F ≤ p → Taken F e o o f f u (set u (2 * entries F + e) 65535)
  unfolding take_one
  drops h = record {
    floats_long = refl;
    words_long = length-set u _ _;
    sorted = region_above 0 (entries F) u (2 * entries F + e) 65535 (omega arith);
    few = omega arith;
    is = rw (region_above (entries F) o u (2 * entries F + e) 65535 (omega (arith, R.few)), region_set (2 * entries F) (entries F) u e 65535 R.entry, ← at, le-ltb p (all_places F) h);
  }

  pub joins : {last : ℕ} → p < all_places F → is_last_of p (region (entries F) o u) ≡ true → last ≡ o - 1
      → Taken F e o o f (set f (entries F + last) (add binary64 (get_or f (entries F + last) nan) (quad_of F e))) u (set u (2 * entries F + e) (131072 + last))
  unfolding take_one
  joins {last} h is_last l =
      let some = some_last (entries F) o p u is_last in record {
        floats_long = length-set f _ _;
        words_long = length-set u _ _;
        sorted = region_above 0 (entries F) u (2 * entries F + e) _ (omega arith);
        few = omega arith;
        is = rw (
          region_above (entries F) o u (2 * entries F + e) (131072 + last) (omega (arith, R.few)),
          region_set (2 * entries F) (entries F) u e (131072 + last) R.entry,
          region_set (entries F) o f last (add binary64 (get_or f (entries F + last) nan) (quad_of F e)) (omega arith),
          ← at,
          lt-ltb p (all_places F) h,
          is_last,
          places_long,
          ← l,
          region_at (entries F) o f last nan (omega arith),
        );
      }

  pub opens : p < all_places F → is_last_of p (region (entries F) o u) ≡ false
      → Taken F e o (o + 1) f (set f (entries F + o) (quad_of F e)) u (set (set u (entries F + o) p) (2 * entries F + e) (65536 + o))
  unfolding take_one
  opens h no_last = record {
    floats_long = length-set f _ _;
    words_long = length-set (set u (entries F + o) p) _ _ ∙ length-set u _ _;
    sorted =
        region_above 0 (entries F) (set u (entries F + o) p) (2 * entries F + e) (65536 + o) (omega arith)
        ∙ region_above 0 (entries F) u (entries F + o) p (omega arith);
    few = omega arith;
    is = rw (
      region_above (entries F) (o + 1) (set u (entries F + o) p) (2 * entries F + e) (65536 + o) (omega (arith, R.few)),
      region_push (entries F) o u p (omega (arith, R.few, R.words)),
      region_push (entries F) o f (quad_of F e) (omega (arith, R.few, R.floats)),
      region_set (2 * entries F) (entries F) (set u (entries F + o) p) e (65536 + o) R.entry,
      region_below (2 * entries F) (entries F) u (entries F + o) p (omega (arith, R.few)),
      ← at,
      lt-ltb p (all_places F) h,
      no_last,
      places_long,
    );
  }

-- ---- all of them

-- each is an entry
lineup_below : (F : Field) (p : ℕ) → Every (λ e. e < entries F) (lineup_to F (entries F) p)
unfolding lineup_to
lineup_below F zero = tt
lineup_below F (suc p) = every_append (λ e. e < entries F) (lineup_to F (entries F) p) (entries_to F p (entries F)) (lineup_below F p) (only (entries_to F p (entries F)) (entries_there F p (entries F)))
  where
    only : (l : List ℕ) → Every (λ e. (e < entries F) × (place_of F e ≡ p)) l → Every (λ e. e < entries F) l
    only [] h = tt
    only (x ∷ l) h = (h.0.0, only l h.1)

-- where the pass stands: t entries are taken
pub record Passing (F : Field) (f₀ f : List Float) (u₀ u : List ℕ) (t o : ℕ) : Type 0 where
  pub within : t ≤ entries F
  pub few : o ≤ t
  pub floats_long : length f ≡ length f₀
  pub words_long : length u ≡ length u₀
  pub sorted : region 0 (entries F) u ≡ lineup F
  pub is : gathered_in (entries F) o f u ≡ take_all_of F (gathered [] [] (region (2 * entries F) (entries F) u₀)) (take t (lineup F))

module _ {F : Field} {f₀ : List Float} {u₀ : List ℕ} (R : Roomy F f₀ u₀) where
  pub passing_start : region 0 (entries F) u₀ ≡ lineup F → Passing F f₀ f₀ u₀ u₀ 0 0
  unfolding region take_all_of
  passing_start e = record { within = omega arith; few = omega arith; floats_long = refl; words_long = refl; sorted = e; is = refl }

  module _ {f : List Float} {u : List ℕ} {t o : ℕ} (P : Passing F f₀ f u₀ u t o) where
    sorted_long : length (lineup F) ≡ entries F
    sorted_long = ap length (sym P.sorted) ∙ length_region 0 (entries F) u (omega (arith, P.words_long, R.words))

    module _ (h : t < entries F) {e : ℕ} (is : e ≡ get_or u t 0) where
      entry_is : e ≡ get_or (lineup F) t 0
      entry_is = is ∙ sym (front_at (entries F) u t 0 h) ∙ ap (λ (l : List ℕ). get_or l t 0) P.sorted

      pub passing_ready : Takable F e o f u
      unfolding lineup
      passing_ready = record {
        listed = R.listed;
        entry = rw entry_is (every_at (λ i. i < entries F) (lineup F) (lineup_below F (suc (all_places F))) t (omega (arith, sorted_long)));
        few = omega (arith, P.few);
        floats = omega (arith, R.floats, P.floats_long);
        words = omega (arith, R.words, P.words_long);
      }

      pub passing_turn : {o' : ℕ} {f' : List Float} {u' : List ℕ} → Taken F e o o' f f' u u' → Passing F f₀ f' u₀ u' (t + 1) o'
      unfolding take_all_of
      passing_turn {o'} {f'} {u'} T =
          let g₀ = gathered [] [] (region (2 * entries F) (entries F) u₀) in
          record {
            within = omega arith;
            few = omega (arith, T.few, P.few);
            floats_long = T.floats_long ∙ P.floats_long;
            words_long = T.words_long ∙ P.words_long;
            sorted = T.sorted ∙ P.sorted;
            is = T.is
                ∙ ap (λ (g : Gathered). take_one F g e) P.is
                ∙ ap (take_one F (take_all_of F g₀ (take t (lineup F)))) entry_is
                ∙ sym (take_append F g₀ (take t (lineup F)) (get_or (lineup F) t 0 ∷ []))
                ∙ ap (take_all_of F g₀) (sym (ap (λ (i : ℕ). take i (lineup F)) (add-one t) ∙ take-suc (lineup F) t 0 (omega (arith, sorted_long))));
          }

    pub passing_done : entries F ≤ t → Gathers F o f₀ f u₀ u
    passing_done h =
        let ms = region (2 * entries F) (entries F) u₀ in
        let C = gathers F ms (length_region (2 * entries F) (entries F) u₀ (omega (arith, R.words))) in
        let all : take t (lineup F) ≡ lineup F = take_all t (lineup F) (omega (arith, sorted_long)) in
        let is : gathered_in (entries F) o f u ≡ take_all_of F (gathered [] [] ms) (lineup F) = P.is ∙ ap (take_all_of F (gathered [] [] ms)) all in
        record {
          floats_long = P.floats_long;
          words_long = P.words_long;
          few = omega (arith, P.few, P.within);
          places = ap (λ (g : Gathered). g.places) is ∙ C.places;
          sums = ap (λ (g : Gathered). g.sums) is ∙ C.sums;
          marks = λ k l.
              sym (region_at (2 * entries F) (entries F) u k 0 l)
              ∙ ap (λ (g : Gathered). get_or g.marks k 0) is
              ∙ C.marks k l;
        }
