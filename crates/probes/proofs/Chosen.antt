-- The candidates in their place: every free variable, or the first of the ranks. Assumes nothing.
use Prim.Native.Nat.{ℕ, zero, suc, ◌+◌, ◌-◌, ◌<◌, ◌≤◌}
use mathlib.Core.Path.{◌≡◌, refl, sym, ap, ◌∙◌}
use mathlib.Core.List.{List, [], ◌∷◌}
use native.Mathlib.Omega.{arith}
use borrow.Rule.Slice.PartMut.{put_mid, mid_of, mid_len, same_len_mid, take_put}
use lib.Ieee.{Float, nan}
use lib.ListN.{length, get_or, take, drop}
use lib.Seq.{ext_get_or, take-take, get_or-take, get_or-drop, length-take-le}
use Rattle.scratch.specs.Region.{region}
use Rattle.scratch.proofs.Region.{length_region, region_at}
use Rattle.meaning.specs.Free.{free_to}
use Rattle.meaning.proofs.Free.{free_at}
use Rattle.field.specs.Field.{Field, variables}
use Rattle.field.specs.Tests.{Ready}
use Rattle.rows.specs.Stored.{row_on}
use Rattle.run.proofs.Cells.{placed_start}
use Rattle.probing.specs.declared.Known.{Known}
use Rattle.probing.specs.Remembered.{Remembers}
use Rattle.twin.specs.Twin.{first_at}
use Rattle.twin.proofs.Framed.{remembers_front}
use Rattle.walking.specs.Walk.{candidates_at, gather_at}
use Rattle.ranking.specs.Ranking.{mass_of, ahead, ranks}
use Rattle.ranking.specs.Listed.{Listed}
use Rattle.ranking.specs.Masses.{Rankable, Ranked}
use Rattle.ranking.proofs.Ordered.{Every, every_at, every_from, ordered_every}
use Rattle.probes.specs.Standing.{Standing, Chosen}

-- ---- every candidate is free

abbrev pub Free : List ℕ → ℕ → Type 0
Free s i = get_or s i 0 ≡ 2

pub all_free : (s : List ℕ) (n : ℕ) → Every (Free s) (free_to s n)
all_free s n = every_from (Free s) (free_to s n) (λ a h. (free_at s n a h).1)

take_every : (P : ℕ → Type 0) (k : ℕ) (l : List ℕ) → Every P l → Every P (take k l)
take_every P zero l h = tt
take_every P (suc k) [] h = tt
take_every P (suc k) (x ∷ l) h = (h.0, take_every P k l h.1)

pub ranked_free : (F : Field) (s : List ℕ) (limit : ℕ) → Every (Free s) (take limit (ranks F s))
unfolding ranks
ranked_free F s limit = take_every (Free s) limit (ranks F s) (ordered_every (ahead (mass_of F s)) (Free s) (free_to s (variables F)) (all_free s (variables F)))

-- ---- the workspace with them

-- those that stand in the words are free where all of the list are
pub candidates_free : (F : Field) (s u cands : List ℕ) {count : ℕ} → count ≤ variables F → gather_at F + variables F ≤ length u → region (candidates_at F) count u ≡ cands
    → Every (Free s) cands → (h : ℕ) → h < count → get_or s (get_or u (candidates_at F + h) 0) 0 ≡ 2
candidates_free F s u cands {count} within space are free h l =
    let a = length_region (candidates_at F) count u (omega (arith, within, space)) in
    let e : get_or cands h 0 ≡ get_or u (candidates_at F + h) 0 = ap (λ (z : List ℕ). get_or z h 0) (sym are) ∙ region_at (candidates_at F) count u h 0 l in
    rw e at (every_at (Free s) cands free h (omega (arith, l, a, ap length are)))

standing_of : {F : Field} {s : List ℕ} {f : List Float} {u cands : List ℕ} {known : Known} {count : ℕ} → Remembers F s f u known → count ≤ variables F
    → gather_at F + variables F ≤ length u → region (candidates_at F) count u ≡ cands → Every (Free s) cands → Standing F s f u known count
standing_of {F} {s} {f} {u} {cands} R within space are free = record { remembers = R; within = within; free = candidates_free F s u cands within space are free; space = space }

front_first : (F : Field) (u u' : List ℕ) → take (candidates_at F) u' ≡ take (candidates_at F) u → take (first_at F) u' ≡ take (first_at F) u
front_first F u u' e = sym (take-take (first_at F) (candidates_at F) u' (omega arith)) ∙ ap (take (first_at F)) e ∙ take-take (first_at F) (candidates_at F) u (omega arith)

pub space_enough : {F : Field} {s : List ℕ} {floats words : ℕ} → Ready F s floats words → gather_at F + variables F ≤ words
space_enough R = omega (arith, R.words_room, R.sound.shaped.rows_long)

module _ {F : Field} {s : List ℕ} {floats words : ℕ} (A : Ready F s floats words) where
  pub ready_same : {floats' words' : ℕ} → floats' ≡ floats → words' ≡ words → Ready F s floats' words'
  ready_same a b = rw (a, b) A

  pub free_room : {words' : ℕ} → words' ≡ words → (length s ≤ 4096) × (candidates_at F + length s ≤ words')
  free_room e = (omega (arith, A.sound.start.long, A.sound.shaped.few_variables), omega (arith, A.sound.start.long, space_enough A, e))

  module _ {u u' : List ℕ} {count : ℕ} (L : Listed s (candidates_at F) (length s) u u' count) where
    pub free_are : region (candidates_at F) count u' ≡ free_to s (variables F)
    free_are = L.is ∙ ap (free_to s) A.sound.start.long

    pub free_standing : {f : List Float} {known : Known} → Remembers F s f u known → length u ≡ words → Standing F s f u' known count
    free_standing R long =
        standing_of (remembers_front F u u' (front_first F u u' L.front) L.long R) (omega (arith, L.few, A.sound.start.long))
        (omega (arith, space_enough A, long, L.long)) free_are
        (all_free s (variables F))

-- ---- floats behind the rows and their copy

front_float : (b : ℕ) (f g : List Float) → take b f ≡ take b g → (q : ℕ) → q < b → get_or f q nan ≡ get_or g q nan
front_float b f g e q h = sym (get_or-take b f q nan h) ∙ ap (λ (z : List Float). get_or z q nan) e ∙ get_or-take b g q nan h

module _ (F : Field) (s : List ℕ) (limit : ℕ) (f f' : List Float) (u u' : List ℕ) {count : ℕ} (C : Chosen F s limit f f' u u' count) where
  float_same : (q : ℕ) → q < variables F + variables F + (variables F + variables F) → get_or f' q nan ≡ get_or f q nan
  float_same = front_float (variables F + variables F + (variables F + variables F)) f' f C.floats_front

  row_same : (t : ℕ) → t < variables F → row_on f' (variables F) t ≡ row_on f (variables F) t
  row_same t h = rw (float_same t (omega arith), float_same (variables F + t) (omega arith)) refl

  copy_at : (t : ℕ) → t < variables F + variables F → get_or (drop (variables F + variables F) f') t nan ≡ get_or (drop (variables F + variables F) f) t nan
  copy_at t h = get_or-drop (variables F + variables F) f' t nan ∙ float_same (variables F + variables F + t) (omega arith) ∙ sym (get_or-drop (variables F + variables F) f t nan)

  copy_same : (t : ℕ) → t < variables F → row_on (drop (variables F + variables F) f') (variables F) t ≡ row_on (drop (variables F + variables F) f) (variables F) t
  copy_same t h = rw (copy_at t (omega arith), copy_at (variables F + t) (omega arith)) refl

  chosen_remembers : {known : Known} → Remembers F s f u known → Remembers F s f' u' known
  chosen_remembers R =
      let Q = remembers_front F u u' (front_first F u u' C.words_front) C.words_long R in record {
        placed = placed_start Q.placed.shaped Q.start.long (omega (arith, Q.placed.floats_room, C.floats_long)) Q.placed.adjacent Q.placed.words_room;
        graded = Q.graded;
        standard = Q.standard;
        start = Q.start;
        rows = λ t h. row_same t h ∙ Q.rows t h;
        copy = λ t h. copy_same t h ∙ Q.copy t h;
        copy_room = omega (arith, Q.copy_room, C.floats_long);
        list_room = Q.list_room;
        count = Q.count;
        listed = Q.listed;
      }

  pub chosen_standing : {known : Known} {floats words : ℕ} → Ready F s floats words → Remembers F s f u known → length u ≡ words → Standing F s f' u' known count
  chosen_standing A R long =
      standing_of (chosen_remembers R) C.within (omega (arith, space_enough A, long, C.words_long)) C.are (ranked_free F s limit)

-- ---- the ranks in their place

front_as : (b : ℕ) (u u' : List ℕ) → b ≤ length u → length u' ≡ length u → ((t : ℕ) → t < b → get_or u' t 0 ≡ get_or u t 0) → take b u' ≡ take b u
front_as b u u' h long same =
    let a = length-take-le b u' (omega (arith, h, long)) in
    ext_get_or 0 (take b u') (take b u) (a ∙ sym (length-take-le b u h)) (λ t l.
    let k : t < b = omega (arith, l, a) in get_or-take b u' t 0 k ∙ same t k ∙ sym (get_or-take b u t 0 k))

-- where the masses stand
abbrev pub masses_at : Field → ℕ
masses_at F = variables F + variables F + (variables F + variables F)

module _ {F : Field} {s : List ℕ} (f : List Float) (u : List ℕ) (A : Ready F s (length f) (length u)) where
  pub choose_rankable : Rankable F s (mid_of (masses_at F) (masses_at F + variables F - masses_at F) f) u (candidates_at F)
  choose_rankable =
      let z : masses_at F + variables F - masses_at F ≡ variables F = omega arith in record {
        massable = record {
          shaped = A.sound.shaped;
          values_long = A.sound.start.long;
          masses_long = mid_len (masses_at F) (masses_at F + variables F) f (omega (arith, A.floats_room)) ∙ z;
        };
        finite_weights = A.sound.finite_weights;
        room = omega (arith, space_enough A);
      }

  pub chosen : (u' : List ℕ) (w : List Float) {limit count : ℕ} → Ranked F s limit u u' (candidates_at F) count
      → length w ≡ length (mid_of (masses_at F) (masses_at F + variables F - masses_at F) f)
      → Chosen F s limit f (put_mid (masses_at F) (masses_at F + variables F - masses_at F) f w) u u' count
  chosen u' w R long = record {
    floats_long = same_len_mid (masses_at F) (masses_at F + variables F - masses_at F) f w long;
    floats_front = take_put (masses_at F) (masses_at F + variables F - masses_at F) f w (omega (arith, A.floats_room));
    words_long = R.outside.long;
    words_front = front_as (candidates_at F) u u' (omega (arith, space_enough A)) R.outside.long R.outside.below;
    within = R.few;
    are = R.ranked;
  }
