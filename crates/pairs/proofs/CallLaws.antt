-- From the tests to the answer: what the work starts from, and what the call leaves on each path. Assumes nothing.
use Prim.Native.Nat.{ℕ, ◌+◌, ◌*◌, ◌/◌, ◌<◌, ◌≤◌}
use mathlib.Core.Path.{◌≡◌, refl, sym, ap, ◌∙◌}
use mathlib.Core.List.{List}
use native.Mathlib.Omega.{arith}
use borrow.Author.Tests.{le-leb, lt-leb}
use lib.ListN.{length, get_or, take, drop, replicate}
use lib.Seq.{get_or-take, get_or-drop, take-take}
use lib.Ieee.{Float, nan}
use Rattle.weights.specs.Worth.{zero64}
use Rattle.scratch.specs.Cleared.{cleared}
use Rattle.field.specs.declared.Grade.{Grade}
use Rattle.field.specs.declared.Refusal.{Refusal}
use Rattle.field.specs.declared.Refusal.TheVariants.{Room}
use Rattle.field.specs.Field.{Field, variables, entries}
use Rattle.field.specs.Table.{tested}
use Rattle.field.specs.Tests.{ready_tests, Ready}
use Rattle.field.specs.Grade.{grade_of}
use Rattle.places.proofs.Slices.{front_get_d}
use Rattle.margins.specs.Merge.{Listed}
use Rattle.constraints.specs.Record.{room, filled}
use Rattle.pairs.specs.declared.listing.Tally.{Tally}
use Rattle.neighbours.specs.Parts.{Parted}
use Rattle.neighbours.specs.Rows.{ends_at, keys_at, weights_at, size, Kept, Merged}
use Rattle.calls.proofs.Usual as usual
use Rattle.pairs.specs.Listing.{examined, found}
use Rattle.pairs.specs.Walk.{Prepared, free_at, Freed, Walked}
use Rattle.pairs.specs.Call.{Left, left, pairs_call}
use Rattle.pairs.proofs.ListLaws.{written_filled, length_written}
use Rattle.neighbours.proofs.PushLaws.{laid_after}
use Rattle.field.specs.Answers.{passed}
use Rattle.std.specs.Prelude.{Err}
use Rattle.pairs.specs.Answers.{paired_answer}

-- ---- the work

module _ {F : Field} {s : List ℕ} (f : List Float) (u : List ℕ) (R : Ready F s (length f) (length u)) where
  -- there is room for the free variables behind the keys
  pub free_room : {k : ℕ} → k ≡ length u → free_at (variables F) (size F) + length s ≤ k
  free_room e = omega (arith, R.words_room, R.sound.shaped.rows_long, R.sound.start.long)

front_float : (b : ℕ) (f g : List Float) → take b f ≡ take b g → (q : ℕ) → q < b → get_or f q nan ≡ get_or g q nan
front_float b f g e q h = sym (get_or-take b f q nan h) ∙ ap (λ (t : List Float). get_or t q nan) e ∙ get_or-take b g q nan h

-- linear parts and masses stay at the front
parted_after : {F : Field} (s : List ℕ) {f f' : List Float} {u u' : List ℕ} (k : ℕ) → Parted F s f k → Kept F f u f' u' → Parted F s f' k
parted_after {F} s {f} {f'} k P K = record {
  room = omega (arith, P.room, K.floats_long);
  linear = λ i h. front_float (weights_at (variables F)) f' f K.floats_front i (omega arith) ∙ P.linear i h;
  mass = λ i h. front_float (weights_at (variables F)) f' f K.floats_front (variables F + i) (omega arith) ∙ P.mass i h;
}

-- a row whose places hold the same keys
listed_as : {F : Field} {s : List ℕ} {t a e : ℕ} {keys keys' : List ℕ} {weights : List Float} → Listed F s t keys weights a e → ((p : ℕ) → p < e → get_or keys' p 0 ≡ get_or keys p 0) → Listed F s t keys' weights a e
listed_as L same = record {
  rising = λ p q a b c. rw (same p (omega arith), same q c) (L.rising p q a b c);
  within = λ p a b. rw (same p b) (L.within p a b);
  free = λ p a b. rw (same p b) (L.free p a b);
  weight = λ p a b. rw (same p b) (L.weight p a b);
  all = λ x h fx none. L.all x h fx (λ p a b e. none p a b (same p b ∙ e));
}

-- what is prepared stays so when the free variables are written behind it
pub work_prepared : {F : Field} {s : List ℕ} {f f' : List Float} {u u' u'' : List ℕ} {k : ℕ} → Parted F s f (entries F) → Merged F s f u f' u'
    → Freed s (free_at (variables F) (size F)) (length s) u' u'' k → Prepared F s f' u''
work_prepared {F} {s} {f} {f'} {u} {u'} {u''} P M E = record {
  laid = laid_after M.laid K;
  parts = parted_after s (entries F) P M.kept;
  row = λ t h fr. rw (at t (omega arith), at (ends_at n m + t) (omega arith)) (listed_as (M.row t h fr) (λ p b. key p (omega (arith, M.within t h fr))));
  within = λ t h fr. rw (at (ends_at n m + t) (omega arith)) (M.within t h fr);
}
  where
    n : ℕ
    n = variables F

    m : ℕ
    m = size F

    at : (q : ℕ) → q < free_at (variables F) (size F) → get_or u'' q 0 ≡ get_or u' q 0
    at q h = front_get_d (free_at (variables F) (size F)) u'' u' E.front q h

    key : (p : ℕ) → p < 2 * size F → get_or (drop (keys_at (variables F) (size F)) u'') p 0 ≡ get_or (drop (keys_at (variables F) (size F)) u') p 0
    key p h = get_or-drop (keys_at (variables F) (size F)) u'' p 0 ∙ at (keys_at (variables F) (size F) + p) (omega arith) ∙ sym (get_or-drop (keys_at (variables F) (size F)) u' p 0)

    K : Kept F f' u' f' u''
    K = record {
      words_front = sym (take-take (ends_at (variables F) (size F)) (free_at (variables F) (size F)) u'' (omega arith)) ∙ ap (take (ends_at (variables F) (size F))) E.front
          ∙ take-take (ends_at (variables F) (size F)) (free_at (variables F) (size F)) u' (omega arith);
      words_long = E.long;
      floats_front = refl;
      floats_long = refl;
    }

pub work_freed : {s : List ℕ} {base i k : ℕ} {u u' : List ℕ} → Freed s base i u u' k → Freed s base i u' u' k
work_freed E = record { long = refl; front = refl; many = E.many; at = E.at }

-- ---- the answer

module _ (F : Field) (s : List ℕ) (limit : ℕ) (l : List ℕ) (f : List Float) (u : List ℕ) where
  -- what the call answers and leaves when it is done
  abbrev pub done_left : Left
  done_left = left (paired_answer (grade_of F) (length (found F s limit)) (length (examined limit s))) (filled (found F s limit) l) (cleared zero64 f) (cleared 0 u)

  pub refused_call : {r : Refusal} → tested (ready_tests F s (length f) (length u)) ≡ Err r → left (Err r) l f u ≡ pairs_call F s limit l f u
  unfolding pairs_call
  refused_call e = usual.refused_call Err _ _ _ _ e

  module _ {f' : List Float} {u' : List ℕ} {l₁ : List ℕ} {x : Tally} (a b : ℕ) (passed : tested (ready_tests F s (length f) (length u)) ≡ passed) (W : Walked F s limit l l₁ x)
      (ef : f' ≡ replicate a zero64) (lf : a ≡ length f) (eu : u' ≡ replicate b 0) (lu : b ≡ length u) where
    same_room : room l₁ ≡ room l
    same_room = ap room_of (ap length W.list ∙ length_written (found F s limit) l)
      where
        room_of : ℕ → ℕ
        room_of k = k / 3

    pub done_call : {g : Grade} → g ≡ grade_of F → x.items ≤ room l₁ → left (paired_answer g x.items x.pairs) l₁ f' u' ≡ pairs_call F s limit l f u
    unfolding pairs_call
    done_call eg h =
        let enough : length (found F s limit) ≤ room l = omega (arith, W.items, same_room) in
        rw (eg, W.items, W.pairs, W.list, written_filled (found F s limit) l enough, ef, lf, eu, lu) (usual.last_passes Err _ _ Room _ _ passed (le-leb _ _ enough))

    pub full_call : {l₂ : List ℕ} (c : ℕ) → room l₁ < x.items → l₂ ≡ replicate c 0 → c ≡ length l₁ → left (Err Room) l₂ f' u' ≡ pairs_call F s limit l f u
    unfolding pairs_call
    full_call c h el lc =
        let over : room l < length (found F s limit) = omega (arith, W.items, same_room) in
        let long : length l₁ ≡ length l = ap length W.list ∙ length_written (found F s limit) l in
        rw (el, lc, long, ef, lf, eu, lu) (usual.last_refuses Err _ _ Room _ _ passed (lt-leb _ _ over))
