-- What a caller keeps from flush to flush, over the promise of `flush` alone. Assumes nothing.
use Prim.Native.Nat.{ℕ, ◌+◌, ◌*◌, ◌-◌, ◌<◌, ◌≤◌}
use mathlib.Core.Path.{◌≡◌, refl, sym, ap, ◌∙◌}
use mathlib.Core.Logic.{⊎_elim, ◌↔◌}
use mathlib.Core.List.Memᴰ
use mathlib.Core.List.{List, [], map, ◌++◌, Memᴰ}
use native.Mathlib.Nat.{div-mul-le_self}
use native.Mathlib.Omega.{arith}
use lib.ListN.{length, drop}
use lib.Seq.{slice, drop-append-add, drop-drop}
use Rattle.scratch.specs.Over.{over}
use Rattle.meaning.specs.Records.{Record, AllProper}
use Rattle.meaning.specs.Rising.{merged_list}
use Rattle.meaning.proofs.Bans.{bans_at, bans_right, same_refl, same_both, same_records}
use Rattle.meaning.proofs.Rising.{merged_bans, merged_proper, merged_rising, merged_same, merged_more}
use Rattle.constraints.specs.Record.{flat, room, filled}
use Rattle.constraints.specs.Keys.{unkey}
use Rattle.constraints.proofs.Records.{length_flat, length_filled, filled_none, filled_rest}
use Rattle.sorting.specs.Numbers.{Keys, distinct_at}
use Rattle.sorting.proofs.Numbers.{merged_small}
use Rattle.sorting.proofs.Joining.{words_small, words_proper}
use Rattle.std.specs.Prelude.{Some, None}
use Rattle.found.specs.Joint.{front, Held, joint}
use Rattle.found.specs.Flush.{Left, flushed}
use Rattle.found.specs.Holding.{SameSet, Holding}
use Rattle.found.proofs.Tops.{proper_both}
use Rattle.found.proofs.Fronts.{front_filled}
use Rattle.found.proofs.Settled.{settled_full, Took, holds_took, Refused, full_refused, settled_words}

-- any two results that the promise of a flush permits are equal
pub one_result : (list : List ℕ) (held : ℕ) (u : List ℕ) (lo hi : ℕ) (x y : Left) → x ≡ flushed list held u lo hi → y ≡ flushed list held u lo hi → x ≡ y
one_result list held u lo hi x y p q = p ∙ sym q

-- a list filled anew with no fewer items
refilled : (items more : List Record) (list : List ℕ) → length items ≤ length more → filled more (filled items list) ≡ filled more list
unfolding filled over
refilled items more list h =
    let m = length (flat items) in
    let n = length (flat more) - m in
    let a : m + n ≡ length (flat more) = omega (arith, length_flat items, length_flat more) in
    let e : drop (length (flat more)) (flat items ++ drop m list) ≡ drop (length (flat more)) list =
    ap (λ (k : ℕ). drop k (flat items ++ drop m list)) (sym a) ∙ drop-append-add (flat items) (drop m list) n ∙ drop-drop n m list ∙ ap (λ (k : ℕ). drop k list) a in
    ap (λ (l : List ℕ). flat more ++ l) e

-- A list holds nothing found at first.
pub holding_start : (list : List ℕ) → Holding [] list list
unfolding merged_list
holding_start list = record { small = λ x m. absurd (Memᴰ.not-nil m); fits = omega arith; is = sym (filled_none list) }

-- In what order records were found, and how often, does not matter.
pub merged_only : {S T : List Record} → AllProper S → SameSet S T → merged_list S ≡ merged_list T
merged_only {S} {T} a e = merged_same S T a (λ x m. a x (e.from x m)) (same_records e.to e.from)

pub holding_as : {S T : List Record} {list₀ list : List ℕ} → SameSet S T → Holding S list₀ list → Holding T list₀ list
holding_as {S} {T} e H =
    let q = merged_only (λ x m. (H.small x m).proper) e in record {
      small = λ x m. H.small x (e.from x m);
      fits = rw q at H.fits;
      is = rw q at H.is;
    }

-- Once what was found has no room, all that is found in the end has none.
pub stays_full : (room : ℕ) (l m : List Record) → AllProper l → room < length (merged_list l) → ((x : Record) → Memᴰ x l → Memᴰ x m) → room < length (merged_list m)
stays_full room l m a h f = omega (arith, merged_more l m a (λ i j p b. bans_at b (f b.by b.among)))

module _ {S : List Record} {list₀ list : List ℕ} (H : Holding S list₀ list) where
  inside : 3 * length (merged_list S) ≤ length list₀
  inside = omega (arith, H.fits, div-mul-le_self (length list₀) 3)

  same_long : length list ≡ length list₀
  same_long = ap length H.is ∙ length_filled (merged_list S) list₀ inside

  front_is : front (length (merged_list S)) list ≡ merged_list S
  front_is = ap (front (length (merged_list S))) H.is ∙ front_filled (merged_list S) list₀

  -- Nothing behind the last item is written.
  pub holding_rest : drop (3 * length (merged_list S)) list ≡ drop (3 * length (merged_list S)) list₀
  holding_rest = ap (drop (3 * length (merged_list S))) H.is ∙ filled_rest (merged_list S) list₀

  -- It is what the next flush asks for.
  pub holding_held : Held (length (merged_list S)) list
  holding_held = record {
    fits = rw same_long H.fits;
    rising = rw front_is (merged_rising S);
    small = λ x m. merged_small S H.small x (rw front_is at m);
  }

  module _ {lo hi : ℕ} {u : List ℕ} (K : Keys lo hi u) {x : Left} (e : x ≡ flushed list (length (merged_list S)) u lo hi) where
    joint_is : joint (length (merged_list S)) lo hi list u ≡ merged_list (map unkey (slice lo hi u) ++ S)
    unfolding joint
    joint_is =
        let k = map unkey (slice lo hi u) in
        let held : AllProper S = λ x m. (H.small x m).proper in
        ap (λ (l : List Record). merged_list (k ++ l)) front_is
        ∙ merged_same (k ++ merged_list S) (k ++ S) (proper_both (words_proper K) (merged_proper S held)) (proper_both (words_proper K) held) (same_both (same_refl k) (merged_bans S))

    taken_in : {n : ℕ} → x.answer ≡ Some n
        → Took (joint (length (merged_list S)) lo hi list u) list (distinct_at lo hi u) n (flushed list (length (merged_list S)) u lo hi)
    unfolding flushed
    taken_in a = holds_took (joint (length (merged_list S)) lo hi list u) list (distinct_at lo hi u) (sym (ap (λ (z : Left). z.answer) e) ∙ a)

    -- A flush that answers n has counted what was found, each once.
    pub holds_count : {n : ℕ} → x.answer ≡ Some n → n ≡ length (merged_list (map unkey (slice lo hi u) ++ S))
    holds_count a = (taken_in a).count ∙ ap length joint_is

    -- The list then holds what the words stand for and what it held.
    pub holding_flush : {n : ℕ} → x.answer ≡ Some n → Holding (map unkey (slice lo hi u) ++ S) list₀ x.list
    holding_flush a =
        let k = map unkey (slice lo hi u) in record {
          small = λ y m. ⊎_elim (words_small K y) (H.small y) (Memᴰ.append_cases k m);
          fits = rw (joint_is, same_long) at (taken_in a).fits;
          is = ap (λ (z : Left). z.list) e
              ∙ (taken_in a).laid
              ∙ ap (λ (l : List Record). filled l list) joint_is
              ∙ ap (filled (merged_list (k ++ S))) H.is
              ∙ refilled (merged_list S) (merged_list (k ++ S)) list₀ (merged_more S (k ++ S) (λ y m. (H.small y m).proper) (λ i j p f. bans_right k f));
        }

    left_out : x.answer ≡ None → Refused (joint (length (merged_list S)) lo hi list u) list (distinct_at lo hi u) (flushed list (length (merged_list S)) u lo hi)
    unfolding flushed
    left_out a = full_refused (joint (length (merged_list S)) lo hi list u) list (distinct_at lo hi u) (sym (ap (λ (z : Left). z.answer) e) ∙ a)

    -- A flush answers that there is no room exactly if more was found, each counted once, than the list has room for.
    pub full_exactly : (x.answer ≡ None) ↔ (room list₀ < length (merged_list (map unkey (slice lo hi u) ++ S)))
    unfolding flushed
    full_exactly = (
      λ a. rw (joint_is, same_long) at (left_out a).more,
      λ h.
          let more : room list < length (joint (length (merged_list S)) lo hi list u) = rw (joint_is, same_long) h in
          ap (λ (z : Left). z.answer) (e ∙ sym (settled_full (joint (length (merged_list S)) lo hi list u) list (distinct_at lo hi u) refl more)),
    )

    -- The list is then as it was.
    pub full_keeps : x.answer ≡ None → x.list ≡ list
    full_keeps a = ap (λ (z : Left). z.list) e ∙ (left_out a).kept

    -- The words are left sorted, each once, with zeros behind them; the rest of the scratch is as it was.
    pub words_left : x.words ≡ distinct_at lo hi u
    unfolding flushed
    words_left = ap (λ (z : Left). z.words) e ∙ settled_words (joint (length (merged_list S)) lo hi list u) list (distinct_at lo hi u)
