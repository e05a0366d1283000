-- The records above the last word, taken as one block and moved up as one. Assumes nothing.
use Prim.Native.Nat.{ℕ, zero, suc, ◌+◌, ◌*◌, ◌-◌, ◌/◌, ◌<◌, ◌≤◌}
use mathlib.Core.Path.{◌≡◌, refl, sym, ap, ◌∙◌}
use mathlib.Core.List.{List, [], ◌∷◌, ◌++◌, append_assoc, append-nil}
use native.Mathlib.Decide.{dec_lt}
use native.Mathlib.Omega.{arith}
use lib.ListN.{length, get_or, take, drop, length-append, length-drop}
use lib.Seq.{slice, length-take-le, drop-length, drop-nil, take-append-le, drop-append-le, take-take, drop_at}
use Rattle.meaning.specs.Records.{Record}
use Rattle.constraints.specs.Record.{flat, room, record_at, records}
use Rattle.constraints.specs.Keys.{key_of, unkey}
use Rattle.constraints.proofs.Numbers.{unkey_of_key}
use Rattle.constraints.proofs.Records.{records_append}
use Rattle.found.specs.Joint.{front, Held, Climbed, joint, Taking}
use Rattle.found.specs.Blocks.{raised}
use Rattle.found.proofs.Fronts.{front_length, front_snoc, front_fewer, flat_front, held_fewer, joint_as}
use Rattle.found.proofs.Lasts.{item_small, last_item}

-- ---- a block of the front, as it stands in the list

three : (i : ℕ) → 3 * suc i ≡ suc (suc (suc (3 * i)))
three i = omega arith

flat_drop : (p : ℕ) (l : List Record) → drop (3 * p) (flat l) ≡ flat (drop p l)
unfolding flat
flat_drop zero l = refl
flat_drop (suc p) [] = drop-nil (3 * suc p)
flat_drop (suc p) (x ∷ l) = rw (three p) (flat_drop p l)

unflat : (l : List Record) → records (flat l) ≡ l
unfolding records
unflat l = ap records (sym (append-nil (flat l))) ∙ records_append l [] ∙ append-nil l

pub block_flat : (p i : ℕ) (list : List ℕ) → 3 * i ≤ length list → slice (3 * p) (3 * i) list ≡ flat (drop p (front i list))
block_flat p i list h = ap (drop (3 * p)) (flat_front i list h) ∙ flat_drop p (front i list)

-- lists that begin alike have one front
front_alike : (i : ℕ) (l m : List ℕ) → 3 * i ≤ length l → 3 * i ≤ length m → take (3 * i) l ≡ take (3 * i) m → front i l ≡ front i m
front_alike i l m h g e =
    let q : flat (front i l) ≡ flat (front i m) = sym (flat_front i l h) ∙ e ∙ flat_front i m g in
    sym (unflat (front i l)) ∙ ap records q ∙ unflat (front i m)

-- ---- a block moved up

module _ (p i n : ℕ) (list : List ℕ) (order : p ≤ i) (up : i ≤ n) (fits : 3 * n ≤ length list) where
  abbrev at : ℕ
  at = 3 * n - (3 * i - 3 * p)

  -- what stands in front of it is as it was
  pub front_raised : length (raised (3 * p) (3 * i) (3 * n) list) ≡ length list → front p (raised (3 * p) (3 * i) (3 * n) list) ≡ front p list
  unfolding raised
  front_raised long = front_alike p (raised (3 * p) (3 * i) (3 * n) list) list (omega (arith, long)) (omega arith)
      (ap (take (3 * p)) (append_assoc (take at list) (slice (3 * p) (3 * i) list) (drop (3 * n) list))
      ∙ take-append-le (3 * p) (take at list) (slice (3 * p) (3 * i) list ++ drop (3 * n) list) (omega (arith, length-take-le at list (omega arith)))
      ∙ take-take (3 * p) at list (omega arith))

  -- it stands in front of what it was moved up to
  pub drop_raised : drop (3 * (n - (i - p))) (raised (3 * p) (3 * i) (3 * n) list) ≡ flat (drop p (front i list)) ++ drop (3 * n) list
  unfolding raised
  drop_raised =
      let e : 3 * (n - (i - p)) ≡ at = omega arith in
      ap (drop (3 * (n - (i - p)))) (append_assoc (take at list) (slice (3 * p) (3 * i) list) (drop (3 * n) list))
      ∙ ap (λ (k : ℕ). drop k (take at list ++ (slice (3 * p) (3 * i) list ++ drop (3 * n) list))) e
      ∙ drop_at (take at list) (slice (3 * p) (3 * i) list ++ drop (3 * n) list) at (length-take-le at list (omega arith))
      ∙ ap (λ (l : List ℕ). l ++ drop (3 * n) list) (block_flat p i list (omega arith))

-- ---- a block taken

-- lists with one front give one last
pub taking_as : {i lo j key i' j' : ℕ} {l m u : List ℕ} → front i l ≡ front i m → Taking i lo j l u key i' j' → Taking i lo j m u key i' j'
taking_as {i} {lo} {j} {key} {i'} {j'} {l} {m} {u} e T = record {
  fewer = T.fewer;
  low = T.low;
  high = T.high;
  less = T.less;
  small = T.small;
  is = sym (joint_as i lo j l m u e) ∙ T.is ∙ ap (λ (z : List Record). z ++ unkey key ∷ []) (joint_as i' lo j' l m u (front_fewer i' i l m T.fewer e));
}

module _ {lo j : ℕ} (list : List ℕ) {u : List ℕ} (C : Climbed lo j u) (h : lo < j) (p : ℕ) where
  none_taken : (i : ℕ) → i ≤ room list → p ≡ i → joint i lo j list u ≡ joint p lo j list u ++ drop p (front i list)
  none_taken i g e =
      let d : drop p (front i list) ≡ [] = ap (λ (k : ℕ). drop k (front i list)) (e ∙ sym (front_length i list g)) ∙ drop-length (front i list) in
      rw (d, e) (sym (append-nil (joint i lo j list u)))

  one_taken : (i : ℕ) → Held (suc i) list → p ≤ i → get_or u (j - 1) 0 / 16 < key_of (record_at list i) / 16
      → joint i lo j list u ≡ joint p lo j list u ++ drop p (front i list)
      → joint (suc i) lo j list u ≡ joint p lo j list u ++ drop p (front (suc i) list)
  one_taken i H g a e =
      let n : suc i - 1 ≡ i = omega arith in
      let r = record_at list i in
      let small = rw n at (item_small (suc i) list H (omega arith)) in
      let t : joint (suc i) lo j list u ≡ joint i lo j list u ++ r ∷ [] = rw (n, unkey_of_key small) at (last_item H C h (omega arith) refl (rw n a)).is in
      let d : drop p (front (suc i) list) ≡ drop p (front i list) ++ r ∷ [] =
      ap (drop p) (front_snoc i list (omega (arith, H.fits))) ∙ drop-append-le p (front i list) (r ∷ []) (omega (arith, front_length i list (omega (arith, H.fits)))) in
      t ∙ ap (λ (l : List Record). l ++ r ∷ []) e ∙ append_assoc (joint p lo j list u) (drop p (front i list)) (r ∷ []) ∙ ap (λ (l : List Record). joint p lo j list u ++ l) (sym d)

  -- the records from p on, which are all above the last word, are the last of both lists
  pub block_taken : (i : ℕ) → Held i list → p ≤ i → ((t : ℕ) → p ≤ t → t < i → get_or u (j - 1) 0 / 16 < key_of (record_at list t) / 16)
      → joint i lo j list u ≡ joint p lo j list u ++ drop p (front i list)
  block_taken zero H g a = none_taken zero H.fits (omega arith)
  block_taken (suc i) H g a = elim (dec_lt i p) [
    | yes k ↦ none_taken (suc i) H.fits (omega arith)
    | no k ↦ one_taken i H (omega arith) (a i (omega arith) (omega arith))
        (block_taken i (held_fewer i (suc i) list (omega arith) H) (omega arith) (λ t b c. a t b (omega arith)))
  ]

  -- and as many as they are
  pub block_length : (i : ℕ) → Held i list → p ≤ i → ((t : ℕ) → p ≤ t → t < i → get_or u (j - 1) 0 / 16 < key_of (record_at list t) / 16)
      → length (joint i lo j list u) ≡ length (joint p lo j list u) + (i - p)
  block_length i H g a =
      ap length (block_taken i H g a)
      ∙ length-append (joint p lo j list u) (drop p (front i list))
      ∙ ap (λ (k : ℕ). length (joint p lo j list u) + k) (length-drop p (front i list) ∙ ap (λ (k : ℕ). k - p) (front_length i list H.fits))
