-- The records of a flat list: how many there are, the one at a place, a store of one, and one more behind those that are there. Assumes nothing.
use Prim.Native.Nat.{ℕ, zero, suc, ◌+◌, ◌*◌, ◌<◌, ◌≤◌}
use mathlib.Core.Path.{◌≡◌, refl, sym, ap, ◌∙◌}
use mathlib.Core.Logic.{⊎_elim, ◌↔◌}
use mathlib.Core.List.Memᴰ
use mathlib.Core.List.{List, [], ◌∷◌, ◌++◌, map, Memᴰ}
use native.Mathlib.Nat.{div-add-mod', mod-lt}
use native.Mathlib.Numerals.{add-one}
use native.Mathlib.Omega.{arith}
use lib.ListN.{length, get_or, set, take, drop, length-set, length-append}
use lib.Seq.{sets, get_or-take, get_or-drop}
use Rattle.std.specs.Simd.{first_chunks}
use Rattle.scratch.specs.Over.{over}
use Rattle.scratch.proofs.Over.{length_over, over_front, over_rest, over_sets, sets_then}
use Rattle.meaning.specs.Records.{Record, record_on}
use Rattle.constraints.specs.Record.{flat, room, record_at, records, filled, stored}

-- ---- whole records

whole_records : (l : List ℕ) → (3 * length (records l) ≤ length l) × (length l < 3 * length (records l) + 3)
unfolding records
whole_records [] = omega arith
whole_records (a ∷ []) = omega arith
whole_records (a ∷ b ∷ []) = omega arith
whole_records (a ∷ b ∷ c ∷ l) = let h = whole_records l in omega arith

-- as many as the list has room for
pub length_records : (l : List ℕ) → length (records l) ≡ room l
length_records l = omega (arith, whole_records l, div-add-mod' (length l) 3, mod-lt (length l) {m = 3} (omega arith))

-- Theorem. There is room for record number t exactly if its last place is in the list.
pub has_room : (l : List ℕ) (t : ℕ) → (t < room l) ↔ (3 * t + 2 < length l)
has_room l t =
    let d = div-add-mod' (length l) 3 in
    let m = mod-lt (length l) {m = 3} (omega arith) in
    ((λ h. omega arith), λ h. omega arith)

module _ (i : ℕ) where
  abbrev three : 3 * suc i ≡ suc (suc (suc (3 * i)))
  three = omega arith

  abbrev four : 3 * suc i + 1 ≡ suc (suc (suc (3 * i + 1)))
  four = omega arith

  abbrev five : 3 * suc i + 2 ≡ suc (suc (suc (3 * i + 2)))
  five = omega arith

at_record : (l : List ℕ) (t : ℕ) (d : Record) → t < length (records l) → get_or (records l) t d ≡ record_at l t
unfolding records
at_record [] t d h = absurd (omega arith)
at_record (a ∷ []) t d h = absurd (omega arith)
at_record (a ∷ b ∷ []) t d h = absurd (omega arith)
at_record (a ∷ b ∷ c ∷ l) zero d h = refl
at_record (a ∷ b ∷ c ∷ l) (suc t) d h = rw (four t, five t, three t) (at_record l t d (omega arith))

pub record_at_lem : (l : List ℕ) (t : ℕ) (d : Record) → t < room l → get_or (records l) t d ≡ record_at l t
record_at_lem l t d h = at_record l t d (omega (arith, length_records l))

-- a store of one
pub records_stored : (l : List ℕ) (t : ℕ) (x : Record) → records (stored l t x) ≡ set (records l) t x
unfolding records stored
records_stored [] t x = refl
records_stored (a ∷ []) zero x = refl
records_stored (a ∷ []) (suc t) x = rw (four t, five t, three t)
records_stored (a ∷ b ∷ []) zero x = refl
records_stored (a ∷ b ∷ []) (suc t) x = rw (four t, five t, three t)
records_stored (a ∷ b ∷ c ∷ l) zero x = refl
records_stored (a ∷ b ∷ c ∷ l) (suc t) x = rw (four t, five t, three t) (ap (λ (s : List Record). record_on a b c ∷ s) (records_stored l t x))

pub length_stored : (l : List ℕ) (t : ℕ) (x : Record) → length (stored l t x) ≡ length l
unfolding stored
length_stored l t x = simp length-set

-- ---- flat lists

pub length_flat : (items : List Record) → length (flat items) ≡ 3 * length items
unfolding flat
length_flat [] = refl
length_flat (x ∷ items) = omega (arith, length_flat items)

pub flat_append : (a b : List Record) → flat (a ++ b) ≡ flat a ++ flat b
unfolding flat
flat_append [] b = refl
flat_append (x ∷ a) b = ap (λ (l : List ℕ). x.lower ∷ x.higher ∷ x.set ∷ l) (flat_append a b)

-- the records of a flat list are its items, with what is left behind it
pub records_append : (items : List Record) (l : List ℕ) → records (flat items ++ l) ≡ items ++ records l
unfolding records flat
records_append [] l = refl
records_append (x ∷ items) l = ap (λ (s : List Record). x ∷ s) (records_append items l)

whole_flat : (l : List ℕ) → length l ≡ 3 * length (records l) → flat (records l) ≡ l
unfolding records flat
whole_flat [] h = refl
whole_flat (a ∷ []) h = absurd (omega arith)
whole_flat (a ∷ b ∷ []) h = absurd (omega arith)
whole_flat (a ∷ b ∷ c ∷ l) h = ap (λ (s : List ℕ). a ∷ b ∷ c ∷ s) (whole_flat l (omega arith))

-- a list of whole records is the flat list of its records
pub flat_records : (l : List ℕ) → length l ≡ 3 * room l → flat (records l) ≡ l
flat_records l h = whole_flat l (omega (arith, length_records l))

-- ---- an answer list that is being filled

pub filled_none : (list : List ℕ) → filled [] list ≡ list
unfolding filled flat over
filled_none list = refl

module _ (items : List Record) (list : List ℕ) where
  pub length_filled : 3 * length items ≤ length list → length (filled items list) ≡ length list
  unfolding filled
  length_filled h = length_over (flat items) list (omega (arith, length_flat items))

  -- Theorem. Nothing behind the last item is written.
  pub filled_rest : drop (3 * length items) (filled items list) ≡ drop (3 * length items) list
  unfolding filled
  filled_rest = over_rest (flat items) list (length_flat items)

  -- the items stand at the front
  pub filled_front : take (3 * length items) (filled items list) ≡ flat items
  unfolding filled
  filled_front = over_front (flat items) list (length_flat items)

  pub records_filled : records (filled items list) ≡ items ++ records (drop (3 * length items) list)
  unfolding filled over
  records_filled =
      records_append items (drop (length (flat items)) list) ∙ ap (λ (k : ℕ). items ++ records (drop k list)) (length_flat items)

  -- Theorem. To put x behind the last item is to fill with one item more.
  pub filled_put : (x : Record) → 3 * length items + 2 < length list → stored (filled items list) (length items) x ≡ filled (items ++ x ∷ []) list
  unfolding stored filled flat
  filled_put x h =
      let k = 3 * length items in
      let two : k + 2 ≡ suc (suc k) = omega arith in
      let part = x.lower ∷ x.higher ∷ x.set ∷ [] in
      let at : k ≡ 0 + length (flat items) = omega (arith, length_flat items) in
      let fits : length (flat items ++ part) ≤ length list = omega (arith, length-append (flat items) part, length_flat items) in
      rw (two, add-one k)
      (ap (λ (l : List ℕ). sets l k part) (sym (over_sets (flat items) list (omega (arith, length_flat items))))
      ∙ ap (λ (j : ℕ). sets (sets list 0 (flat items)) j part) at
      ∙ sets_then (flat items) part list 0
      ∙ over_sets (flat items ++ part) list fits
      ∙ ap (λ (l : List ℕ). over l list) (sym (flat_append items (x ∷ []))))

-- ---- the records of a list, by place

-- r is the record at some place
pub record Among (r : Record) (l : List ℕ) : Type 0 where
  pub at : ℕ
  pub below : at < room l
  pub is : r ≡ record_at l at

module _ {A : Type 0} (d : A) where
  pub at_in : (l : List A) (t : ℕ) → t < length l → Memᴰ (get_or l t d) l
  at_in [] t h = absurd (omega arith)
  at_in (x ∷ l) zero h = Memᴰ.head refl
  at_in (x ∷ l) (suc t) h = Memᴰ.tail (at_in l t (omega arith))

  pub in_at : (l : List A) {a : A} → Memᴰ a l → (t : ℕ) × ((t < length l) × (a ≡ get_or l t d))
  in_at [] m = absurd (Memᴰ.not-nil m)
  in_at (x ∷ l) m =
      ⊎_elim (λ e. (0, (omega arith, e))) (λ r. let s = in_at l r in (suc s.0, (omega (arith, s.1.0), s.1.1))) (Memᴰ.cases_cons m)

pub in_map : {A B : Type 0} (f : A → B) (d : A) (l : List A) {c : B} → Memᴰ c (map f l) → (t : ℕ) × ((t < length l) × (c ≡ f (get_or l t d)))
in_map f d [] m = absurd (Memᴰ.not-nil m)
in_map f d (x ∷ l) m =
    ⊎_elim (λ e. (0, (omega arith, e))) (λ r. let s = in_map f d l r in (suc s.0, (omega (arith, s.1.0), s.1.1))) (Memᴰ.cases_cons m)

module _ (l : List ℕ) where
  pub record_in : (t : ℕ) → t < room l → Memᴰ (record_at l t) (records l)
  record_in t h = rw (record_at_lem l t (record_on 0 0 0) h) at (at_in (record_on 0 0 0) (records l) t (omega (arith, length_records l)))

  pub record_among : {r : Record} → Memᴰ r (records l) → Among r l
  record_among m =
      let s = in_at (record_on 0 0 0) (records l) m in
      let b : s.0 < room l = omega (arith, s.1.0, length_records l) in
      record { at = s.0; below = b; is = s.1.1 ∙ record_at_lem l s.0 (record_on 0 0 0) b }

-- ---- a flat list as arrays of three

-- number i of array t is number 3t + i of the list
pub chunk_at : (k t i : ℕ) (list d : List ℕ) → t < k → i < 3 → get_or (get_or (first_chunks 3 k list) t d) i 0 ≡ get_or list (3 * t + i) 0
chunk_at zero t i list d h g = absurd (omega arith)
chunk_at (suc k) zero i list d h g = get_or-take 3 list i 0 g ∙ ap (λ (j : ℕ). get_or list j 0) (omega arith)
chunk_at (suc k) (suc t) i list d h g =
    chunk_at k t i (drop 3 list) d (omega arith) g ∙ get_or-drop 3 list (3 * t + i) 0 ∙ ap (λ (j : ℕ). get_or list j 0) (omega arith)

-- the three numbers of array t are record number t
pub chunk_record : (list : List ℕ) {chunks : List (List ℕ)} (t : ℕ) {a b c : ℕ} → chunks ≡ first_chunks 3 (room list) list → t < room list
    → a ≡ get_or (get_or chunks t []) 0 0 → b ≡ get_or (get_or chunks t []) 1 0 → c ≡ get_or (get_or chunks t []) 2 0 → record_on a b c ≡ record_at list t
chunk_record list {chunks} t {a} {b} {c} e h p q r =
    let has : (i : ℕ) → i < 3 → get_or (get_or chunks t []) i 0 ≡ get_or list (3 * t + i) 0 = λ i g. rw e (chunk_at (room list) t i list [] h g) in
    let x : a ≡ get_or list (3 * t) 0 = p ∙ has 0 (omega arith) ∙ ap (λ (j : ℕ). get_or list j 0) (omega arith) in
    rw (x, q ∙ has 1 (omega arith), r ∙ has 2 (omega arith)) refl
