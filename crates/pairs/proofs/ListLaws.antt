-- Records that go behind those that are there, where the list has room. Assumes nothing.
use Prim.Native.Nat.{ℕ, zero, suc, ◌+◌, ◌*◌, ◌/◌, ◌%◌, ◌<◌, ◌≤◌}
use mathlib.Core.Path.{◌≡◌, refl, sym, ap, ◌∙◌, subst}
use mathlib.Core.Bool.{Bool, true, false, cond}
use mathlib.Core.List.Memᴰ
use mathlib.Core.List.{List, [], ◌∷◌, ◌++◌, map, map-append, append_assoc, append-nil, Memᴰ}
use native.Mathlib.Omega.{arith}
use native.Mathlib.Nat.{div-add-mod'}
use borrow.Author.Tests.{ltb-true, ltb-false, lt-ltb, le-ltb, eq-eqb, ne_eqb}
use lib.Bits.{bit_or, or_zero_r, or_lt, or_add_and, and_le_l}
use lib.Dec.{ltb}
use lib.ListN.{length, take, length-append, length-take, length-map}
use lib.Seq.{take-append-le, take_all}
use Rattle.meaning.specs.Kinds.{Kind, Pair, pair, joining}
use Rattle.meaning.specs.Records.{Record, record_on, Proper, AllProper, set_of, turned}
use Rattle.meaning.specs.Rising.{Rising, joined, insert, merged_list}
use Rattle.meaning.proofs.Sets.{some_pair}
use Rattle.meaning.proofs.Bans.{bans_of}
use Rattle.meaning.proofs.Pairs.{OnePair, pair_sym, pair_trans, before_apart, not_there}
use Rattle.meaning.proofs.Rising.{merged_bans, merged_proper, merged_rising}
use Rattle.meaning.proofs.Records.{record_proper}
use lib.Ieee.{Float}
use Rattle.field.specs.Field.{Field}
use Rattle.margins.specs.declared.bounds.Sign.{Sign}
use Rattle.margins.specs.declared.bounds.Sign.TheVariants.{Above, Below, Neither}
use Rattle.margins.specs.declared.bounds.Bounds.{Bounds}
use Rattle.margins.specs.Model.{Signs, sign_of, signs_of, sum_kinds, diff_kinds, pair_signs, pair_kinds}
use Rattle.constraints.specs.Record.{room, filled, stored}
use Rattle.constraints.specs.Keys.{key_of, unkey, Small}
use Rattle.constraints.proofs.Records.{has_room, length_filled, filled_put, filled_none}
use Rattle.constraints.proofs.Numbers.{key_is, unkey_of_key, unkey_or, record_small}
use Rattle.pairs.specs.Listing.{record_for, pair_records, found_in, first_key, standing, append_one, append_all, Appended, written}

-- ---- one more

room_holds : (l : List ℕ) (n : ℕ) → n ≤ room l → 3 * n ≤ length l
room_holds l zero h = omega arith
room_holds l (suc n) h = omega (arith, (has_room l n).0 h)

pub length_written : (items : List Record) (l : List ℕ) → length (written items l) ≡ length l
unfolding written
length_written items l = length_filled (take (room l) items) l (room_holds l (length (take (room l) items)) (omega (arith, length-take (room l) items)))

-- an item behind those that are written
append_one_lem : (items : List Record) (l : List ℕ) (x : Record) → append_one (written items l) (length items) x ≡ written (items ++ x ∷ []) l
unfolding append_one written
append_one_lem items l x = go (ltb (length items) (room l)) refl
  where
    same : room (filled (take (room l) items) l) ≡ room l
    same = ap (λ (n : ℕ). n / 3) (length_written items l)

    go : (b : Bool) → ltb (length items) (room l) ≡ b
        → cond (ltb (length items) (room (filled (take (room l) items) l))) (stored (filled (take (room l) items) l) (length items) x) (filled (take (room l) items) l)
        ≡ filled (take (room l) (items ++ x ∷ [])) l
    go true e =
        let h = ltb-true (length items) (room l) e in
        rw (same, e, take_all (room l) items (omega arith), take_all (room l) (items ++ x ∷ []) (omega (arith, length-append items (x ∷ []))))
        (filled_put items l x ((has_room l (length items)).0 h))
    go false e = rw (same, e, take-append-le (room l) items (x ∷ []) (ltb-false (length items) (room l) e)) refl

pub append_written : (xs items : List Record) (l : List ℕ) → append_all (written items l) (length items) xs ≡ written (items ++ xs) l
unfolding append_all
append_written [] items l = ap (λ (z : List Record). written z l) (sym (append-nil items))
append_written (x ∷ xs) items l =
    let long : suc (length items) ≡ length (items ++ x ∷ []) = omega (arith, length-append items (x ∷ [])) in
    rw (append_one_lem items l x, long) (append_written xs (items ++ x ∷ []) l ∙ ap (λ (z : List Record). written z l) (append_assoc items (x ∷ []) xs))

pub written_none : (l : List ℕ) → l ≡ written [] l
unfolding written
written_none l = sym (filled_none l) ∙ ap (λ (z : List Record). filled z l) (sym (take_all (room l) [] (omega arith)))

-- all have room
pub written_filled : (items : List Record) (l : List ℕ) → length items ≤ room l → written items l ≡ filled items l
unfolding written
written_filled items l h = rw (take_all (room l) items h) refl

-- ---- how the code appends

pub appended_none : {l : List ℕ} {at k : ℕ} → k ≡ 0 → Appended (standing k) l at l at
unfolding append_all standing
appended_none {k = k} e = rw (eq-eqb k 0 e) (record { list = refl; next = omega arith })

stands_one : {k : ℕ} → (k ≡ 0 → ⊥) → standing k ≡ unkey k ∷ []
unfolding standing
stands_one {k} n = rw (ne_eqb k 0 n)

pub appended_full : {l : List ℕ} {at k : ℕ} → (k ≡ 0 → ⊥) → room l ≤ at → Appended (standing k) l at l (at + 1)
unfolding append_all append_one
appended_full {l} {at} n h = rw (stands_one n) (record { list = rw (le-ltb at (room l) h) refl; next = omega arith })

pub appended_put : {l l' : List ℕ} {at k : ℕ} → (k ≡ 0 → ⊥) → at < room l → l' ≡ stored l at (unkey k) → Appended (standing k) l at l' (at + 1)
unfolding append_all append_one
appended_put {l} {l'} {at} n h e = rw (stands_one n) (record { list = rw (lt-ltb at (room l) h) e; next = omega arith })

pub appended_as : {xs ys : List Record} {l l' : List ℕ} {at r : ℕ} → xs ≡ ys → Appended xs l at l' r → Appended ys l at l' r
appended_as e a = rw e at a

-- ---- how many kinds

few_sum : (g : Sign) → length (sum_kinds g) ≤ 1
unfolding sum_kinds
few_sum Above = omega arith
few_sum Below = omega arith
few_sum Neither = omega arith

few_diff : (g : Sign) → length (diff_kinds g) ≤ 1
unfolding diff_kinds
few_diff Above = omega arith
few_diff Below = omega arith
few_diff Neither = omega arith

-- ---- the number of a pair

-- a number of a record is not 0
key_some : {x : Record} → Small x → key_of x ≡ 0 → ⊥
key_some s e = omega (arith, e, s.proper.some)

key_stands : {x : Record} → Small x → standing (key_of x) ≡ x ∷ []
key_stands {x} s = stands_one (key_some s) ∙ ap (λ (z : Record). z ∷ []) (unkey_of_key s)

-- records of one pair have one number but for the set
same_number : {x y : Record} → Small x → Small y → OnePair x y → key_of x / 16 ≡ key_of y / 16
same_number {x} {y} s t e =
    let a = div-add-mod' (key_of x / 16) 4096 in
    let b = div-add-mod' (key_of y / 16) 4096 in
    let p : key_of x / 16 / 4096 ≡ key_of y / 16 / 4096 = ap (λ (z : Record). z.lower) (unkey_of_key s) ∙ e.lower ∙ ap (λ (z : Record). z.lower) (sym (unkey_of_key t)) in
    let q : key_of x / 16 % 4096 ≡ key_of y / 16 % 4096 = ap (λ (z : Record). z.higher) (unkey_of_key s) ∙ e.higher ∙ ap (λ (z : Record). z.higher) (sym (unkey_of_key t)) in
    sym a ∙ rw (p, q) b

merged_two : {x y : Record} → OnePair x y → merged_list (x ∷ y ∷ []) ≡ joined y x ∷ []
unfolding merged_list insert
merged_two e = rw (not_there e, not_there (pair_sym e))

-- the union of the numbers of two records of one pair, or of one, or of none, stands for them merged
pub union_stands : (A B : List Record) → length A ≤ 1 → length B ≤ 1 → ((x : Record) → Memᴰ x A → Small x) → ((x : Record) → Memᴰ x B → Small x)
    → ((x y : Record) → Memᴰ x A → Memᴰ y B → OnePair x y) → standing (bit_or (first_key B) (first_key A)) ≡ merged_list (A ++ B)
unfolding merged_list insert standing
union_stands [] [] h g a b e = refl
union_stands (x ∷ []) [] h g a b e = key_stands (a x (Memᴰ.head refl))
union_stands [] (y ∷ []) h g a b e = ap standing (or_zero_r (key_of y)) ∙ key_stands (b y (Memᴰ.head refl))
union_stands (x ∷ []) (y ∷ []) h g a b e =
    let s = a x (Memᴰ.head refl) in
    let t = b y (Memᴰ.head refl) in
    let on = e x y (Memᴰ.head refl) (Memᴰ.head refl) in
    let is : unkey (bit_or (key_of y) (key_of x)) ≡ joined y x =
    unkey_or (key_of y) (key_of x) (same_number t s (pair_sym on)) ∙ ap (λ (z : Record). joined z (unkey (key_of x))) (unkey_of_key t) ∙ ap (joined y) (unkey_of_key s) in
    let some : bit_or (key_of y) (key_of x) ≡ 0 → ⊥ = λ z. omega (arith, z, or_add_and (key_of y) (key_of x), and_le_l (key_of y) (key_of x), key_some s) in
    stands_one some ∙ ap (λ (z : Record). z ∷ []) is ∙ sym (merged_two on)
union_stands (x ∷ z ∷ A) B h g a b e = absurd (omega arith)
union_stands [] (y ∷ z ∷ B) h g a b e = absurd (omega arith)
union_stands (x ∷ []) (y ∷ z ∷ B) h g a b e = absurd (omega arith)

pub first_below : (A : List Record) → ((x : Record) → Memᴰ x A → Small x) → first_key A < 268435456
first_below [] a = omega arith
first_below (x ∷ A) a = (key_is (a x (Memᴰ.head refl))).below

-- the records of i and j, whatever the kinds, are on one pair
for_pair : (i j : ℕ) (k l : Kind) → OnePair (record_for i j k) (record_for i j l)
for_pair i j k l = go (ltb i j)
  where
    go : (b : Bool) → OnePair (cond b (record_on i j (set_of k)) (record_on j i (set_of (turned k)))) (cond b (record_on i j (set_of l)) (record_on j i (set_of (turned l))))
    go true = record { lower = refl; higher = refl }
    go false = record { lower = refl; higher = refl }

module _ (i j : ℕ) (hi : i < 4096) (hj : j < 4096) where
  pub kinds_small : (ks : List Kind) (x : Record) → Memᴰ x (map (record_for i j) ks) → Small x
  kinds_small ks x m = let z = Memᴰ.of_map (record_for i j) ks m in subst Small z.2 (record_small (joining z.0 i j) hi hj)

  kinds_pair : (ks ls : List Kind) (x y : Record) → Memᴰ x (map (record_for i j) ks) → Memᴰ y (map (record_for i j) ls) → OnePair x y
  kinds_pair ks ls x y m n =
      let z = Memᴰ.of_map (record_for i j) ks m in
      let w = Memᴰ.of_map (record_for i j) ls n in
      subst (λ (r : Record). OnePair r y) z.2 (subst (OnePair (record_for i j z.0)) w.2 (for_pair i j z.0 w.0))

  -- the two signs of a pair give its record
  pub pair_stands : (F : Field) (s : List ℕ) (t : Float) (x : Bounds) {g h : Sign} {a b : ℕ} → signs_of t x ≡ pair_signs F s i j
      → g ≡ sign_of t x.sumLow x.sumHigh → h ≡ sign_of t x.diffLow x.diffHigh
      → a ≡ first_key (map (record_for i j) (sum_kinds g)) → b ≡ first_key (map (record_for i j) (diff_kinds h)) → standing (bit_or b a) ≡ pair_records F s (pair i j)
  unfolding signs_of pair_records pair_kinds
  pair_stands F s t x {g} {h} e eg eh ea eb =
      let A = map (record_for i j) (sum_kinds g) in
      let B = map (record_for i j) (diff_kinds h) in
      let gs : g ≡ (pair_signs F s i j).sum = eg ∙ ap (λ (z : Signs). z.sum) e in
      let hs : h ≡ (pair_signs F s i j).diff = eh ∙ ap (λ (z : Signs). z.diff) e in
      rw (ea, eb, ← gs, ← hs, map-append (record_for i j) (sum_kinds g) (diff_kinds h))
      (union_stands A B (omega (arith, length-map (sum_kinds g) (record_for i j), few_sum g)) (omega (arith, length-map (diff_kinds h) (record_for i j), few_diff h))
      (kinds_small (sum_kinds g)) (kinds_small (diff_kinds h)) (kinds_pair (sum_kinds g) (diff_kinds h)))

  pub pair_below : (g h : Sign) {a b : ℕ} → a ≡ first_key (map (record_for i j) (sum_kinds g)) → b ≡ first_key (map (record_for i j) (diff_kinds h)) → bit_or b a < 268435456
  pair_below g h {a} {b} ea eb =
      or_lt 28 b a (rw eb (first_below (map (record_for i j) (diff_kinds h)) (kinds_small (diff_kinds h)))) (rw ea (first_below (map (record_for i j) (sum_kinds g)) (kinds_small (sum_kinds g))))

-- ---- how many records

-- a rising list on one pair has one record at most
one_at_most : (l : List Record) → Rising l → ((x y : Record) → Memᴰ x l → Memᴰ y l → OnePair x y) → length l ≤ 1
one_at_most [] r e = omega arith
one_at_most (x ∷ []) r e = omega arith
one_at_most (x ∷ y ∷ l) r e = absurd (before_apart (r.0 y (Memᴰ.head refl)) (e x y (Memᴰ.head refl) (Memᴰ.tail (Memᴰ.head refl))))

-- a pair gives one record at most
few_records : (F : Field) (s : List ℕ) (p : Pair) → length (pair_records F s p) ≤ 1
unfolding pair_records
few_records F s p =
    one_at_most l (merged_rising given) (λ x y m n.
    let z = near x m in
    let w = near y n in
    pair_trans z.1 (pair_trans (for_pair p.first p.second z.0 w.0) (pair_sym w.1)))
  where
    given : List Record
    given = map (record_for p.first p.second) (pair_kinds F s p.first p.second)

    l : List Record
    l = merged_list given

    proper : AllProper given
    proper x m = let z = Memᴰ.of_map (record_for p.first p.second) (pair_kinds F s p.first p.second) m in subst Proper z.2 (record_proper (joining z.0 p.first p.second))

    near : (x : Record) → Memᴰ x l → (k : Kind) × OnePair x (record_for p.first p.second k)
    near x m =
        let some = some_pair x.set (merged_proper given proper x m).some (merged_proper given proper x m).four in
        let f = (merged_bans given).to x.lower x.higher some.0 (bans_of m some.1) in
        let z = Memᴰ.of_map (record_for p.first p.second) (pair_kinds F s p.first p.second) f.among in
        (z.0, record { lower = sym (ap (λ (r : Record). r.lower) z.2 ∙ f.is_lower); higher = sym (ap (λ (r : Record). r.higher) z.2 ∙ f.is_higher) })

pub few_found : (F : Field) (s : List ℕ) (ps : List Pair) → length (found_in F s ps) ≤ length ps
unfolding found_in
few_found F s [] = omega arith
few_found F s (p ∷ ps) = omega (arith, length-append (pair_records F s p) (found_in F s ps), few_records F s p, few_found F s ps)

-- one pair more
pub found_more : (F : Field) (s : List ℕ) (ps : List Pair) (p : Pair) → found_in F s (ps ++ p ∷ []) ≡ found_in F s ps ++ pair_records F s p
unfolding found_in
found_more F s [] p = append-nil (pair_records F s p)
found_more F s (x ∷ ps) p = rw (found_more F s ps p) (sym (append_assoc (pair_records F s x) (found_in F s ps) (pair_records F s p)))
