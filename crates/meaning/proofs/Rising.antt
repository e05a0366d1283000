-- Lists of records that are merged by pair and rise by it: each is known by what it forbids. Assumes nothing.
use Prim.Native.Nat.{ℕ, suc, ◌≤◌}
use mathlib.Core.Path.{◌≡◌, refl, sym, ap, ◌∙◌, subst}
use mathlib.Core.Logic.{◌⊎◌, inl, inr, ⊎_elim}
use mathlib.Core.List.Memᴰ
use mathlib.Core.List.{List, [], ◌∷◌, ◌++◌, Memᴰ}
use native.Mathlib.Omega.{arith}
use lib.Bits.{or_add_and, and_le_l}
use lib.ListN.{length}
use Rattle.meaning.specs.Records.{Record, record_on, pairs_in, Proper, AllProper, Bans, Covered, SameBans}
use Rattle.meaning.specs.Rising.{Before, Rising, joined, insert, merged_list}
use Rattle.meaning.proofs.Sets.{Part, some_pair, set_same, in_or, or_left, or_right, or_four}
use Rattle.meaning.proofs.Bans.{bans_of, bans_at, same_refl, same_sym, same_trans}
use Rattle.meaning.proofs.Pairs.{OnePair, pair_refl, pair_sym, pair_trans, before_trans, before_as, before_apart, Way, front, there, past, way, is_before, not_before, not_there}

-- ---- the three ways of an insertion

insert_front : (x y : Record) (l : List Record) → Before x y → insert x (y ∷ l) ≡ x ∷ y ∷ l
unfolding insert
insert_front x y l h = rw (is_before h)

insert_there : (x y : Record) (l : List Record) → OnePair x y → insert x (y ∷ l) ≡ joined y x ∷ l
unfolding insert
insert_there x y l e = rw (not_there e, not_there (pair_sym e))

insert_past : (x y : Record) (l : List Record) → Before y x → insert x (y ∷ l) ≡ y ∷ insert x l
unfolding insert
insert_past x y l h = rw (not_before h, is_before h)

-- ---- two records of one pair

joined_pair : (x y : Record) → OnePair (joined x y) x
joined_pair x y = record { lower = refl; higher = refl }

joined_proper : {x y : Record} → Proper x → Proper y → Proper (joined x y)
joined_proper {x} {y} p q = record {
  some = omega (arith, q.some, or_add_and x.set y.set, and_le_l x.set y.set);
  four = or_four x.set y.set p.four q.four;
}

-- ---- what an insertion holds

-- z is on the pair of a record of l
record Near (z : Record) (l : List Record) : Type 0 where
  by : Record
  among : Memᴰ by l
  on : OnePair z by

near_more : {y z : Record} {l : List Record} → Near z l → Near z (y ∷ l)
near_more n = record { by = n.by; among = Memᴰ.tail n.among; on = n.on }

insert_near : (x : Record) (l : List Record) {z : Record} → Memᴰ z (insert x l) → OnePair z x ⊎ Near z l
unfolding insert
insert_near x [] {z} m = inl (rw (Memᴰ.eq_of_singleton m) (pair_refl x))
insert_near x (y ∷ l) {z} m = go (way x y) (insert_near x l)
  where
    old : Memᴰ z (y ∷ l) → Near z (y ∷ l)
    old q = record { by = z; among = q; on = pair_refl z }

    go : Way x y → (Memᴰ z (insert x l) → OnePair z x ⊎ Near z l) → OnePair z x ⊎ Near z (y ∷ l)
    go (front h) ih = ⊎_elim (λ e. inl (rw e (pair_refl x))) (λ q. inr (old q)) (Memᴰ.cases_cons (rw (insert_front x y l h) at m))
    go (there e) ih =
        ⊎_elim (λ q. inl (rw q (pair_trans (joined_pair y x) (pair_sym e)))) (λ q. inr (old (Memᴰ.tail q))) (Memᴰ.cases_cons (rw (insert_there x y l e) at m))
    go (past h) ih =
        ⊎_elim (λ e. inr (old (Memᴰ.head e))) (λ q. ⊎_elim inl (λ n. inr (near_more n)) (ih q)) (Memᴰ.cases_cons (rw (insert_past x y l h) at m))

insert_proper : (x : Record) (l : List Record) → Proper x → AllProper l → AllProper (insert x l)
unfolding insert
insert_proper x [] p h z m = rw (Memᴰ.eq_of_singleton m) p
insert_proper x (y ∷ l) p h z m = go (way x y) (insert_proper x l p (λ w q. h w (Memᴰ.tail q)))
  where
    go : Way x y → AllProper (insert x l) → Proper z
    go (front b) ih = ⊎_elim (λ e. rw e p) (λ q. h z q) (Memᴰ.cases_cons (rw (insert_front x y l b) at m))
    go (there e) ih =
        ⊎_elim (λ q. rw q (joined_proper {x = y} {y = x} (h y (Memᴰ.head refl)) p)) (λ q. h z (Memᴰ.tail q)) (Memᴰ.cases_cons (rw (insert_there x y l e) at m))
    go (past b) ih = ⊎_elim (λ e. rw e (h y (Memᴰ.head refl))) (λ q. ih z q) (Memᴰ.cases_cons (rw (insert_past x y l b) at m))

-- ---- what it forbids

module _ (x : Record) where
  in_insert : (l : List Record) → Covered (insert x l) (x ∷ l)
  unfolding insert
  in_insert [] i j p f = f
  in_insert (y ∷ l) i j p f = go (way x y) (in_insert l i j p)
    where
      cases : {r : Record} {k : List Record} → Bans (r ∷ k) i j p → ((f : Bans (r ∷ k) i j p) → f.by ≡ r → Bans (x ∷ y ∷ l) i j p) → (Bans k i j p → Bans (x ∷ y ∷ l) i j p) → Bans (x ∷ y ∷ l) i j p
      cases b at_head in_Tail = ⊎_elim (λ e. at_head b e) (λ q. in_Tail (bans_at b q)) (Memᴰ.cases_cons b.among)

      under : Bans l i j p → Bans (x ∷ y ∷ l) i j p
      under b = bans_at b (Memᴰ.tail (Memᴰ.tail b.among))

      go : Way x y → (Bans (insert x l) i j p → Bans (x ∷ l) i j p) → Bans (x ∷ y ∷ l) i j p
      go (front h) ih = rw (insert_front x y l h) at f
      go (there e) ih = cases (rw (insert_there x y l e) at f) both under
        where
          both : (b : Bans (joined y x ∷ l) i j p) → b.by ≡ joined y x → Bans (x ∷ y ∷ l) i j p
          both b q =
              let low : y.lower ≡ i = ap (λ (r : Record). r.lower) (sym q) ∙ b.is_lower in
              let high : y.higher ≡ j = ap (λ (r : Record). r.higher) (sym q) ∙ b.is_higher in
              ⊎_elim
              (λ m. record { by = y; among = Memᴰ.tail (Memᴰ.head refl); is_lower = low; is_higher = high; forbids = m })
              (λ m. record { by = x; among = Memᴰ.head refl; is_lower = e.lower ∙ low; is_higher = e.higher ∙ high; forbids = m })
              (in_or y.set x.set (subst (λ (r : Record). Memᴰ p (pairs_in r.set)) q b.forbids))
      go (past h) ih = cases (rw (insert_past x y l h) at f) (λ b q. bans_at b (Memᴰ.tail (Memᴰ.head q)))
          (λ b. let z = ih b in ⊎_elim (λ q. bans_at z (Memᴰ.head q)) (λ q. bans_at z (Memᴰ.tail (Memᴰ.tail q))) (Memᴰ.cases_cons z.among))

  insert_in : (l : List Record) → Covered (x ∷ l) (insert x l)
  unfolding insert
  insert_in [] i j p f = f
  insert_in (y ∷ l) i j p f = go (way x y) (insert_in l i j p)
    where
      go : Way x y → (Bans (x ∷ l) i j p → Bans (insert x l) i j p) → Bans (insert x (y ∷ l)) i j p
      go (front h) ih = rw (insert_front x y l h) f
      go (there e) ih =
          rw (insert_there x y l e)
          (⊎_elim
          (λ q. record {
            by = joined y x;
            among = Memᴰ.head refl;
            is_lower = sym e.lower ∙ ap (λ (r : Record). r.lower) (sym q) ∙ f.is_lower;
            is_higher = sym e.higher ∙ ap (λ (r : Record). r.higher) (sym q) ∙ f.is_higher;
            forbids = or_right y.set x.set p (subst (λ (r : Record). Memᴰ p (pairs_in r.set)) q f.forbids);
          })
          (λ r. ⊎_elim
          (λ q. record {
            by = joined y x;
            among = Memᴰ.head refl;
            is_lower = ap (λ (r : Record). r.lower) (sym q) ∙ f.is_lower;
            is_higher = ap (λ (r : Record). r.higher) (sym q) ∙ f.is_higher;
            forbids = or_left y.set x.set p (subst (λ (r : Record). Memᴰ p (pairs_in r.set)) q f.forbids);
          })
          (λ q. bans_at f (Memᴰ.tail q))
          (Memᴰ.cases_cons r))
          (Memᴰ.cases_cons f.among))
      go (past h) ih =
          rw (insert_past x y l h)
          (⊎_elim
          (λ q. let z = ih (bans_at f (Memᴰ.head q)) in bans_at z (Memᴰ.tail z.among))
          (λ r. ⊎_elim
          (λ q. bans_at f (Memᴰ.head q))
          (λ q. let z = ih (bans_at f (Memᴰ.tail q)) in bans_at z (Memᴰ.tail z.among))
          (Memᴰ.cases_cons r))
          (Memᴰ.cases_cons f.among))

-- a merged list forbids what the list does
pub merged_bans : (l : List Record) → SameBans (merged_list l) l
unfolding merged_list
merged_bans [] = same_refl []
merged_bans (x ∷ l) =
    let ih = merged_bans l in record {
      to = λ i j p f.
          let z = in_insert x (merged_list l) i j p f in
          ⊎_elim
          (λ q. bans_at z (Memᴰ.head q))
          (λ q. let w = ih.to i j p (bans_at z q) in bans_at w (Memᴰ.tail w.among))
          (Memᴰ.cases_cons z.among);
      from = λ i j p f.
          insert_in x (merged_list l) i j p
          (⊎_elim
          (λ q. bans_at f (Memᴰ.head q))
          (λ q. let w = ih.from i j p (bans_at f q) in bans_at w (Memᴰ.tail w.among))
          (Memᴰ.cases_cons f.among));
    }

pub merged_proper : (l : List Record) → AllProper l → AllProper (merged_list l)
unfolding merged_list
merged_proper [] h = h
merged_proper (x ∷ l) h = insert_proper x (merged_list l) (h x (Memᴰ.head refl)) (merged_proper l (λ y m. h y (Memᴰ.tail m)))

-- ---- it rises

rising_insert : (x : Record) (l : List Record) → Rising l → Rising (insert x l)
unfolding insert
rising_insert x [] r = ((λ y m. absurd (Memᴰ.not-nil m)), tt)
rising_insert x (y ∷ l) r = go (way x y) (rising_insert x l r.1)
  where
    go : Way x y → Rising (insert x l) → Rising (insert x (y ∷ l))
    go (front p) ih =
        rw (insert_front x y l p)
        ((λ z m. ⊎_elim (λ e. subst (Before x) (sym e) p) (λ q. before_trans p (r.0 z q)) (Memᴰ.cases_cons m)), r)
    go (there e) ih = rw (insert_there x y l e) ((λ z m. before_as (pair_sym (joined_pair y x)) (pair_refl z) (r.0 z m)), r.1)
    go (past p) ih =
        rw (insert_past x y l p)
        ((λ z m. ⊎_elim (λ e. before_as (pair_refl y) (pair_sym e) p) (λ n. before_as (pair_refl y) (pair_sym n.on) (r.0 n.by n.among)) (insert_near x l m)), ih)

pub merged_rising : (l : List Record) → Rising (merged_list l)
unfolding merged_list
merged_rising [] = tt
merged_rising (x ∷ l) = rising_insert x (merged_list l) (merged_rising l)

-- a rising list is merged
pub rising_merged : (l : List Record) → Rising l → merged_list l ≡ l
unfolding merged_list insert
rising_merged [] r = refl
rising_merged (x ∷ []) r = refl
rising_merged (x ∷ y ∷ l) r = rw (rising_merged (y ∷ l) r.1) (insert_front x y l (r.0 y (Memᴰ.head refl)))

-- ---- a rising list is known by what it forbids

-- it has one record for one pair
pub one_record : (l : List Record) {x y : Record} → Rising l → Memᴰ x l → Memᴰ y l → OnePair x y → x ≡ y
one_record [] r m k e = absurd (Memᴰ.not-nil m)
one_record (z ∷ l) {x} {y} r m k e =
    ⊎_elim
    (λ p. ⊎_elim (λ q. p ∙ sym q) (λ q. absurd (before_apart (r.0 y q) (subst (λ (w : Record). OnePair w y) p e))) (Memᴰ.cases_cons k))
    (λ p. ⊎_elim
    (λ q. absurd (before_apart (r.0 x p) (subst (λ (w : Record). OnePair w x) q (pair_sym e))))
    (λ q. one_record l r.1 p q e)
    (Memᴰ.cases_cons k))
    (Memᴰ.cases_cons m)

-- the record of m that holds the pairs of x
pub record Holder (m : List Record) (x : Record) : Type 0 where
  pub by : Record
  pub among : Memᴰ by m
  pub on : OnePair x by
  pub pairs : Part x.set by.set

-- where all that l forbids is forbidden by a rising m, each record of l has its place in one of m
pub holder : {l m : List Record} → AllProper l → Rising m → Covered l m → {x : Record} → Memᴰ x l → Holder m x
holder {l} {m} proper r h {x} q =
    let some = some_pair x.set (proper x q).some (proper x q).four in
    let f = h x.lower x.higher some.0 (bans_of q some.1) in
    record {
      by = f.by;
      among = f.among;
      on = record { lower = sym f.is_lower; higher = sym f.is_higher };
      pairs = λ p n.
          let g = h x.lower x.higher p (bans_of q n) in
          let same : g.by ≡ f.by = one_record m r g.among f.among (record { lower = g.is_lower ∙ sym f.is_lower; higher = g.is_higher ∙ sym f.is_higher }) in
          subst (λ (z : Record). Memᴰ p (pairs_in z.set)) same g.forbids;
    }

-- records of one pair with the same pairs of values are one
pub same_record : {x y : Record} → Proper x → Proper y → OnePair x y → Part x.set y.set → Part y.set x.set → x ≡ y
same_record {x} {y} p q e to from = parts e.lower e.higher (set_same x.set y.set p.four q.four to from)
  where
    parts : {a b c a' b' c' : ℕ} → a ≡ a' → b ≡ b' → c ≡ c' → record_on a b c ≡ record_on a' b' c'
    parts e f g = cc

-- what a rising list forbids without its first record
tail_covered : {x y : Record} {l m : List Record} → Rising (x ∷ l) → OnePair x y → Covered (x ∷ l) (y ∷ m) → Covered l m
tail_covered {x} {y} {l} {m} r e h i j p f =
    let g = h i j p (bans_at f (Memᴰ.tail f.among)) in
    ⊎_elim
    (λ q. absurd (before_apart (r.0 f.by f.among) (pair_trans e (record {
      lower = ap (λ (z : Record). z.lower) (sym q) ∙ g.is_lower ∙ sym f.is_lower;
      higher = ap (λ (z : Record). z.higher) (sym q) ∙ g.is_higher ∙ sym f.is_higher;
    }))))
    (λ q. bans_at g q)
    (Memᴰ.cases_cons g.among)

-- EQUAL MEANING: two rising lists of proper records that forbid the same are one
pub rising_same : (l m : List Record) → AllProper l → AllProper m → Rising l → Rising m → SameBans l m → l ≡ m
rising_same [] [] a b r s h = refl
rising_same [] (y ∷ m) a b r s h = absurd (Memᴰ.not-nil (holder b r h.from (Memᴰ.head refl)).among)
rising_same (x ∷ l) [] a b r s h = absurd (Memᴰ.not-nil (holder a s h.to (Memᴰ.head refl)).among)
rising_same (x ∷ l) (y ∷ m) a b r s h =
    let f = holder a s h.to {x = x} (Memᴰ.head refl) in
    let g = holder b r h.from {x = y} (Memᴰ.head refl) in
    let on : OnePair x y = ⊎_elim
    (λ p. subst (λ (z : Record). OnePair x z) p f.on)
    (λ p. ⊎_elim
    (λ q. pair_sym (subst (λ (z : Record). OnePair y z) q g.on))
    (λ q. absurd (before_apart (before_trans (before_as (pair_refl x) (pair_sym g.on) (r.0 g.by q)) (before_as (pair_refl y) (pair_sym f.on) (s.0 f.by p))) (pair_refl x)))
    (Memᴰ.cases_cons g.among))
    (Memᴰ.cases_cons f.among) in
    let fy : f.by ≡ y = one_record (y ∷ m) s f.among (Memᴰ.head refl) (pair_trans (pair_sym f.on) on) in
    let gx : g.by ≡ x = one_record (x ∷ l) r g.among (Memᴰ.head refl) (pair_trans (pair_sym g.on) (pair_sym on)) in
    let e : x ≡ y = same_record (a x (Memᴰ.head refl)) (b y (Memᴰ.head refl)) on
    (subst (λ (z : Record). Part x.set z.set) fy f.pairs) (subst (λ (z : Record). Part y.set z.set) gx g.pairs) in
    let t : l ≡ m = rising_same l m (λ z q. a z (Memᴰ.tail q)) (λ z q. b z (Memᴰ.tail q)) r.1 s.1 (record {
      to = tail_covered r on h.to;
      from = tail_covered s (pair_sym on) h.from;
    }) in
    cc

-- a merged list depends on what the list forbids alone
pub merged_same : (l m : List Record) → AllProper l → AllProper m → SameBans l m → merged_list l ≡ merged_list m
merged_same l m a b h =
    rising_same (merged_list l) (merged_list m) (merged_proper l a) (merged_proper m b) (merged_rising l) (merged_rising m)
    (same_trans (merged_bans l) (same_trans h (same_sym (merged_bans m))))

-- a rising list that forbids the same is the merged one
pub merged_is : (l m : List Record) → AllProper l → AllProper m → Rising l → SameBans l m → l ≡ merged_list m
merged_is l m a b r h = sym (rising_merged l r) ∙ merged_same l m a b h

-- ---- parts and lengths

-- what is put behind the last record, past it, keeps a list rising
pub rising_snoc : (l : List Record) (x : Record) → Rising l → ((y : Record) → Memᴰ y l → Before y x) → Rising (l ++ x ∷ [])
rising_snoc [] x r h = ((λ y m. absurd (Memᴰ.not-nil m)), tt)
rising_snoc (y ∷ l) x r h = (
  λ z m. ⊎_elim (r.0 z) (λ q. subst (Before y) (sym (Memᴰ.eq_of_singleton q)) (h y (Memᴰ.head refl))) (Memᴰ.append_cases l m),
  rising_snoc l x r.1 (λ z m. h z (Memᴰ.tail m)),
)

-- a part at the front of a rising list rises
pub rising_front : (l m : List Record) → Rising (l ++ m) → Rising l
rising_front [] m r = tt
rising_front (x ∷ l) m r = ((λ y h. r.0 y (Memᴰ.append_left m h)), rising_front l m r.1)

-- all that stand in front of the last stand before it
pub rising_last : (l : List Record) (x : Record) → Rising (l ++ x ∷ []) → (z : Record) → Memᴰ z l → Before z x
rising_last [] x r z h = absurd (Memᴰ.not-nil h)
rising_last (y ∷ l) x r z h =
    ⊎_elim
    (λ e. subst (λ (w : Record). Before w x) (sym e) (r.0 x (Memᴰ.append_right l (Memᴰ.head refl))))
    (rising_last l x r.1 z)
    (Memᴰ.cases_cons h)

-- each record of l is on the pair of one of m
abbrev pub OnPairsOf : List Record → List Record → Type 0
OnPairsOf l m = (x : Record) → Memᴰ x l → (y : Record) × (Memᴰ y m × OnePair x y)

-- a rising list on the pairs of another is no longer
pub rising_part : (l m : List Record) → Rising l → Rising m → OnPairsOf l m → length l ≤ length m
rising_part [] m r s f = omega arith
rising_part (x ∷ l) [] r s f = absurd (Memᴰ.not-nil (f x (Memᴰ.head refl)).1.0)
rising_part (x ∷ l) (y ∷ m) r s f = go (f x (Memᴰ.head refl)) (λ g. rising_part l m r.1 s.1 g) (λ g. rising_part (x ∷ l) m r s.1 g)
  where
    -- what stands behind x is not on the pair of y, where x is
    behind : OnePair x y → OnPairsOf l m
    behind e z q =
        let w = f z (Memᴰ.tail q) in
        ⊎_elim
        (λ k. absurd (before_apart (r.0 z q) (pair_trans e (pair_sym (subst (λ (v : Record). OnePair z v) k w.1.1)))))
        (λ k. (w.0, (k, w.1.1)))
        (Memᴰ.cases_cons w.1.0)

    -- where y stands before x, no record of the list is on the pair of y
    beyond : Before y x → OnPairsOf (x ∷ l) m
    beyond b z q =
        let w = f z q in
        let after : Before y z = ⊎_elim (λ e. subst (Before y) (sym e) b) (λ k. before_trans b (r.0 z k)) (Memᴰ.cases_cons q) in
        ⊎_elim
        (λ k. absurd (before_apart after (pair_sym (subst (λ (v : Record). OnePair z v) k w.1.1))))
        (λ k. (w.0, (k, w.1.1)))
        (Memᴰ.cases_cons w.1.0)

    go : ((w : Record) × (Memᴰ w (y ∷ m) × OnePair x w)) → (OnPairsOf l m → length l ≤ length m) → (OnPairsOf (x ∷ l) m → suc (length l) ≤ length m)
        → suc (length l) ≤ suc (length m)
    go (w, (q, e)) one two =
        ⊎_elim
        (λ k. let h = one (behind (subst (λ (v : Record). OnePair x v) k e)) in omega arith)
        (λ k. let h = two (beyond (before_as (pair_refl y) (pair_sym e) (s.0 w k))) in omega arith)
        (Memᴰ.cases_cons q)

-- a list that forbids more is merged into one that is no shorter, and holds each record in a larger one
pub merged_holder : {l m : List Record} → AllProper l → Covered l m → {x : Record} → Memᴰ x (merged_list l) → Holder (merged_list m) x
merged_holder {l} {m} a h q = holder (merged_proper l a) (merged_rising m) (λ i j p f. (merged_bans m).from i j p (h i j p ((merged_bans l).to i j p f))) q

pub merged_more : (l m : List Record) → AllProper l → Covered l m → length (merged_list l) ≤ length (merged_list m)
merged_more l m a h =
    rising_part (merged_list l) (merged_list m) (merged_rising l) (merged_rising m) (λ x q. let k = merged_holder {m = m} a h q in (k.by, (k.among, k.on)))
