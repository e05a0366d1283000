-- What the examined pairs give, by forbidden pair of values: exactly the patterns of their kinds, in records that rise. Assumes nothing.
use Prim.Native.Nat.{ℕ, ◌<◌}
use mathlib.Core.Path.{◌≡◌, refl, sym, ap, ◌∙◌, subst}
use mathlib.Core.Logic.{⊎_elim}
use mathlib.Core.Bool.{Bool, true, false}
use mathlib.Core.List.Memᴰ
use mathlib.Core.List.{List, [], ◌∷◌, ◌++◌, map, Memᴰ}
use native.Mathlib.Omega.{arith}
use borrow.Author.Tests.{lt-ltb}
use Rattle.meaning.specs.Kinds.{Kind, at_least_one, no_more_than_one, Pair, pair, forbidden, joining}
use Rattle.meaning.specs.Records.{Record, record_on, pairs_in, Proper, AllProper, set_of, Bans}
use Rattle.meaning.specs.Rising.{Rising}
use Rattle.meaning.specs.Pair.{dominated}
use Rattle.meaning.proofs.Forbidden.{only_pair}
use Rattle.meaning.proofs.Sets.{some_pair}
use Rattle.meaning.proofs.Bans.{bans_of, no_bans, bans_left, bans_right, bans_cases}
use Rattle.meaning.proofs.Pairs.{OnePair, pair_sym, before_as}
use Rattle.meaning.proofs.Rising.{merged_bans, merged_proper, merged_rising}
use Rattle.meaning.proofs.Records.{set_forbidden, record_proper}
use Rattle.field.specs.Field.{Field}
use Rattle.margins.specs.declared.bounds.Sign.{Sign}
use Rattle.margins.specs.declared.bounds.Sign.TheVariants.{Above, Below, Neither}
use Rattle.margins.specs.Model.{sum_kinds, diff_kinds, pair_signs, pair_kinds}
use Rattle.margins.proofs.Verdict.{kind_pattern}
use Rattle.pairs.specs.Listing.{record_for, pair_records, found_in}
use Rattle.pairs.proofs.Examined.{on_pair, rising_append}

-- ---- one pair

-- with the lower end first a record has the kind's own set
for_rising : (i j : ℕ) (k : Kind) → i < j → record_for i j k ≡ record_on i j (set_of k)
for_rising i j k h = rw (lt-ltb i j h)

-- the pair (i, j) of ps gives a kind that forbids p
pub record Gives (F : Field) (s : List ℕ) (ps : List Pair) (i j : ℕ) (p : Pair) : Type 0 where
  pub is_pair : Memᴰ (pair i j) ps
  pub kind : Kind
  pub gives : Memᴰ kind (pair_kinds F s i j)
  pub forbids : Memᴰ p (forbidden kind)

-- each pair of ps has the lower variable first
abbrev pub Ordered : List Pair → Type 0
Ordered ps = (p : Pair) → Memᴰ p ps → p.first < p.second

module _ (F : Field) (s : List ℕ) where
  abbrev given : Pair → List Record
  given q = map (record_for q.first q.second) (pair_kinds F s q.first q.second)

  given_proper : (q : Pair) → AllProper (given q)
  given_proper q x m = let z = Memᴰ.of_map (record_for q.first q.second) (pair_kinds F s q.first q.second) m in subst Proper z.2 (record_proper (joining z.0 q.first q.second))

  pub pair_proper : (q : Pair) → AllProper (pair_records F s q)
  unfolding pair_records
  pair_proper q = merged_proper (given q) (given_proper q)

  pair_rises : (q : Pair) → Rising (pair_records F s q)
  unfolding pair_records
  pair_rises q = merged_rising (given q)

  -- what the records of a pair forbid, one of its kinds does
  pair_gives : (q : Pair) → q.first < q.second → {i j : ℕ} {p : Pair} → Bans (pair_records F s q) i j p → (q ≡ pair i j) × Gives F s (q ∷ []) i j p
  unfolding pair_records
  pair_gives q h {i} {j} {p} b =
      let f = (merged_bans (given q)).to i j p b in
      let z = Memᴰ.of_map (record_for q.first q.second) (pair_kinds F s q.first q.second) f.among in
      let is : record_on q.first q.second (set_of z.0) ≡ f.by = sym (for_rising q.first q.second z.0 h) ∙ z.2 in
      let ei : q.first ≡ i = ap (λ (r : Record). r.lower) is ∙ f.is_lower in
      let ej : q.second ≡ j = ap (λ (r : Record). r.higher) is ∙ f.is_higher in
      let same : q ≡ pair i j = rw (← ei, ← ej) refl in (
        same,
        record {
          is_pair = Memᴰ.head (sym same);
          kind = z.0;
          gives = subst (λ (w : Pair). Memᴰ z.0 (pair_kinds F s w.first w.second)) same z.1;
          forbids = rw (set_forbidden z.0) at (subst (λ (r : Record). Memᴰ p (pairs_in r.set)) (sym is) f.forbids);
        },
      )

  gives_pair : (i j : ℕ) → i < j → {p : Pair} (k : Kind) → Memᴰ k (pair_kinds F s i j) → Memᴰ p (forbidden k) → Bans (pair_records F s (pair i j)) i j p
  unfolding pair_records
  gives_pair i j h {p} k m q =
      (merged_bans (given (pair i j))).from i j p (record {
        by = record_for i j k;
        among = Memᴰ.map (record_for i j) m;
        is_lower = ap (λ (r : Record). r.lower) (for_rising i j k h);
        is_higher = ap (λ (r : Record). r.higher) (for_rising i j k h);
        forbids = rw (for_rising i j k h, set_forbidden k) q;
      })

  -- ---- the pairs of a list

  wider : {q : Pair} {ps : List Pair} {i j : ℕ} {p : Pair} → Gives F s ps i j p → Gives F s (q ∷ ps) i j p
  wider g = record { is_pair = Memᴰ.tail g.is_pair; kind = g.kind; gives = g.gives; forbids = g.forbids }

  pub found_gives : (ps : List Pair) → Ordered ps → {i j : ℕ} {p : Pair} → Bans (found_in F s ps) i j p → Gives F s ps i j p
  unfolding found_in
  found_gives [] o b = absurd (no_bans b)
  found_gives (q ∷ ps) o b =
      ⊎_elim
      (λ f. let g = (pair_gives q (o q (Memᴰ.head refl)) f).1 in record { is_pair = ⊎_elim (λ e. Memᴰ.head e) (λ e. absurd (Memᴰ.not-nil e)) (Memᴰ.cases_cons g.is_pair); kind = g.kind; gives = g.gives; forbids = g.forbids })
      (λ f. wider (found_gives ps (λ p m. o p (Memᴰ.tail m)) f))
      (bans_cases (pair_records F s q) b)

  pub gives_found : (ps : List Pair) → Ordered ps → {i j : ℕ} {p : Pair} → Gives F s ps i j p → Bans (found_in F s ps) i j p
  unfolding found_in
  gives_found [] o g = absurd (Memᴰ.not-nil g.is_pair)
  gives_found (q ∷ ps) o {i} {j} {p} g =
      ⊎_elim
      (λ e. bans_left (found_in F s ps) (subst (λ (z : Pair). Bans (pair_records F s z) i j p) e (gives_pair i j (o (pair i j) g.is_pair) g.kind g.gives g.forbids)))
      (λ m. bans_right (pair_records F s q) (gives_found ps (λ z n. o z (Memᴰ.tail n)) (record { is_pair = m; kind = g.kind; gives = g.gives; forbids = g.forbids })))
      (Memᴰ.cases_cons g.is_pair)

  pub found_proper : (ps : List Pair) → AllProper (found_in F s ps)
  unfolding found_in
  found_proper [] x m = absurd (Memᴰ.not-nil m)
  found_proper (q ∷ ps) x m = ⊎_elim (pair_proper q x) (found_proper ps x) (Memᴰ.append_cases (pair_records F s q) m)

  -- each record is on a pair of the list
  pub found_on : (ps : List Pair) → Ordered ps → {x : Record} → Memᴰ x (found_in F s ps) → Memᴰ (pair x.lower x.higher) ps
  found_on ps o {x} m =
      let proper = found_proper ps x m in
      let some = some_pair x.set proper.some proper.four in
      (found_gives ps o (bans_of m some.1)).is_pair

  -- where the pairs rise, so do the records
  pub found_rising : (ps : List Pair) → Ordered ps → Rising (map on_pair ps) → Rising (found_in F s ps)
  unfolding found_in
  found_rising [] o r = tt
  found_rising (q ∷ ps) o r =
      rising_append (pair_records F s q) (found_in F s ps) (pair_rises q) (found_rising ps (λ p m. o p (Memᴰ.tail m)) r.1) (λ x y m n.
      before_as (pair_sym (pair_on q (o q (Memᴰ.head refl)) m)) (record { lower = refl; higher = refl })
      (r.0 (on_pair (pair y.lower y.higher)) (Memᴰ.map on_pair (found_on ps (λ p k. o p (Memᴰ.tail k)) n))))
    where
      pair_on : (q : Pair) → q.first < q.second → {x : Record} → Memᴰ x (pair_records F s q) → OnePair x (on_pair q)
      pair_on q h {x} m =
          let proper = pair_proper q x m in
          let some = some_pair x.set proper.some proper.four in
          let e = (pair_gives q h (bans_of m some.1)).0 in
          record { lower = sym (ap (λ (z : Pair). z.first) e); higher = sym (ap (λ (z : Pair). z.second) e) }

-- ---- never all four

-- a kind that forbids 00, and one that forbids 11, where it is one of a pattern
forbids_00 : (a b : Bool) → Memᴰ (pair 0 0) (forbidden (dominated a b)) → dominated a b ≡ at_least_one
forbids_00 true true m = absurd (omega (arith, (only_pair m).first))
forbids_00 true false m = absurd (omega (arith, (only_pair m).first))
forbids_00 false true m = absurd (omega (arith, (only_pair m).second))
forbids_00 false false m = refl

forbids_11 : (a b : Bool) → Memᴰ (pair 1 1) (forbidden (dominated a b)) → dominated a b ≡ no_more_than_one
forbids_11 true true m = refl
forbids_11 true false m = absurd (omega (arith, (only_pair m).second))
forbids_11 false true m = absurd (omega (arith, (only_pair m).first))
forbids_11 false false m = absurd (omega (arith, (only_pair m).first))

-- the sign that gives it
one_sign : (g h : Sign) → Memᴰ at_least_one (sum_kinds g ++ diff_kinds h) → Memᴰ no_more_than_one (sum_kinds g ++ diff_kinds h) → ⊥
unfolding sum_kinds diff_kinds
one_sign g h m n = ⊎_elim (λ p. ⊎_elim (λ q. in_both g p q) (λ q. not_diff_11 h q) (Memᴰ.append_cases (sum_kinds g) n)) (λ p. not_diff_00 h p) (Memᴰ.append_cases (sum_kinds g) m)
  where
    other : {k l : Kind} → k ≡ l → set_of k ≡ set_of l
    other e = ap set_of e

    in_both : (g : Sign) → Memᴰ at_least_one (sum_kinds g) → Memᴰ no_more_than_one (sum_kinds g) → ⊥
    in_both Above p q = omega (arith, other (Memᴰ.eq_of_singleton p))
    in_both Below p q = omega (arith, other (Memᴰ.eq_of_singleton q))
    in_both Neither p q = Memᴰ.not-nil p

    not_diff_00 : (h : Sign) → Memᴰ at_least_one (diff_kinds h) → ⊥
    not_diff_00 Above p = omega (arith, other (Memᴰ.eq_of_singleton p))
    not_diff_00 Below p = omega (arith, other (Memᴰ.eq_of_singleton p))
    not_diff_00 Neither p = Memᴰ.not-nil p

    not_diff_11 : (h : Sign) → Memᴰ no_more_than_one (diff_kinds h) → ⊥
    not_diff_11 Above p = omega (arith, other (Memᴰ.eq_of_singleton p))
    not_diff_11 Below p = omega (arith, other (Memᴰ.eq_of_singleton p))
    not_diff_11 Neither p = Memᴰ.not-nil p

-- no record of a list has all four pairs, on any field
pub not_full : (F : Field) (s : List ℕ) (ps : List Pair) → Ordered ps → {x : Record} → Memᴰ x (found_in F s ps) → x.set ≡ 15 → ⊥
unfolding pair_kinds pairs_in
not_full F s ps o {x} m e =
    let low = found_gives F s ps o {p = pair 0 0} (bans_of m (rw e low_in)) in
    let high = found_gives F s ps o {p = pair 1 1} (bans_of m (rw e high_in)) in
    let p = kind_pattern F s x.lower x.higher low.gives in
    let q = kind_pattern F s x.lower x.higher high.gives in
    let is-low : low.kind ≡ at_least_one = p.2 ∙ forbids_00 p.0 p.1 (rw p.2 at low.forbids) in
    let is-high : high.kind ≡ no_more_than_one = q.2 ∙ forbids_11 q.0 q.1 (rw q.2 at high.forbids) in
    one_sign (pair_signs F s x.lower x.higher).sum (pair_signs F s x.lower x.higher).diff
    (subst (λ (k : Kind). Memᴰ k (pair_kinds F s x.lower x.higher)) is-low low.gives)
    (subst (λ (k : Kind). Memᴰ k (pair_kinds F s x.lower x.higher)) is-high high.gives)
  where
    low_in : Memᴰ (pair 0 0) (pairs_in 15)
    low_in = Memᴰ.head refl

    high_in : Memᴰ (pair 1 1) (pairs_in 15)
    high_in = Memᴰ.tail (Memᴰ.tail (Memᴰ.tail (Memᴰ.head refl)))
