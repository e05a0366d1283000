-- The record of a constraint says what the constraint says: it forbids the same, is met alike, and gives the same implications. Assumes nothing.
use mathlib.Core.Path.{◌≡◌, refl, sym, ap, ◌∙◌, subst}
use mathlib.Core.Logic.{◌≢◌, inl, inr, ⊎_elim, ◌↔◌}
use mathlib.Core.Bool.{Bool, true, false, cond}
use mathlib.Core.List.Memᴰ
use mathlib.Core.List.{List, [], ◌∷◌, map, Memᴰ}
use Prim.Native.Nat.{ℕ, ◌+◌, ◌<◌}
use native.Mathlib.Decide.{dec_lt}
use native.Mathlib.Omega.{arith}
use borrow.Author.Tests.{lt-ltb, le-ltb}
use lib.Dec.{ltb}
use lib.ListN.{get_or, set, replicate, length-set, length-replicate}
use lib.Seq.{get_or-set_same, get_or-set_other}
use Rattle.meaning.specs.Kinds.{Kind, at_least_one, exactly_one, no_more_than_one, greater_than, less_than, equal, Pair, pair, forbidden, Forbids, Constraint, Meets, Apart}
use Rattle.meaning.specs.Literal.{Implication, forth, back, bars, implications}
use Rattle.meaning.specs.Records.{Record, record_on, pairs_in, Proper, AllProper, MeetsRecord, rules_of, set_of, turned, record_of, Excludes, Bans, Covered}
use Rattle.meaning.specs.Rising.{Rising}
use Rattle.meaning.proofs.Values.{zero_or_one}
use Rattle.meaning.proofs.Forbidden.{only_pair, either_pair}
use Rattle.meaning.proofs.Sets.{Part, bit_of, pair_bit, bit_pair, set_same}
use Rattle.meaning.proofs.Bans.{bans_of, bans_at}
use Rattle.meaning.proofs.Rising.{rising_same}

-- ---- kinds and sets

-- Theorem. The set of a kind has the pairs that the kind forbids.
pub set_forbidden : (k : Kind) → pairs_in (set_of k) ≡ forbidden k
unfolding pairs_in
set_forbidden at_least_one = refl
set_forbidden exactly_one = refl
set_forbidden no_more_than_one = refl
set_forbidden greater_than = refl
set_forbidden less_than = refl
set_forbidden equal = refl

pub set_proper : (k : Kind) → (0 < set_of k) × (set_of k < 16)
set_proper at_least_one = (omega arith, omega arith)
set_proper exactly_one = (omega arith, omega arith)
set_proper no_more_than_one = (omega arith, omega arith)
set_proper greater_than = (omega arith, omega arith)
set_proper less_than = (omega arith, omega arith)
set_proper equal = (omega arith, omega arith)

in_set : (k : Kind) {p : Pair} → Memᴰ p (pairs_in (set_of k)) ↔ Memᴰ p (forbidden k)
in_set k = ((λ m. rw (set_forbidden k) at m), λ m. rw (set_forbidden k) m)

-- a kind forbids a pair exactly if the turned kind forbids it the other way round
turn : (k : Kind) (a b : ℕ) → Forbids k a b → Forbids (turned k) b a
turn at_least_one a b m = let e = only_pair m in rw (e.first, e.second) (Memᴰ.head refl)
turn exactly_one a b m =
    ⊎_elim (λ e. rw (e.first, e.second) (Memᴰ.head refl)) (λ e. rw (e.first, e.second) (Memᴰ.tail (Memᴰ.head refl))) (either_pair m)
turn no_more_than_one a b m = let e = only_pair m in rw (e.first, e.second) (Memᴰ.head refl)
turn greater_than a b m = let e = only_pair m in rw (e.first, e.second) (Memᴰ.head refl)
turn less_than a b m = let e = only_pair m in rw (e.first, e.second) (Memᴰ.head refl)
turn equal a b m =
    ⊎_elim (λ e. rw (e.first, e.second) (Memᴰ.tail (Memᴰ.head refl))) (λ e. rw (e.first, e.second) (Memᴰ.head refl)) (either_pair m)

turned_twice : (k : Kind) → turned (turned k) ≡ k
turned_twice at_least_one = refl
turned_twice exactly_one = refl
turned_twice no_more_than_one = refl
turned_twice greater_than = refl
turned_twice less_than = refl
turned_twice equal = refl

turn_back : (k : Kind) (a b : ℕ) → Forbids (turned k) b a → Forbids k a b
turn_back k a b m = rw (turned_twice k) at (turn (turned k) b a m)

-- ---- the two orders of the ends

-- how the record of c is made
pub data Made (c : Constraint) : Record → Type 0 where
  straight : c.first < c.second → Made c (record_on c.first c.second (set_of c.kind))
  exchanged : c.second < c.first → Made c (record_on c.second c.first (set_of (turned c.kind)))

pub made : (c : Constraint) → c.first ≢ c.second → Made c (record_of c)
made c ne = go (dec_lt c.first c.second)
  where
    go : Dec (c.first < c.second) → Made c (record_of c)
    go (yes h) = rw (lt-ltb c.first c.second h) (straight h)
    go (no h) = rw (le-ltb c.first c.second (omega arith)) (exchanged (omega (arith, h, ne)))

pub record_proper : (c : Constraint) → Proper (record_of c)
record_proper c = go (ltb c.first c.second)
  where
    go : (b : Bool) → Proper (cond b (record_on c.first c.second (set_of c.kind)) (record_on c.second c.first (set_of (turned c.kind))))
    go true = record { some = (set_proper c.kind).0; four = (set_proper c.kind).1 }
    go false = record { some = (set_proper (turned c.kind)).0; four = (set_proper (turned c.kind)).1 }

-- ---- values that meet it

module _ (x : List ℕ) (c : Constraint) where
  meets_made : {r : Record} → Made c r → Meets x c ↔ MeetsRecord x r
  meets_made (straight h) = ((λ f m. f ((in_set c.kind).0 m)), λ f m. f ((in_set c.kind).1 m))
  meets_made (exchanged h) = (
    λ f m. f (turn_back c.kind (get_or x c.first 0) (get_or x c.second 0) ((in_set (turned c.kind)).0 m)),
    λ f m. f ((in_set (turned c.kind)).1 (turn c.kind (get_or x c.first 0) (get_or x c.second 0) m)),
  )

  -- values meet a constraint exactly if they meet its record
  pub record_meets : c.first ≢ c.second → Meets x c ↔ MeetsRecord x (record_of c)
  record_meets ne = meets_made (made c ne)

-- ---- implications

bars_in : (i j : ℕ) (ps : List Pair) {p : Pair} → Memᴰ p ps → Memᴰ (forth i j p) (bars i j ps) × Memᴰ (back i j p) (bars i j ps)
bars_in i j [] m = absurd (Memᴰ.not-nil m)
bars_in i j (q ∷ ps) m =
    ⊎_elim
    (λ e. (Memᴰ.head (ap (forth i j) e), Memᴰ.tail (Memᴰ.head (ap (back i j) e))))
    (λ r. let z = bars_in i j ps r in (Memᴰ.tail (Memᴰ.tail z.0), Memᴰ.tail (Memᴰ.tail z.1)))
    (Memᴰ.cases_cons m)

-- an implication between i and j that comes from a pair of ps
pub data FromPair (i j : ℕ) (ps : List Pair) (e : Implication) : Type 0 where
  going : (p : Pair) → Memᴰ p ps → e ≡ forth i j p → FromPair i j ps e
  coming : (p : Pair) → Memᴰ p ps → e ≡ back i j p → FromPair i j ps e

in_bars : (i j : ℕ) (ps : List Pair) {e : Implication} → Memᴰ e (bars i j ps) → FromPair i j ps e
in_bars i j [] m = absurd (Memᴰ.not-nil m)
in_bars i j (p ∷ ps) {e} m =
    ⊎_elim
    (λ q. going p (Memᴰ.head refl) q)
    (λ r. ⊎_elim (λ q. coming p (Memᴰ.head refl) q) (λ s. wider (in_bars i j ps s)) (Memᴰ.cases_cons r))
    (Memᴰ.cases_cons m)
  where
    wider : FromPair i j ps e → FromPair i j (p ∷ ps) e
    wider (going q n d) = going q (Memᴰ.tail n) d
    wider (coming q n d) = coming q (Memᴰ.tail n) d

bars_from : {i j : ℕ} {ps : List Pair} {e : Implication} → FromPair i j ps e → Memᴰ e (bars i j ps)
bars_from {i} {j} {ps} (going p m d) = subst (λ (z : Implication). Memᴰ z (bars i j ps)) (sym d) (bars_in i j ps m).0
bars_from {i} {j} {ps} (coming p m d) = subst (λ (z : Implication). Memᴰ z (bars i j ps)) (sym d) (bars_in i j ps m).1

-- the pairs the other way round give the same
bars_turned : {i j : ℕ} {ps qs : List Pair} {e : Implication} → ((p : Pair) → Memᴰ p ps → Memᴰ (pair p.second p.first) qs) → FromPair i j ps e → FromPair j i qs e
bars_turned h (going p m d) = coming (pair p.second p.first) (h p m) d
bars_turned h (coming p m d) = going (pair p.second p.first) (h p m) d

bars_as : {i j : ℕ} {ps qs : List Pair} {e : Implication} → ((p : Pair) → Memᴰ p ps → Memᴰ p qs) → FromPair i j ps e → FromPair i j qs e
bars_as h (going p m d) = going p (h p m) d
bars_as h (coming p m d) = coming p (h p m) d

module _ (c : Constraint) {e : Implication} where
  made_bars : {r : Record} → Made c r → FromPair c.first c.second (forbidden c.kind) e ↔ FromPair r.lower r.higher (pairs_in r.set) e
  made_bars (straight h) = (bars_as (λ p m. (in_set c.kind).1 m), bars_as (λ p m. (in_set c.kind).0 m))
  made_bars (exchanged h) = (
    bars_turned (λ p m. (in_set (turned c.kind)).1 (turn c.kind p.first p.second m)),
    bars_turned (λ p m. turn_back c.kind p.second p.first ((in_set (turned c.kind)).0 m)),
  )

-- ---- lists

rules_in : {e : Implication} {r : Record} (l : List Record) → Memᴰ r l → Memᴰ e (bars r.lower r.higher (pairs_in r.set)) → Memᴰ e (rules_of l)
unfolding rules_of
rules_in [] q m = absurd (Memᴰ.not-nil q)
rules_in {e} (x ∷ l) q m =
    ⊎_elim
    (λ z. Memᴰ.append_left (rules_of l) (subst (λ (r : Record). Memᴰ e (bars r.lower r.higher (pairs_in r.set))) z m))
    (λ z. Memᴰ.append_right (bars x.lower x.higher (pairs_in x.set)) (rules_in l z m))
    (Memᴰ.cases_cons q)

-- an implication comes from a pair that the list forbids, from either end
pub data RuleOf (l : List Record) (e : Implication) : Type 0 where
  ahead : (i j : ℕ) (p : Pair) → Bans l i j p → e ≡ forth i j p → RuleOf l e
  backward : (i j : ℕ) (p : Pair) → Bans l i j p → e ≡ back i j p → RuleOf l e

pub rule_of : (l : List Record) {e : Implication} → Memᴰ e (rules_of l) → RuleOf l e
unfolding rules_of
rule_of [] m = absurd (Memᴰ.not-nil m)
rule_of (x ∷ l) {e} m =
    ⊎_elim
    (λ q. here (in_bars x.lower x.higher (pairs_in x.set) q))
    (λ q. wider (rule_of l q))
    (Memᴰ.append_cases (bars x.lower x.higher (pairs_in x.set)) m)
  where
    here : FromPair x.lower x.higher (pairs_in x.set) e → RuleOf (x ∷ l) e
    here (going p n d) = ahead x.lower x.higher p (bans_of (Memᴰ.head refl) n) d
    here (coming p n d) = backward x.lower x.higher p (bans_of (Memᴰ.head refl) n) d

    wider : RuleOf l e → RuleOf (x ∷ l) e
    wider (ahead i j p f d) = ahead i j p (bans_at f (Memᴰ.tail f.among)) d
    wider (backward i j p f d) = backward i j p (bans_at f (Memᴰ.tail f.among)) d

pub of_rule : {l : List Record} {e : Implication} → RuleOf l e → Memᴰ e (rules_of l)
of_rule {l} {e} (ahead i j p f d) = rules_in l f.among (rw (f.is_lower, f.is_higher) (bars_from (going p f.forbids d)))
of_rule {l} {e} (backward i j p f d) = rules_in l f.among (rw (f.is_lower, f.is_higher) (bars_from (coming p f.forbids d)))

-- a list that forbids more has more implications
pub rules_covered : {l m : List Record} → Covered l m → (e : Implication) → Memᴰ e (rules_of l) → Memᴰ e (rules_of m)
rules_covered {l} {m} h e q = go (rule_of l q)
  where
    go : RuleOf l e → Memᴰ e (rules_of m)
    go (ahead i j p f d) = of_rule (ahead i j p (h i j p f) d)
    go (backward i j p f d) = of_rule (backward i j p (h i j p f) d)

-- constraints and their records have the same implications
pub records_imply : (cs : List Constraint) → Apart cs → (e : Implication) → Memᴰ e (implications cs) → Memᴰ e (rules_of (map record_of cs))
unfolding implications rules_of
records_imply [] apart e m = m
records_imply (c ∷ cs) apart e m =
    ⊎_elim
    (λ q. Memᴰ.append_left (rules_of (map record_of cs)) (bars_from ((made_bars c (made c (apart c (Memᴰ.head refl)))).0 (in_bars c.first c.second (forbidden c.kind) q))))
    (λ q. Memᴰ.append_right (bars (record_of c).lower (record_of c).higher (pairs_in (record_of c).set)) (records_imply cs (λ d n. apart d (Memᴰ.tail n)) e q))
    (Memᴰ.append_cases (bars c.first c.second (forbidden c.kind)) m)

pub implied_by_records : (cs : List Constraint) → Apart cs → (e : Implication) → Memᴰ e (rules_of (map record_of cs)) → Memᴰ e (implications cs)
unfolding implications rules_of
implied_by_records [] apart e m = m
implied_by_records (c ∷ cs) apart e m =
    ⊎_elim
    (λ q. Memᴰ.append_left (implications cs) (bars_from ((made_bars c (made c (apart c (Memᴰ.head refl)))).1
    (in_bars (record_of c).lower (record_of c).higher (pairs_in (record_of c).set) q))))
    (λ q. Memᴰ.append_right (bars c.first c.second (forbidden c.kind)) (implied_by_records cs (λ d n. apart d (Memᴰ.tail n)) e q))
    (Memᴰ.append_cases (bars (record_of c).lower (record_of c).higher (pairs_in (record_of c).set)) m)

-- ---- equal meaning

module _ (c : Constraint) where
  -- a record forbids what its constraint does, the lower end first
  made_bans : {r : Record} → Made c r → {i j a b : ℕ} → i < j → Excludes c i a j b ↔ Bans (r ∷ []) i j (pair a b)
  made_bans (straight h) {i} {j} {a} {b} l = (
    λ e. ⊎_elim
        (λ z. record { by = _; among = Memᴰ.head refl; is_lower = z.0; is_higher = z.1; forbids = (in_set c.kind).1 z.2 })
        (λ z. absurd (omega (arith, z.0, z.1)))
        e,
    λ f.
        let q = Memᴰ.eq_of_singleton f.among in
        inl (
          ap (λ (r : Record). r.lower) (sym q) ∙ f.is_lower,
          ap (λ (r : Record). r.higher) (sym q) ∙ f.is_higher,
          (in_set c.kind).0 (subst (λ (r : Record). Memᴰ (pair a b) (pairs_in r.set)) q f.forbids),
        ),
  )
  made_bans (exchanged h) {i} {j} {a} {b} l = (
    λ e. ⊎_elim
        (λ z. absurd (omega (arith, z.0, z.1)))
        (λ z. record { by = _; among = Memᴰ.head refl; is_lower = z.1; is_higher = z.0; forbids = (in_set (turned c.kind)).1 (turn c.kind b a z.2) })
        e,
    λ f.
        let q = Memᴰ.eq_of_singleton f.among in
        inr (
          ap (λ (r : Record). r.higher) (sym q) ∙ f.is_higher,
          ap (λ (r : Record). r.lower) (sym q) ∙ f.is_lower,
          turn_back c.kind b a ((in_set (turned c.kind)).0 (subst (λ (r : Record). Memᴰ (pair a b) (pairs_in r.set)) q f.forbids)),
        ),
  )

  made_rises : {r : Record} → Made c r → r.lower < r.higher
  made_rises (straight h) = h
  made_rises (exchanged h) = h

-- what is said of one order of the ends is said of the other
excludes_turned : (c : Constraint) (i a j b : ℕ) → Excludes c i a j b → Excludes c j b i a
excludes_turned c i a j b e = ⊎_elim inr inl e

module _ (c d : Constraint) (nc : c.first ≢ c.second) (nd : d.first ≢ d.second) where
  to_record : ((i a j b : ℕ) → Excludes c i a j b → Excludes d i a j b) → Covered (record_of c ∷ []) (record_of d ∷ [])
  to_record h i j p f =
      let q = Memᴰ.eq_of_singleton f.among in
      let l : i < j = omega (arith, made_rises c (made c nc), f.is_lower, f.is_higher, ap (λ (r : Record). r.lower) q, ap (λ (r : Record). r.higher) q) in
      (made_bans d (made d nd) l).0 (h i p.first j p.second ((made_bans c (made c nc) l).1 f))

  from_record : Covered (record_of c ∷ []) (record_of d ∷ []) → (i a j b : ℕ) → Excludes c i a j b → Excludes d i a j b
  from_record h i a j b e = go (dec_lt i j) (dec_lt j i)
    where
      go : Dec (i < j) → Dec (j < i) → Excludes d i a j b
      go (yes l) k = (made_bans d (made d nd) l).1 (h i j (pair a b) ((made_bans c (made c nc) l).0 e))
      go (no l) (yes k) = excludes_turned d j b i a ((made_bans d (made d nd) k).1 (h j i (pair b a) ((made_bans c (made c nc) k).0 (excludes_turned c i a j b e))))
      go (no l) (no k) = absurd (⊎_elim (λ z. nc (omega (arith, z.0, z.1))) (λ z. nc (omega (arith, z.0, z.1))) e)

-- two constraints forbid the same pairs of values of the same variables exactly if they have one record
pub one_meaning : (c d : Constraint) → c.first ≢ c.second → d.first ≢ d.second → ((i a j b : ℕ) → Excludes c i a j b ↔ Excludes d i a j b) ↔ (record_of c ≡ record_of d)
one_meaning c d nc nd = (
  λ h. first_of (rising_same (record_of c ∷ []) (record_of d ∷ []) (alone c) (alone d) (single (record_of c)) (single (record_of d)) (record {
    to = to_record c d nc nd (λ i a j b. (h i a j b).0);
    from = to_record d c nd nc (λ i a j b. (h i a j b).1);
  })),
  λ e i a j b. (
    from_record c d nc nd (λ i j p f. subst (λ (r : Record). Bans (r ∷ []) i j p) e f) i a j b,
    from_record d c nd nc (λ i j p f. subst (λ (r : Record). Bans (r ∷ []) i j p) (sym e) f) i a j b,
  ),
)
  where
    alone : (e : Constraint) → AllProper (record_of e ∷ [])
    alone e r m = rw (Memᴰ.eq_of_singleton m) (record_proper e)

    single : (r : Record) → Rising (r ∷ [])
    single r = ((λ y m. absurd (Memᴰ.not-nil m)), tt)

    first_of : {x y : Record} → x ∷ [] ≡ y ∷ [] → x ≡ y
    first_of {x} {y} e = let z : x ≡ y = cc in z

-- ---- one pair of variables, by assignments

-- values with a at i and b at j
abbrev with_values : ℕ → ℕ → ℕ → ℕ → List ℕ
with_values i j a b = set (set (replicate (i + j + 1) 0) i a) j b

module _ (i j : ℕ) (ne : i ≢ j) (a b : ℕ) where
  at_first : get_or (with_values i j a b) i 0 ≡ a
  at_first =
      get_or-set_other (set (replicate (i + j + 1) 0) i a) j i b 0 ne
      ∙ get_or-set_same (replicate (i + j + 1) 0) i a 0 (omega (arith, length-replicate {A = ℕ} (i + j + 1) 0))

  at_second : get_or (with_values i j a b) j 0 ≡ b
  at_second =
      get_or-set_same (set (replicate (i + j + 1) 0) i a) j b 0 (omega (arith, length-set (replicate (i + j + 1) 0) i a, length-replicate {A = ℕ} (i + j + 1) 0))

-- what is met by the same values forbids the same
meets_part : (i j S T : ℕ) → i ≢ j → ((x : List ℕ) → MeetsRecord x (record_on i j T) → MeetsRecord x (record_on i j S)) → Part S T
meets_part i j S T ne h p m =
    ⊎_elim
    (λ z. absurd (h x (λ n. omega (arith, z, pair_bit T (rw (at_first i j ne a b, at_second i j ne a b) at n))) (rw (at_first i j ne a b, at_second i j ne a b) m)))
    (λ z. bit_pair T a b z)
    (zero_or_one (bit_of T a b))
  where
    a : ℕ
    a = p.first

    b : ℕ
    b = p.second

    x : List ℕ
    x = with_values i j a b

-- two sets on one pair of variables that the same values meet are one
pub one_pair_meaning : (i j S T : ℕ) → i ≢ j → S < 16 → T < 16 → ((x : List ℕ) → MeetsRecord x (record_on i j S) ↔ MeetsRecord x (record_on i j T)) → S ≡ T
one_pair_meaning i j S T ne s t h = set_same S T s t (meets_part i j S T ne (λ x. (h x).1)) (meets_part i j T S ne (λ x. (h x).0))
