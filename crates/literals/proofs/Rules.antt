-- The implications of a list of records are what its ends say, neither more nor less. Assumes nothing.
use Prim.Native.Nat.{ℕ, ◌+◌, ◌*◌, ◌-◌, ◌/◌, ◌%◌, ◌^◌, ◌<◌, ◌≤◌}
use mathlib.Core.Path.{◌≡◌, refl, sym, ap, ◌∙◌, subst}
use mathlib.Core.Logic.{◌⊎◌, inl, inr, ⊎_elim, ◌↔◌}
use mathlib.Core.Bool.{Bool, true, false, cond, false≢true}
use mathlib.Core.List.Memᴰ
use mathlib.Core.List.{List, [], ◌∷◌, Memᴰ}
use native.Mathlib.Nat.{add-zero, div-add-mod', mod-lt}
use native.Mathlib.Omega.{arith}
use lib.Dec.{eqb}
use Rattle.scratch.proofs.Means.{eq_is, both_is, either_is}
use Rattle.meaning.specs.Kinds.{Pair, pair}
use Rattle.meaning.specs.Literal.{Implication}
use Rattle.meaning.specs.Records.{Record, pairs_in, Ends, rules_of}
use Rattle.meaning.proofs.Bans.{bans_of}
use Rattle.meaning.proofs.Sets.{bit_at, bit_shifted, pair_bit, bit_pair, pair_small}
use Rattle.meaning.proofs.Records.{RuleOf, ahead, backward, rule_of, of_rule}
use Rattle.meaning.proofs.Values.{zero_or_one}
use Rattle.constraints.specs.Record.{room, record_at, records}
use Rattle.constraints.proofs.Records.{record_in, record_among}
use Rattle.literals.specs.Listed.{Listed}
use Rattle.literals.specs.Ends.{rules, mine, other, set_at, is_among, barred, gives, says}

-- ---- numbers of ends

module _ (t r : ℕ) (h : r < 2) where
  half : (2 * t + r) / 2 ≡ t
  half = omega (arith, div-add-mod' (2 * t + r) 2, mod-lt (2 * t + r) {m = 2} (omega arith))

  rest : (2 * t + r) % 2 ≡ r
  rest = omega (arith, div-add-mod' (2 * t + r) 2, mod-lt (2 * t + r) {m = 2} (omega arith))

pub bit : (x : ℕ) → (x % 2 ≡ 0) ⊎ (x % 2 ≡ 1)
bit x = zero_or_one (mod-lt x {m = 2} (omega arith))

-- ---- the test of a forbidden pair

pair_is : (a b : ℕ) (p : Pair) → ((a ≡ p.first) × (b ≡ p.second)) ↔ (pair a b ≡ p)
pair_is a b p = ((λ z. rw (z.0, z.1)), λ e. (ap (λ (q : Pair). q.first) e, ap (λ (q : Pair). q.second) e))

among_is : (a b : ℕ) (ps : List Pair) → (is_among a b ps ≡ true) ↔ Memᴰ (pair a b) ps
among_is a b [] = ((λ e. absurd (false≢true e)), λ m. elim m [ ])
among_is a b (p ∷ ps) =
    let t = either_is _ _ (both_is _ _ (eq_is a p.first) (eq_is b p.second)) (among_is a b ps) in (
      λ e. ⊎_elim (λ z. Memᴰ.head ((pair_is a b p).0 z)) (λ z. Memᴰ.tail z) (t.0 e),
      λ m. t.1 (⊎_elim (λ z. inl ((pair_is a b p).1 z)) inr (Memᴰ.cases_cons m)),
    )

-- two tests that pass alike are one
alike : (a b : Bool) → (a ≡ true → b ≡ true) → (b ≡ true → a ≡ true) → a ≡ b
alike true b f g = sym (f refl)
alike false true f g = g refl
alike false false f g = refl

not_there : (b : Bool) → (b ≡ true → ⊥) → b ≡ false
not_there true n = absurd (n refl)
not_there false n = refl

-- as code reads it: the bit of the pair
pub among_bit : (S a b : ℕ) → a < 2 → b < 2 → is_among a b (pairs_in S) ≡ eqb (S / 2 ^ (2 * a + b) % 2) 1
among_bit S a b ha hb =
    rw (sym (bit_shifted S a b ha hb)) (alike (is_among a b (pairs_in S)) (eqb (bit_at S a b) 1)
    (λ e. (eq_is (bit_at S a b) 1).1 (pair_bit S ((among_is a b (pairs_in S)).0 e)))
    (λ e. (among_is a b (pairs_in S)).1 (bit_pair S a b ((eq_is (bit_at S a b) 1).0 e))))

-- ---- what a set says

-- what is given: the opposite of the one value that is forbidden, nothing where neither is, 3 where both are
pub data Gives (S : ℕ) (b : Bool) (v : ℕ) : ℕ → Type 0 where
  both : barred S b v 0 ≡ true → barred S b v 1 ≡ true → Gives S b v 3
  one : barred S b v 0 ≡ true → barred S b v 1 ≡ false → Gives S b v 1
  none : barred S b v 0 ≡ false → barred S b v 1 ≡ true → Gives S b v 0
  nothing : barred S b v 0 ≡ false → barred S b v 1 ≡ false → Gives S b v 2

gives_is : (S : ℕ) (b : Bool) (v : ℕ) → Gives S b v (gives S b v)
unfolding gives
gives_is S b v = go (barred S b v 0) (barred S b v 1) refl refl
  where
    go : (x y : Bool) → barred S b v 0 ≡ x → barred S b v 1 ≡ y → Gives S b v (cond x (cond y 3 1) (cond y 0 2))
    go true true e f = both e f
    go true false e f = one e f
    go false true e f = none e f
    go false false e f = nothing e f

-- a value is given, alone or with the other one
abbrev pub Gave : ℕ → ℕ → Type 0
Gave said w = (said ≡ w) ⊎ (said ≡ 3)

gave_as : {said said' w w' : ℕ} → said ≡ said' → w ≡ w' → Gave said w → Gave said' w'
gave_as e f g = ⊎_elim (λ z. inl (sym e ∙ z ∙ f)) (λ z. inr (sym e ∙ z)) g

-- a value is given exactly if the other one is forbidden
gave_bars : {S : ℕ} {b : Bool} {v r : ℕ} (w : ℕ) → w < 2 → Gives S b v r → Gave r w → barred S b v (1 - w) ≡ true
gave_bars {S} {b} {v} w h x g = ⊎_elim (λ z. rw z (at_zero x (rw z at g))) (λ z. rw z (at_one x (rw z at g))) (zero_or_one h)
  where
    at_zero : {r : ℕ} → Gives S b v r → Gave r 0 → barred S b v 1 ≡ true
    at_zero (both e f) k = f
    at_zero (one e f) k = absurd (⊎_elim (λ q. omega arith) (λ q. omega arith) k)
    at_zero (none e f) k = f
    at_zero (nothing e f) k = absurd (⊎_elim (λ q. omega arith) (λ q. omega arith) k)

    at_one : {r : ℕ} → Gives S b v r → Gave r 1 → barred S b v 0 ≡ true
    at_one (both e f) k = e
    at_one (one e f) k = e
    at_one (none e f) k = absurd (⊎_elim (λ q. omega arith) (λ q. omega arith) k)
    at_one (nothing e f) k = absurd (⊎_elim (λ q. omega arith) (λ q. omega arith) k)

bars_gave : {S : ℕ} {b : Bool} {v r : ℕ} (w : ℕ) → w < 2 → Gives S b v r → barred S b v w ≡ true → Gave r (1 - w)
bars_gave {S} {b} {v} w h x g = ⊎_elim (λ z. rw z (at_zero x (rw z at g))) (λ z. rw z (at_one x (rw z at g))) (zero_or_one h)
  where
    at_zero : {r : ℕ} → Gives S b v r → barred S b v 0 ≡ true → Gave r 1
    at_zero (both e f) k = inr refl
    at_zero (one e f) k = inl refl
    at_zero (none e f) k = absurd (false≢true (sym e ∙ k))
    at_zero (nothing e f) k = absurd (false≢true (sym e ∙ k))

    at_one : {r : ℕ} → Gives S b v r → barred S b v 1 ≡ true → Gave r 0
    at_one (both e f) k = inr refl
    at_one (one e f) k = absurd (false≢true (sym f ∙ k))
    at_one (none e f) k = inl refl
    at_one (nothing e f) k = absurd (false≢true (sym f ∙ k))

gave_most : {S : ℕ} {b : Bool} {v r : ℕ} → Gives S b v r → r ≤ 3
gave_most (both e f) = omega arith
gave_most (one e f) = omega arith
gave_most (none e f) = omega arith
gave_most (nothing e f) = omega arith

-- a free variable says nothing
free_bars : (S : ℕ) (b : Bool) (w : ℕ) → barred S b 2 w ≡ false
free_bars S true w = not_there (is_among 2 w (pairs_in S)) (λ e. omega (arith, (pair_small S ((among_is 2 w (pairs_in S)).0 e)).first))
free_bars S false w = not_there (is_among w 2 (pairs_in S)) (λ e. omega (arith, (pair_small S ((among_is w 2 (pairs_in S)).0 e)).second))

gives_free : (S : ℕ) (b : Bool) → gives S b 2 ≡ 2
unfolding gives
gives_free S b = rw (free_bars S b 0, free_bars S b 1)

-- ---- ends and implications

-- the two ends of a record, seen from the lower or from the higher
near : Record → Bool → ℕ
near r true = r.lower
near r false = r.higher

far : Record → Bool → ℕ
far r true = r.higher
far r false = r.lower

bit_of : Bool → ℕ
bit_of true = 0
bit_of false = 1

rule : ℕ → ℕ → ℕ → ℕ → Implication
rule i v j w = record { from = i; when = v; to = j; gives = w }

-- what is forbidden from an end is an implication
said : (r : Record) (l : List Record) → Memᴰ r l → (b : Bool) (v w : ℕ) → barred r.set b v w ≡ true → Memᴰ (rule (near r b) v (far r b) (1 - w)) (rules_of l)
unfolding near far rule
said r l m true v w e = of_rule (ahead r.lower r.higher (pair v w) (bans_of m ((among_is v w (pairs_in r.set)).0 e)) refl)
said r l m false v w e = of_rule (backward r.lower r.higher (pair w v) (bans_of m ((among_is w v (pairs_in r.set)).0 e)) refl)

-- e comes from a record of l, seen from one of its ends
record From (e : Implication) (l : List Record) : Type 0 where
  by : Record
  among : Memᴰ by l
  forward : Bool
  is_from : near by forward ≡ e.from
  is_to : far by forward ≡ e.to
  value : ℕ
  small : value < 2
  bars : barred by.set forward e.when value ≡ true
  is_given : 1 - value ≡ e.gives

from_rule : {e : Implication} (l : List Record) → Memᴰ e (rules_of l) → From e l
unfolding near far
from_rule {e} l m = go (rule_of l m)
  where
    go : RuleOf l e → From e l
    go (ahead i j p f d) = rw d (record {
      by = f.by;
      among = f.among;
      forward = true;
      is_from = f.is_lower;
      is_to = f.is_higher;
      value = p.second;
      small = (pair_small f.by.set f.forbids).second;
      bars = (among_is p.first p.second (pairs_in f.by.set)).1 f.forbids;
      is_given = refl;
    })
    go (backward i j p f d) = rw d (record {
      by = f.by;
      among = f.among;
      forward = false;
      is_from = f.is_higher;
      is_to = f.is_lower;
      value = p.first;
      small = (pair_small f.by.set f.forbids).first;
      bars = (among_is p.first p.second (pairs_in f.by.set)).1 f.forbids;
      is_given = refl;
    })

-- ---- the ends of a list

module _ (list : List ℕ) where
  abbrev at : ℕ → Record
  at t = record_at list t

  -- end 2t is record t seen from its lower end, and 2t + 1 from its higher
  record Seen (x t : ℕ) (b : Bool) : Type 0 where
    is_mine : mine list x ≡ near (at t) b
    is_other : other list x ≡ far (at t) b
    is_says : (v : ℕ) → says list x v ≡ gives (at t).set b v

  seen : (t : ℕ) (b : Bool) → Seen (2 * t + bit_of b) t b
  unfolding mine other says set_at near far bit_of
  seen t true =
      let h = half t 0 (omega arith) in
      let r = rest t 0 (omega arith) in
      record { is_mine = rw (h, r, add-zero); is_other = rw (h, r); is_says = λ v. rw (h, r) }
  seen t false =
      let h = half t 1 (omega arith) in
      let r = rest t 1 (omega arith) in
      record { is_mine = rw (h, r); is_other = rw (h, r, add-zero); is_says = λ v. rw (h, r) }

  seen_end : (x : ℕ) → Seen x (x / 2) (eqb (x % 2) 0)
  unfolding bit_of
  seen_end x =
      let d : x ≡ 2 * (x / 2) + x % 2 = omega (arith, div-add-mod' x 2) in
      ⊎_elim
      (λ e. let z : 2 * (x / 2) + 0 ≡ x = omega arith in rw e (subst (λ (y : ℕ). Seen y (x / 2) true) z (seen (x / 2) true)))
      (λ e. let z : 2 * (x / 2) + 1 ≡ x = omega arith in rw e (subst (λ (y : ℕ). Seen y (x / 2) false) z (seen (x / 2) false)))
      (bit x)

  end_below : (x : ℕ) → x < 2 * room list → x / 2 < room list
  end_below x h = omega (arith, div-add-mod' x 2)

  said_is : (x v : ℕ) → Gives (at (x / 2)).set (eqb (x % 2) 0) v (says list x v)
  said_is x v = rw ((seen_end x).is_says v) (gives_is (at (x / 2)).set (eqb (x % 2) 0) v)

  -- what an end says is an implication, or two
  pub says_rule : (x v w : ℕ) → x < 2 * room list → w < 2 → Gave (says list x v) w → Memᴰ (record { from = mine list x; when = v; to = other list x; gives = w }) (rules list)
  unfolding rule
  says_rule x v w h small g =
      let s = seen_end x in
      let b = eqb (x % 2) 0 in
      let t = x / 2 in
      let twice : 1 - (1 - w) ≡ w = omega arith in
      rw (s.is_mine, s.is_other)
      (subst (λ (z : ℕ). Memᴰ (rule (near (at t) b) v (far (at t) b) z) (rules list)) twice
      (said (at t) (records list) (record_in list t (end_below x h)) b v (1 - w) (gave_bars w small (said_is x v) g)))

  -- every implication is what an end says
  pub record Says (e : Implication) : Type 0 where
    pub end : ℕ
    pub below : end < 2 * room list
    pub from_mine : mine list end ≡ e.from
    pub to_other : other list end ≡ e.to
    pub as_said : Gave (says list end e.when) e.gives

  pub rule_says : {e : Implication} → Memᴰ e (rules list) → Says e
  unfolding bit_of
  rule_says {e} m =
      let f = from_rule (records list) m in
      let a = record_among list f.among in
      let s = seen a.at f.forward in
      let i = a.is in record {
        end = 2 * a.at + bit_of f.forward;
        below = omega (arith, a.below, bit_small f.forward);
        from_mine = s.is_mine ∙ ap (λ (r : Record). near r f.forward) (sym i) ∙ f.is_from;
        to_other = s.is_other ∙ ap (λ (r : Record). far r f.forward) (sym i) ∙ f.is_to;
        as_said = gave_as (sym (s.is_says e.when ∙ ap (λ (r : Record). gives r.set f.forward e.when) (sym i))) f.is_given
            (bars_gave f.value f.small (gives_is f.by.set f.forward e.when) f.bars);
      }
    where
      bit_small : (b : Bool) → bit_of b < 2
      bit_small true = omega arith
      bit_small false = omega arith

  -- a free variable says nothing, and what is said is at most 3
  pub says_free : (x : ℕ) → says list x 2 ≡ 2
  says_free x = let s = seen_end x in s.is_says 2 ∙ gives_free (at (x / 2)).set (eqb (x % 2) 0)

  pub says_most : (x v : ℕ) → says list x v ≤ 3
  says_most x v = gave_most (said_is x v)

  module _ {n : ℕ} (L : Listed n list) (x : ℕ) (h : x < 2 * room list) where
    pub mine_below : mine list x < n
    unfolding near
    mine_below = let f = L.fit (x / 2) (end_below x h) in rw (seen_end x).is_mine (go (eqb (x % 2) 0) (omega (arith, f.rising, f.below)) f.below)
      where
        go : (b : Bool) → (record_at list (x / 2)).lower < n → (record_at list (x / 2)).higher < n → near (at (x / 2)) b < n
        go true p q = p
        go false p q = q

    pub other_below : other list x < n
    unfolding far
    other_below = let f = L.fit (x / 2) (end_below x h) in rw (seen_end x).is_other (go (eqb (x % 2) 0) (omega (arith, f.rising, f.below)) f.below)
      where
        go : (b : Bool) → (record_at list (x / 2)).lower < n → (record_at list (x / 2)).higher < n → far (at (x / 2)) b < n
        go true p q = q
        go false p q = p

-- records that fit are between variables
pub listed_ends : {n : ℕ} {list : List ℕ} → Listed n list → Ends n (records list)
listed_ends {n} {list} L r m =
    let a = record_among list m in
    let f = L.fit a.at a.below in
    rw a.is (omega (arith, f.rising, f.below), f.below)
