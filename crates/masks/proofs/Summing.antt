-- The sums of a block of masks, term by term. Assumes nothing.
use Prim.Native.Nat.{ℕ, ◌+◌, ◌%◌, ◌≤◌, ◌<◌}
use mathlib.Core.Path.{◌≡◌, refl, sym, ap, ◌∙◌}
use mathlib.Core.List.{List, [], ◌∷◌, ◌++◌}
use native.Mathlib.Decide.{ℕ_discrete}
use native.Mathlib.Numerals.{add-one}
use native.Mathlib.Omega.{arith}
use lib.Bits.{bit_and}
use lib.ListN.{length, get_or, set, replicate, length-set, length-replicate, get_or-replicate}
use lib.Seq.{get_or-set_same, get_or-set_other}
use lib.Ieee.{Float, nan, binary64, add}
use borrow.Author.Tests.{eq-eqb, ne_eqb}
use Rattle.weights.specs.Worth.{zero64}
use Rattle.masks.specs.Masks.{Term, term, has, plus, sum_at, objective}
use Rattle.masks.specs.Listed.{terms_on, Room}
use Rattle.masks.specs.Block.{Block, TermAdded}
use Rattle.masks.proofs.Parts.{last_has, low_has, has_low}

pub sum_append : (m : ℕ) (x : Float) (ts us : List Term) → sum_at m x (ts ++ us) ≡ sum_at m (sum_at m x ts) us
unfolding sum_at
sum_append m x [] us = refl
sum_append m x (t ∷ ts) us = sum_append m (plus m x t) ts us

-- ---- a term and one mask

module _ (mask bits : ℕ) (sum value : Float) where
  pub plus_has : bit_and mask bits ≡ bits → add binary64 sum value ≡ plus mask sum (term bits value)
  unfolding plus has
  plus_has e = rw (eq-eqb _ _ e) refl

  pub plus_lacks : (bit_and mask bits ≡ bits → ⊥) → sum ≡ plus mask sum (term bits value)
  unfolding plus has
  plus_lacks e = rw (ne_eqb _ _ e) refl

-- ---- a term and the masks of a block: the first l have it

pub record Turned (bits : ℕ) (value : Float) (sums₀ sums : List Float) (l : ℕ) : Type 0 where
  pub within : l ≤ 32
  pub long : length sums ≡ 32
  pub done : (m : ℕ) → m < l → get_or sums m nan ≡ plus m (get_or sums₀ m nan) (term bits value)
  pub rest : (m : ℕ) → l ≤ m → get_or sums m nan ≡ get_or sums₀ m nan

module _ {bits : ℕ} {value : Float} {sums₀ : List Float} where
  module _ {sums : List Float} {l : ℕ} (T : Turned bits value sums₀ sums l) where
    pub turn_next : {x : Float} → l < 32 → x ≡ plus l (get_or sums l nan) (term bits value) → Turned bits value sums₀ (set sums l x) (l + 1)
    turn_next {x} h e = record {
      within = omega arith;
      long = length-set sums l x ∙ T.long;
      done = λ m k. elim (ℕ_discrete m l) [
        | yes q ↦ rw q (get_or-set_same sums l x nan (omega (arith, T.long)) ∙ e ∙ ap (λ (y : Float). plus l y (term bits value)) (T.rest l (omega arith)))
        | no q ↦ get_or-set_other sums l m x nan q ∙ T.done m (omega arith)
      ];
      rest = λ m k. get_or-set_other sums l m x nan (λ q. absurd (omega arith)) ∙ T.rest m (omega arith);
    }

-- none of a block has the required bits where the last has them not
pub none_has : {base bits : ℕ} {value : Float} {sums : List Float} → length sums ≡ 32 → base % 32 ≡ 0 → (bit_and (base + 31) bits ≡ bits → ⊥) → TermAdded base bits value sums sums
none_has {base} {bits} {value} {sums} long e never = record {
  each = record { long = long; at = λ l h. plus_lacks (base + l) bits (get_or sums l nan) value (λ p. never (last_has base bits e l h p)) };
}

-- where the last has them, the last five bits decide
same_plus : (base bits : ℕ) (value : Float) → base % 32 ≡ 0 → bit_and (base + 31) bits ≡ bits → (l : ℕ) → l < 32 → (sum : Float)
    → plus l sum (term (bits % 32) value) ≡ plus (base + l) sum (term bits value)
same_plus base bits value e last l h sum = elim (ℕ_discrete (bit_and (base + l) bits) bits) [
  | yes p ↦ sym (plus_has l (bits % 32) sum value (low_has base bits e l h p)) ∙ plus_has (base + l) bits sum value p
  | no p ↦ sym (plus_lacks l (bits % 32) sum value (λ q. p (has_low base bits e l h last q))) ∙ plus_lacks (base + l) bits sum value p
]

pub by_low : {base bits : ℕ} {value : Float} {sums sums' : List Float} → base % 32 ≡ 0 → bit_and (base + 31) bits ≡ bits
    → TermAdded 0 (bits % 32) value sums sums' → TermAdded base bits value sums sums'
by_low {base} {bits} {value} {sums} e last A = record {
  each = record {
    long = A.each.long;
    at = λ l h. A.each.at l h ∙ ap (λ (x : ℕ). plus x (get_or sums l nan) (term (bits % 32) value)) (omega arith) ∙ same_plus base bits value e last l h (get_or sums l nan);
  };
}

-- ---- the loop through the terms: the sums are those of the first t

pub record Summing (values : List Float) (required : List ℕ) (end base : ℕ) (sums : List Float) (t : ℕ) : Type 0 where
  pub room : Room end values required
  pub small : base ≤ 1024
  pub aligned : base % 32 ≡ 0
  pub within : t ≤ end
  pub so_far : Block (λ l. objective (terms_on values required t) (base + l)) sums

module _ {values : List Float} {required : List ℕ} {end base : ℕ} where
  pub sum_start : Room end values required → base ≤ 1024 → base % 32 ≡ 0 → Summing values required end base (replicate 32 zero64) 0
  unfolding terms_on sum_at
  sum_start R h e = record { room = R; small = h; aligned = e; within = omega arith; so_far = record { long = length-replicate 32 zero64; at = λ l k. get_or-replicate 32 l zero64 nan k } }

  module _ {sums : List Float} {t : ℕ} (S : Summing values required end base sums t) where
    pub sum_turn : {bits : ℕ} {value : Float} {sums' : List Float} → t < end → bits ≡ get_or required t 0 → value ≡ get_or values t nan
        → TermAdded base bits value sums sums' → Summing values required end base sums' (t + 1)
    unfolding terms_on sum_at
    sum_turn h eb ev A = record {
      room = S.room;
      small = S.small;
      aligned = S.aligned;
      within = omega arith;
      so_far = rw (add-one t) (record { long = A.each.long; at = λ l k. A.each.at l k ∙ rw (eb, ev, S.so_far.at l k) (sym (sum_append (base + l) zero64 (terms_on values required t) (term (get_or required t 0) (get_or values t nan) ∷ []))) });
    }

    pub sum_done : end ≤ t → Block (λ l. objective (terms_on values required end) (base + l)) sums
    sum_done h = let e : t ≡ end = omega (arith, S.within) in rw e at S.so_far
