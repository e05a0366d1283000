-- The choices, the lowest contradictory variable and the counts, turn by turn. Assumes nothing.
use mathlib.Core.Path.{◌≡◌, refl, sym, ap, ◌∙◌}
use mathlib.Core.Bool.{Bool, true, false, cond, ◌||◌}
use mathlib.Core.List.{List, [], ◌∷◌}
use Prim.Native.Nat.{ℕ, zero, suc, ◌+◌, ◌*◌, ◌<◌, ◌≤◌}
use native.Mathlib.Numerals.{add-one}
use native.Mathlib.Omega.{arith}
use lib.ListN.{length, get_or, set, length-set, length-append}
use borrow.Author.Tests.{eq-eqb, ne_eqb}
use Rattle.std.specs.Int.{from_bool}
use Rattle.scratch.specs.Over.{over}
use Rattle.scratch.proofs.Over.{over_push}
use Rattle.reaching.specs.Via.{literal, bit, count_below, any_below, choices_lead, must, picked, contradicts, first_contradictory}
use Rattle.reaching.proofs.Truth.{any_same}
use Rattle.reaching.proofs.Picked.{picked_length, picked_at, picked_kept, first_stays, first_here, first_not}
use Rattle.bit_rows.specs.Rows.{bit_in, Holding, joined}
use Rattle.allow.specs.Answer.{counts_to}
use Rattle.allow.specs.Choice.{Blank, wants, Choosing, Seeking, Numbering}

pub choosing_start : {n : ℕ} {w : List ℕ} (a : List ℕ) → Blank n w → Choosing n w a 0 w a
unfolding choices_lead any_below picked over
choosing_start a h = record { within = omega arith; long = refl; rows = λ c d hc hd. refl; last = h; as_long = refl; list = refl }

pub choosing_turn : {n : ℕ} {w₀ a₀ w a w₁ : List ℕ} {i v : ℕ} → n ≤ 1024 → n ≤ length a₀ → i < n → Choosing n w₀ a₀ i w a
    → v ≡ bit (wants w n i) → Holding (joined (bit_in w) (2 * n) (literal i v)) w w₁ → Choosing n w₀ a₀ (i + 1) w₁ (set a i v)
unfolding choices_lead any_below picked wants must joined
choosing_turn {n} {w₀} {a₀} {w} {a} {w₁} {i} {v} few room hi s e h =
    record { within = omega arith; long = h.long ∙ s.long; rows = rows; last = last; as_long = length-set a i v ∙ s.as_long; list = list }
  where
    r : ℕ → ℕ → Bool
    r = bit_in w₀

    -- the choice
    is : v ≡ bit (must r (picked r i) i)
    is = e ∙ ap bit same
      where
        same : (bit_in w (literal i 0) (literal i 1) || bit_in w (2 * n) (literal i 1)) ≡ (r (literal i 0) (literal i 1) || choices_lead r (picked r i) i (literal i 1))
        same = rw (s.rows (literal i 0) (literal i 1) (omega arith) (omega arith), s.last (literal i 1) (omega arith)) refl

    small : v < 2
    small = rw is (two (must r (picked r i) i))
      where
        two : (b : Bool) → bit b < 2
        two true = omega arith
        two false = omega arith

    at_i : get_or (picked r (suc i)) i 0 ≡ v
    at_i = picked_at r (suc i) i (omega arith) ∙ sym is

    rows : (c d : ℕ) → c < 2 * n → d < 2048 → bit_in w₁ c d ≡ r c d
    rows c d hc hd = h.bits c d hd ∙ ap (λ (t : Bool). cond t (bit_in w (2 * n) d || bit_in w (literal i v) d) (bit_in w c d)) (ne_eqb c (2 * n) (λ z. omega arith)) ∙ s.rows c d hc hd

    last : (d : ℕ) → d < 2048 → bit_in w₁ (2 * n) d ≡ choices_lead r (picked r (i + 1)) (i + 1) d
    last d hd =
        h.bits (2 * n) d hd ∙ ap (λ (t : Bool). cond t (bit_in w (2 * n) d || bit_in w (literal i v) d) (bit_in w (2 * n) d)) (eq-eqb (2 * n) (2 * n) refl)
        ∙ rw (add-one, s.last d hd, s.rows (literal i v) d (omega (arith, small)) hd, at_i) (ap (λ (t : Bool). t || r (literal i v) d) before)
      where
        before : any_below (λ j. r (literal j (get_or (picked r i) j 0)) d) i ≡ any_below (λ j. r (literal j (get_or (picked r (suc i)) j 0)) d) i
        before = any_same _ _ i (λ j l. ap (λ (x : ℕ). r (literal j x) d) (picked_kept r (suc i) i j (omega arith) l))

    list : set a i v ≡ over (picked r (i + 1)) a₀
    list = rw (add-one, s.list, is) (over_push (picked r i) a₀ i (bit (must r (picked r i) i)) (picked_length r i) (omega arith))

-- ---- both ways

pub seeking_start : (r : ℕ → ℕ → Bool) (n : ℕ) → Seeking r n 0
unfolding first_contradictory
seeking_start r n = record { within = omega arith; none = refl }

pub seeking_turn : {r : ℕ → ℕ → Bool} {n i : ℕ} → i < n → Seeking r n i → contradicts r i ≡ false → Seeking r n (i + 1)
seeking_turn {r} {n} {i} h s b = record { within = omega arith; none = rw add-one (first_not r i s.none b) }

pub seeking_found : {r : ℕ → ℕ → Bool} {n i : ℕ} → i < n → Seeking r n i → contradicts r i ≡ true → i ≡ first_contradictory r n
seeking_found {r} {n} {i} h s b = let e = first_here r i s.none b in sym (first_stays r (suc i) n (omega arith) (omega arith) ∙ e)

-- ---- counts

pub counts_length : (r : ℕ → ℕ → Bool) (m k : ℕ) → length (counts_to r m k) ≡ k
unfolding counts_to
counts_length r m zero = refl
counts_length r m (suc k) = omega (arith, length-append (counts_to r m k) (count_below (r k) m ∷ []), counts_length r m k)

pub numbering_start : (r : ℕ → ℕ → Bool) (m : ℕ) (c : List ℕ) → Numbering r m c 0 c
unfolding counts_to over
numbering_start r m c = record { within = omega arith; as_long = refl; list = refl }

pub numbering_turn : {r : ℕ → ℕ → Bool} {m a x : ℕ} {c₀ c : List ℕ} → a < m → m ≤ length c₀ → Numbering r m c₀ a c → x ≡ count_below (r a) 2048 → Numbering r m c₀ (a + 1) (set c a x)
unfolding counts_to
numbering_turn {r} {m} {a} {x} {c₀} {c} h room s e = record {
  within = omega arith;
  as_long = length-set c a x ∙ s.as_long;
  list = rw (add-one, s.list, e) (over_push (counts_to r 2048 a) c₀ a (count_below (r a) 2048) (counts_length r 2048 a) (omega arith));
}

-- ---- tests, as the code has them

-- the choice as a number
pub wants_number : (w : List ℕ) (n i : ℕ) {v : Bool} {k : ℕ} → v ≡ wants w n i → k ≡ from_bool v → (k ≡ bit (wants w n i)) × (k < 2)
wants_number w n i e q = let z = q ∙ ap from_bool e ∙ told (wants w n i) in (z, omega (arith, z, two (wants w n i)))
  where
    told : (b : Bool) → from_bool b ≡ bit b
    told true = refl
    told false = refl

    two : (b : Bool) → bit b < 2
    two true = omega arith
    two false = omega arith

pub both_yes : (r : ℕ → ℕ → Bool) (i : ℕ) {h k : Bool} → h ≡ r (literal i 0) (literal i 1) → h ≡ true → k ≡ r (literal i 1) (literal i 0) → k ≡ contradicts r i
unfolding contradicts
both_yes r i p q s = let e : r (literal i 0) (literal i 1) ≡ true = sym p ∙ q in rw e s

pub both_not : (r : ℕ → ℕ → Bool) (i : ℕ) {h : Bool} → h ≡ r (literal i 0) (literal i 1) → h ≡ false → false ≡ contradicts r i
unfolding contradicts
both_not r i p q = let e : r (literal i 0) (literal i 1) ≡ false = sym p ∙ q in rw e refl

pub wants_own : (w : List ℕ) (n i : ℕ) {h : Bool} → h ≡ bit_in w (literal i 0) (literal i 1) → h ≡ true → h ≡ wants w n i
unfolding wants
wants_own w n i p q = let e : bit_in w (literal i 0) (literal i 1) ≡ true = sym p ∙ q in rw e q

pub wants_last : (w : List ℕ) (n i : ℕ) {h k : Bool} → h ≡ bit_in w (literal i 0) (literal i 1) → h ≡ false → k ≡ bit_in w (2 * n) (literal i 1) → k ≡ wants w n i
unfolding wants
wants_last w n i p q s = let e : bit_in w (literal i 0) (literal i 1) ≡ false = sym p ∙ q in rw e s
