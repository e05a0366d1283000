-- A bit set, and one row joined to another, as bits. Assumes nothing.
use mathlib.Core.Path.{◌≡◌, refl, sym, ap, ◌∙◌}
use mathlib.Core.Logic.{◌≢◌, ◌⊎◌, inl, inr, ⊎_elim}
use mathlib.Core.Bool.{Bool, true, false, cond, ◌&&◌, ◌||◌, or-false}
use mathlib.Core.List.{List}
use Prim.Native.Nat.{ℕ, ◌+◌, ◌*◌, ◌/◌, ◌%◌, ◌^◌, ◌<◌, ◌≤◌}
use native.Mathlib.Omega.{arith}
use native.Mathlib.Decide.{ℕ_discrete}
use lib.Bits.{bit_or}
use lib.ListN.{length, get_or, set, length-set}
use lib.Seq.{get_or-set_same, get_or-set_other}
use lib.Dec.{eqb, ltb, leb}
use borrow.Author.Tests.{eqb-true, eqb-false, eq-eqb, ltb-true, ltb-false, leb-true, leb-false}
use Rattle.scratch.proofs.All.{both}
use Rattle.reaching.proofs.Truth.{and_true, same_test, true_or_false}
use Rattle.bit_rows.specs.Rows.{digit, word_of, bit_in, Holding, marked, joined, Joining}
use Rattle.bit_rows.proofs.Bits.{or_digit, pow_digit}

-- ---- one bit more

pub mark_bits : (w : List ℕ) (a b : ℕ) → b < 2048 → word_of a b < length w → Holding (marked (bit_in w) a b) w (set w (word_of a b) (bit_or (get_or w (word_of a b) 0) (2 ^ (b % 64))))
unfolding bit_in marked
mark_bits w a b hb h = record { long = length-set w (word_of a b) _; bits = bits }
  where
    v : ℕ
    v = bit_or (get_or w (word_of a b) 0) (2 ^ (b % 64))

    bits : (c d : ℕ) → d < 2048 → bit_in (set w (word_of a b) v) c d ≡ (bit_in w c d || (eqb a c && eqb b d))
    bits c d hd = go (ℕ_discrete (word_of c d) (word_of a b))
      where
        other : word_of c d ≢ word_of a b → (eqb a c && eqb b d) ≡ false
        other n = ⊎_elim (λ z. let s = both (eqb a c) (eqb b d) z in let p = eqb-true a c s.0 in let q = eqb-true b d s.1 in absurd (n (rw (p, q) refl))) (λ z. z) (true_or_false (eqb a c && eqb b d))

        go : Dec (word_of c d ≡ word_of a b) → bit_in (set w (word_of a b) v) c d ≡ (bit_in w c d || (eqb a c && eqb b d))
        go (no n) =
            ap (λ (x : ℕ). digit x (d % 64)) (get_or-set_other w (word_of a b) (word_of c d) v 0 n)
            ∙ sym (or-false (bit_in w c d)) ∙ ap (λ (t : Bool). bit_in w c d || t) (sym (other n))
        go (yes e) =
            ap (λ (x : ℕ). digit x (d % 64)) (rw e (get_or-set_same w (word_of a b) v 0 h))
            ∙ or_digit (get_or w (word_of a b) 0) (2 ^ (b % 64)) (d % 64)
            ∙ ap (λ (t : Bool). digit (get_or w (word_of a b) 0) (d % 64) || t) (pow_digit (b % 64) (d % 64) ∙ same)
            ∙ ap (λ (x : ℕ). digit (get_or w x 0) (d % 64) || (eqb a c && eqb b d)) (sym e)
          where
            same : eqb (b % 64) (d % 64) ≡ (eqb a c && eqb b d)
            same =
                same_test (eqb (b % 64) (d % 64)) (eqb a c && eqb b d)
                (λ z. let f = eqb-true (b % 64) (d % 64) z in and_true (eq-eqb a c (omega arith)) (eq-eqb b d (omega arith)))
                (λ z. let f = both (eqb a c) (eqb b d) z in let q = eqb-true b d f.1 in eq-eqb (b % 64) (d % 64) (omega arith))

-- ---- one row joined to another

module _ {a k : ℕ} {w₀ : List ℕ} {i : ℕ} {w : List ℕ} (j : Joining a k w₀ i w) where
  -- the words that a turn reads are still those of the start
  own : get_or w (a * 32 + i) 0 ≡ get_or w₀ (a * 32 + i) 0
  own = j.rest (a * 32 + i) (inr (omega arith))

  its : i < 32 → get_or w (k * 32 + i) 0 ≡ get_or w₀ (k * 32 + i) 0
  its l = ⊎_elim (λ z. j.rest (k * 32 + i) (inl (omega arith))) (λ z. j.rest (k * 32 + i) (inr (omega arith))) (either k a)
    where
      either : (k a : ℕ) → (k < a) ⊎ (a ≤ k)
      either k a = ⊎_elim (λ z. inr (leb-true a k z)) (λ z. inl (leb-false a k z)) (true_or_false (leb a k))

  pub join_turn : i < 32 → a * 32 + 32 ≤ length w₀ → Joining a k w₀ (i + 1) (set w (a * 32 + i) (bit_or (get_or w (a * 32 + i) 0) (get_or w (k * 32 + i) 0)))
  join_turn l room =
      record {
        within = omega arith;
        long = length-set w (a * 32 + i) _ ∙ j.long;
        done = done;
        rest = λ p h. get_or-set_other w (a * 32 + i) p _ 0 (λ e. ⊎_elim (λ z. omega arith) (λ z. omega arith) h) ∙ j.rest p (⊎_elim inl (λ z. inr (omega arith)) h);
      }
    where
      v : ℕ
      v = bit_or (get_or w (a * 32 + i) 0) (get_or w (k * 32 + i) 0)

      done : (t : ℕ) → t < i + 1 → get_or (set w (a * 32 + i) v) (a * 32 + t) 0 ≡ bit_or (get_or w₀ (a * 32 + t) 0) (get_or w₀ (k * 32 + t) 0)
      done t h = go (ℕ_discrete t i)
        where
          go : Dec (t ≡ i) → get_or (set w (a * 32 + i) v) (a * 32 + t) 0 ≡ bit_or (get_or w₀ (a * 32 + t) 0) (get_or w₀ (k * 32 + t) 0)
          go (yes e) = rw e (get_or-set_same w (a * 32 + i) v 0 (omega (arith, j.long)) ∙ rw (own, its l) refl)
          go (no n) = get_or-set_other w (a * 32 + i) (a * 32 + t) v 0 (λ e. n (omega arith)) ∙ j.done t (omega arith)

pub join_done : {a k : ℕ} {w₀ : List ℕ} {i : ℕ} {w : List ℕ} → Joining a k w₀ i w → 32 ≤ i → Holding (joined (bit_in w₀) a k) w₀ w
unfolding bit_in joined
join_done {a} {k} {w₀} {i} {w} j full = record { long = j.long; bits = λ c d h. go c d h (eqb c a) refl }
  where
    go : (c d : ℕ) → d < 2048 → (s : Bool) → eqb c a ≡ s → bit_in w c d ≡ cond s (bit_in w₀ a d || bit_in w₀ k d) (bit_in w₀ c d)
    go c d h true p =
        let e = eqb-true c a p in
        rw e (ap (λ (x : ℕ). digit x (d % 64)) (j.done (d / 64) (omega (arith, j.within))) ∙ or_digit (get_or w₀ (word_of a d) 0) (get_or w₀ (word_of k d) 0) (d % 64))
    go c d h false p = ap (λ (x : ℕ). digit x (d % 64)) (j.rest (word_of c d) (⊎_elim (λ z. inl (omega (arith, j.within))) (λ z. inr (omega (arith, j.within))) apart))
      where
        apart : (c < a) ⊎ (a < c)
        apart = ⊎_elim (λ z. inr (ltb-true a c z)) (λ z. let l = ltb-false a c z in let n = eqb-false c a p in inl (less c a l n)) (true_or_false (ltb a c))
          where
            less : (c a : ℕ) → c ≤ a → (c ≡ a → ⊥) → c < a
            less c a l n = ⊎_elim (λ z. ltb-true c a z) (λ z. let m = ltb-false c a z in absurd (n (omega arith))) (true_or_false (ltb c a))
