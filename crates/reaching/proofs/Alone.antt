-- With one literal given alone, propagation holds just what it reaches, and clashes exactly if it reaches its other value. Assumes nothing.
use mathlib.Core.Path.{◌≡◌, refl, sym, ap, ◌∙◌}
use mathlib.Core.Logic.{⊎_elim, ◌↔◌}
use mathlib.Core.Bool.{Bool, true, false}
use mathlib.Core.List.{List}
use Prim.Native.Nat.{ℕ, zero, suc, ◌+◌, ◌*◌, ◌-◌, ◌<◌, ◌≤◌}
use native.Mathlib.Numerals.{add-one}
use native.Mathlib.Omega.{arith}
use native.Mathlib.Decide.{ℕ_discrete}
use lib.ListN.{length, get_or}
use Rattle.meaning.specs.Free.{is_free, frees}
use Rattle.meaning.specs.Literal.{Implication, Holds, given, follows, BothWays, Settled}
use Rattle.meaning.proofs.Literal.{Fits}
use Rattle.meaning.proofs.Values.{zero_or_one}
use Rattle.reaching.specs.Reach.{Reach, here, onward, Alone}
use Rattle.reaching.specs.Via.{literal, bit, reaches, count_below}
use Rattle.reaching.proofs.Truth.{true_or_false}
use Rattle.reaching.proofs.Reach.{reach_trans, reach_small, Turns, reach_turned}
use Rattle.reaching.proofs.Via.{reaches_exactly}
use Rattle.reaching.proofs.Counts.{frees_count}

module _ {E : List Implication} {n i v : ℕ} {s : List ℕ} (fits : Fits n E) (g : Alone n i v s) where
  pub holds_reach : {j w : ℕ} → Holds E s j w → Reach E i v j w
  holds_reach {j} {w} (given l small e) = go (ℕ_discrete j i)
    where
      go : Dec (j ≡ i) → Reach E i v j w
      go (yes p) = let q : w ≡ v = sym e ∙ ap (λ (k : ℕ). get_or s k 0) p ∙ g.value in rw (p, q) here
      go (no p) = absurd (omega (arith, g.free j (omega (arith, g.as_long)) p))
  holds_reach (follows m h) = onward m (holds_reach h)

  pub reach_holds : {j w : ℕ} → Reach E i v j w → Holds E s j w
  reach_holds here = given {i = i} (omega (arith, g.as_long, g.below)) g.small g.value
  reach_holds (onward m q) = follows m (reach_holds q)

  -- a clash exactly if the literal reaches its other value
  pub clash_exactly : Turns E → BothWays E s ↔ Reach E i v i (1 - v)
  clash_exactly turns = (
    λ b. reach_trans (holds_reach b.one) (reach_turned fits turns g.small (holds_reach b.zero)),
    λ r. ⊎_elim
        (λ z. record { at = i; zero = rw z at (reach_holds here); one = rw z at (reach_holds r) })
        (λ z. record { at = i; zero = rw z at (reach_holds r); one = rw z at (reach_holds here) })
        (zero_or_one g.small),
  )

  -- otherwise as many values stand as the literal reaches literals
  module _ {t : List ℕ} (h : Settled E s t) where
    abbrev r : ℕ → Bool
    r = reaches E n (literal i v)

    long : length t ≡ n
    long = h.as_long ∙ g.as_long

    -- the value of a reached literal stands
    stands : (j w : ℕ) → w < 2 → r (literal j w) ≡ true → get_or t j 0 ≡ w
    stands j w l e = h.has j w (reach_holds ((reaches_exactly fits i v j w g.small l).0 e))

    absent : (j w : ℕ) → w < 2 → (get_or t j 0 ≡ w → ⊥) → r (literal j w) ≡ false
    absent j w l d = ⊎_elim (λ e. absurd (d (stands j w l e))) (λ e. e) (true_or_false (r (literal j w)))

    -- one of three: it is free, or one of its two literals is reached
    one_of : (j : ℕ) → j < n → bit (r (literal j 0)) + bit (r (literal j 1)) + bit (is_free t j) ≡ 1
    one_of j l = ⊎_elim at_free at_held (h.only j (omega (arith, long)))
      where
        at_free : get_or t j 0 ≡ 2 → bit (r (literal j 0)) + bit (r (literal j 1)) + bit (is_free t j) ≡ 1
        at_free e = rw (absent j 0 (omega arith) (λ z. omega arith), absent j 1 (omega arith) (λ z. omega arith), e) refl

        at_held : Holds E s j (get_or t j 0) → bit (r (literal j 0)) + bit (r (literal j 1)) + bit (is_free t j) ≡ 1
        at_held q = ⊎_elim at_zero at_one (zero_or_one (reach_small fits g.small p))
          where
            p : Reach E i v j (get_or t j 0)
            p = holds_reach q

            reached : (w : ℕ) → w < 2 → get_or t j 0 ≡ w → r (literal j w) ≡ true
            reached w k e = (reaches_exactly fits i v j w g.small k).1 (rw e at p)

            at_zero : get_or t j 0 ≡ 0 → bit (r (literal j 0)) + bit (r (literal j 1)) + bit (is_free t j) ≡ 1
            at_zero e = rw (reached 0 (omega arith) e, absent j 1 (omega arith) (λ z. omega arith), e) refl

            at_one : get_or t j 0 ≡ 1 → bit (r (literal j 0)) + bit (r (literal j 1)) + bit (is_free t j) ≡ 1
            at_one e = rw (absent j 0 (omega arith) (λ z. omega arith), reached 1 (omega arith) e, e) refl

    below : (k : ℕ) → k ≤ n → count_below r (2 * k) + count_below (is_free t) k ≡ k
    unfolding count_below
    below zero l = refl
    below (suc k) l =
        let d : 2 * suc k ≡ suc (suc (2 * k)) = omega arith in
        let z : 2 * k + 0 ≡ 2 * k = omega arith in
        let a : bit (r (2 * k)) + bit (r (suc (2 * k))) + bit (is_free t k) ≡ 1 = rw (add-one, z) at (one_of k (omega arith)) in
        rw d (omega (arith, below k (omega arith), a))

    pub settled_count : count_below r (2 * n) + frees t ≡ n
    settled_count = rw (frees_count t, long) (below n (omega arith))
