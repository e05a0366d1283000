-- WARSHALL: after 2n stages the closure holds exactly where one literal reaches the other. Assumes nothing.
use mathlib.Core.Path.{◌≡◌, refl}
use mathlib.Core.Logic.{◌⊎◌, inl, inr, ⊎_elim, ◌↔◌}
use mathlib.Core.Bool.{Bool, true, ◌&&◌}
use mathlib.Core.List.Memᴰ
use mathlib.Core.List.{List, [], ◌∷◌, Memᴰ}
use Prim.Native.Nat.{ℕ, zero, suc, ◌*◌, ◌/◌, ◌%◌, ◌<◌, ◌≤◌}
use native.Mathlib.Omega.{arith}
use lib.Dec.{eqb}
use borrow.Author.Tests.{eqb-true, eq-eqb}
use Rattle.scratch.proofs.All.{both}
use Rattle.meaning.specs.Literal.{Implication}
use Rattle.meaning.proofs.Literal.{Fits}
use Rattle.meaning.proofs.Values.{below_or_at}
use Rattle.reaching.specs.Reach.{Reach, here, onward}
use Rattle.reaching.specs.Via.{literal, arrow, within, via, reaches}
use Rattle.reaching.proofs.Truth.{not_both, or_left, or_right, or_cases, and_true}
use Rattle.reaching.proofs.Reach.{reach_trans, reach_one, reach_below}

-- ---- the closure of any relation

module _ (r : ℕ → ℕ → Bool) where
  -- directly, or through k
  via_cases : (k a b : ℕ) → via r (suc k) a b ≡ true → (via r k a b ≡ true) ⊎ ((via r k a k ≡ true) × (via r k k b ≡ true))
  unfolding via
  via_cases k a b e = ⊎_elim inl (λ z. inr (both (via r k a k) (via r k k b) z)) (or_cases (via r k a b) (via r k a k && via r k k b) e)

  via_direct : (k a b : ℕ) → via r k a b ≡ true → via r (suc k) a b ≡ true
  unfolding via
  via_direct k a b e = or_left (via r k a k && via r k k b) e

  via_through : (k a b : ℕ) → via r k a k ≡ true → via r k k b ≡ true → via r (suc k) a b ≡ true
  unfolding via
  via_through k a b p q = or_right (via r k a b) (and_true p q)

  via_start : (k a b : ℕ) → r a b ≡ true → via r k a b ≡ true
  unfolding via
  via_start zero a b e = e
  via_start (suc k) a b e = via_direct k a b (via_start k a b e)

  -- stage k changes neither row k nor column k
  pub via_row : (k b : ℕ) → via r (suc k) k b ≡ true → via r k k b ≡ true
  via_row k b e = ⊎_elim (λ z. z) (λ z. z.1) (via_cases k k b e)

  pub via_column : (k a : ℕ) → via r (suc k) a k ≡ true → via r k a k ≡ true
  via_column k a e = ⊎_elim (λ z. z) (λ z. z.0) (via_cases k a k e)

  -- one number below K between, from the same for k
  join_next : (k a m b : ℕ) → m < suc k → ((a b : ℕ) → m < k → via r k a m ≡ true → via r k m b ≡ true → via r k a b ≡ true)
      → via r (suc k) a m ≡ true → via r (suc k) m b ≡ true → via r (suc k) a b ≡ true
  join_next k a m b h ih p q = ⊎_elim below at (below_or_at h)
    where
      at : m ≡ k → via r (suc k) a b ≡ true
      at e = via_through k a b (via_column k a (rw e at p)) (via_row k b (rw e at q))

      below : m < k → via r (suc k) a b ≡ true
      below l =
          ⊎_elim
          (λ d. ⊎_elim (λ f. via_direct k a b (ih a b l d f)) (λ f. via_through k a b (ih a k l d f.0) f.1) (via_cases k m b q))
          (λ d. ⊎_elim (λ f. via_through k a b d.0 (ih k b l d.1 f)) (λ f. via_through k a b d.0 f.1) (via_cases k m b q))
          (via_cases k a m p)

  pub via_join : (K a m b : ℕ) → m < K → via r K a m ≡ true → via r K m b ≡ true → via r K a b ≡ true
  via_join zero a m b h p q = absurd (omega arith)
  via_join (suc k) a m b h p q = join_next k a m b h (λ c d l. via_join k c m d l) p q

-- relations that agree where the closure looks have one closure
pub via_same : (r s : ℕ → ℕ → Bool) (n m : ℕ) → n ≤ m → ((a b : ℕ) → a < n → b < m → r a b ≡ s a b) → (k : ℕ) → k ≤ n → (a b : ℕ) → a < n → b < m → via r k a b ≡ via s k a b
unfolding via
via_same r s n m l h zero hk a b ha hb = h a b ha hb
via_same r s n m l h (suc k) hk a b ha hb =
    rw (via_same r s n m l h k (omega arith) a b ha hb, via_same r s n m l h k (omega arith) a k ha (omega arith), via_same r s n m l h k (omega arith) k b (omega arith) hb) refl

-- ---- of the implications

arrow_at : (E : List Implication) (e : Implication) → Memᴰ e E → arrow E (literal e.from e.when) (literal e.to e.gives) ≡ true
unfolding arrow
arrow_at (d ∷ E) e (Memᴰ.head q) =
    rw (← q) (or_left (arrow E (literal e.from e.when) (literal e.to e.gives)) (and_true (eq-eqb (literal e.from e.when) _ refl) (eq-eqb (literal e.to e.gives) _ refl)))
arrow_at (d ∷ E) e (Memᴰ.tail m) =
    or_right (eqb (literal d.from d.when) (literal e.from e.when) && eqb (literal d.to d.gives) (literal e.to e.gives)) (arrow_at E e m)
arrow_at [] e m = absurd (Memᴰ.not-nil m)

-- the implication that leads from a to b
pub record Led (E : List Implication) (a b : ℕ) : Type 0 where
  pub by : Implication
  pub among : Memᴰ by E
  pub from_a : literal by.from by.when ≡ a
  pub to_b : literal by.to by.gives ≡ b

pub arrow_led : (E : List Implication) (a b : ℕ) → arrow E a b ≡ true → Led E a b
unfolding arrow
arrow_led [] a b h = absurd (not_both h refl)
arrow_led (e ∷ E) a b h = ⊎_elim first (λ z. more (arrow_led E a b z)) (or_cases _ (arrow E a b) h)
  where
    first : (eqb (literal e.from e.when) a && eqb (literal e.to e.gives) b) ≡ true → Led (e ∷ E) a b
    first z = let f = both (eqb (literal e.from e.when) a) (eqb (literal e.to e.gives) b) z in record { by = e; among = Memᴰ.head refl; from_a = eqb-true _ a f.0; to_b = eqb-true _ b f.1 }

    more : Led E a b → Led (e ∷ E) a b
    more l = record { by = l.by; among = Memᴰ.tail l.among; from_a = l.from_a; to_b = l.to_b }

module _ {E : List Implication} {n : ℕ} (fits : Fits n E) where
  -- what is reached is in the closure
  pub reach_via : {i v j w : ℕ} → Reach E i v j w → reaches E n (literal i v) (literal j w) ≡ true
  unfolding within
  reach_via {i} {v} here = via_start (within E) (2 * n) (literal i v) (literal i v) (or_left _ (eq-eqb (literal i v) (literal i v) refl))
  reach_via {i} {v} (onward {e = e} m q) =
      via_join (within E) (2 * n) (literal i v) (literal e.from e.when) (literal e.to e.gives)
      (omega (arith, (fits e m).from, (fits e m).when))
      (reach_via q)
      (via_start (within E) (2 * n) _ _ (or_right (eqb (literal e.from e.when) (literal e.to e.gives)) (arrow_at E e m)))

  -- and what is in it, is reached
  via_reach : (k a b : ℕ) → via (within E) k a b ≡ true → Reach E (a / 2) (a % 2) (b / 2) (b % 2)
  unfolding via within
  via_reach zero a b h = ⊎_elim (λ z. rw (eqb-true a b z) here) (λ z. step (arrow_led E a b z)) (or_cases (eqb a b) (arrow E a b) h)
    where
      step : Led E a b → Reach E (a / 2) (a % 2) (b / 2) (b % 2)
      step l =
          let f = fits l.by l.among in
          let p : a / 2 ≡ l.by.from = omega (arith, l.from_a) in
          let q : a % 2 ≡ l.by.when = omega (arith, l.from_a) in
          let s : b / 2 ≡ l.by.to = omega (arith, l.to_b) in
          let t : b % 2 ≡ l.by.gives = omega (arith, l.to_b) in
          rw (p, q, s, t) (reach_one l.by l.among)
  via_reach (suc k) a b h = ⊎_elim (via_reach k a b) (λ z. reach_trans (via_reach k a k z.0) (via_reach k k b z.1)) (via_cases (within E) k a b h)

  -- exactly, by numbers of literals
  pub reaches_at : (a b : ℕ) → (reaches E n a b ≡ true) ↔ Reach E (a / 2) (a % 2) (b / 2) (b % 2)
  reaches_at a b = (
    via_reach (2 * n) a b,
    λ r. let p : literal (a / 2) (a % 2) ≡ a = omega arith in
        let q : literal (b / 2) (b % 2) ≡ b = omega arith in
        rw (p, q) at (reach_via r),
  )

  -- and by literals
  pub reaches_exactly : (i v j w : ℕ) → v < 2 → w < 2 → (reaches E n (literal i v) (literal j w) ≡ true) ↔ Reach E i v j w
  reaches_exactly i v j w hv hw = (
    λ e. let p : literal i v / 2 ≡ i = omega arith in
        let q : literal i v % 2 ≡ v = omega arith in
        let s : literal j w / 2 ≡ j = omega arith in
        let t : literal j w % 2 ≡ w = omega arith in
        rw (p, q, s, t) at (via_reach (2 * n) (literal i v) (literal j w) e),
    reach_via,
  )

  -- what a literal below 2n reaches is one
  pub reach_within : (a b : ℕ) → a < 2 * n → reaches E n a b ≡ true → b < 2 * n
  reach_within a b h e = omega (arith, reach_below fits {i = a / 2} {v = a % 2} {j = b / 2} {w = b % 2} (omega arith) (via_reach (2 * n) a b e))
