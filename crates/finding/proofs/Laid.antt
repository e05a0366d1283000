-- A list is kept, and the values of its variables are laid into the words. Assumes nothing.
use Prim.Native.Nat.{ℕ, zero, suc, ◌+◌, ◌-◌, ◌<◌, ◌≤◌}
use mathlib.Core.Path.{◌≡◌, refl, sym, ap, ◌∙◌}
use mathlib.Core.Logic.{◌≢◌, ◌⊎◌, inl, inr}
use mathlib.Core.List.{List, ◌++◌}
use native.Mathlib.Nat.{le_refl}
use native.Mathlib.Numerals.{add-one}
use native.Mathlib.Decide.{ℕ_discrete}
use native.Mathlib.Omega.{arith}
use lib.ListN.{length, get_or, set, take, drop, length-set}
use lib.Seq.{paste, take-take, get_or-set_same, get_or-set_other}
use Rattle.scratch.specs.Region.{region}
use Rattle.finding.specs.Emit.{lay_to, Layable}

-- ---- the list is kept

-- a copy within the words is the list pasted
pub kept_copy : (u : List ℕ) (from count kept : ℕ) {u' : List ℕ} → u' ≡ paste u kept (drop from u) (from + count - from) → u' ≡ paste u kept (region from count u) count
unfolding region
kept_copy u from count kept e =
    let n : from + count - from ≡ count = omega arith in
    rw n at e ∙ ap (λ (l : List ℕ). take kept u ++ l ++ drop (kept + count) u) (sym (take-take count count (drop from u) (le_refl count)))

-- ---- the values are laid

module _ {l u : List ℕ} {from count first : ℕ} (L : Layable l u from count first) where
  pub lay_long : (k : ℕ) → length (lay_to l from first u k) ≡ length u
  unfolding lay_to
  lay_long zero = refl
  lay_long (suc k) = length-set (lay_to l from first u k) _ _ ∙ lay_long k

  -- all other words are what they were
  pub lay_others : (k : ℕ) → k ≤ count → (p : ℕ) → ((j : ℕ) → j < length l → p ≢ first + j) → get_or (lay_to l from first u k) p 0 ≡ get_or u p 0
  unfolding lay_to
  lay_others zero h p apart = refl
  lay_others (suc k) h p apart =
      let w = lay_to l from first u k in
      let e = lay_others k (omega arith) (from + k) (λ j b z. absurd (omega (arith, L.list_low))) in
      get_or-set_other w (first + get_or w (from + k) 0) p _ 0 (apart (get_or w (from + k) 0) (rw e (L.below k (omega arith)))) ∙ lay_others k (omega arith) p apart

  pub lay_list : (k : ℕ) → k ≤ count → (p : ℕ) → get_or (lay_to l from first u k) (from + p) 0 ≡ get_or u (from + p) 0
  lay_list k h p = lay_others k h (from + p) (λ j b z. absurd (omega (arith, L.list_low)))

  lay_next : (k : ℕ) → k < count → lay_to l from first u (suc k) ≡ set (lay_to l from first u k) (first + get_or u (from + k) 0) (get_or l (get_or u (from + k) 0) 0)
  unfolding lay_to
  lay_next k h = rw (lay_list k (omega arith) k)

  -- the word of j holds its value if it stands in the list, and what it held if not
  pub lay_at : (k : ℕ) → k ≤ count → (j : ℕ) → j < length l
      → (((p : ℕ) × ((p < k) × (get_or u (from + p) 0 ≡ j))) × (get_or (lay_to l from first u k) (first + j) 0 ≡ get_or l j 0))
      ⊎ (((p : ℕ) → p < k → get_or u (from + p) 0 ≢ j) × (get_or (lay_to l from first u k) (first + j) 0 ≡ get_or u (first + j) 0))
  unfolding lay_to
  lay_at zero h j b = inr ((λ p q e. absurd (omega arith)), refl)
  lay_at (suc k) h j b = elim (ℕ_discrete (get_or u (from + k) 0) j) [
    | yes e ↦ inl ((k, (omega arith, e)), same e)
    | no ne ↦ elim (lay_at k (omega arith) j b) [
      | inl x ↦ inl ((x.0.0, (omega (arith, x.0.1.0), x.0.1.1)), other ne ∙ x.1)
      | inr x ↦ inr ((λ p q. before ne x.0 p q), other ne ∙ x.1)
    ]
  ]
    where
      next : get_or (lay_to l from first u (suc k)) (first + j) 0 ≡ get_or (set (lay_to l from first u k) (first + get_or u (from + k) 0) (get_or l (get_or u (from + k) 0) 0)) (first + j) 0
      next = ap (λ (z : List ℕ). get_or z (first + j) 0) (lay_next k (omega arith))

      same : get_or u (from + k) 0 ≡ j → get_or (lay_to l from first u (suc k)) (first + j) 0 ≡ get_or l j 0
      same e = next ∙ rw e (get_or-set_same (lay_to l from first u k) (first + j) (get_or l j 0) 0 (omega (arith, lay_long k, L.list_low, L.list_room)))

      other : get_or u (from + k) 0 ≢ j → get_or (lay_to l from first u (suc k)) (first + j) 0 ≡ get_or (lay_to l from first u k) (first + j) 0
      other ne = next ∙ get_or-set_other (lay_to l from first u k) (first + get_or u (from + k) 0) (first + j) _ 0 (λ z. ne (omega arith))

      before : get_or u (from + k) 0 ≢ j → ((p : ℕ) → p < k → get_or u (from + p) 0 ≢ j) → (p : ℕ) → p < suc k → get_or u (from + p) 0 ≢ j
      before ne x p q = elim (ℕ_discrete p k) [ yes e ↦ rw e ne | no d ↦ x p (omega arith) ]

-- ---- the loop

pub record Laying (l : List ℕ) (from count first : ℕ) (u₀ u : List ℕ) (k : ℕ) : Type 0 where
  pub asks : Layable l u₀ from count first
  pub within : k ≤ count
  pub is : u ≡ lay_to l from first u₀ k

pub laying_start : {l u : List ℕ} {from count first : ℕ} → Layable l u from count first → Laying l from count first u u 0
unfolding lay_to
laying_start L = record { asks = L; within = omega arith; is = refl }

module _ {l u₀ u : List ℕ} {from count first k : ℕ} (L : Laying l from count first u₀ u k) where
  pub laying_long : length u ≡ length u₀
  laying_long = ap length L.is ∙ lay_long L.asks k

  pub laying_read : k < count → from + k < length u
  laying_read h = omega (arith, L.asks.list_room, laying_long)

  module _ (h : k < count) {j : ℕ} (e : j ≡ get_or u (from + k) 0) where
    pub laying_inside : j < length l
    laying_inside = rw (e ∙ ap (λ (z : List ℕ). get_or z (from + k) 0) L.is ∙ lay_list L.asks k L.within k) (L.asks.below k h)

    pub laying_write : first + j < length u
    laying_write = omega (arith, laying_inside, laying_long, L.asks.list_low, L.asks.list_room)

    pub laying_turn : {x : ℕ} → x ≡ get_or l j 0 → Laying l from count first u₀ (set u (first + j) x) (k + 1)
    unfolding lay_to
    laying_turn q = record { asks = L.asks; within = omega arith; is = rw (q, e, L.is, add-one k) refl }

  pub laying_done : count ≤ k → u ≡ lay_to l from first u₀ count
  laying_done h = let z : k ≡ count = omega (arith, L.within) in rw z at L.is
