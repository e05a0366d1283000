-- Any two results that `build` may leave are equal lists. Assumes nothing.
use mathlib.Core.Path.{◌≡◌, sym, ap, ◌∙◌}
use mathlib.Core.List.{List}
use Prim.Native.Nat.{ℕ, zero, suc, ◌+◌, ◌-◌, ◌<◌, ◌≤◌}
use native.Mathlib.Nat.{le_refl}
use native.Mathlib.Decide.{dec_lt}
use native.Mathlib.Omega.{arith}
use lib.ListN.{length, get_or}
use lib.Seq.{get_or-drop, ext_get_or}
use Rattle.places.specs.Places.{Built, total, start, places, word_of}
use Rattle.places.proofs.Walk.{part_ends, word_get}

-- p is in the part of some variable
owner : (rows cols : List ℕ) (n p : ℕ) → p < start rows cols n → (i : ℕ) × (i < n) × (start rows cols i ≤ p) × (p < start rows cols (suc i))
unfolding total
owner rows cols zero p h = absurd (omega arith)
owner rows cols (suc n) p h =
    elim (dec_lt p (start rows cols n)) [
      | yes l ↦ let o = owner rows cols n p l in (o.0, omega (arith, o.1), o.2, o.3)
      | no l ↦ (n, le_refl _, omega arith, h)
    ]

-- Theorem. Any two lists of words that `build` may leave are equal.
pub two_equal : {n : ℕ} {rows cols u₀ u v : List ℕ} → Built n rows cols u₀ u → Built n rows cols u₀ v → u ≡ v
two_equal {n} {rows} {cols} {u₀} {u} {v} U W = ext_get_or 0 u v (U.long ∙ sym W.long) at
  where
    flat : (p : ℕ) → p < start rows cols n → get_or u (n + 1 + p) 0 ≡ get_or v (n + 1 + p) 0
    flat p h =
        let o = owner rows cols n p h in
        let a = part_ends U.adjacent o.1 in
        let b = part_ends W.adjacent o.1 in
        word_get U.adjacent o.1 (omega (arith, o.2, a)) (omega (arith, o.3, a))
        ∙ ap (λ (x : ℕ). word_of rows cols o.0 (get_or (places rows cols o.0) (p - x) 0)) (a.0 ∙ sym b.0)
        ∙ sym (word_get W.adjacent o.1 (omega (arith, o.2, b)) (omega (arith, o.3, b)))

    past : (j : ℕ) → get_or u (n + 1 + start rows cols n + j) 0 ≡ get_or v (n + 1 + start rows cols n + j) 0
    past j =
        sym (get_or-drop (n + 1 + start rows cols n) u j 0)
        ∙ ap (λ (t : List ℕ). get_or t j 0) (U.rest ∙ sym W.rest)
        ∙ get_or-drop (n + 1 + start rows cols n) v j 0

    at : (q : ℕ) → q < length u → get_or u q 0 ≡ get_or v q 0
    at q h =
        elim (dec_lt n q) [
          | no a ↦ U.adjacent.offset q (omega arith) ∙ sym (W.adjacent.offset q (omega arith))
          | yes a ↦ elim (dec_lt q (n + 1 + start rows cols n)) [
            | yes b ↦ (let e : n + 1 + (q - (n + 1)) ≡ q = omega arith in rw e at (flat (q - (n + 1)) (omega arith)))
            | no b ↦ (let e : n + 1 + start rows cols n + (q - (n + 1 + start rows cols n)) ≡ q = omega arith in rw e at (past (q - (n + 1 + start rows cols n))))
          ]
        ]
