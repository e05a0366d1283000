-- The numbers that pass a test: each passes, they rise, each that passes stands where its number of predecessors says, a sum over them is a sum over all,
-- and how a list closes up to what stood at them. Assumes nothing.
use Prim.Native.Nat.{ℕ, zero, suc, ◌<◌, ◌≤◌}
use mathlib.Core.Path.{◌≡◌, refl, sym, ap, ◌∙◌}
use mathlib.Core.Bool.{Bool, true, false, cond}
use mathlib.Core.List.{List, [], ◌∷◌, ◌++◌, map, map-append}
use native.Mathlib.Decide.{ℕ_discrete, dec_lt}
use native.Mathlib.Omega.{arith}
use lib.ListN.{length, get_or, set, length-append, length-map, get_or-append}
use lib.Seq.{get_or-append_seam}
use Rattle.whole.specs.Whole.{Whole, ◌⊕◌, only, sum, ◌≈◌}
use Rattle.whole.proofs.Sums.{sum_same}
use Rattle.scratch.specs.Over.{over}
use Rattle.scratch.proofs.Over.{length_over, over_past, over_push}
use Rattle.shift.specs.Picked.{picked}

-- ---- a list with one element more

module _ (s : List ℕ) (x : ℕ) where
  pub one_longer : length (s ++ x ∷ []) ≡ suc (length s)
  one_longer = length-append s (x ∷ []) ∙ omega arith

  pub last_or_before : (P : ℕ → ℕ → Type 0) → ((t : ℕ) → t < length s → P t (get_or s t 0)) → P (length s) x → (t : ℕ) → t < length (s ++ x ∷ []) → P t (get_or (s ++ x ∷ []) t 0)
  last_or_before P h last t l = elim (ℕ_discrete t (length s)) [
    | yes e ↦ rw (e, get_or-append_seam s x [] 0) last
    | no n ↦ rw (get_or-append s (x ∷ []) 0 t (omega (arith, one_longer))) (h t (omega (arith, one_longer)))
  ]

-- a sum over it
pub sum_more : (g : ℕ → Whole) (s : List ℕ) (k : ℕ) → sum (length (s ++ k ∷ [])) (λ t. g (get_or (s ++ k ∷ []) t 0)) ≈ sum (length s) (λ t. g (get_or s t 0)) ⊕ g k
unfolding sum
sum_more g s k =
    rw (one_longer s k, get_or-append_seam s k [] 0)
    (omega (arith, sum_same (length s) (λ t. g (get_or (s ++ k ∷ []) t 0)) (λ t. g (get_or s t 0)) (λ t h. rw (get_or-append s (k ∷ []) 0 t h) refl)))

pub map_at : {A : Type 0} (g : ℕ → A) (s : List ℕ) (t : ℕ) (d : A) → t < length s → get_or (map g s) t d ≡ g (get_or s t 0)
map_at g [] t d h = absurd (omega arith)
map_at g (x ∷ s) zero d h = refl
map_at g (x ∷ s) (suc t) d h = map_at g s t d (omega arith)

-- ---- those that pass

module _ (p : ℕ → Bool) where
  pub picked_few : (n : ℕ) → length (picked p n) ≤ n
  unfolding picked
  picked_few zero = omega arith
  picked_few (suc n) = by (p n) (picked_few n)
    where
      by : (b : Bool) → length (picked p n) ≤ n → length (cond b (picked p n ++ n ∷ []) (picked p n)) ≤ suc n
      by true h = omega (arith, one_longer (picked p n) n)
      by false h = omega arith

  pub picked_more : (n : ℕ) → p n ≡ true → picked p (suc n) ≡ picked p n ++ n ∷ []
  unfolding picked
  picked_more n e = rw e

  pub picked_same : (n : ℕ) → p n ≡ false → picked p (suc n) ≡ picked p n
  unfolding picked
  picked_same n e = rw e

  -- each is below n and passes
  pub picked_at : (n t : ℕ) → t < length (picked p n) → (get_or (picked p n) t 0 < n) × (p (get_or (picked p n) t 0) ≡ true)
  unfolding picked
  picked_at zero t h = absurd (omega arith)
  picked_at (suc n) t h = by (p n) refl (λ j l. let r = picked_at n j l in (omega (arith, r.0), r.1)) t h
    where
      by : (b : Bool) → p n ≡ b → ((t : ℕ) → t < length (picked p n) → (get_or (picked p n) t 0 < suc n) × (p (get_or (picked p n) t 0) ≡ true))
          → (t : ℕ) → t < length (cond b (picked p n ++ n ∷ []) (picked p n))
          → (get_or (cond b (picked p n ++ n ∷ []) (picked p n)) t 0 < suc n) × (p (get_or (cond b (picked p n ++ n ∷ []) (picked p n)) t 0) ≡ true)
      by true e h = last_or_before (picked p n) n (λ t i. (i < suc n) × (p i ≡ true)) h (omega arith, e)
      by false e h = h

  -- it stands where its number of predecessors says
  pub picked_index : (n t : ℕ) → t < length (picked p n) → length (picked p (get_or (picked p n) t 0)) ≡ t
  unfolding picked
  picked_index zero t h = absurd (omega arith)
  picked_index (suc n) t h = by (p n) (picked_index n) t h
    where
      by : (b : Bool) → ((t : ℕ) → t < length (picked p n) → length (picked p (get_or (picked p n) t 0)) ≡ t)
          → (t : ℕ) → t < length (cond b (picked p n ++ n ∷ []) (picked p n)) → length (picked p (get_or (cond b (picked p n ++ n ∷ []) (picked p n)) t 0)) ≡ t
      by true h = last_or_before (picked p n) n (λ t i. length (picked p i) ≡ t) h refl
      by false h = h

  -- and so does each that passes
  pub picked_has : (n i : ℕ) → p i ≡ true → i < n → (length (picked p i) < length (picked p n)) × (get_or (picked p n) (length (picked p i)) 0 ≡ i)
  picked_has zero i e h = absurd (omega arith)
  picked_has (suc n) i e h = elim (ℕ_discrete i n) [
    | yes z ↦ rw (z, picked_more n (rw z at e)) (omega (arith, one_longer (picked p n) n), get_or-append_seam (picked p n) n [] 0)
    | no d ↦ by (p n) refl (picked_has n i e (omega arith))
  ]
    where
      by : (b : Bool) → p n ≡ b → (length (picked p i) < length (picked p n)) × (get_or (picked p n) (length (picked p i)) 0 ≡ i)
          → (length (picked p i) < length (picked p (suc n))) × (get_or (picked p (suc n)) (length (picked p i)) 0 ≡ i)
      by true f r = rw (picked_more n f) (omega (arith, one_longer (picked p n) n, r.0), get_or-append (picked p n) (n ∷ []) 0 (length (picked p i)) r.0 ∙ r.1)
      by false f r = rw (picked_same n f) r

  -- fewer stand before a smaller one
  pub picked_below : (i j : ℕ) → p i ≡ true → i < j → length (picked p i) < length (picked p j)
  picked_below i j e h = (picked_has j i e h).0

  -- they rise
  pub picked_rises : (n a b : ℕ) → a < b → b < length (picked p n) → get_or (picked p n) a 0 < get_or (picked p n) b 0
  picked_rises n a b l h =
      let x = picked_at n a (omega arith) in
      let y = picked_at n b h in
      let u = picked_index n a (omega arith) in
      let v = picked_index n b h in
      elim (dec_lt (get_or (picked p n) a 0) (get_or (picked p n) b 0)) [
        | yes w ↦ w
        | no w ↦ elim (ℕ_discrete (get_or (picked p n) a 0) (get_or (picked p n) b 0)) [
          | yes z ↦ absurd (omega (arith, ap (λ (i : ℕ). length (picked p i)) z))
          | no z ↦ absurd (omega (arith, picked_below (get_or (picked p n) b 0) (get_or (picked p n) a 0) y.1 (omega arith)))
        ]
      ]

  -- a sum over them is a sum over all
  pub picked_sum : (g : ℕ → Whole) (n : ℕ) → sum (length (picked p n)) (λ t. g (get_or (picked p n) t 0)) ≈ sum n (λ i. only (p i) (g i))
  unfolding picked sum
  picked_sum g zero = omega arith
  picked_sum g (suc n) = by (p n) (picked_sum g n)
    where
      by : (b : Bool) → sum (length (picked p n)) (λ t. g (get_or (picked p n) t 0)) ≈ sum n (λ i. only (p i) (g i))
          → sum (length (cond b (picked p n ++ n ∷ []) (picked p n))) (λ t. g (get_or (cond b (picked p n ++ n ∷ []) (picked p n)) t 0)) ≈ sum n (λ i. only (p i) (g i)) ⊕ only b (g n)
      by true h = omega (arith, h, sum_more g (picked p n) n)
      by false h = omega (arith, h)

  -- ---- a list that closes up: at its front, of the first k places, what g gives of those that pass

  module _ {A : Type 0} (g : ℕ → A) (old : List A) (k : ℕ) where
    -- it is as long as it was,
    pub picked_long : k ≤ length old → length (over (map g (picked p k)) old) ≡ length old
    picked_long h = length_over (map g (picked p k)) old (omega (arith, length-map (picked p k) g, picked_few k))

    -- place k is as it was,
    pub picked_past : (d : A) → get_or (over (map g (picked p k)) old) k d ≡ get_or old k d
    picked_past d = over_past (map g (picked p k)) old k d (omega (arith, length-map (picked p k) g, picked_few k))

    -- and what g gives of k goes behind the others.
    pub picked_push : k < length old → set (over (map g (picked p k)) old) (length (picked p k)) (g k) ≡ over (map g (picked p k ++ k ∷ [])) old
    picked_push h =
        over_push (map g (picked p k)) old (length (picked p k)) (g k) (length-map (picked p k) g) (omega (arith, picked_few k))
        ∙ ap (λ (t : List A). over t old) (sym (map-append g (picked p k) (k ∷ [])))
