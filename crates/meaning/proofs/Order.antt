-- Any order of steps gives the same closure; further start values keep it. Assumes nothing.
use mathlib.Core.Path.{◌≡◌, sym, ◌∙◌}
use mathlib.Core.Logic.{◌⊎◌, inl, inr, ⊎_elim}
use mathlib.Core.List.{List}
use Prim.Native.Nat.{ℕ, ◌<◌}
use native.Mathlib.Omega.{arith}
use lib.ListN.{get_or, set}
use lib.Seq.{get_or-set_same}
use Rattle.meaning.specs.Steps.{Extends, Agrees, Rule, Steps, stop, step, Closure, Lawful, Single}
use Rattle.meaning.proofs.Values.{inside, after_set, extends_refl, extends_trans, extends_set, free_back, extends_antisym, extends_fixed}

module _ {R : Rule} (law : Lawful R) where
  -- steps extend
  pub steps_extend : {s t : List ℕ} → Steps R s t → Extends s t
  steps_extend {s = s} stop = extends_refl s
  steps_extend (step {s = s} i v free f r) = extends_trans (extends_set s i v free) (steps_extend r)

  -- the value that a step gives stands in the end
  pub step_stands : {s t : List ℕ} (i v : ℕ) → get_or s i 0 ≡ 2 → R s i v → Steps R (set s i v) t → get_or t i 0 ≡ v
  step_stands {s = s} i v free f r =
      let same : get_or (set s i v) i 0 ≡ v = get_or-set_same s i v 0 (inside s i free) in
      let small : v < 2 = law.small f in
      ⊎_elim (λ e. omega arith) (λ e. e ∙ same) ((steps_extend r).kept i)

  -- each value that the steps add is forced by the values in the end
  pub steps_justified : {s t : List ℕ} → Steps R s t → (i : ℕ) → get_or s i 0 ≡ 2 → (get_or t i 0 ≡ 2) ⊎ R t i (get_or t i 0)
  steps_justified stop i h = inl h
  steps_justified (step {s = s} k v free f r) i h =
      ⊎_elim
      (λ e. inr (rw (e.0, step_stands k v free f r) (law.on (extends_trans (extends_set s k v free) (steps_extend r)) f)))
      (λ e. steps_justified r i (e ∙ h))
      (after_set s k v (inside s k free) i)

  -- THE ONE INDUCTION. If T extends s, and obeys what T forces at each place where s is free and the steps end in just that value, T extends their end.
  pub steps_follow : {s t : List ℕ} (T : List ℕ) → Extends s T → ((i v : ℕ) → get_or s i 0 ≡ 2 → get_or t i 0 ≡ v → R T i v → get_or T i 0 ≡ v) → Steps R s t → Extends t T
  steps_follow T p obeys stop = p
  steps_follow T p obeys (step {s = s} i v free f r) =
      steps_follow T
      (extends_fixed p i v free (obeys i v free (step_stands i v free f r) (law.on p f)))
      (λ j w h. obeys j w (free_back (extends_set s i v free) j h))
      r

  module _ (single : Single R) where
    -- a closure obeys what it forces, wherever its start is free
    pub closure_obeys : {s t : List ℕ} → Closure R s t → (i v : ℕ) → get_or s i 0 ≡ 2 → R t i v → get_or t i 0 ≡ v
    closure_obeys c i v h f = ⊎_elim (λ e. absurd (c.closed i v e f)) (λ g. single.one g f) (steps_justified c.reached i h)

    -- PERSISTENCE: further start values that contradict none of the closure's values keep each of them
    pub closure_keeps : {s t s' t' : List ℕ} → Closure R s t → Closure R s' t' → Extends s s' → Agrees s' t → Extends t t'
    closure_keeps {s} {t} {s'} {t'} c c' p agrees =
        steps_follow t' (extends_trans p (steps_extend c'.reached)) obeys c.reached
      where
        obeys : (i v : ℕ) → get_or s i 0 ≡ 2 → get_or t i 0 ≡ v → R t' i v → get_or t' i 0 ≡ v
        obeys i v h e f =
            let small : v < 2 = law.small f in
            ⊎_elim (λ z. omega arith)
            (⊎_elim (λ z. closure_obeys c' i v z f) (λ z. ⊎_elim (λ w. omega arith) (λ w. w ∙ z ∙ e) ((steps_extend c'.reached).kept i)))
            (agrees i)

    -- a start agrees with its own closure
    pub agrees_self : {s t : List ℕ} → Closure R s t → Agrees s t
    agrees_self c i = inr (⊎_elim inl (λ e. inr (sym e)) ((steps_extend c.reached).kept i))

    -- CONFLUENCE: any order of steps gives the same closure
    pub closure_unique : {s t t' : List ℕ} → Closure R s t → Closure R s t' → t ≡ t'
    closure_unique {s = s} c c' =
        extends_antisym (closure_keeps c c' (extends_refl s) (agrees_self c)) (closure_keeps c' c (extends_refl s) (agrees_self c'))
