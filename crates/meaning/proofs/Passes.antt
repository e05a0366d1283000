-- The closure that passes compute is the closure. Assumes nothing.
use mathlib.Core.Path.{◌≡◌, refl}
use mathlib.Core.Logic.{◌⊎◌, inl, inr, ⊎_elim}
use mathlib.Core.Bool.{Bool, true, false, cond}
use mathlib.Core.List.{List}
use Prim.Native.Nat.{ℕ, zero, suc, ◌+◌, ◌≤◌, ◌<◌}
use native.Mathlib.Omega.{arith}
use lib.ListN.{length, get_or, set}
use lib.Dec.{eqb}
use lib.Seq.{set-get_or}
use borrow.Author.Tests.{eqb-true, eqb-false}
use Rattle.meaning.specs.Steps.{Rule, Steps, stop, step, Closed, Closure, Lawful}
use Rattle.meaning.specs.Passes.{Decides, visit, pass, passes, closure}
use Rattle.meaning.proofs.Values.{inside, below_or_at}
use Rattle.meaning.specs.Free.{frees}
use Rattle.meaning.proofs.Order.{steps_extend}
use Rattle.meaning.proofs.Free.{frees_le, frees_set, no_frees}

-- ---- steps

pub steps_join : {R : Rule} {s t u : List ℕ} → Steps R s t → Steps R t u → Steps R s u
steps_join stop q = q
steps_join (step i v free f r) q = step i v free f (steps_join r q)

-- from where no step is left, none is taken
closed_stays : {R : Rule} {s t : List ℕ} → Closed R s → Steps R s t → t ≡ s
closed_stays c stop = refl
closed_stays c (step i v free f r) = absurd (c i v free f)

-- nothing is forced on i where it is free
abbrev Quiet : Rule → List ℕ → ℕ → Type 0
Quiet R s i = get_or s i 0 ≡ 2 → (v : ℕ) → R s i v → ⊥

-- t is s with a value that is forced on i, which was free
abbrev Moved : Rule → List ℕ → ℕ → List ℕ → Type 0
Moved R s i t = (v : ℕ) × (get_or s i 0 ≡ 2) × R s i v × (t ≡ set s i v)

module _ {R : Rule} (law : Lawful R) {verdict : List ℕ → ℕ → ℕ} (decides : Decides R verdict) where
  steps_frees : {s t : List ℕ} → Steps R s t → frees t ≤ frees s
  steps_frees stop = omega arith
  steps_frees (step {s = s} i v free f r) = omega (arith, steps_frees r, frees_set s i v free (law.small f))

  -- a visit changes nothing and nothing is forced on a free i, or it is a step
  visit_is : (s : List ℕ) (i : ℕ) → ((visit verdict s i ≡ s) × Quiet R s i) ⊎ Moved R s i (visit verdict s i)
  unfolding visit
  visit_is s i = go (eqb (get_or s i 0) 2) refl
    where
      go : (b : Bool) → eqb (get_or s i 0) 2 ≡ b → ((cond b (set s i (verdict s i)) s ≡ s) × Quiet R s i) ⊎ Moved R s i (cond b (set s i (verdict s i)) s)
      go false e = inl (refl, λ h. absurd (eqb-false _ _ e h))
      go true e =
          let free : get_or s i 0 ≡ 2 = eqb-true _ _ e in
          ⊎_elim (λ z. inl (rw (z.0, ← free) (set-get_or s i 0), λ h. z.1)) (λ f. inr (verdict s i, free, f, refl)) (decides s i)

  visit_steps : (s : List ℕ) (i : ℕ) → Steps R s (visit verdict s i)
  visit_steps s i = ⊎_elim (λ z. rw z.0 stop) (λ z. rw z.3 (step i z.0 z.1 z.2 stop)) (visit_is s i)

  pass_steps : (s : List ℕ) (k : ℕ) → Steps R s (pass verdict s k)
  unfolding pass
  pass_steps s zero = stop
  pass_steps s (suc k) = steps_join (pass_steps s k) (visit_steps (pass verdict s k) k)

  passes_steps : (k : ℕ) (s : List ℕ) → Steps R s (passes verdict k s)
  unfolding passes
  passes_steps zero s = stop
  passes_steps (suc k) s = steps_join (passes_steps k s) (pass_steps (passes verdict k s) (length s))

  -- a pass changes nothing and nothing is forced on a free variable below k, or fewer are free
  pass_is : (s : List ℕ) (k : ℕ) → ((pass verdict s k ≡ s) × ((i : ℕ) → i < k → Quiet R s i)) ⊎ (frees (pass verdict s k) < frees s)
  unfolding pass
  pass_is s zero = inl (refl, λ i h. omega arith)
  pass_is s (suc k) =
      ⊎_elim
      (λ z. rw z.0 (⊎_elim
      (λ w. inl (w.0, λ i h. ⊎_elim (z.1 i) (λ e. rw e w.1) (below_or_at h)))
      (λ w. inr (rw w.3 (omega (arith, frees_set s k w.0 w.1 (law.small w.2)))))
      (visit_is s k)))
      (λ z. inr (omega (arith, steps_frees (visit_steps (pass verdict s k) k))))
      (pass_is s k)

  -- after k passes no step is left, or k places or more have been fixed
  passes_is : (k : ℕ) (s : List ℕ) → Closed R (passes verdict k s) ⊎ (frees (passes verdict k s) + k ≤ frees s)
  unfolding passes
  passes_is zero s = inr (omega arith)
  passes_is (suc k) s =
      ⊎_elim
      (λ c. inl (rw (closed_stays c (pass_steps u (length s))) c))
      (λ h. ⊎_elim
      (λ z. inl (rw z.0 (λ i v free. z.1 i (omega (arith, inside u i free, long)) free v)))
      (λ z. inr (omega arith))
      (pass_is u (length s)))
      (passes_is k s)
    where
      u : List ℕ
      u = passes verdict k s

      long : length u ≡ length s
      long = (steps_extend law (passes_steps k s)).as_long

  -- COMPUTED: n passes reach the closure
  pub closure_is : (s : List ℕ) → Closure R s (closure verdict s)
  unfolding closure
  closure_is s =
      record {
        reached = passes_steps (length s) s;
        closed = ⊎_elim (λ c. c) (λ h i v free f. no_frees (closure verdict s) (omega (arith, frees_le s)) i free) (passes_is (length s) s);
      }
