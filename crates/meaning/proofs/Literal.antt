-- Propagation over implications: a clash exactly if a variable is held both ways, and otherwise just the literals that hold. Assumes nothing.
use mathlib.Core.Path.{◌≡◌, refl, sym, ap, ◌∙◌, subst}
use mathlib.Core.Logic.{◌≢◌, ◌⊎◌, inl, inr, ⊎_elim, ◌↔◌}
use mathlib.Core.Bool.{Bool, true, false, cond, not, ◌&&◌, ◌||◌}
use mathlib.Core.List.Memᴰ
use mathlib.Core.List.{List, [], ◌∷◌, Memᴰ}
use Prim.Native.Nat.{ℕ, ◌<◌}
use native.Mathlib.Decide.{ℕ_discrete}
use native.Mathlib.Omega.{arith}
use lib.ListN.{length, get_or, length-set}
use lib.Seq.{ext_get_or}
use lib.Dec.{eqb}
use borrow.Author.Tests.{eqb-true, eqb-false}
use Rattle.meaning.specs.Steps.{Valid, Extends, Steps, stop, step, Closure, Lawful}
use Rattle.meaning.specs.Passes.{Decided, Decides, closure}
use Rattle.meaning.specs.Literal.{Implication, Holds, given, follows, BothWays, Settled, Implies, by, implied, stands, done, clash, propagate}
use Rattle.meaning.proofs.Values.{zero_or_one, fixed, inside, after_set}
use Rattle.meaning.proofs.Order.{steps_extend}
use Rattle.meaning.proofs.Passes.{closure_is}

-- e is between variables below n, and its values are 0 or 1
pub record Fit (n : ℕ) (e : Implication) : Type 0 where
  pub from : e.from < n
  pub when : e.when < 2
  pub to : e.to < n
  pub gives : e.gives < 2

abbrev pub Fits : ℕ → List Implication → Type 0
Fits n E = (e : Implication) → Memᴰ e E → Fit n e

-- x has what e implies
abbrev pub Obeys : List ℕ → Implication → Type 0
Obeys x e = get_or x e.from 0 ≡ e.when → get_or x e.to 0 ≡ e.gives

-- Theorem. Settled values are one, and exclude a clash.
pub settled_unique : {E : List Implication} {s t u : List ℕ} → Settled E s t → Settled E s u → t ≡ u
settled_unique {E} {s} {t} {u} p q =
    ext_get_or 0 t u (p.as_long ∙ sym q.as_long) λ i h.
    ⊎_elim
    (λ e. ⊎_elim (λ f. e ∙ sym f) (λ f. p.has i _ f) (q.only i (omega (arith, p.as_long, q.as_long))))
    (λ f. sym (q.has i _ f))
    (p.only i h)

pub settled_no_clash : {E : List Implication} {s t : List ℕ} → Settled E s t → BothWays E s → ⊥
settled_no_clash p b = omega (arith, p.has _ _ b.zero, p.has _ _ b.one)

-- two values of one variable that hold are 0 and 1
both : {E : List Implication} {s : List ℕ} {j a b : ℕ} → Holds E s j a → Holds E s j b → a ≢ b → a < 2 → b < 2 → BothWays E s
both {j = j} {a = a} {b = b} p q ne ha hb =
    ⊎_elim
    (λ z. let o : b ≡ 1 = omega arith in record { at = j; zero = rw z at p; one = rw o at q })
    (λ z. let o : b ≡ 0 = omega arith in record { at = j; zero = rw o at q; one = rw z at p })
    (zero_or_one ha)

-- each value of t holds
abbrev Sound : List Implication → List ℕ → List ℕ → Type 0
Sound E s t = (i : ℕ) → i < length t → (get_or t i 0 ≡ 2) ⊎ Holds E s i (get_or t i 0)

module _ (E : List Implication) (s : List ℕ) (fits : Fits (length s) E) (valid : Valid s) where
  implies_small : {t : List ℕ} {i v : ℕ} → Implies E t i v → v < 2
  implies_small (by {e = e} m h) = (fits e m).gives

  implies_inside : {t : List ℕ} {i v : ℕ} → Implies E t i v → i < length s
  implies_inside (by {e = e} m h) = (fits e m).to

  holds_small : {i v : ℕ} → Holds E s i v → v < 2
  holds_small (given h small e) = small
  holds_small (follows {e = e} m h) = (fits e m).gives

  implies_on : {t u : List ℕ} {i v : ℕ} → Extends t u → Implies E t i v → Implies E u i v
  implies_on p (by {e = e} m h) = by m (fixed (p.kept e.from) (omega (arith, (fits e m).when)) ∙ h)

  implies_lawful : Lawful (Implies E)
  implies_lawful = record { small = implies_small; on = implies_on }

  sound_start : Sound E s s
  sound_start i h = go (ℕ_discrete (get_or s i 0) 2)
    where
      go : Dec (get_or s i 0 ≡ 2) → (get_or s i 0 ≡ 2) ⊎ Holds E s i (get_or s i 0)
      go (yes e) = inl e
      go (no n) = inr (given {v = get_or s i 0} h (omega (arith, valid i)) refl)

  -- what sound values imply holds
  sound_implies : {t : List ℕ} {i v : ℕ} → length t ≡ length s → Sound E s t → Implies E t i v → Holds E s i v
  sound_implies {t = t} l p (by {e = e} m h) =
      follows m (⊎_elim (λ z. absurd (omega (arith, (fits e m).when))) (λ z. rw h at z) (p e.from (omega (arith, (fits e m).from))))

  sound_steps : {t u : List ℕ} → length t ≡ length s → Sound E s t → Steps (Implies E) t u → Sound E s u
  sound_steps l p stop = p
  sound_steps l p (step {s = t} i v free f r) =
      sound_steps (length-set t i v ∙ l)
      (λ j h. ⊎_elim
      (λ z. inr (rw (z.1, z.0) (sound_implies l p f)))
      (λ z. rw z (p j (omega (arith, length-set t i v))))
      (after_set t i v (inside t i free) j))
      r

  module _ {t : List ℕ} (r : Steps (Implies E) s t) where
    sound_end : Sound E s t
    sound_end = sound_steps refl sound_start r

    -- where every implication stands, the values are settled
    settles : ((j v : ℕ) → Implies E t j v → get_or t j 0 ≡ v) → Settled E s t
    settles obeys = record { as_long = (steps_extend implies_lawful r).as_long; has = has; only = sound_end }
      where
        has : (i v : ℕ) → Holds E s i v → get_or t i 0 ≡ v
        has i v (given h small e) = fixed ((steps_extend implies_lawful r).kept i) (omega arith) ∙ e
        has i v (follows {e = e} m h) = obeys _ _ (by m (has _ _ h))

    -- a value that is implied against the one that stands holds, as that one does
    clashes : (j v : ℕ) → Implies E t j v → get_or t j 0 ≢ 2 → get_or t j 0 ≢ v → BothWays E s
    clashes j v f taken other =
        ⊎_elim
        (λ z. absurd (taken z))
        (λ z. both z (sound_implies as_long sound_end f) other (holds_small z) (implies_small f))
        (sound_end j (omega (arith, as_long, implies_inside f)))
      where
        as_long : length t ≡ length s
        as_long = (steps_extend implies_lawful r).as_long

-- ---- computed

implies_more : {E : List Implication} {s : List ℕ} (e : Implication) {i v : ℕ} → Implies E s i v → Implies (e ∷ E) s i v
implies_more e (by m h) = by (Memᴰ.tail m) h

implies_none : {s : List ℕ} {i v : ℕ} → Implies [] s i v → ⊥
implies_none (by m h) = Memᴰ.not-nil m

-- an implication from e ∷ E is e's or one from E
implies_cases : {e : Implication} {E : List Implication} {s : List ℕ} {i v : ℕ} → Implies (e ∷ E) s i v → ((e.to ≡ i) × (get_or s e.from 0 ≡ e.when)) ⊎ Implies E s i v
implies_cases {s = s} (by (Memᴰ.head p) h) = inl (ap (λ (z : Implication). z.to) (sym p), subst (λ (z : Implication). get_or s z.from 0 ≡ z.when) p h)
implies_cases (by (Memᴰ.tail m) h) = inr (by m h)

pub implied_decides : (E : List Implication) → Decides (Implies E) (implied E)
unfolding implied
implied_decides [] s j = inl (refl, λ v. implies_none)
implied_decides (e ∷ E) s j = go (eqb e.to j) (eqb (get_or s e.from 0) e.when) refl refl (implied_decides E s j)
  where
    decided : List Implication → ℕ → Type 0
    decided D v = Decided (λ u. Implies D s j u) v

    -- where e does not serve, it is as it is without e
    skip : decided E (implied E s j) → ((e.to ≡ j) × (get_or s e.from 0 ≡ e.when) → ⊥) → decided (e ∷ E) (implied E s j)
    skip ih n = ⊎_elim (λ z. inl (z.0, λ v f. ⊎_elim n (z.1 v) (implies_cases f))) (λ z. inr (implies_more e z)) ih

    go : (a b : Bool) → eqb e.to j ≡ a → eqb (get_or s e.from 0) e.when ≡ b → decided E (implied E s j) → decided (e ∷ E) (cond (a && b) e.gives (implied E s j))
    go true true p q ih = inr (subst (λ (k : ℕ). Implies (e ∷ E) s k e.gives) (eqb-true _ _ p) (by (Memᴰ.head refl) (eqb-true _ _ q)))
    go false b p q ih = skip ih (λ z. eqb-false _ _ p z.0)
    go true false p q ih = skip ih (λ z. eqb-false _ _ q z.1)

-- what the test of every implication says
data Standing (E : List Implication) (s : List ℕ) : Bool → Type 0 where
  all : ((e : Implication) → Memᴰ e E → Obeys s e) → Standing E s true
  broken : (e : Implication) → Memᴰ e E → get_or s e.from 0 ≡ e.when → get_or s e.to 0 ≢ e.gives → Standing E s false

stands_is : (E : List Implication) (s : List ℕ) → Standing E s (stands E s)
unfolding stands
stands_is [] s = all (λ e m. absurd (Memᴰ.not-nil m))
stands_is (e ∷ E) s = go (eqb (get_or s e.from 0) e.when) (eqb (get_or s e.to 0) e.gives) refl refl (stands_is E s)
  where
    more : {c : Bool} → Obeys s e → Standing E s c → Standing (e ∷ E) s c
    more h (all f) = all (λ d m. ⊎_elim (λ p. subst (Obeys s) (sym p) h) (f d) (Memᴰ.cases_cons m))
    more h (broken d m p n) = broken d (Memᴰ.tail m) p n

    go : (a b : Bool) {c : Bool} → eqb (get_or s e.from 0) e.when ≡ a → eqb (get_or s e.to 0) e.gives ≡ b → Standing E s c → Standing (e ∷ E) s ((not a || b) && c)
    go true true p q ih = more (λ z. eqb-true _ _ q) ih
    go true false p q ih = broken e (Memᴰ.head refl) (eqb-true _ _ p) (eqb-false _ _ q)
    go false b p q ih = more (λ z. absurd (eqb-false _ _ p z)) ih

-- PROPAGATION: a clash exactly if a variable is held both ways, and else the settled values
module _ (E : List Implication) (s : List ℕ) (fits : Fits (length s) E) (valid : Valid s) where
  pub propagate_is : ((propagate E s ≡ clash) × BothWays E s) ⊎ ((t : List ℕ) × (propagate E s ≡ done t) × Settled E s t)
  unfolding propagate
  propagate_is = go (stands_is E t)
    where
      t : List ℕ
      t = closure (implied E) s

      c : Closure (Implies E) s t
      c = closure_is (implies_lawful E s fits valid) (implied_decides E) s

      go : {b : Bool} → Standing E t b → ((cond b (done t) clash ≡ clash) × BothWays E s) ⊎ ((u : List ℕ) × (cond b (done t) clash ≡ done u) × Settled E s u)
      go (all f) = inr (t, refl, settles E s fits valid c.reached obeys)
        where
          obeys : (j v : ℕ) → Implies E t j v → get_or t j 0 ≡ v
          obeys j v (by m h) = f _ m h
      go (broken e m p n) = inl (refl, clashes E s fits valid c.reached e.to e.gives (by m p) (λ z. c.closed _ _ z (by m p)) n)

  pub propagate_clash : (propagate E s ≡ clash) ↔ BothWays E s
  propagate_clash = (
    λ e. ⊎_elim (λ z. z.1) (λ z. let o : ◌≡◌ {A = ℕ} 0 1 = cc z.1 in absurd (omega arith)) propagate_is,
    λ b. ⊎_elim (λ z. z.0) (λ z. absurd (settled_no_clash z.2 b)) propagate_is,
  )

  pub propagate_done : (t : List ℕ) → (propagate E s ≡ done t) ↔ Settled E s t
  propagate_done t = (
    λ e. ⊎_elim (λ z. let o : ◌≡◌ {A = ℕ} 0 1 = cc z.0 in absurd (omega arith)) (λ z. let o : z.0 ≡ t = cc z.1 in rw o at z.2) propagate_is,
    λ p. ⊎_elim (λ z. absurd (settled_no_clash p z.1)) (λ z. z.1 ∙ ap done (settled_unique z.2 p)) propagate_is,
  )
