-- The values that a verdict rests on: what each place holds, that they grow with the queue, and that what a lagging run sees is behind them. Assumes nothing.
use Prim.Native.Nat.{ℕ, zero, suc, ◌+◌, ◌<◌, ◌≤◌}
use mathlib.Core.Path.{◌≡◌, refl, sym, ap, ◌∙◌}
use mathlib.Core.Logic.{◌≢◌, ◌⊎◌, inl, inr, ⊎_elim}
use mathlib.Core.List.{List, [], ◌∷◌, ◌++◌}
use native.Mathlib.Decide.{ℕ_discrete, dec_lt}
use native.Mathlib.Omega.{arith}
use lib.ListN.{length, get_or, set, length-set, length-append, get_or-append}
use lib.Seq.{get_or-set_same, get_or-set_other, get_or-append_seam}
use Rattle.meaning.specs.Field as meaning
use Rattle.meaning.specs.Steps.{Extends}
use Rattle.meaning.specs.Gradient.{View, view, Behind, Lags, Forced}
use Rattle.meaning.proofs.Values.{inside, after_set, below_or_at, free_back}
use Rattle.meaning.proofs.Gradient.{forced_on}
use Rattle.field.specs.Field.{StartFor}
use Rattle.run.specs.Room.{Room}
use Rattle.run.specs.Rests.{rests, Stands, Grounded}
use Rattle.run.proofs.Room.{fixed_after, old_or_new}

pub rests_long : (s values queue : List ℕ) (h : ℕ) → length (rests s values queue h) ≡ length s
unfolding rests
rests_long s values queue zero = refl
rests_long s values queue (suc h) = length-set (rests s values queue h) _ _ ∙ rests_long s values queue h

-- j is among the first h of the queue, and has its value; or it has what it has in s
abbrev pub Among : List ℕ → ℕ → ℕ → Type 0
Among queue h j = (p : ℕ) × (p < h) × (get_or queue p 0 ≡ j)

abbrev pub RestsAt : List ℕ → List ℕ → List ℕ → ℕ → ℕ → Type 0
RestsAt s values queue h j = (Among queue h j × (get_or (rests s values queue h) j 0 ≡ get_or values j 0)) ⊎ (((p : ℕ) → p < h → get_or queue p 0 ≢ j) × (get_or (rests s values queue h) j 0 ≡ get_or s j 0))

module _ (s values queue : List ℕ) where
  pub rests_at : (h : ℕ) → ((p : ℕ) → p < h → get_or queue p 0 < length s) → (j : ℕ) → RestsAt s values queue h j
  unfolding rests
  rests_at zero inside j = inr ((λ p l. absurd (omega arith)), refl)
  rests_at (suc h) inside j = go (ℕ_discrete j (get_or queue h 0)) (rests_at h (λ p l. inside p (omega arith)) j)
    where
      t : ℕ
      t = get_or queue h 0

      go : Dec (j ≡ t) → RestsAt s values queue h j → RestsAt s values queue (suc h) j
      go (yes e) a = inl ((h, omega arith, sym e), rw e (get_or-set_same (rests s values queue h) t _ 0 (omega (arith, rests_long s values queue h, inside h (omega arith)))))
      go (no n) a =
          let same = get_or-set_other (rests s values queue h) t j (get_or values t 0) 0 n in
          ⊎_elim
          (λ y. inl ((y.0.0, omega (arith, y.0.1), y.0.2), same ∙ y.1))
          (λ y. inr ((λ p l. ⊎_elim (λ b. y.0 p b) (λ b x. n (sym x ∙ ap (λ (z : ℕ). get_or queue z 0) b)) (below_or_at l)), same ∙ y.1))
          a

  -- a variable among them has its value
  pub rests_among : (h : ℕ) → ((p : ℕ) → p < h → get_or queue p 0 < length s) → (j : ℕ) → Among queue h j → get_or (rests s values queue h) j 0 ≡ get_or values j 0
  rests_among h inside j a = ⊎_elim (λ y. y.1) (λ y. absurd (y.0 a.0 a.1 a.2)) (rests_at h inside j)

module _ {n : ℕ} {s values queue : List ℕ} (room : Room n s values queue) where
  within : (h : ℕ) → h ≤ length queue → (p : ℕ) → p < h → get_or queue p 0 < length s
  within h l p b = omega (arith, room.variable p (omega arith), room.extends.as_long, room.valid.long)

  -- where s has a value, so have they
  pub rests_given : (h : ℕ) → h ≤ length queue → (j : ℕ) → get_or s j 0 ≢ 2 → get_or (rests s values queue h) j 0 ≡ get_or s j 0
  rests_given h l j n =
      let kept : get_or values j 0 ≡ get_or s j 0 = ⊎_elim (λ e. absurd (n e)) (λ e. e) (room.extends.kept j) in
      ⊎_elim (λ y. y.1 ∙ kept) (λ y. y.1) (rests_at s values queue h (within h l) j)

  -- they are start values, behind the values of the run
  pub rests_extended : (h : ℕ) → h ≤ length queue → Extends (rests s values queue h) values
  rests_extended h l = record {
    as_long = room.extends.as_long ∙ sym (rests_long s values queue h);
    kept = λ j. ⊎_elim (λ y. inr (sym y.1)) (λ y. ⊎_elim (λ e. inl (y.1 ∙ e)) (λ e. inr (e ∙ sym y.1)) (room.extends.kept j)) (rests_at s values queue h (within h l) j);
  }

  pub rests_start : (h : ℕ) → h ≤ length queue → StartFor n (rests s values queue h)
  rests_start h l = record {
    long = rests_long s values queue h ∙ sym room.extends.as_long ∙ room.valid.long;
    small = λ j. ⊎_elim (λ e. omega arith) (λ e. omega (arith, room.valid.small j)) ((rests_extended h l).kept j);
  }

  -- one more of the queue is served
  rests_more : (h : ℕ) → h < length queue → Behind (view (rests s values queue h)) (view (rests s values queue (suc h)))
  rests_more h l k j = elim (rests_at s values queue (suc h) (within (suc h) l) j) [
    | inl y ↦ ⊎_elim inl (λ e. inr (sym e ∙ sym y.1)) ((rests_extended h (omega arith)).kept j)
    | inr y ↦ ⊎_elim
        (λ z. absurd (y.0 z.0.0 (omega (arith, z.0.1)) z.0.2))
        (λ z. inr (z.1 ∙ sym y.1))
        (rests_at s values queue h (within h (omega arith)) j)
  ]

  pub grounded_more : {G : meaning.Field} (h : ℕ) → h < length queue → Grounded G s values queue h → Grounded G s values queue (suc h)
  grounded_more {G} h l g = record {
    fresh = g.fresh;
    logged = g.logged;
    strict = λ t free set. forced_on (view (rests s values queue h)) (view (rests s values queue (suc h))) (rests_more h l) G (g.strict t free set);
  }

  -- THE STRICT BOUND: a view that lags, and sees nothing of what waits from h on, is behind what the first h rest on
  pub lag_behind : {G : meaning.Field} (w : View) (h : ℕ) → h ≤ length queue → Grounded G s values queue h → Lags w values → ((p : ℕ) → h ≤ p → p < length queue → (k : ℕ) → w k (get_or queue p 0) ≡ 2)
      → Behind w (view (rests s values queue h))
  lag_behind w h l g lag waiting k j = ⊎_elim inl (λ e. go e (ℕ_discrete (get_or values j 0) 2) (ℕ_discrete (get_or s j 0) 2)) (lag k j)
    where
      at : w k j ≡ get_or values j 0 → (a : Stands queue j) → Dec (a.0 < h) → (w k j ≡ 2) ⊎ (w k j ≡ get_or (rests s values queue h) j 0)
      at e a (yes b) = inr (e ∙ sym (rests_among s values queue h (within h l) j (a.0, b, a.2)))
      at e a (no b) = inl (ap (w k) (sym a.2) ∙ waiting a.0 (omega arith) a.1 k)

      go : w k j ≡ get_or values j 0 → Dec (get_or values j 0 ≡ 2) → Dec (get_or s j 0 ≡ 2) → (w k j ≡ 2) ⊎ (w k j ≡ get_or (rests s values queue h) j 0)
      go e (yes f) d = inl (e ∙ f)
      go e (no f) (no d) = inr (e ∙ ⊎_elim (λ y. absurd (d y)) (λ y. y) (room.extends.kept j) ∙ sym (rests_given h l j d))
      go e (no f) (yes d) = at e (g.logged j d f) (dec_lt (g.logged j d f).0 h)

  -- ---- a free variable takes a value

  module _ (t v : ℕ) (free : get_or values t 0 ≡ 2) (small : v < 2) where
    -- what the queue so far rests on is as it was
    rests_force : (h : ℕ) → h ≤ length queue → rests s (set values t v) (queue ++ (t ∷ [])) h ≡ rests s values queue h
    unfolding rests
    rests_force zero l = refl
    rests_force (suc h) l = rw (get_or-append queue (t ∷ []) 0 h l, rests_force h (omega arith), fixed_after values t v free (get_or queue h 0) (room.fixed h l)) refl

    pub grounded_force : {G : meaning.Field} (w : View) (h : ℕ) → h ≤ length queue → Grounded G s values queue h → Lags w values
        → ((p : ℕ) → h ≤ p → p < length queue → (k : ℕ) → w k (get_or queue p 0) ≡ 2) → Forced G w t v → Grounded G s (set values t v) (queue ++ (t ∷ [])) h
    grounded_force {G} w h l g lag waiting f = record {
      fresh = λ p b. ⊎_elim (λ o. rw o.1 (g.fresh p o.0)) (λ o. rw o.1 (free_back room.extends t free)) (old_or_new queue t p b);
      logged = λ j a b. ⊎_elim
          (λ y. (length queue, omega (arith, longer), get_or-append_seam queue t [] 0 ∙ sym y.0))
          (λ y. let z = g.logged j a (λ x. b (y ∙ x)) in (z.0, omega (arith, z.1, longer), get_or-append queue (t ∷ []) 0 z.0 z.1 ∙ z.2))
          (after_set values t v (inside values t free) j);
      strict = λ j a b. rw (rests_force h l) (⊎_elim
          (λ y. rw (y.1, y.0) (forced_on w (view (rests s values queue h)) (lag_behind w h l g lag waiting) G f))
          (λ y. rw y (g.strict j a (λ x. b (y ∙ x))))
          (after_set values t v (inside values t free) j));
    }
      where
        longer : length (queue ++ (t ∷ [])) ≡ length queue + 1
        longer = length-append queue (t ∷ [])

pub grounded_start : {G : meaning.Field} (s : List ℕ) → Grounded G s s [] 0
grounded_start s = record { fresh = λ p b. absurd (omega arith); logged = λ t a b. absurd (b a); strict = λ t a b. absurd (b a) }
