-- The values of the run, with the queue from h on free again, are what its bounds rest on. Assumes nothing.
use Prim.Native.Nat.{ℕ, zero, suc, ◌+◌, ◌-◌, ◌<◌, ◌≤◌}
use mathlib.Core.Path.{◌≡◌, refl, sym, ap, ◌∙◌}
use mathlib.Core.Logic.{◌≢◌, ◌⊎◌, inl, inr, ⊎_elim}
use mathlib.Core.List.{List}
use native.Mathlib.Decide.{ℕ_discrete, dec_lt}
use native.Mathlib.Omega.{arith}
use lib.ListN.{length, get_or}
use lib.Seq.{get_or-set_same, get_or-set_other, ext_get_or}
use Rattle.meaning.specs.Field as meaning
use Rattle.run.specs.Room.{Room}
use Rattle.run.specs.Rests.{rests, Grounded}
use Rattle.run.proofs.Rests.{RestsAt, rests_at, rests_long}
use Rattle.reason.specs.Stages.{back}
use Rattle.reason.proofs.Halting.{back_long}

-- j stands in the queue from h on, k places, and is free; or it does not, and is as it was
abbrev BackAt : List ℕ → List ℕ → ℕ → ℕ → ℕ → Type 0
BackAt values queue h k j = (((p : ℕ) × (h ≤ p) × (p < h + k) × (get_or queue p 0 ≡ j)) × (get_or (back values queue h k) j 0 ≡ 2))
    ⊎ (((p : ℕ) → h ≤ p → p < h + k → get_or queue p 0 ≢ j) × (get_or (back values queue h k) j 0 ≡ get_or values j 0))

back_at : (values queue : List ℕ) (h k : ℕ) → ((p : ℕ) → p < h + k → get_or queue p 0 < length values) → (j : ℕ) → BackAt values queue h k j
unfolding back
back_at values queue h zero below j = inr ((λ p a b. absurd (omega arith)), refl)
back_at values queue h (suc k) below j = go (ℕ_discrete j t) (back_at values queue h k (λ p b. below p (omega arith)) j)
  where
    t : ℕ
    t = get_or queue (h + k) 0

    go : Dec (j ≡ t) → BackAt values queue h k j → BackAt values queue h (suc k) j
    go (yes e) a = inl ((h + k, omega arith, omega arith, sym e), rw e (get_or-set_same (back values queue h k) t 2 0 (omega (arith, back_long values queue h k, below (h + k) (omega arith)))))
    go (no n) a =
        let same = get_or-set_other (back values queue h k) t j 2 0 n in
        ⊎_elim
        (λ y. inl ((y.0.0, y.0.1, omega (arith, y.0.2), y.0.3), same ∙ y.1))
        (λ y. inr ((λ p b c. elim (ℕ_discrete p (h + k)) [ yes e ↦ (λ x. n (sym x ∙ ap (λ (z : ℕ). get_or queue z 0) e)) | no e ↦ y.0 p b (omega arith) ]), same ∙ y.1))
        a

module _ {G : meaning.Field} {n : ℕ} {s values queue : List ℕ} {h : ℕ} (room : Room n s values queue) (g : Grounded G s values queue h) (l : h ≤ length queue) where
  pub back_rests : back values queue h (length queue - h) ≡ rests s values queue h
  back_rests = ext_get_or 0 (back values queue h k) (rests s values queue h) (back_long values queue h k ∙ room.extends.as_long ∙ sym (rests_long s values queue h)) (λ j b.
      meet j
      (back_at values queue h k (λ p c. omega (arith, room.variable p (omega arith), room.valid.long)) j)
      (rests_at s values queue h (λ p c. omega (arith, room.variable p (omega arith), room.valid.long, room.extends.as_long)) j))
    where
      k : ℕ
      k = length queue - h

      meet : (j : ℕ) → BackAt values queue h k j → RestsAt s values queue h j → get_or (back values queue h k) j 0 ≡ get_or (rests s values queue h) j 0
      meet j (inl x) (inl y) = absurd (room.apart y.0.0 x.0.0 (omega (arith, y.0.1, x.0.1)) (omega (arith, x.0.2)) (y.0.2 ∙ sym x.0.3))
      meet j (inl x) (inr y) = x.1 ∙ sym (y.1 ∙ ap (λ (z : ℕ). get_or s z 0) (sym x.0.3) ∙ g.fresh x.0.0 (omega (arith, x.0.2)))
      meet j (inr x) (inl y) = x.1 ∙ sym y.1
      meet j (inr x) (inr y) = x.1 ∙ still (ℕ_discrete (get_or s j 0) 2) (ℕ_discrete (get_or values j 0) 2) ∙ sym y.1
        where
          still : Dec (get_or s j 0 ≡ 2) → Dec (get_or values j 0 ≡ 2) → get_or values j 0 ≡ get_or s j 0
          still (yes e) (yes f) = f ∙ sym e
          still (no e) d = ⊎_elim (λ z. absurd (e z)) (λ z. z) (room.extends.kept j)
          still (yes e) (no f) =
              let a = g.logged j e f in
              elim (dec_lt a.0 h) [
                | yes b ↦ absurd (y.0 a.0 b a.2)
                | no b ↦ absurd (x.0 a.0 (omega arith) (omega (arith, a.1)) a.2)
              ]
