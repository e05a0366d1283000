-- What a scan has done before variable i: it forced the free variables whose row is strict, rising, and passing over the others changes
-- nothing. Assumes nothing.
use Prim.Native.Nat.{ℕ, zero, suc, ◌<◌, ◌≤◌}
use mathlib.Core.Path.{◌≡◌, refl, sym, ap, ◌∙◌}
use mathlib.Core.Logic.{⊎_elim}
use mathlib.Core.Bool.{Bool, true, false, cond, true≢false}
use mathlib.Core.List.{List, [], ◌∷◌, ◌++◌}
use native.Mathlib.Decide.{ℕ_discrete}
use native.Mathlib.Omega.{arith}
use borrow.Author.Tests.{eqb-true, eqb-false}
use lib.ListN.{length, get_or, length-append, get_or-append}
use lib.Seq.{get_or-set_other, get_or-append_seam}
use Rattle.rows.specs.declared.Row.{Row}
use Rattle.rows.specs.declared.Verdict.{Verdict}
use Rattle.rows.specs.declared.Verdict.TheVariants.{Zero, One, Flat, Open}
use Rattle.rows.specs.Row.{judge_of, is_forced, is_strict}
use Rattle.run.specs.Run.{Run, no_row, row_for, is_free, force, settle, judged, scan_at, scan_to}
use Rattle.run.proofs.Keeps.{unforced_stays}
use Rattle.run.proofs.Room.{old_or_new}
use Rattle.scanning.specs.Merge.{In}

pub in_more : {t : ℕ} (l r : List ℕ) → In t l → In t (l ++ r)
in_more l r h = record { place = h.place; within = omega (arith, h.within, length-append l r); holds = get_or-append l r 0 h.place h.within ∙ h.holds }

pub in_last : (t : ℕ) (l : List ℕ) → In t (l ++ (t ∷ []))
in_last t l = record { place = length l; within = omega (arith, length-append l (t ∷ [])); holds = get_or-append_seam l t [] 0 }

pub record Scanned (run₀ : Run) (i : ℕ) (run : Run) : Type 0 where
  pub rows : run.rows ≡ run₀.rows
  pub untouched : (t : ℕ) → i ≤ t → get_or run.values t 0 ≡ get_or run₀.values t 0
  pub below : (p : ℕ) → p < length run.queue → get_or run.queue p 0 < i
  pub rising : (p q : ℕ) → p < q → q < length run.queue → get_or run.queue p 0 < get_or run.queue q 0
  pub all : (t : ℕ) → t < i → get_or run₀.values t 0 ≡ 2 → is_strict (row_for run₀ t) ≡ true → In t run.queue

module _ {run₀ : Run} {i : ℕ} {run : Run} (S : Scanned run₀ i run) where
  same_row : (t : ℕ) → row_for run t ≡ row_for run₀ t
  same_row t = ap (λ (rs : List Row). get_or rs t no_row) S.rows

  -- variable i is passed over: it has a value, or its row forces none
  pass : (get_or run₀.values i 0 ≡ 2 → is_strict (row_for run₀ i) ≡ false) → Scanned run₀ (suc i) run
  pass idle = record {
    rows = S.rows;
    untouched = λ t l. S.untouched t (omega arith);
    below = λ p l. omega (arith, S.below p l);
    rising = S.rising;
    all = λ t l free strict. elim (ℕ_discrete t i) [
      | yes e ↦ absurd (true≢false (sym strict ∙ ap (λ (x : ℕ). is_strict (row_for run₀ x)) e ∙ idle (ap (λ (x : ℕ). get_or run₀.values x 0) (sym e) ∙ free)))
      | no ne ↦ S.all t (omega arith) free strict
    ];
  }

  take : (x : ℕ) → Scanned run₀ (suc i) (force run i x)
  unfolding force
  take x = record {
    rows = S.rows;
    untouched = λ t l. get_or-set_other run.values i t x 0 (λ e. omega arith) ∙ S.untouched t (omega arith);
    below = λ p l. ⊎_elim (λ o. omega (arith, o.1, S.below p o.0)) (λ o. omega (arith, o.1)) (old_or_new run.queue i p l);
    rising = λ p q a l. ⊎_elim
        (λ o. rw (o.1, old p (omega (arith, o.0))) (S.rising p q a o.0))
        (λ o. rw (o.1, old p (omega (arith, o.0))) (S.below p (omega (arith, o.0))))
        (old_or_new run.queue i q l);
    all = λ t l free strict. elim (ℕ_discrete t i) [
      | yes e ↦ rw e (in_last i run.queue)
      | no ne ↦ in_more run.queue (i ∷ []) (S.all t (omega arith) free strict)
    ];
  }
    where
      old : (p : ℕ) → p < length run.queue → get_or (run.queue ++ (i ∷ [])) p 0 ≡ get_or run.queue p 0
      old p l = get_or-append run.queue (i ∷ []) 0 p l

  by_verdict : (v : Verdict) → judge_of (row_for run₀ i) ≡ v → Scanned run₀ (suc i) (settle run i v)
  unfolding settle
  by_verdict (Zero b) e = take 0
  by_verdict (One b) e = take 1
  by_verdict Flat e = pass (λ free. ap is_forced e)
  by_verdict Open e = pass (λ free. ap is_forced e)

  next : Scanned run₀ (suc i) (scan_at run i)
  unfolding scan_at judged
  next = go (is_free run i) refl
    where
      go : (b : Bool) → is_free run i ≡ b → Scanned run₀ (suc i) (cond b (settle run i (judge_of (row_for run i))) run)
      go true e = by_verdict (judge_of (row_for run i)) (ap judge_of (sym (same_row i)))
      go false e = pass (λ free. absurd (eqb-false _ _ e (S.untouched i (omega arith) ∙ free)))

pub scanned : (run₀ : Run) → run₀.queue ≡ [] → (i : ℕ) → Scanned run₀ i (scan_to run₀ i)
unfolding scan_to
scanned run₀ e zero = record {
  rows = refl;
  untouched = λ t l. refl;
  below = λ p l. absurd (omega (arith, ap length e));
  rising = λ p q a l. absurd (omega (arith, ap length e));
  all = λ t l. absurd (omega arith);
}
scanned run₀ e (suc i) = next (scanned run₀ e i)

-- ---- what is not free, or not strict, may be passed over

idle : (run : Run) (i : ℕ) → (get_or run.values i 0 ≡ 2 → is_strict (row_for run i) ≡ false) → scan_at run i ≡ run
unfolding scan_at judged
idle run i h = go (is_free run i) refl
  where
    go : (b : Bool) → is_free run i ≡ b → cond b (settle run i (judge_of (row_for run i))) run ≡ run
    go true e = unforced_stays run i (judge_of (row_for run i)) (h (eqb-true _ _ e))
    go false e = refl

-- SCAN-SOME: a scan up to x is a scan up to b where between them no free variable's row is strict
pub scan_some : (run₀ : Run) → run₀.queue ≡ [] → (b x : ℕ) → b ≤ x
    → ((t : ℕ) → b ≤ t → t < x → get_or run₀.values t 0 ≡ 2 → is_strict (row_for run₀ t) ≡ false) → scan_to run₀ x ≡ scan_to run₀ b
unfolding scan_to
scan_some run₀ e b zero l quiet = let z : b ≡ 0 = omega arith in rw z
scan_some run₀ e b (suc x) l quiet = go (ℕ_discrete b (suc x)) (λ h. scan_some run₀ e b x h (λ t p q. quiet t p (omega arith)))
  where
    passed : b ≤ x → scan_at (scan_to run₀ x) x ≡ scan_to run₀ x
    passed h =
        let S = scanned run₀ e x in
        idle (scan_to run₀ x) x (λ free. ap is_strict (same_row S x) ∙ quiet x h (omega arith) (sym (S.untouched x (omega arith)) ∙ free))

    go : Dec (b ≡ suc x) → (b ≤ x → scan_to run₀ x ≡ scan_to run₀ b) → scan_at (scan_to run₀ x) x ≡ scan_to run₀ b
    go (yes q) rest = rw q
    go (no ne) rest = passed (omega arith) ∙ rest (omega arith)
