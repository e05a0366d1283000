-- The report is written change by change. Assumes nothing.
use Prim.Native.Nat.{ℕ, zero, suc, ◌+◌, ◌*◌, ◌/◌, ◌%◌, ◌-◌, ◌<◌, ◌≤◌}
use mathlib.Core.Path.{◌≡◌, refl, sym, ap, ◌∙◌}
use mathlib.Core.Logic.{◌≢◌}
use mathlib.Core.Bool.{Bool, true, false, cond}
use mathlib.Core.List.{List, [], ◌∷◌, ◌++◌}
use native.Mathlib.Nat.{zero-add, add-zero}
use native.Mathlib.Numerals.{add-one}
use native.Mathlib.Omega.{arith}
use borrow.Author.Tests.{eq-eqb, ne_eqb}
use lib.Dec.{eqb}
use lib.ListN.{length, get_or, set, length-append}
use lib.Seq.{sets}
use Rattle.scratch.specs.Over.{over}
use Rattle.scratch.proofs.Over.{sets_then, over_sets}
use Rattle.mending.specs.Report.{step_of, told_by, count_to, told_to, Puttable, Puts, Reportable}

-- ---- one change

module _ (mark k : ℕ) {r : ℕ} (e : r ≡ mark) where
  pub step_none : r ≡ 65536 + k → 0 ≡ step_of mark k
  unfolding step_of
  step_none h = rw (eq-eqb mark (65536 + k) (sym e ∙ h))

  pub step_one : r ≢ 65536 + k → 1 ≡ step_of mark k
  unfolding step_of
  step_one n = rw (ne_eqb mark (65536 + k) (λ z. n (e ∙ z)))

  pub puts_none : (at : ℕ) (report : List ℕ) → r ≡ 65536 + k → Puts at at (told_by mark k) report report
  unfolding told_by
  puts_none at report h = rw (eq-eqb mark (65536 + k) (sym e ∙ h)) record { behind = omega arith; is = refl }

  pub puts_one : (at : ℕ) (report : List ℕ) → r ≢ 65536 + k → Puts at (at + 3) (told_by mark k) report (set (set (set report at k) (at + 1) (r / 65536)) (at + 2) (r % 65536))
  unfolding told_by
  puts_one at report n =
      let two : at + 2 ≡ suc (suc at) = omega arith in
      rw (ne_eqb mark (65536 + k) (λ z. n (e ∙ z))) record { behind = refl; is = rw (add-one at, two, e) }

  pub put_room : {at : ℕ} {report : List ℕ} → Puttable at k mark report → r ≢ 65536 + k → at + 3 ≤ length report
  put_room P n = omega (arith, P.room, step_one n)

told_one : (mark k : ℕ) → length (told_by mark k) ≡ 3 * step_of mark k
unfolding told_by step_of
told_one mark k = go (eqb mark (65536 + k))
  where
    go : (b : Bool) → length (cond b [] (k ∷ mark / 65536 ∷ mark % 65536 ∷ [])) ≡ 3 * cond b 0 1
    go true = refl
    go false = refl

-- ---- all of them

module _ (m : ℕ) (u : List ℕ) where
  pub count_start : 0 ≡ count_to m u 0
  unfolding count_to
  count_start = refl

  pub count_turn : (k : ℕ) {n r : ℕ} → n ≡ count_to m u k → r ≡ step_of (get_or u (2 * m + k) 0) k → n + r ≡ count_to m u (k + 1)
  unfolding count_to
  count_turn k e h = rw (e, h, add-one k)

  pub count_done : {n k : ℕ} → n ≡ count_to m u k → k ≤ m → m ≤ k → n ≡ count_to m u m
  count_done {n} {k} e h g = let z : k ≡ m = omega arith in e ∙ ap (count_to m u) z

  pub count_more : (k : ℕ) → count_to m u k + step_of (get_or u (2 * m + k) 0) k ≡ count_to m u (k + 1)
  unfolding count_to
  count_more k = rw (add-one k)

  pub told_length : (k : ℕ) → length (told_to m u k) ≡ 3 * count_to m u k
  unfolding told_to count_to
  told_length zero = refl
  told_length (suc k) =
      omega (arith, length-append (told_to m u k) (told_by (get_or u (2 * m + k) 0) k), told_length k, told_one (get_or u (2 * m + k) 0) k)

  -- what is counted so far is no more than all
  later : (k d : ℕ) → count_to m u k ≤ count_to m u (k + d)
  later k zero = rw (add-zero k) (omega arith)
  later k (suc d) =
      let e : k + suc d ≡ k + d + 1 = omega arith in
      rw e (omega (arith, later k d, count_more (k + d)))

  pub count_rises : (k n : ℕ) → k ≤ n → count_to m u k ≤ count_to m u n
  count_rises k n h = let e : n ≡ k + (n - k) = omega arith in rw e (later k (n - k))

-- where the writing stands: the changes of the first k entries are written
pub record Telling (m : ℕ) (u report₀ report : List ℕ) (k at : ℕ) : Type 0 where
  pub within : k ≤ m
  pub long : length report ≡ length report₀
  pub next : at ≡ length (told_to m u k)
  pub is : report ≡ sets report₀ 0 (told_to m u k)

module _ {m : ℕ} {u report₀ : List ℕ} (R : Reportable m u report₀) where
  pub telling_start : Telling m u report₀ report₀ 0 0
  unfolding told_to
  telling_start = record { within = omega arith; long = refl; next = refl; is = refl }

  module _ {report : List ℕ} {k at : ℕ} (T : Telling m u report₀ report k at) where
    pub telling_ready : k < m → {mark : ℕ} → mark ≡ get_or u (2 * m + k) 0 → Puttable at k mark report
    telling_ready h {mark} e = record {
      room = omega (arith, T.next, T.long, R.room, told_length m u k, count_rises m u (k + 1) m (omega arith), count_more m u k, ap (λ (x : ℕ). step_of x k) e);
      small = omega (arith, R.few);
    }

    pub telling_turn : k < m → {mark : ℕ} → mark ≡ get_or u (2 * m + k) 0 → {at' : ℕ} {report' : List ℕ} → length report' ≡ length report → Puts at at' (told_by mark k) report report'
        → Telling m u report₀ report' (k + 1) at'
    unfolding told_to
    telling_turn h {mark} e {at'} {report'} long P =
        let more : told_to m u (k + 1) ≡ told_to m u k ++ told_by mark k = ap (told_to m u) (add-one k) ∙ ap (λ (x : ℕ). told_to m u k ++ told_by x k) (sym e) in
        record {
          within = omega arith;
          long = long ∙ T.long;
          next = rw more (omega (arith, length-append (told_to m u k) (told_by mark k), P.behind, T.next));
          is = P.is
              ∙ ap (λ (s : List ℕ). sets s at (told_by mark k)) T.is
              ∙ ap (λ (i : ℕ). sets (sets report₀ 0 (told_to m u k)) i (told_by mark k)) (T.next ∙ sym (zero-add (length (told_to m u k))))
              ∙ sets_then (told_to m u k) (told_by mark k) report₀ 0
              ∙ ap (sets report₀ 0) (sym more);
        }

    pub telling_done : m ≤ k → report ≡ over (told_to m u m) report₀
    telling_done h =
        let e : k ≡ m = omega (arith, T.within) in
        T.is ∙ ap (λ (i : ℕ). sets report₀ 0 (told_to m u i)) e ∙ over_sets (told_to m u m) report₀ (omega (arith, told_length m u m, R.room))
