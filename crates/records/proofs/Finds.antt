-- What reading at an index finds, by the tests that lead there, and the record that stands there. Assumes nothing.
use Prim.Native.Nat.{ℕ, ◌+◌, ◌-◌, ◌<◌, ◌≤◌}
use mathlib.Core.Path.{◌≡◌, refl, sym, ap, ◌∙◌}
use mathlib.Core.Bool.{Bool, true, false, cond}
use mathlib.Core.List.{List}
use native.Mathlib.Omega.{arith}
use borrow.Author.Tests.{lt-leb, le-leb, ne_eqb, leb-true, eqb-true}
use lib.Dec.{leb, eqb}
use lib.ListN.{length, get_or}
use lib.Ieee.{Float}
use Rattle.endian.specs.Bytes.{number_at, float_at}
use Rattle.records.specs.Reading.{mark_vC, mark_qE, mark_fX, mark_zZ, cursor, whole, weight_at, entry_at, given_at, marked_at, read_at}
use Rattle.records.specs.declared.Cursor.{Cursor}
use Rattle.records.specs.declared.Record.{Record}
use Rattle.records.specs.declared.Record.TheVariants.{Weight, Entry, Given, End, Malformed}

-- ---- by the tests

module _ (k : ℕ) (s : List ℕ) (at : ℕ) (r : Record) {n : ℕ} (e : n ≡ length s - at) where
  pub cut : n < k → Malformed ≡ whole k s at r
  cut h = let few : length s - at < k = omega arith in simp (lt-leb k (length s - at) few)

  pub fits : k ≤ n → r ≡ whole k s at r
  fits h = let room : k ≤ length s - at = omega arith in simp (le-leb k (length s - at) room)

pub same_entry : {row col row' col' : ℕ} {x x' : Float} {next : Cursor} → row ≡ row' → col ≡ col' → x ≡ x' → Entry row col x next ≡ Entry row' col' x' next
same_entry a b e = cc

module _ (s : List ℕ) (at : ℕ) {n mark : ℕ} (e : n ≡ length s - at) (room : 2 ≤ n) (m : mark ≡ number_at 2 s at) where
  read_marked : marked_at mark s at ≡ read_at s at
  unfolding read_at
  read_marked = ap (λ (j : ℕ). marked_at j s at) m ∙ fits 2 s at _ e room

  pub read_weight : mark ≡ mark_vC → weight_at s at ≡ read_at s at
  unfolding marked_at
  read_weight h = sym (ap (λ (j : ℕ). marked_at j s at) h) ∙ read_marked

  pub read_entry : mark ≡ mark_qE → entry_at s at ≡ read_at s at
  unfolding marked_at
  read_entry h = sym (ap (λ (j : ℕ). marked_at j s at) h) ∙ read_marked

  pub read_given : mark ≡ mark_fX → given_at s at ≡ read_at s at
  unfolding marked_at
  read_given h = sym (ap (λ (j : ℕ). marked_at j s at) h) ∙ read_marked

  pub read_end : mark ≡ mark_zZ → End (cursor (at + 2)) ≡ read_at s at
  unfolding marked_at
  read_end h = sym (ap (λ (j : ℕ). marked_at j s at) h) ∙ read_marked

  pub read_unknown : (mark ≡ mark_vC → ⊥) → (mark ≡ mark_qE → ⊥) → (mark ≡ mark_fX → ⊥) → (mark ≡ mark_zZ → ⊥) → Malformed ≡ read_at s at
  unfolding marked_at
  read_unknown a b d f =
      sym (simp (ne_eqb mark mark_vC a, ne_eqb mark mark_qE b, ne_eqb mark mark_fX d, ne_eqb mark mark_zZ f)) ∙ read_marked

-- ---- the record that stands at an index

pub data Standing (s : List ℕ) (at : ℕ) : Record → Type 0 where
  weight : at + 10 ≤ length s → number_at 2 s at ≡ mark_vC → Standing s at (Weight (float_at s (at + 2)) (cursor (at + 10)))
  entry : at + 14 ≤ length s → number_at 2 s at ≡ mark_qE
      → Standing s at (Entry (number_at 2 s (at + 2)) (number_at 2 s (at + 4)) (float_at s (at + 6)) (cursor (at + 14)))
  given : at + 5 ≤ length s → number_at 2 s at ≡ mark_fX → Standing s at (Given (number_at 2 s (at + 2)) (get_or s (at + 4) 0) (cursor (at + 5)))
  end : at + 2 ≤ length s → number_at 2 s at ≡ mark_zZ → Standing s at (End (cursor (at + 2)))
  malformed : Standing s at Malformed

pub by_test : {A : Type 0} (P : A → Type 0) (b : Bool) {x y : A} → (b ≡ true → P x) → (b ≡ false → P y) → P (cond b x y)
by_test P true f g = f refl
by_test P false f g = g refl

module _ (s : List ℕ) (at : ℕ) where
  -- k bytes from `at` are there
  reaches : (k : ℕ) → 0 < k → leb k (length s - at) ≡ true → at + k ≤ length s
  reaches k pos e = let room : k ≤ length s - at = leb-true k (length s - at) e in omega arith

  unless_cut : (k : ℕ) (r : Record) → 0 < k → (at + k ≤ length s → Standing s at r) → Standing s at (whole k s at r)
  unless_cut k r pos f = by_test (Standing s at) (leb k (length s - at)) (λ e. f (reaches k pos e)) (λ e. malformed)

  pub standing : Standing s at (read_at s at)
  unfolding read_at marked_at weight_at entry_at given_at
  standing =
      let m = number_at 2 s at in
      unless_cut 2 _ (omega arith) (λ room.
      by_test (Standing s at) (eqb m mark_vC) (λ e. unless_cut 10 _ (omega arith) (λ h. weight h (eqb-true m mark_vC e))) (λ no.
      by_test (Standing s at) (eqb m mark_qE) (λ e. unless_cut 14 _ (omega arith) (λ h. entry h (eqb-true m mark_qE e))) (λ no.
      by_test (Standing s at) (eqb m mark_fX) (λ e. unless_cut 5 _ (omega arith) (λ h. given h (eqb-true m mark_fX e))) (λ no.
      by_test (Standing s at) (eqb m mark_zZ) (λ e. end room (eqb-true m mark_zZ e)) (λ no. malformed)))))
