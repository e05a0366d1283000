-- The marks are the listed neighbours, and the turns that make and list them. Assumes nothing.
use Prim.Native.Nat.{ℕ, zero, suc, ◌<◌}
use mathlib.Core.Path.{◌≡◌, refl, sym, ap, ◌∙◌}
use mathlib.Core.Logic.{◌≢◌, ◌⊎◌, inl, inr, ⊎_elim}
use mathlib.Core.Bool.{Bool, true, false, cond, not, ◌&&◌}
use mathlib.Core.List.{List, [], ◌∷◌}
use native.Mathlib.Decide.{ℕ_discrete}
use native.Mathlib.Omega.{arith}
use borrow.Author.Tests.{eq-eqb, ne_eqb}
use lib.ListN.{length, get_or, set, length-set}
use lib.Seq.{get_or-set_same, get_or-set_other}
use lib.Dec.{eqb}
use Rattle.meaning.specs.Free.{is_free}
use Rattle.field.specs.Field.{Field, variables, entries, row_end, column_end, Shaped, StartFor}
use Rattle.places.specs.Places.{places, other_end}
use Rattle.places.proofs.Places.{places_touch}
use Rattle.parts.proofs.Listed.{places_all, other_is, other_ends}
use Rattle.reason.specs.Listed.{joins_to, is_listed, listed_to}
use Rattle.reason.specs.Stages.{marked, mark_all, threes}
use Rattle.reason.proofs.Local.{joins_some, or_left, or_right}
use Rattle.reason.proofs.Listed.{joins_where, joins_ends}

marked_again : (v : ℕ) → marked (marked v) ≡ marked v
marked_again v = go (eqb v 2)
  where
    go : (b : Bool) → marked (cond b 2 3) ≡ cond b 2 3
    go true = refl
    go false = refl

-- j is the other end of one of the places and is marked where it has a value; or it is not, and is as it was
abbrev MarkAt : List ℕ → List ℕ → ℕ → List ℕ → List ℕ → ℕ → Type 0
MarkAt rows cols i values ks j = (((x : ℕ) × (x < length ks) × (other_end rows cols i (get_or ks x 0) ≡ j)) × (get_or (mark_all rows cols i values ks) j 0 ≡ marked (get_or values j 0)))
    ⊎ (((x : ℕ) → x < length ks → other_end rows cols i (get_or ks x 0) ≢ j) × (get_or (mark_all rows cols i values ks) j 0 ≡ get_or values j 0))

mark_at : (rows cols : List ℕ) (i : ℕ) (ks values : List ℕ) → ((x : ℕ) → x < length ks → other_end rows cols i (get_or ks x 0) < length values) → (j : ℕ) → MarkAt rows cols i values ks j
unfolding mark_all
mark_at rows cols i [] values below j = inr ((λ x b. absurd (omega arith)), refl)
mark_at rows cols i (k ∷ ks) values below j =
    go (ℕ_discrete j t) (mark_at rows cols i ks (set values t (marked (get_or values t 0))) (λ x b. omega (arith, length-set values t (marked (get_or values t 0)), below (suc x) (omega arith))) j)
  where
    t : ℕ
    t = other_end rows cols i k

    go : Dec (j ≡ t) → MarkAt rows cols i (set values t (marked (get_or values t 0))) ks j → MarkAt rows cols i values (k ∷ ks) j
    go (yes e) a =
        let here : get_or (set values t (marked (get_or values t 0))) j 0 ≡ marked (get_or values j 0) = rw e (get_or-set_same values t (marked (get_or values t 0)) 0 (below 0 (omega arith))) in
        inl ((0, omega arith, sym e), ⊎_elim (λ y. y.1 ∙ ap marked here ∙ marked_again (get_or values j 0)) (λ y. y.1 ∙ here) a)
    go (no n) a =
        let there : get_or (set values t (marked (get_or values t 0))) j 0 ≡ get_or values j 0 = get_or-set_other values t j (marked (get_or values t 0)) 0 n in
        ⊎_elim
        (λ y. inl ((suc y.0.0, omega (arith, y.0.1), y.0.2), y.1 ∙ ap marked there))
        (λ y. inr ((λ x b. first x b y.0), y.1 ∙ there))
        a
      where
        first : (x : ℕ) → x < length (k ∷ ks) → ((x : ℕ) → x < length ks → other_end rows cols i (get_or ks x 0) ≢ j) → other_end rows cols i (get_or (k ∷ ks) x 0) ≢ j
        first zero b f e = n (sym e)
        first (suc x) b f e = f x (omega arith) e

module _ {F : Field} (shaped : Shaped F) {r : List ℕ} (start : StartFor (variables F) r) (i : ℕ) where
  ends_below : (x : ℕ) → x < length (places F.rows F.cols i) → other_end F.rows F.cols i (get_or (places F.rows F.cols i) x 0) < length r
  ends_below x b =
      let k = get_or (places F.rows F.cols i) x 0 in
      let a = places_touch F.rows F.cols i x b in
      let m : k < entries F = omega (arith, a.0, shaped.rows_long) in
      ⊎_elim
      (λ y. rw (← y.1) (omega (arith, shaped.column_below k m, start.long)))
      (λ y. rw (← y.0) (omega (arith, shaped.row_below k m, start.long)))
      (other_ends F.rows F.cols i k a.1)

  -- what is marked is listed, and nothing else
  pub marks_listed : (j : ℕ) → eqb (get_or (mark_all F.rows F.cols i r (places F.rows F.cols i)) j 0) 3 ≡ is_listed F r i j
  unfolding is_listed
  marks_listed j = ⊎_elim
      (λ y. rw (y.1, joined y.0.0 y.0.1 y.0.2) (of (is_free r j)))
      (λ y. rw (y.1, ne_eqb (get_or r j 0) 3 (λ e. omega (arith, start.small j)), apart y.0 (joins_to F i j (entries F)) refl) (sym (and_false (not (is_free r j)))))
      (mark_at F.rows F.cols i (places F.rows F.cols i) r ends_below j)
    where
      of : (b : Bool) → eqb (cond b 2 3) 3 ≡ (not b && true)
      of true = refl
      of false = refl

      and_false : (b : Bool) → (b && false) ≡ false
      and_false true = refl
      and_false false = refl

      joined : (x : ℕ) → x < length (places F.rows F.cols i) → other_end F.rows F.cols i (get_or (places F.rows F.cols i) x 0) ≡ j → joins_to F i j (entries F) ≡ true
      joined x b e =
          let k = get_or (places F.rows F.cols i) x 0 in
          let a = places_touch F.rows F.cols i x b in
          joins_some F i j k (entries F) (omega (arith, a.0, shaped.rows_long)) (⊎_elim
          (λ y. or_left (eqb (row_end F k) i && eqb (column_end F k) j) (eqb (column_end F k) i && eqb (row_end F k) j) (rw (eq-eqb (row_end F k) i y.0, eq-eqb (column_end F k) j (y.1 ∙ e)) refl))
          (λ y. or_right (eqb (row_end F k) i && eqb (column_end F k) j) (eqb (column_end F k) i && eqb (row_end F k) j) (rw (eq-eqb (column_end F k) i y.1, eq-eqb (row_end F k) j (y.0 ∙ e)) refl))
          (other_ends F.rows F.cols i k a.1))

      apart : ((x : ℕ) → x < length (places F.rows F.cols i) → other_end F.rows F.cols i (get_or (places F.rows F.cols i) x 0) ≢ j)
          → (b : Bool) → joins_to F i j (entries F) ≡ b → b ≡ false
      apart f false e = refl
      apart f true e =
          let x = joins_where F i j (entries F) e in
          let k = x.0 in
          let ends = joins_ends F i j k x.2 in
          let at = places_all F.rows F.cols i k (omega (arith, x.1, shaped.rows_long)) (shaped.cols_long ∙ sym shaped.rows_long) (⊎_elim (λ y. inl y.0) (λ y. inr y.0) ends) in
          absurd (f at.0 at.1.0 (ap (other_end F.rows F.cols i) at.1.1 ∙ other_is F.rows F.cols i j k (⊎_elim (λ y. inl (y.0, y.1)) (λ y. inr (y.1, y.0)) ends)))

-- the marked variables are the list
pub threes_listed : (marks : List ℕ) (F : Field) (r : List ℕ) (i : ℕ) → ((j : ℕ) → eqb (get_or marks j 0) 3 ≡ is_listed F r i j) → (n : ℕ) → threes marks n ≡ listed_to F r i n
unfolding threes listed_to
threes_listed marks F r i e zero = refl
threes_listed marks F r i e (suc n) = rw (e n, threes_listed marks F r i e n) refl
