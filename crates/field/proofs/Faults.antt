-- Each of 14 to 17 is given exactly at the first entry at fault; its position is below 32,768. Assumes nothing.
use Prim.Native.Nat.{ℕ, zero, suc, ◌+◌, ◌-◌, ◌<◌, ◌≤◌}
use mathlib.Core.Path.{◌≡◌, refl, sym, ap, ◌∙◌, subst}
use mathlib.Core.Logic.{◌⊎◌, inl, inr, ⊎_elim, ◌↔◌}
use mathlib.Core.Bool.{Bool, true, false, ◌&&◌, cond, true≢false}
use mathlib.Core.List.{List, [], ◌∷◌, ◌++◌}
use native.Mathlib.Nat.{eq-or-lt_of_le}
use native.Mathlib.Omega.{arith}
use borrow.Author.Tests.{ltb-true, ltb-false, lt-ltb, le-ltb, eqb-true, eq-eqb, ne_eqb}
use lib.Dec.{ltb, eqb}
use lib.ListN.{length, get_or}
use Rattle.scratch.specs.All.{all_below, Passing}
use Rattle.scratch.proofs.All.{all_means, all_stop}
use Rattle.scratch.proofs.Means.{lt_is, eq_is, both_is, either_is}
use Rattle.field.specs.declared.Refusal.{Refusal}
use Rattle.field.specs.declared.Refusal.TheVariants.{Variables, Lists, Row, Column, Repeat, Order, Diagonal, Weights, Start, Scratch}
use Rattle.field.specs.Answers.{number_of, position_of, Answer}
use Rattle.field.specs.Field.{Field, variables, Before}
use Rattle.field.specs.Table.{Test, test, tested, FirstToFail, fails, passes}
use Rattle.field.specs.Tests.{is_before, in_order, is_fine, first_from, wrong_at, fault_of, shape_tests, loose_tests, open_tests, standard_tests, ready_tests}
use Rattle.field.specs.Faults.{Fine, Reached, Fault, row, column, same, back, Listed, OneFault, Near}
use Rattle.field.proofs.Means.{few_means, lists_mean, order_means}
use Rattle.field.proofs.Table.{not_both, same_refusal, refused_exactly, test_no, test_ok, group_no, group_ok}
use Rattle.std.specs.Prelude.{Ok, Err}

-- ---- the first number that fails

-- k is below n and fails, and every number before it passes
pub record FirstFail (p : ℕ → Bool) (n k : ℕ) : Type 0 where
  pub within : k < n
  pub before : (j : ℕ) → j < k → p j ≡ true
  pub fails : p k ≡ false

module _ (p : ℕ → Bool) where
  stops : (k left j : ℕ) → k ≤ j → j < k + left → ((i : ℕ) → i < j → p i ≡ true) → p j ≡ false → first_from p k left ≡ j
  unfolding first_from
  stops k zero j a b h e = absurd (omega arith)
  stops k (suc left) j a b h e = ⊎_elim (λ s. here s) (λ l. rw (h k l) (stops (suc k) left j l (omega arith) h e)) (eq-or-lt_of_le a)
    where
      here : k ≡ j → cond (p k) (first_from p (suc k) left) k ≡ j
      here s = let no : p k ≡ false = ap p s ∙ e in rw no s

  ends : (k left : ℕ) → ((i : ℕ) → i < k + left → p i ≡ true) → first_from p k left ≡ k + left
  unfolding first_from
  ends k zero h = omega arith
  ends k (suc left) h = rw (h k (omega arith)) (ends (suc k) left (λ i l. h i (omega arith)) ∙ omega arith)

  pub first_is : {n k : ℕ} → FirstFail p n k → first_from p 0 n ≡ k
  first_is {n} {k} f = stops 0 n k (omega arith) (omega (arith, f.within)) f.before f.fails

  -- the loop stops at a number that fails, and comes to the end where none does
  pub first_stop : {n k : ℕ} → Passing p n k → k < n → p k ≡ false → k ≡ first_from p 0 n
  first_stop {n} {k} now l e = sym (first_is record { within = l; before = (all_means p k).0 now.so_far; fails = e })

  pub first_end : {n k : ℕ} → Passing p n k → n ≤ k → k ≡ first_from p 0 n
  first_end {n} {k} now l =
      let all : k ≡ n = omega (arith, now.within) in
      let last : n ≡ 0 + n = omega arith in
      all ∙ last ∙ sym (ends 0 n (λ i b. (all_means p k).0 now.so_far i (omega (arith, all))))

  -- where not all pass, one is the first that fails
  pub first_there : (n : ℕ) → all_below p n ≡ false → (k : ℕ) × FirstFail p n k
  unfolding all_below
  first_there zero e = absurd (true≢false e)
  first_there (suc n) e = go (all_below p n) refl (p n) refl (first_there n)
    where
      go : (b : Bool) → all_below p n ≡ b → (c : Bool) → p n ≡ c → (all_below p n ≡ false → (k : ℕ) × FirstFail p n k) → (k : ℕ) × FirstFail p (suc n) k
      go false a c f rest = let found = rest a in (found.0, record { within = omega (arith, found.1.within); before = found.1.before; fails = found.1.fails })
      go true a false f rest = (n, record { within = omega arith; before = (all_means p n).0 a; fails = f })
      go true a true f rest = absurd (true≢false (sym (rw (f, a)) ∙ e))

-- ---- an entry

nought : (k : ℕ) → (0 ≡ k) ⊎ (0 < k)
nought zero = inl refl
nought (suc k) = inr (omega arith)

which : (a b : ℕ) → (a < b) ⊎ (b ≤ a)
which a b = go (ltb a b) refl
  where
    go : (t : Bool) → ltb a b ≡ t → (a < b) ⊎ (b ≤ a)
    go true e = inl (ltb-true a b e)
    go false e = inr (ltb-false a b e)

-- of two places one is before the other, or they are the same
places : (r c r₂ c₂ : ℕ) → Before r c r₂ c₂ ⊎ (((r₂ ≡ r) × (c₂ ≡ c)) ⊎ Before r₂ c₂ r c)
places r c r₂ c₂ = by (which c c₂) (which c₂ c) (which r r₂) (which r₂ r)
  where
    by : (c < c₂) ⊎ (c₂ ≤ c) → (c₂ < c) ⊎ (c ≤ c₂) → (r < r₂) ⊎ (r₂ ≤ r) → (r₂ < r) ⊎ (r ≤ r₂) → Before r c r₂ c₂ ⊎ (((r₂ ≡ r) × (c₂ ≡ c)) ⊎ Before r₂ c₂ r c)
    by (inl a) b d e = inl (inl a)
    by (inr a) (inl b) d e = inr (inr (inl b))
    by (inr a) (inr b) (inl d) e = inl (inr (omega arith, d))
    by (inr a) (inr b) (inr d) (inl e) = inr (inr (inr (omega arith, e)))
    by (inr a) (inr b) (inr d) (inr e) = inr (inl (omega arith, omega arith))

-- never both
not_before : (r c r₂ c₂ : ℕ) → Before r c r₂ c₂ → ((r₂ ≡ r) × (c₂ ≡ c)) ⊎ Before r₂ c₂ r c → ⊥
not_before r c r₂ c₂ (inl a) (inl s) = omega (arith, s.1)
not_before r c r₂ c₂ (inl a) (inr (inl b)) = omega arith
not_before r c r₂ c₂ (inl a) (inr (inr b)) = omega (arith, b.0)
not_before r c r₂ c₂ (inr a) (inl s) = omega (arith, a.1, s.0)
not_before r c r₂ c₂ (inr a) (inr (inl b)) = omega (arith, a.0)
not_before r c r₂ c₂ (inr a) (inr (inr b)) = omega (arith, a.1, b.1)

same_truth : (a b : Bool) → (a ≡ true → b ≡ true) → (b ≡ true → a ≡ true) → a ≡ b
same_truth true b f g = sym (f refl)
same_truth false true f g = g refl
same_truth false false f g = refl

module _ (n : ℕ) (rows cols : List ℕ) where
  abbrev Rises : ℕ → Type 0
  Rises k = Before (get_or rows (k - 1) 0) (get_or cols (k - 1) 0) (get_or rows k 0) (get_or cols k 0)

  fine_parts : (k : ℕ) → (is_fine n rows cols k ≡ true) ↔ ((get_or rows k 0 < n) × ((get_or cols k 0 < n) × ((k ≡ 0) ⊎ Rises k)))
  unfolding is_fine
  fine_parts k = both_is _ _ (lt_is _ _) (both_is _ _ (lt_is _ _) (either_is _ _ (eq_is _ _) (either_is _ _ (lt_is _ _) (both_is _ _ (eq_is _ _) (lt_is _ _)))))

  fine_means : (k : ℕ) → (is_fine n rows cols k ≡ true) ↔ Fine n rows cols k
  fine_means k = (
    (λ e. let p = (fine_parts k).0 e in record { row_below = p.0; column_below = p.1.0; rises = λ l. ⊎_elim (λ z. absurd (omega arith)) (λ b. b) p.1.1 }),
    λ f. (fine_parts k).1 (f.row_below, (f.column_below, at (nought k) f.rises)),
  )
    where
      at : (0 ≡ k) ⊎ (0 < k) → (0 < k → Rises k) → (k ≡ 0) ⊎ Rises k
      at (inl z) h = inl (sym z)
      at (inr l) h = inr (h l)

  -- how code that tests the row, the column and the order answers it
  pub row_unfine : (k : ℕ) → n ≤ get_or rows k 0 → false ≡ is_fine n rows cols k
  unfolding is_fine
  row_unfine k r = rw (le-ltb (get_or rows k 0) n r)

  pub column_unfine : (k : ℕ) → get_or rows k 0 < n → n ≤ get_or cols k 0 → false ≡ is_fine n rows cols k
  unfolding is_fine
  column_unfine k r c = rw (lt-ltb (get_or rows k 0) n r, le-ltb (get_or cols k 0) n c)

  pub first_fine : (k : ℕ) → get_or rows k 0 < n → get_or cols k 0 < n → k ≡ 0 → true ≡ is_fine n rows cols k
  unfolding is_fine
  first_fine k r c z = rw (lt-ltb (get_or rows k 0) n r, lt-ltb (get_or cols k 0) n c, eq-eqb k 0 z)

  pub later_fine : {b : Bool} (k : ℕ) → get_or rows k 0 < n → get_or cols k 0 < n → (k ≡ 0 → ⊥)
      → b ≡ is_before (get_or rows (k - 1) 0) (get_or cols (k - 1) 0) (get_or rows k 0) (get_or cols k 0) → b ≡ is_fine n rows cols k
  unfolding is_fine
  later_fine k r c z e = rw (lt-ltb (get_or rows k 0) n r, lt-ltb (get_or cols k 0) n c, ne_eqb k 0 z) e

  -- an entry that is not fine, whose ends are below n, is not the first
  pub later : (k : ℕ) → is_fine n rows cols k ≡ false → get_or rows k 0 < n → get_or cols k 0 < n → 0 < k
  later k e r c = at (nought k)
    where
      at : (0 ≡ k) ⊎ (0 < k) → 0 < k
      at (inl z) = absurd (true≢false (sym ((fine_parts k).1 (r, (c, inl (sym z)))) ∙ e))
      at (inr l) = l

  module _ (long : length rows ≡ length cols) where
    -- the list is in order exactly if every entry is fine
    pub order_fine : in_order n rows cols ≡ all_below (is_fine n rows cols) (length rows)
    order_fine = same_truth _ _ to from
      where
        to : in_order n rows cols ≡ true → all_below (is_fine n rows cols) (length rows) ≡ true
        to e =
            let p = (order_means n rows cols).0 e in
            (all_means (is_fine n rows cols) (length rows)).1 (λ k l. (fine_means k).1 record {
              row_below = p.0 k l;
              column_below = p.1.0 k (omega arith);
              rises = λ b. rises p k l b;
            })
          where
            rises : ((k : ℕ) → k < length rows → get_or rows k 0 < n) × (((k : ℕ) → k < length cols → get_or cols k 0 < n) × ((k : ℕ) → k < length rows - 1 → Before (get_or rows k 0) (get_or cols k 0) (get_or rows (k + 1) 0) (get_or cols (k + 1) 0)))
                → (k : ℕ) → k < length rows → 0 < k → Rises k
            rises p k l b = let next : k - 1 + 1 ≡ k = omega arith in subst (λ j. Before (get_or rows (k - 1) 0) (get_or cols (k - 1) 0) (get_or rows j 0) (get_or cols j 0)) next (p.1.1 (k - 1) (omega arith))

        from : all_below (is_fine n rows cols) (length rows) ≡ true → in_order n rows cols ≡ true
        from e =
            let fine : (k : ℕ) → k < length rows → Fine n rows cols k = λ k l. (fine_means k).0 ((all_means (is_fine n rows cols) (length rows)).0 e k l) in
            (order_means n rows cols).1 (
              (λ k l. (fine k l).row_below),
              (
                (λ k l. (fine k (omega arith)).column_below),
                λ k l. let last : k + 1 - 1 ≡ k = omega arith in subst (λ j. Before (get_or rows j 0) (get_or cols j 0) (get_or rows (k + 1) 0) (get_or cols (k + 1) 0)) last ((fine (k + 1) (omega arith)).rises (omega arith)),
              ),
            )

    -- a list that is not in order has a first entry at fault
    pub fault_there : in_order n rows cols ≡ false → (k : ℕ) × FirstFail (is_fine n rows cols) (length rows) k
    fault_there e = first_there (is_fine n rows cols) (length rows) (sym order_fine ∙ e)

    -- the number that the walk comes to
    pub walk_stops : {k : ℕ} → in_order n rows cols ≡ false → k ≡ first_from (is_fine n rows cols) 0 (length rows) → FirstFail (is_fine n rows cols) (length rows) k
    walk_stops e found = let at = fault_there e in subst (FirstFail (is_fine n rows cols) (length rows)) (sym (first_is (is_fine n rows cols) at.1) ∙ sym found) at.1

  -- ---- what is wrong with an entry

  pub wrong_row : (k : ℕ) → n ≤ get_or rows k 0 → wrong_at n rows cols k ≡ Row k
  unfolding wrong_at
  wrong_row k r = rw (le-ltb (get_or rows k 0) n r)

  pub wrong_column : (k : ℕ) → get_or rows k 0 < n → n ≤ get_or cols k 0 → wrong_at n rows cols k ≡ Column k
  unfolding wrong_at
  wrong_column k r c = rw (lt-ltb (get_or rows k 0) n r, le-ltb (get_or cols k 0) n c)

  wrong_place : (k : ℕ) → get_or rows k 0 < n → get_or cols k 0 < n
      → wrong_at n rows cols k ≡ cond (eqb (get_or rows k 0) (get_or rows (k - 1) 0) && eqb (get_or cols k 0) (get_or cols (k - 1) 0)) (Repeat k) (Order k)
  unfolding wrong_at
  wrong_place k r c = rw (lt-ltb (get_or rows k 0) n r, lt-ltb (get_or cols k 0) n c)

  pub wrong_repeat : (k : ℕ) → get_or rows k 0 < n → get_or cols k 0 < n → get_or rows k 0 ≡ get_or rows (k - 1) 0 → get_or cols k 0 ≡ get_or cols (k - 1) 0 → wrong_at n rows cols k ≡ Repeat k
  wrong_repeat k r c sr sc = wrong_place k r c ∙ rw (eq-eqb (get_or rows k 0) (get_or rows (k - 1) 0) sr, eq-eqb (get_or cols k 0) (get_or cols (k - 1) 0) sc)

  pub wrong_order : (k : ℕ) → get_or rows k 0 < n → get_or cols k 0 < n → (get_or rows k 0 ≡ get_or rows (k - 1) 0 → get_or cols k 0 ≡ get_or cols (k - 1) 0 → ⊥) → wrong_at n rows cols k ≡ Order k
  wrong_order k r c other = wrong_place k r c ∙ go (eqb (get_or rows k 0) (get_or rows (k - 1) 0)) refl (eqb (get_or cols k 0) (get_or cols (k - 1) 0)) refl
    where
      go : (a : Bool) → eqb (get_or rows k 0) (get_or rows (k - 1) 0) ≡ a → (b : Bool) → eqb (get_or cols k 0) (get_or cols (k - 1) 0) ≡ b → cond (a && b) (Repeat k) (Order k) ≡ Order k
      go false p b q = refl
      go true p false q = refl
      go true p true q = absurd (other (eqb-true _ _ p) (eqb-true _ _ q))

  -- ---- the fault

  module _ {k : ℕ} where
    reached : FirstFail (is_fine n rows cols) (length rows) k → Reached n rows cols k
    reached f = record { entry = f.within; fine = λ j l. (fine_means j).0 (f.before j l) }

    at_fault : Reached n rows cols k → is_fine n rows cols k ≡ false → FirstFail (is_fine n rows cols) (length rows) k
    at_fault R e = record { within = R.entry; before = λ j l. (fine_means j).1 (R.fine j l); fails = e }

    pub fault_is : FirstFail (is_fine n rows cols) (length rows) k → wrong_at n rows cols k ≡ fault_of n rows cols
    unfolding fault_of
    fault_is f = sym (ap (wrong_at n rows cols) (first_is (is_fine n rows cols) f))

    -- what is wrong with the first entry at fault is its fault
    pub has_fault : FirstFail (is_fine n rows cols) (length rows) k → Fault n rows cols (wrong_at n rows cols k)
    has_fault f = by (which (get_or rows k 0) n) (which (get_or cols k 0) n)
      where
        at : {r : Refusal} → wrong_at n rows cols k ≡ r → Fault n rows cols r → Fault n rows cols (wrong_at n rows cols k)
        at e x = subst (Fault n rows cols) (sym e) x

        placed : get_or rows k 0 < n → get_or cols k 0 < n
            → Rises k ⊎ (((get_or rows k 0 ≡ get_or rows (k - 1) 0) × (get_or cols k 0 ≡ get_or cols (k - 1) 0)) ⊎ Before (get_or rows k 0) (get_or cols k 0) (get_or rows (k - 1) 0) (get_or cols (k - 1) 0))
            → Fault n rows cols (wrong_at n rows cols k)
        placed r c (inl up) = absurd (true≢false (sym ((fine_parts k).1 (r, (c, inr up))) ∙ f.fails))
        placed r c (inr (inl s)) = at (wrong_repeat k r c s.0 s.1) (same (reached f) r c (later k f.fails r c) s.0 s.1)
        placed r c (inr (inr b)) =
            at (wrong_order k r c (λ x y. not_before _ _ _ _ b (inl (sym x, sym y)))) (back (reached f) r c (later k f.fails r c) b)

        by : (get_or rows k 0 < n) ⊎ (n ≤ get_or rows k 0) → (get_or cols k 0 < n) ⊎ (n ≤ get_or cols k 0) → Fault n rows cols (wrong_at n rows cols k)
        by (inr r) c = at (wrong_row k r) (row (reached f) r)
        by (inl r) (inr c) = at (wrong_column k r c) (column (reached f) r c)
        by (inl r) (inl c) = placed r c (places (get_or rows (k - 1) 0) (get_or cols (k - 1) 0) (get_or rows k 0) (get_or cols k 0))

    -- an entry whose place is that of the entry before, or further up, is not fine
    unplaced : Reached n rows cols k → 0 < k
        → ((get_or rows k 0 ≡ get_or rows (k - 1) 0) × (get_or cols k 0 ≡ get_or cols (k - 1) 0)) ⊎ Before (get_or rows k 0) (get_or cols k 0) (get_or rows (k - 1) 0) (get_or cols (k - 1) 0)
        → FirstFail (is_fine n rows cols) (length rows) k
    unplaced R l s = at_fault R (by (is_fine n rows cols k) refl)
      where
        by : (b : Bool) → is_fine n rows cols k ≡ b → is_fine n rows cols k ≡ false
        by false e = e
        by true e = absurd (not_before _ _ _ _ (((fine_means k).0 e).rises l) s)

  -- the entry that a fault is at, and what is wrong with it
  fault_at : {r : Refusal} → Fault n rows cols r → (k : ℕ) × (FirstFail (is_fine n rows cols) (length rows) k × (wrong_at n rows cols k ≡ r))
  fault_at (row {k} R r) = (k, (at_fault R (sym (row_unfine k r)), wrong_row k r))
  fault_at (column {k} R r c) = (k, (at_fault R (sym (column_unfine k r c)), wrong_column k r c))
  fault_at (same {k} R r c l a b) = (k, (unplaced R l (inl (a, b)), wrong_repeat k r c a b))
  fault_at (back {k} R r c l b) = (k, (unplaced R l (inr b), wrong_order k r c (λ x y. not_before _ _ _ _ b (inl (sym x, sym y)))))

  module _ (long : length rows ≡ length cols) where
    -- the list is not in order, and this is the fault of its first entry at fault
    pub fault_means : (r : Refusal) → ((in_order n rows cols ≡ false) × (fault_of n rows cols ≡ r)) ↔ Fault n rows cols r
    fault_means r = (
      (λ h. let at = fault_there long h.0 in subst (Fault n rows cols) (fault_is at.1 ∙ h.1) (has_fault at.1)),
      λ x. let at = fault_at x in (
        order_fine long ∙ sym (all_stop (is_fine n rows cols) at.0 at.1.0.within at.1.0.fails),
        sym (fault_is at.1.0) ∙ at.1.1,
      ),
    )

    -- Theorem. A list that was refused with 3 gets exactly one number and one position, and no other list gets any.
    pub formerly_three : (in_order n rows cols ≡ false) ↔ OneFault n rows cols
    formerly_three = (
      (λ e. record { refusal = fault_of n rows cols; given = (fault_means (fault_of n rows cols)).0 (e, refl); only = λ r x. sym ((fault_means r).1 x).1 }),
      λ one. ((fault_means one.refusal).1 one.given).0,
    )

-- ---- in the table

wrong_other : (n : ℕ) (rows cols : List ℕ) (k : ℕ) → 14 ≤ number_of (wrong_at n rows cols k)
unfolding wrong_at
wrong_other n rows cols k =
    by (ltb (get_or rows k 0) n) (ltb (get_or cols k 0) n) (eqb (get_or rows k 0) (get_or rows (k - 1) 0) && eqb (get_or cols k 0) (get_or cols (k - 1) 0))
  where
    by : (a b c : Bool) → 14 ≤ number_of (cond a (cond b (cond c (Repeat k) (Order k)) (Column k)) (Row k))
    by false b c = omega arith
    by true false c = omega arith
    by true true false = omega arith
    by true true true = omega arith

-- a fault has a number that no other test of the table gives
pub fault_other : (n : ℕ) (rows cols : List ℕ) (number : ℕ) → number < 14 → eqb (number_of (fault_of n rows cols)) number ≡ false
unfolding fault_of
fault_other n rows cols number small =
    ne_eqb (number_of (fault_of n rows cols)) number (λ e. omega (arith, e, wrong_other n rows cols (first_from (is_fine n rows cols) 0 (length rows))))

-- Theorem. The position is that of an entry.
pub fault_position : {n : ℕ} {rows cols : List ℕ} {r : Refusal} → Fault n rows cols r → position_of r < length rows
fault_position (row R r) = R.entry
fault_position (column R r c) = R.entry
fault_position (same R r c l a b) = R.entry
fault_position (back R r c l b) = R.entry

module _ (F : Field) where
  fault_by : {r : Refusal} → FirstToFail (shape_tests F) r → Listed F → Fault (variables F) F.rows F.cols r
  unfolding shape_tests
  fault_by (fails e) L = absurd (true≢false (sym ((few_means (variables F)).1 L.few_variables) ∙ e))
  fault_by (passes _ (fails e)) L = absurd (true≢false (sym ((lists_mean F.rows F.cols F.quad).1 (L.rows_long, (L.cols_long, L.few_entries))) ∙ e))
  fault_by (passes _ (passes _ (fails e))) L = (fault_means (variables F) F.rows F.cols (L.rows_long ∙ sym L.cols_long) _).0 (e, refl)
  fault_by {r = r} (passes _ (passes _ (passes _ x25))) L = elim x25 [ ]

  -- Theorem. 14 to 17: past tests 1 and 2 each is given exactly if every entry before its position is fine, and the entry there has this fault and none tested earlier.
  pub fault_exactly : Listed F → (r : Refusal) → (tested (shape_tests F) ≡ Err r) ↔ Fault (variables F) F.rows F.cols r
  unfolding shape_tests
  fault_exactly L r = (
    (λ e. fault_by ((refused_exactly (shape_tests F) r).0 e) L),
    λ x.
        let h = (fault_means (variables F) F.rows F.cols (L.rows_long ∙ sym L.cols_long) r).1 x in
        let lists = (lists_mean F.rows F.cols F.quad).1 (L.rows_long, (L.cols_long, L.few_entries)) in
        sym (test_ok Variables _ ((few_means (variables F)).1 L.few_variables) (test_ok Lists _ lists (test_no (fault_of (variables F) F.rows F.cols) [] h.0)))
        ∙ ap (λ (s : Refusal). Err s) h.1,
  )

  -- a position is below 32,768: the lists are no longer where an entry is at fault
  shape_near : {r : Refusal} → FirstToFail (shape_tests F) r → position_of r < 32768
  unfolding shape_tests
  shape_near (fails e) = omega arith
  shape_near (passes _ (fails e)) = omega arith
  shape_near (passes _ (passes l (fails e))) =
      let lists = (lists_mean F.rows F.cols F.quad).0 l in
      let at = fault_position ((fault_means (variables F) F.rows F.cols (lists.0 ∙ sym lists.1.0) _).0 (e, refl)) in
      omega (arith, at, lists.0, lists.1.1)
  shape_near {r = r} (passes _ (passes l (passes _ x20))) = elim x20 [ ]

-- ---- the position that a group of tests names

pub near_none : Near []
unfolding tested
near_none r e = absurd (not_both refl e)

pub near_test : (s : Refusal) (b : Bool) (ts : List Test) → position_of s < 32768 → Near ts → Near (test s b ∷ ts)
near_test s b ts few rest r e = by ((refused_exactly (test s b ∷ ts) r).0 e)
  where
    by : {x : Refusal} → FirstToFail (test s b ∷ ts) x → position_of x < 32768
    by (fails q) = few
    by {x} (passes q f) = rest x ((refused_exactly ts x).1 f)

pub near_group : (ts us : List Test) → Near ts → Near us → Near (ts ++ us)
near_group ts us first rest r e = go (tested ts) refl
  where
    go : (x : Answer Unit) → tested ts ≡ x → position_of r < 32768
    go (Ok _) q = rest r (group_ok ts us q refl ∙ e)
    go (Err s) q = subst (λ (t : Refusal). position_of t < 32768) (same_refusal (group_no ts us q ∙ e)) (first s q)

-- Theorem. Any position that the tests of the shape name is below 32,768.
pub shapes_near : (F : Field) → Near (shape_tests F)
shapes_near F r e = shape_near F ((refused_exactly (shape_tests F) r).0 e)

-- Theorem. Any position that the tests of a field with a diagonal name is below 32,768.
pub loose_near : (F : Field) → Near (loose_tests F)
unfolding loose_tests
loose_near F = near_group _ _ (shapes_near F) (near_test Weights _ _ (omega arith) near_none)

-- Theorem. Any position that these tests with start values and scratch name is below 32,768.
pub open_near : (F : Field) (s : List ℕ) (floats words : ℕ) → Near (open_tests F s floats words)
unfolding open_tests
open_near F s floats words =
    near_group _ _ (loose_near F) (near_test Start _ _ (omega arith) (near_test Scratch _ _ (omega arith) (near_test Scratch _ _ (omega arith) near_none)))

-- Theorem. Any position that the tests of standard form name is below 32,768.
pub standard_near : (F : Field) (s : List ℕ) → Near (standard_tests F s)
unfolding standard_tests
standard_near F s = near_group _ _ (shapes_near F) (near_test Diagonal _ _ (omega arith) (near_test Weights _ _ (omega arith) (near_test Start _ _ (omega arith) near_none)))

-- Theorem. Any position that all the tests of a field, its start values and scratch name is below 32,768.
pub ready_near : (F : Field) (s : List ℕ) (floats words : ℕ) → Near (ready_tests F s floats words)
unfolding ready_tests
ready_near F s floats words = near_group _ _ (standard_near F s) (near_test Scratch _ _ (omega arith) (near_test Scratch _ _ (omega arith) near_none))
