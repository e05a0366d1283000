-- The list of a reason: each place of it is a neighbour with a value, every such neighbour is in it, it rises, and it is all that a bound sees. Assumes nothing.
use Prim.Native.Nat.{ℕ, zero, suc, ◌+◌, ◌≤◌, ◌<◌}
use mathlib.Core.Path.{◌≡◌, refl, sym, ap, ◌∙◌}
use mathlib.Core.Logic.{◌≢◌, ◌⊎◌, inl, inr, ⊎_elim}
use mathlib.Core.Bool.{Bool, true, false, cond, not, ◌&&◌, ◌||◌, true≢false}
use mathlib.Core.List.{List, [], ◌∷◌, ◌++◌, append-nil}
use native.Mathlib.Nat.{eq-or-lt_of_le}
use native.Mathlib.Omega.{arith}
use borrow.Author.Tests.{eqb-true, eqb-false}
use lib.ListN.{length, get_or, length-append, get_or-append}
use lib.Seq.{get_or-append_seam}
use lib.Dec.{eqb}
use Rattle.meaning.specs.Free.{is_free}
use Rattle.meaning.proofs.Values.{below_or_at}
use Rattle.field.specs.Field.{Field, variables, entries, row_end, column_end}
use Rattle.rows.specs.Stored.{up_to}
use Rattle.rows.proofs.Upto.{get_d_up_to, length_up_to}
use Rattle.reason.specs.Listed.{joins_at, joins_to, is_listed, listed_to, Only}
use Rattle.reason.proofs.Local.{joins_some}

-- ---- a list that grows where a test holds, whatever the test

module _ (F : Field) (r : List ℕ) (i : ℕ) where
  -- each place holds a variable below n that is listed
  pub listed_at : (n a : ℕ) → a < length (listed_to F r i n) → (get_or (listed_to F r i n) a 0 < n) × (is_listed F r i (get_or (listed_to F r i n) a 0) ≡ true)
  unfolding listed_to
  listed_at zero a h = absurd (omega arith)
  listed_at (suc n) a h = go (is_listed F r i n) refl (listed_at n a)
    where
      l : List ℕ
      l = listed_to F r i n

      go : (b : Bool) → is_listed F r i n ≡ b → (a < length l → (get_or l a 0 < n) × (is_listed F r i (get_or l a 0) ≡ true))
          → (get_or (l ++ cond (is_listed F r i n) (n ∷ []) []) a 0 < suc n) × (is_listed F r i (get_or (l ++ cond (is_listed F r i n) (n ∷ []) []) a 0) ≡ true)
      go true e ih = rw e (at (eq-or-lt_of_le (within (length-append l (n ∷ [])) (rw e at h))))
        where
          within : length (l ++ n ∷ []) ≡ length l + 1 → a < length (l ++ n ∷ []) → a ≤ length l
          within x y = omega arith

          at : (a ≡ length l) ⊎ (a < length l) → (get_or (l ++ n ∷ []) a 0 < suc n) × (is_listed F r i (get_or (l ++ n ∷ []) a 0) ≡ true)
          at (inl z) = rw (z, get_or-append_seam l n [] 0) (omega arith, e)
          at (inr z) = rw (get_or-append l (n ∷ []) 0 a z) (let x = ih z in (omega (arith, x.0), x.1))
      go false e ih = rw (e, append-nil l) (let x = ih (rw (e, append-nil l) at h) in (omega (arith, x.0), x.1))

  -- every listed variable below n has a place
  pub listed_in : (n j : ℕ) → j < n → is_listed F r i j ≡ true → (a : ℕ) × (a < length (listed_to F r i n)) × (get_or (listed_to F r i n) a 0 ≡ j)
  unfolding listed_to
  listed_in zero j h e = absurd (omega arith)
  listed_in (suc n) j h e = elim (below_or_at h) [
    | inl b ↦ (let x = listed_in n j b e in
        (x.0, omega (arith, x.1, length-append l more), get_or-append l more 0 x.0 x.1 ∙ x.2))
    | inr b ↦ rw (b, rw b at e) (length l, omega (arith, length-append l (n ∷ [])), get_or-append_seam l n [] 0)
  ]
    where
      l : List ℕ
      l = listed_to F r i n

      more : List ℕ
      more = cond (is_listed F r i n) (n ∷ []) []

  -- they are n at most
  pub listed_few : (n : ℕ) → length (listed_to F r i n) ≤ n
  unfolding listed_to
  listed_few zero = omega arith
  listed_few (suc n) = omega (arith, listed_few n, length-append (listed_to F r i n) (cond (is_listed F r i n) (n ∷ []) []), one (is_listed F r i n))
    where
      one : (b : Bool) → length {A = ℕ} (cond b (n ∷ []) []) ≤ 1
      one true = omega arith
      one false = omega arith

  -- they rise
  pub listed_rises : (n a b : ℕ) → a < b → b < length (listed_to F r i n) → get_or (listed_to F r i n) a 0 < get_or (listed_to F r i n) b 0
  unfolding listed_to
  listed_rises zero a b l h = absurd (omega arith)
  listed_rises (suc n) a b l h = go (is_listed F r i n) refl (listed_rises n a b l)
    where
      m : List ℕ
      m = listed_to F r i n

      go : (c : Bool) → is_listed F r i n ≡ c → (b < length m → get_or m a 0 < get_or m b 0)
          → get_or (m ++ cond (is_listed F r i n) (n ∷ []) []) a 0 < get_or (m ++ cond (is_listed F r i n) (n ∷ []) []) b 0
      go true e ih = rw e (at (eq-or-lt_of_le (within (length-append m (n ∷ [])) (rw e at h))))
        where
          within : length (m ++ n ∷ []) ≡ length m + 1 → b < length (m ++ n ∷ []) → b ≤ length m
          within x y = omega arith

          at : (b ≡ length m) ⊎ (b < length m) → get_or (m ++ n ∷ []) a 0 < get_or (m ++ n ∷ []) b 0
          at (inl z) = rw (z, get_or-append_seam m n [] 0, get_or-append m (n ∷ []) 0 a (omega arith)) (listed_at n a (omega arith)).0
          at (inr z) = rw (get_or-append m (n ∷ []) 0 a (omega arith), get_or-append m (n ∷ []) 0 b z) (ih z)
      go false e ih = rw (e, append-nil m) (ih (rw (e, append-nil m) at h))

-- ---- what a listed variable is

and_true : (a b : Bool) → (a && b) ≡ true → (a ≡ true) × (b ≡ true)
and_true true b e = (refl, e)
and_true false b e = absurd (true≢false (sym e))

or_true : (a b : Bool) → (a || b) ≡ true → (a ≡ true) ⊎ (b ≡ true)
or_true true b e = inl refl
or_true false b e = inr e

not_true : (a : Bool) → not a ≡ true → a ≡ false
not_true true e = absurd (true≢false (sym e))
not_true false e = refl

-- it has a value
pub listed_fixed : (F : Field) (r : List ℕ) (i j : ℕ) → is_listed F r i j ≡ true → get_or r j 0 ≢ 2
unfolding is_listed
listed_fixed F r i j e = eqb-false (get_or r j 0) 2 (not_true (is_free r j) (and_true (not (is_free r j)) (joins_to F i j (entries F)) e).0)

-- and an entry joins it to i
pub joins_where : (F : Field) (i j n : ℕ) → joins_to F i j n ≡ true → (k : ℕ) × (k < n) × (joins_at F i j k ≡ true)
unfolding joins_to
joins_where F i j zero e = absurd (true≢false (sym e))
joins_where F i j (suc n) e = elim (or_true (joins_to F i j n) (joins_at F i j n) e) [
  | inl z ↦ (let x = joins_where F i j n z in (x.0, omega (arith, x.1), x.2))
  | inr z ↦ (n, omega arith, z)
]

pub joins_ends : (F : Field) (i j k : ℕ) → joins_at F i j k ≡ true → ((row_end F k ≡ i) × (column_end F k ≡ j)) ⊎ ((column_end F k ≡ i) × (row_end F k ≡ j))
joins_ends F i j k e = ⊎_elim
    (λ z. let y = and_true (eqb (row_end F k) i) (eqb (column_end F k) j) z in inl (eqb-true _ _ y.0, eqb-true _ _ y.1))
    (λ z. let y = and_true (eqb (column_end F k) i) (eqb (row_end F k) j) z in inr (eqb-true _ _ y.0, eqb-true _ _ y.1))
    (or_true (eqb (row_end F k) i && eqb (column_end F k) j) (eqb (column_end F k) i && eqb (row_end F k) j) e)

pub listed_joined : (F : Field) (r : List ℕ) (i j : ℕ) → is_listed F r i j ≡ true
    → (k : ℕ) × (k < entries F) × (((row_end F k ≡ i) × (column_end F k ≡ j)) ⊎ ((column_end F k ≡ i) × (row_end F k ≡ j)))
unfolding is_listed
listed_joined F r i j e =
    let x = joins_where F i j (entries F) (and_true (not (is_free r j)) (joins_to F i j (entries F)) e).1 in
    (x.0, x.1, joins_ends F i j x.0 x.2)

-- ---- with only the listed values fixed

module _ (F : Field) (r : List ℕ) (i : ℕ) (values : List ℕ) (same : (j : ℕ) → get_or r j 0 ≢ 2 → get_or values j 0 ≡ get_or r j 0) where
  abbrev listed : ℕ → ℕ
  listed t = get_or (listed_to F r i (variables F)) t 0

  -- a neighbour has what it has in r
  pub only_joined : {x : List ℕ} → Only (variables F) (length (listed_to F r i (variables F))) listed values x
      → (j k : ℕ) → j < variables F → k < entries F → joins_at F i j k ≡ true → get_or r j 0 ≡ get_or x j 0
  unfolding is_listed
  only_joined {x} o j k l b e = go (is_listed F r i j) refl
    where
      go : (y : Bool) → is_listed F r i j ≡ y → get_or r j 0 ≡ get_or x j 0
      go true h =
          let a = listed_in F r i (variables F) j l h in
          sym (same j (listed_fixed F r i j h)) ∙ sym (ap (λ (z : ℕ). get_or x z 0) (sym a.2) ∙ o.listed_fixed a.0 a.1 ∙ ap (λ (z : ℕ). get_or values z 0) a.2)
      go false h = free (is_free r j) refl ∙ sym (o.others_free j l (λ t c z. true≢false (sym (rw z at (listed_at F r i (variables F) t c).1) ∙ h)))
        where
          is : is_free r j ≡ false → is_listed F r i j ≡ true
          is f = rw (f, joins_some F i j k (entries F) b e) refl

          free : (y : Bool) → is_free r j ≡ y → get_or r j 0 ≡ 2
          free true f = eqb-true _ _ f
          free false f = absurd (true≢false (sym (is f) ∙ h))

  -- and there are such values
  pub only_some : (x : List ℕ) × Only (variables F) (length (listed_to F r i (variables F))) listed values x
  only_some = (
    up_to at (variables F),
    record {
      long = length_up_to at (variables F);
      listed_fixed = λ t b. let y = listed_at F r i (variables F) t b in get_d_up_to at (variables F) (listed t) 0 y.0 ∙ rw y.1 refl;
      others_free = λ j l n. get_d_up_to at (variables F) j 0 l ∙ go j l n (is_listed F r i j) refl;
    },
  )
    where
      at : ℕ → ℕ
      at j = cond (is_listed F r i j) (get_or values j 0) 2

      go : (j : ℕ) → j < variables F → ((t : ℕ) → t < length (listed_to F r i (variables F)) → listed t ≢ j) → (y : Bool) → is_listed F r i j ≡ y → cond y (get_or values j 0) 2 ≡ 2
      go j l n true h = let a = listed_in F r i (variables F) j l h in absurd (n a.0 a.1 a.2)
      go j l n false h = refl
