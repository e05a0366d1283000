-- The test of the sums: one pass where all weights are small, else entry by entry. Assumes nothing.
use Prim.Native.Nat.{ℕ, zero, suc, ◌+◌, ◌<◌, ◌≤◌}
use mathlib.Core.Path.{◌≡◌, refl, sym, ap, ◌∙◌}
use mathlib.Core.Logic.{◌≢◌}
use mathlib.Core.Bool.{Bool, true, false, cond}
use mathlib.Core.List.{List, [], ◌∷◌, ◌++◌, map, map-append}
use native.Mathlib.Numerals.{add-one}
use native.Mathlib.Omega.{arith}
use borrow.Author.Tests.{eq-eqb, ne_eqb, ltb-true, lt-ltb, le-ltb}
use lib.Dec.{eqb, ltb}
use lib.ListN.{length, get_or, length-append, length-map}
use lib.Ieee.{Float, nan, binary64, add, le, of_bits}
use lib.Ieee.Scale.{finite}
use Rattle.std.specs.Prelude.{Option, Some, None}
use Rattle.std.specs.Option.{unwrap_or}
use Rattle.weights.specs.Worth.{zero64, magnitude}
use Rattle.scratch.specs.All.{all_below}
use Rattle.scratch.proofs.All.{all_means}
use Rattle.ranking.proofs.Ordered.{Every}
use Rattle.field.specs.Field.{Field, entries, quad_of}
use Rattle.field.specs.Faults.{Listed}
use Rattle.mending.specs.Places.{all_places, place_of, entries_to, entries_at, added, sum_at, sums_finite, is_empty}
use Rattle.mending.specs.Sums.{limit64, all_small, with_one, part_with, finite_at}
use Rattle.mending.proofs.Entries.{entries_there}
use Rattle.mending.proofs.Gathers.{added_last}
use Rattle.mending.proofs.Adding.{AllSmall, small_sum}

-- ---- the sum of a place, entry by entry

-- the sum over the first k entries, none where none of them is at the place
abbrev pub part_to : Field → ℕ → ℕ → Option Float
part_to F p k = cond (is_empty (entries_to F p k)) None (Some (added (map (quad_of F) (entries_to F p k))))

pub part_start : (F : Field) (p : ℕ) → None ≡ part_to F p 0
unfolding entries_to
part_start F p = refl

not_empty : (l : List ℕ) (x : ℕ) → is_empty (l ++ x ∷ []) ≡ false
not_empty [] x = refl
not_empty (y ∷ l) x = refl

pub part_turn : (F : Field) (p k : ℕ) {s r : Option Float} → s ≡ part_to F p k → r ≡ part_with F p k s → r ≡ part_to F p (k + 1)
unfolding part_with entries_to
part_turn F p k {s} {r} es er = er ∙ ap (part_with F p k) es ∙ go (eqb (place_of F k) p) ∙ ap (part_to F p) (sym (add-one k))
  where
    go : (b : Bool)
        → cond b (Some (with_one (cond (is_empty (entries_to F p k)) None (Some (added (map (quad_of F) (entries_to F p k))))) (quad_of F k)))
        (cond (is_empty (entries_to F p k)) None (Some (added (map (quad_of F) (entries_to F p k)))))
        ≡ cond (is_empty (cond b (entries_to F p k ++ k ∷ []) (entries_to F p k))) None (Some (added (map (quad_of F) (cond b (entries_to F p k ++ k ∷ []) (entries_to F p k)))))
    go false = refl
    go true = rw (not_empty (entries_to F p k) k, map-append (quad_of F) (entries_to F p k) (k ∷ []), added_last (map (quad_of F) (entries_to F p k)) (quad_of F k)) (same (entries_to F p k) (added (map (quad_of F) (entries_to F p k))))
      where
        same : (l : List ℕ) (y : Float)
            → Some (with_one (cond (is_empty l) None (Some y)) (quad_of F k)) ≡ Some (cond (is_empty (map (quad_of F) l)) (quad_of F k) (add binary64 y (quad_of F k)))
        same [] y = refl
        same (x ∷ l) y = refl

total : (F : Field) (l : List ℕ) → unwrap_or (cond (is_empty l) None (Some (added (map (quad_of F) l)))) zero64 ≡ added (map (quad_of F) l)
unfolding added
total F [] = refl
total F (x ∷ l) = refl

pub part_done : (F : Field) (p k : ℕ) {s : Option Float} → s ≡ part_to F p k → k ≡ entries F → unwrap_or s zero64 ≡ sum_at F p
unfolding sum_at
part_done F p k e h =
    ap (λ (s : Option Float). unwrap_or s zero64) e ∙ total F (entries_to F p k) ∙ ap (λ (i : ℕ). added (map (quad_of F) (entries_to F p i))) h

-- one entry, as the code tests it
module _ (F : Field) (p k : ℕ) {s : Option Float} where
  pub part_other : place_of F k ≢ p → s ≡ part_with F p k s
  unfolding part_with
  part_other n = rw (ne_eqb (place_of F k) p n)

  pub part_more : place_of F k ≡ p → {y : Float} → s ≡ Some y → Some (add binary64 y (quad_of F k)) ≡ part_with F p k s
  unfolding part_with
  part_more e h = rw (eq-eqb (place_of F k) p e, h)

  pub part_first : place_of F k ≡ p → s ≡ None → Some (quad_of F k) ≡ part_with F p k s
  unfolding part_with
  part_first e h = rw (eq-eqb (place_of F k) p e, h)

module _ (F : Field) (k : ℕ) {p : ℕ} (at : p ≡ place_of F k) where
  pub outside_finite : all_places F ≤ p → true ≡ finite_at F k
  unfolding finite_at
  outside_finite h = rw (← at, le-ltb p (all_places F) h)

  pub inside_finite : {b : Bool} → p < all_places F → b ≡ finite (sum_at F p) → b ≡ finite_at F k
  unfolding finite_at
  inside_finite h e = rw (← at, lt-ltb p (all_places F) h) e

-- ---- all places

entries_few : (F : Field) (p k : ℕ) → length (entries_to F p k) ≤ k
unfolding entries_to
entries_few F p zero = omega arith
entries_few F p (suc k) = go (eqb (place_of F k) p) (entries_few F p k)
  where
    go : (b : Bool) → length (entries_to F p k) ≤ k → length (cond b (entries_to F p k ++ k ∷ []) (entries_to F p k)) ≤ suc k
    go true h = omega (arith, length-append (entries_to F p k) (k ∷ []))
    go false h = omega arith

-- entry by entry is place by place
module _ (F : Field) where
  place_finite : ((k : ℕ) → k < entries F → finite_at F k ≡ true) → (p : ℕ) → p < all_places F → finite (sum_at F p) ≡ true
  unfolding sum_at finite_at added of_bits
  place_finite h p l = go (entries_at F p) refl (entries_there F p (entries F))
    where
      go : (es : List ℕ) → entries_at F p ≡ es → Every (λ e. (e < entries F) × (place_of F e ≡ p)) (entries_at F p) → finite (added (map (quad_of F) (entries_at F p))) ≡ true
      go [] e t = rw e
      go (x ∷ es) e t =
          let there : (x < entries F) × (place_of F x ≡ p) = (rw e at t).0 in
          rw (there.1, lt-ltb p (all_places F) l) at (h x there.0)

  entry_finite : ((p : ℕ) → p < all_places F → finite (sum_at F p) ≡ true) → (k : ℕ) → k < entries F → finite_at F k ≡ true
  unfolding finite_at
  entry_finite h k l = go (ltb (place_of F k) (all_places F)) refl
    where
      go : (b : Bool) → ltb (place_of F k) (all_places F) ≡ b → cond b (finite (sum_at F (place_of F k))) true ≡ true
      go true e = h (place_of F k) (ltb-true (place_of F k) (all_places F) e)
      go false e = refl

  same_test : (a b : Bool) → (a ≡ true → b ≡ true) → (b ≡ true → a ≡ true) → a ≡ b
  same_test true b f g = sym (f refl)
  same_test false true f g = g refl
  same_test false false f g = refl

  -- Theorem. Testing the sum at each entry's place is testing the sum at every place of the field.
  pub each_is : all_below (finite_at F) (entries F) ≡ sums_finite F
  unfolding sums_finite
  each_is =
      let a = all_means (finite_at F) (entries F) in
      let b = all_means (λ p. finite (sum_at F p)) (all_places F) in
      same_test (all_below (finite_at F) (entries F)) (all_below (λ p. finite (sum_at F p)) (all_places F)) (λ e. b.1 (place_finite (a.0 e))) (λ e. a.1 (entry_finite (b.0 e)))

  -- Theorem. Where every weight is at most 2^1008 in magnitude, every sum is finite.
  pub small_is : Listed F → all_small F.quad ≡ true → true ≡ sums_finite F
  unfolding sums_finite all_small sum_at
  small_is L e =
      let small = (all_means (λ k. le (magnitude (get_or F.quad k nan)) limit64) (entries F)).0 e in
      sym ((all_means (λ p. finite (sum_at F p)) (all_places F)).1 (λ p l.
      small_sum (map (quad_of F) (entries_at F p)) (each small p (entries_at F p) (entries_there F p (entries F)))
      (omega (arith, length-map (entries_at F p) (quad_of F), entries_few F p (entries F), L.few_entries))))
    where
      each : ((k : ℕ) → k < entries F → le (magnitude (quad_of F k)) limit64 ≡ true) → (p : ℕ) (es : List ℕ) → Every (λ e. (e < entries F) × (place_of F e ≡ p)) es → AllSmall (map (quad_of F) es)
      each small p [] h = tt
      each small p (x ∷ es) h = (small x h.0.0, each small p es h.1)
