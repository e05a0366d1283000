-- THE WEIGHT LAW: on an exact field a variable's weight is worth its weight in whole numbers, and the leader is the one by that weight. Assumes nothing.
use Prim.Native.Nat.{ℕ, suc, ◌+◌, ◌*◌, ◌^◌, ◌<◌, ◌≤◌}
use mathlib.Core.Path.{◌≡◌, refl, sym, ◌∙◌}
use mathlib.Core.Logic.{inl, inr, ◌↔◌}
use mathlib.Core.Bool.{Bool, true, false, cond}
use mathlib.Core.List.{List, [], ◌∷◌}
use native.Mathlib.Omega.{arith}
use borrow.Author.Tests.{ltb-true, lt-ltb, eqb-true, eq-eqb, ne_eqb}
use lib.Dec.{ltb, eqb}
use lib.ListN.{length, get_or}
use lib.Ieee.{Float, binary64, add, lt, eq, ne}
use Rattle.whole.specs.Whole.{Whole, nothing, ◌⊕◌, only, size, ◌≈◌, Under}
use Rattle.whole.proofs.Sums.{sum_same}
use Rattle.weights.specs.Worth.{Worth, magnitude, zero64}
use Rattle.weights.proofs.Worth.{add_worth, as_worth, zero_worth, magnitude_worth, lt_worth, eq_worth}
use Rattle.expansion.proofs.Exact.{zero_test}
use Rattle.meaning.specs.Field as meaning
use Rattle.field.specs.Field.{Field, entries, row_end, column_end, quad_of, Shaped}
use Rattle.field.specs.Grade.{Serves}
use Rattle.field.specs.Reading.{whole_of}
use Rattle.field.proofs.Reading.{quad_worth, quad_under}
use Rattle.places.specs.Places.{places}
use Rattle.places.proofs.Places.{places_le, places_touch}
use Rattle.anchors.specs.Sums.{weight_at, weight_over, weight_of}
use Rattle.anchors.specs.Rule.{Before, Leads}
use Rattle.anchors.specs.EdgeWeight.{edge, edge_weight, Outweighs, LeadsByWeight}
use Rattle.anchors.specs.Number.{gather}
use Rattle.anchors.proofs.Balance.{touches, gather_places}

module _ {u : ℕ} {F : Field} (S : Shaped F) (x : Serves u F) where
  abbrev W : meaning.Field
  W = whole_of u F

  -- |q| of entry k
  abbrev size_at : ℕ → Whole
  size_at k = size (W.weight k)

  off_diagonal : (k : ℕ) → k < entries F → eqb (row_end F k) (column_end F k) ≡ false
  off_diagonal k h = ne_eqb (row_end F k) (column_end F k) (x.exact.standard k h)

  -- after n entries
  abbrev Sized : ℕ → Whole → Type 0
  Sized n a = Under (2 ^ 31 * n) a

  weight_at_lem : {y : Float} {a : Whole} (n k : ℕ) → n < 32768 → k < entries F → Sized n a → Worth (suc u) y a → Worth (suc u) (weight_at F y k) (a ⊕ size_at k)
  unfolding weight_at
  weight_at_lem {y} {a} n k hn h l w = rw (off_diagonal k h) (go (ne (quad_of F k) zero64) (λ e. (zero_test (quad_worth x.exact k h)).0 e))
    where
      go : (b : Bool) → (b ≡ false → (W.weight k).plus ≡ (W.weight k).less) → Worth (suc u) (cond b (add binary64 y (magnitude (quad_of F k))) y) (a ⊕ size_at k)
      go true z = add_worth w (magnitude_worth (quad_worth x.exact k h)) (omega (arith, quad_under x.exact k h))
      go false z = as_worth w (omega (arith, z refl))

  weight_over_lem : {y : Float} {a : Whole} (ks : List ℕ) (n : ℕ) → n + length ks ≤ 32768 → ((h : ℕ) → h < length ks → get_or ks h 0 < entries F) → Sized n a → Worth (suc u) y a
      → Worth (suc u) (weight_over F y ks) (a ⊕ gather size_at ks)
  unfolding weight_over gather
  weight_over_lem [] n hn all l w = as_worth w (omega arith)
  weight_over_lem {y = y} (k ∷ ks) n hn all l w =
      let here : k < entries F = all 0 (omega arith) in
      as_worth (weight_over_lem {y = weight_at F y k} ks (suc n) (omega arith) (λ h b. all (suc h) (omega arith)) (omega (arith, quad_under x.exact k here)) (weight_at_lem n k (omega arith) here l w)) (omega arith)

  -- an entry off the diagonal counts where it touches i
  edge_is : (i k : ℕ) → k < entries F → only (touches F i k) (size_at k) ≈ edge W i k
  edge_is i k h = rw (off_diagonal k h) refl

  -- Theorem. On an exact field the edge weight that is added in f64 is the edge weight in whole numbers.
  pub weight_worth : (i : ℕ) → Worth (suc u) (weight_of F i) (edge_weight (whole_of u F) i)
  unfolding weight_of
  weight_worth i =
      let few : 0 + length (places F.rows F.cols i) ≤ 32768 = omega (arith, places_le F.rows F.cols i, S.rows_long, S.few_entries) in
      let within : (h : ℕ) → h < length (places F.rows F.cols i) → get_or (places F.rows F.cols i) h 0 < entries F =
      λ h l. omega (arith, (places_touch F.rows F.cols i h l).0, S.rows_long) in
      as_worth (weight_over_lem {a = nothing} (places F.rows F.cols i) 0 few within (omega arith) (zero_worth (omega (arith, x.to))))
      (omega (arith, gather_places S size_at i, sum_same (entries F) (λ k. only (touches F i k) (size_at k)) (edge W i) (edge_is i)))

  -- ---- the leader

  abbrev weight : ℕ → Whole
  weight = edge_weight W

  lighter : (a i : ℕ) → lt (weight_of F i) (weight_of F a) ≡ ltb ((weight i).plus + (weight a).less) ((weight a).plus + (weight i).less)
  lighter a i = lt_worth (weight_worth i) (weight_worth a)

  level : (a i : ℕ) → eq (weight_of F i) (weight_of F a) ≡ eqb ((weight i).plus + (weight a).less) ((weight a).plus + (weight i).less)
  level a i = eq_worth (weight_worth i) (weight_worth a)

  -- a variable stands before another exactly if it does in whole numbers
  pub before_exact : (a i : ℕ) → Before F a i ↔ Outweighs (whole_of u F) a i
  before_exact a i = (to, from)
    where
      to : Before F a i → Outweighs W a i
      to (inl e) = inl (omega (arith, ltb-true ((weight i).plus + (weight a).less) ((weight a).plus + (weight i).less) (sym (lighter a i) ∙ e)))
      to (inr e) = inr (omega (arith, eqb-true ((weight i).plus + (weight a).less) ((weight a).plus + (weight i).less) (sym (level a i) ∙ e.0)), e.1)

      from : Outweighs W a i → Before F a i
      from (inl h) = inl (lighter a i ∙ lt-ltb ((weight i).plus + (weight a).less) ((weight a).plus + (weight i).less) (omega arith))
      from (inr h) = inr (level a i ∙ eq-eqb ((weight i).plus + (weight a).less) ((weight a).plus + (weight i).less) (omega (arith, h.0)), h.1)

  -- Theorem. The leader of a part is its member of greatest weight in whole numbers, then of lowest index.
  pub leads_exact : (K : List ℕ) (a : ℕ) → Leads F K a ↔ LeadsByWeight (whole_of u F) K a
  leads_exact K a = (
    (λ l. record { member = l.member; first = λ i h. (before_exact a i).0 (l.first i h) }),
    λ l. record { member = l.member; first = λ i h. (before_exact a i).1 (l.first i h) },
  )
