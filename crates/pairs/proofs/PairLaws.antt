-- One pair from what is prepared: the two rows, the weight between its variables, and what the walk says. Assumes nothing.
use Prim.Native.Nat.{ℕ, ◌-◌, ◌<◌, ◌≤◌}
use mathlib.Core.Path.{◌≡◌, refl, ◌∙◌}
use mathlib.Core.Bool.{true}
use mathlib.Core.List.{List}
use native.Mathlib.Omega.{arith}
use lib.ListN.{length, get_or, take, drop, length-drop}
use lib.Seq.{take_all}
use lib.Ieee.{Float, nan}
use Rattle.meaning.specs.Free.{is_free}
use Rattle.field.specs.Field.{Field, variables}
use Rattle.margins.specs.declared.bounds.Bounds.{Bounds}
use Rattle.margins.specs.Model.{start_from, bounds_to, merged_weight, tolerance, signs_of, pair_signs}
use Rattle.margins.specs.Merge.{rows_of, Rises, Looked, Listed, walk_all}
use Rattle.margins.proofs.Search.{looked_weight}
use Rattle.margins.proofs.Merged.{walk_is}
use Rattle.neighbours.specs.Rows.{keys_at, weights_at, end_of, size}
use Rattle.pairs.specs.Walk.{Prepared}

-- the part of a list from b on, as the code takes it
abbrev pub onward : {A : Type 0} → ℕ → List A → List A
onward b l = take (length l - b) (drop b l)

onward_is : {A : Type 0} (b : ℕ) (l : List A) → onward b l ≡ drop b l
onward_is b l = take_all (length l - b) (drop b l) (omega (arith, length-drop b l))

module _ {F : Field} {s : List ℕ} {f : List Float} {u : List ℕ} (P : Prepared F s f u) where
  abbrev n : ℕ
  n = variables F

  abbrev m : ℕ
  m = size F

  abbrev keys : List ℕ
  keys = onward (keys_at (variables F) (size F)) u

  abbrev weights : List Float
  weights = onward (weights_at (variables F)) f

  module _ {t : ℕ} (h : t < variables F) (fr : is_free s t ≡ true) {a e : ℕ} (ea : a ≡ get_or u t 0) (ee : e ≡ end_of (variables F) (size F) u t) where
    row_of : Listed F s t keys weights a e
    row_of = rw (onward_is (keys_at n m) u, onward_is (weights_at n) f, ea, ee) (P.row t h fr)

    in_keys : e ≤ length keys
    in_keys = rw (onward_is (keys_at n m) u) (omega (arith, length-drop (keys_at n m) u, P.laid.words, P.within t h fr))

    in_weights : e ≤ length weights
    in_weights = rw (onward_is (weights_at n) f) (omega (arith, length-drop (weights_at n) f, P.laid.floats, P.within t h fr))

    pub row_rises : Rises keys a e
    row_rises = row_of.rising

    pub edge_is : {j : ℕ} {r : Float} → j < variables F → is_free s j ≡ true → Looked keys weights a e j r → r ≡ merged_weight F t j
    edge_is hj fj L = looked_weight row_of L hj fj

  module _ {i j : ℕ} (hi : i < variables F) (hj : j < variables F) (fi : is_free s i ≡ true) (fj : is_free s j ≡ true) {ai aj ei ej : ℕ}
      (eai : ai ≡ get_or u i 0) (eaj : aj ≡ get_or u j 0) (eei : ei ≡ end_of (variables F) (size F) u i) (eej : ej ≡ end_of (variables F) (size F) u j) {t : Float} where
    pub walk_says : {edge : Float} {b r : Bounds} → t ≡ tolerance F i j → edge ≡ merged_weight F i j → b ≡ start_from (get_or f i nan) (get_or f j nan) edge
        → r ≡ (walk_all (rows_of keys weights ei ej i j t) (record { left = ai; right = aj; bounds = b })).bounds → signs_of t r ≡ pair_signs F s i j
    unfolding bounds_to
    walk_says {edge} {b} et ew eb er =
        rw er
        (walk_is F s (rows_of keys weights ei ej i j t) ai aj (row_of hi fi eai eei) (row_of hj fj eaj eej) et (record { left = ai; right = aj; bounds = b }) refl refl
        (eb ∙ rw (P.parts.linear i hi, P.parts.linear j hj, ew) refl))
