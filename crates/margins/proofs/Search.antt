-- The search for a key in a row whose keys rise, and what it finds in a merged row. Assumes nothing.
use mathlib.Core.Path.{◌≡◌, sym, ap, ◌∙◌}
use mathlib.Core.Bool.{true}
use mathlib.Core.List.{List}
use Prim.Native.Nat.{ℕ, ◌≤◌, ◌<◌}
use native.Mathlib.Omega.{arith}
use lib.ListN.{get_or}
use lib.Ieee.{Float, nan}
use Rattle.meaning.specs.Free.{is_free}
use Rattle.field.specs.Field.{Field, variables}
use Rattle.margins.specs.Model.{merged_weight}
use Rattle.margins.specs.Merge.{Rises, Looked, hit, miss, Searching, Listed}

module _ {keys : List ℕ} {a e k low high mid key : ℕ} (S : Searching keys a e k low high) (rises : Rises keys a e) (l : low ≤ mid) (h : mid < high) (ek : key ≡ get_or keys mid 0) where
  pub search_hit : (weights : List Float) {r : Float} → key ≡ k → r ≡ get_or weights mid nan → Looked keys weights a e k r
  search_hit weights q w = hit mid (omega (arith, S.from)) (omega (arith, S.to)) (sym ek ∙ q) w

-- in the merged row of x it is the merged weight between x and k
pub looked_weight : {F : Field} {s : List ℕ} {x a e k : ℕ} {keys : List ℕ} {weights : List Float} {r : Float} → Listed F s x keys weights a e → Looked keys weights a e k r
    → k < variables F → is_free s k ≡ true → r ≡ merged_weight F x k
looked_weight {F} {x = x} L (hit p f t q w) h free = w ∙ L.weight p f t ∙ ap (merged_weight F x) q
looked_weight {F} {x = x} {k = k} L (miss none w) h free = w ∙ sym (L.all k h free none)
