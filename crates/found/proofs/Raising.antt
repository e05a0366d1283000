-- A block moved up in a list. Assumes nothing.
use Prim.Native.Nat.{ℕ, ◌+◌, ◌-◌, ◌≤◌}
use mathlib.Core.Path.{◌≡◌, refl, sym, ap, ◌∙◌}
use mathlib.Core.List.{List, ◌++◌}
use native.Mathlib.Omega.{arith}
use lib.ListN.{length, take, drop, length-append, length-drop, take-append-drop}
use lib.Seq.{paste, slice, length-slice, length-take-le, take-take}
use Rattle.std.proofs.lemmas.Slice.{between_is}
use Rattle.found.specs.Blocks.{raised}

module _ (low high top : ℕ) (list : List ℕ) (fits : top ≤ length list) where
  -- a block that ends at top stays where it is
  pub raised_none : low ≤ high → high ≡ top → list ≡ raised low high top list
  unfolding raised
  raised_none h q =
      let e : top - (high - low) ≡ low = omega arith in
      let a : take low list ≡ take low (take high list) = sym (take-take low high list h) in
      rw (e, a, q) (sym (take-append-drop top list) ∙ ap (λ (l : List ℕ). l ++ drop top list) (sym (take-append-drop low (take top list))))

  -- any other is copied there
  pub raised_copy : low ≤ high → high ≤ top → {list' : List ℕ} → list' ≡ paste list (top - (high - low)) (drop low list) (high - low) → list' ≡ raised low high top list
  unfolding raised
  raised_copy h g e =
      let a : top - (high - low) + (high - low) ≡ top = omega arith in
      e ∙ rw (a, between_is list low high) refl

  pub length_raised : low ≤ high → high ≤ top → length (raised low high top list) ≡ length list
  unfolding raised
  length_raised h g =
      let k = top - (high - low) in
      omega (
        arith,
        length-append (take k list ++ slice low high list) (drop top list),
        length-append (take k list) (slice low high list),
        length-take-le k list (omega arith),
        length-slice low high list (omega arith),
        length-drop top list,
      )
