-- What the library's copy within a slice leaves. Assumes nothing.
use Prim.Native.Nat.{ℕ, ◌+◌, ◌-◌}
use mathlib.Core.Path.{◌≡◌, ◌∙◌, ap}
use mathlib.Core.List.{List}
use native.Mathlib.Omega.{arith}
use lib.ListN.{length, get_or}
use Rattle.std.specs.List.{CopiedTo, SameBelow, SameFrom}
use Rattle.workspace.specs.Shifted.{Shifted}

pub shifted_copy : {A : Type 0} (d : A) (a b k : ℕ) {l l' : List A} → length l' ≡ length l
    → CopiedTo l l' a b (a + k - a) × SameBelow l l' b × SameFrom l l' (b + (a + k - a)) → Shifted d a b k l l'
shifted_copy d a b k {l} {l'} long C =
    record {
      long = long;
      moved = λ j h. C.0 (b + j) d (omega arith) (omega arith) ∙ ap (λ (i : ℕ). get_or l i d) (omega arith);
      before_it = λ j h. C.1 j d h;
      behind_it = λ j h. C.2 j d (omega arith);
    }
