-- An element that a loop reads and compares is the list's element there, and compared with what stands in the bytes. Assumes nothing.
use Prim.Native.Nat.{ℕ, ◌<◌}
use mathlib.Core.Path.{◌≡◌, sym, ap, ◌∙◌}
use mathlib.Core.Bool.{Bool}
use mathlib.Core.List.{List}
use lib.ListN.{length, get_or}
use Rattle.std.proofs.lemmas.List.{get_or_default}

pub compared : {A : Type 0} (same : A → A → Bool) (xs : List A) (i : ℕ) (z : A) {x v w : A} {b c : Bool}
    → i < length xs → x ≡ get_or xs i x → w ≡ v → b ≡ same x w → b ≡ c → same (get_or xs i z) v ≡ c
compared same xs i z {x} {v} {w} l is read said e =
    ap (λ y. same y v) (get_or_default xs i z x l ∙ sym is) ∙ sym (said ∙ ap (same x) read) ∙ e
