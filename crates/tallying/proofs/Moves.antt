-- The bytes that are held move to the front of the buffer. Assumes nothing.
use Prim.Native.Nat.{ℕ, ◌+◌, ◌-◌, ◌≤◌}
use mathlib.Core.Path.{◌≡◌, sym, ap, ◌∙◌}
use mathlib.Core.List.{List, ◌++◌}
use native.Mathlib.Omega.{arith}
use lib.ListN.{length, take, drop, length-drop}
use lib.Seq.{length-take-le}
use Rattle.std.proofs.Math.Seq.{paste}
use Rattle.std.proofs.lemmas.List.{drop-take}
use Rattle.scratch.specs.Over.{over}

abbrev pub held : ℕ → ℕ → List ℕ → List ℕ
held at last b = drop at (take last b)

-- a part copied to the front
pub moved : (b : List ℕ) (at last : ℕ) → at ≤ last → last ≤ length b → paste b 0 (drop at b) (last - at) ≡ over (held at last b) b
unfolding over
moved b at last h room =
    let all : at + (last - at) ≡ last = omega arith in
    let part : take (last - at) (drop at b) ≡ held at last b = sym (drop-take at (last - at) b) ∙ ap (λ (k : ℕ). held at k b) all in
    let long : 0 + (last - at) ≡ length (held at last b) = omega (arith, length-drop at (take last b), length-take-le last b room) in
    ap (λ (l : List ℕ). l ++ drop (0 + (last - at)) b) part ∙ ap (λ (k : ℕ). held at last b ++ drop k b) long
