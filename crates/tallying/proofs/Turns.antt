-- One read: what it leaves of the tally to come, and that the loop is nearer to its end. Assumes nothing.
use Prim.Native.Nat.{ℕ, ◌+◌, ◌-◌, ◌*◌, ◌^◌, ◌<◌, ◌≤◌}
use mathlib.Core.Path.{◌≡◌, sym, ap, subst, ◌∙◌}
use mathlib.Core.Bool.{false, true≢false}
use mathlib.Core.List.{List, ◌++◌}
use native.Mathlib.Nat.{add-mul}
use native.Mathlib.Omega.{arith}
use lib.ListN.{length, take, drop, length-drop}
use lib.Seq.{length-take-le, take-add}
use Rattle.scratch.specs.Over.{over}
use Rattle.scratch.proofs.Over.{over_front}
use Rattle.records.specs.WellFormed.{longest_input}
use Rattle.std.specs.declared.ops.ControlFlow.{ControlFlow}
use Rattle.std.specs.declared.ops.ControlFlow.TheVariants.{Continue}
use Rattle.tally.specs.Tally.{tally_on, reached, Small}
use Rattle.tally.specs.declared.Reached.{Reached}
use Rattle.tally.specs.declared.Tally.{Tally}
use Rattle.tally.specs.declared.Totals.{Totals}
use Rattle.tallying.specs.Reads.{Bytes, to_come, Turns, fields_of, to_go, Goes}
use Rattle.tallying.specs.Taking.{Follows, left_of, Onto, Went, Takes}
use Rattle.tallying.proofs.Moves.{held}

-- ---- how far the loop is from its end

one_less : (a b r h k : ℕ) → b < a → b * (r + 1) + (r - k) < a * (r + 1) + (r - h)
one_less a b r h k less =
    let more : a ≡ (b + 1) + (a - (b + 1)) = omega arith in
    omega (arith, ap (λ (x : ℕ). x * (r + 1)) more, add-mul (b + 1) (a - (b + 1)) (r + 1), add-mul b 1 (r + 1))

-- a field more is counted
field_less : (room : ℕ) (t : Totals) (h : ℕ) (t' : Totals) (k : ℕ) → Small t' → fields_of t < fields_of t' → to_go room t' k < to_go room t h
field_less room t h t' k small more =
    one_less (2 * 2 ^ 53 + 1 - fields_of t) (2 * 2 ^ 53 + 1 - fields_of t') room h k (omega (arith, more, small.read, small.refused))

-- ---- one read

module _ (most : ℕ) (t : Totals) (b : List ℕ) (last n : ℕ) (inside : last + n ≤ length b) where
  -- what is held, and what was read behind it
  joins : take last b ++ take n (drop last b) ≡ take (last + n) b
  joins = sym (take-add last n b)

  read_long : length (take n (drop last b)) ≡ n
  read_long = length-take-le n (drop last b) (omega (arith, length-drop last b))

  all_long : length (take (last + n) b) ≡ last + n
  all_long = length-take-le (last + n) b inside

  -- some bytes were read, and whatever follows, the tally to come is what it was
  turned : {r : ControlFlow Tally Reached} {b' : List ℕ} → 0 < n → ((more : List ℕ) → Bytes more → to_come most r b' more ≡ tally_on most t (take (last + n) b ++ more))
      → Turns most t (take last b) (take n (drop last b)) r b'
  turned some same = record {
    keeps = λ h more bytes. same more bytes ∙ ap (λ (l : List ℕ). tally_on most t (l ++ more)) (sym joins);
    ends = λ e. absurd (omega (arith, read_long));
  }

  module _ (some : 0 < n) (full : length b ≤ last + n) {r : ControlFlow Tally Reached} (taken : Takes false most t (take (last + n) b) r) where
    follows : (more : List ℕ) → Bytes more → Follows false more
    follows more bytes = record { bytes = bytes; none = λ e. absurd (true≢false (sym e)) }

    module _ {p : Reached} (q : r ≡ Continue p) where
      went : Onto false t (take (last + n) b) p.totals p.at
      went = subst (Went false t (take (last + n) b)) q taken.went

      -- the bytes behind the fields are held
      pub turn_on : {k : ℕ} {b' : List ℕ} → k ≡ last + n - p.at → b' ≡ over (held p.at (last + n) b) b → Turns most t (take last b) (take n (drop last b)) (Continue (reached p.totals k)) b'
      turn_on {k} {b'} few e =
          let l = held p.at (last + n) b in
          let long : length l ≡ k = omega (arith, length-drop p.at (take (last + n) b), all_long, few) in
          let front : take k b' ≡ l = ap (take k) e ∙ over_front l b long in
          turned some
          (λ more bytes.
          ap (λ (d : List ℕ). tally_on most p.totals (d ++ more)) front
          ∙ ap (λ (x : ControlFlow Tally Reached). left_of most x (take (last + n) b) more) (sym q)
          ∙ taken.same more (follows more bytes))

      pub goes_on : {k : ℕ} → longest_input < length b → k ≡ last + n - p.at → Goes (length b) t last (Continue (reached p.totals k))
      goes_on {k} wide few =
          let more : fields_of t < fields_of p.totals = went.further (omega (arith, all_long)) in
          record { small = went.small; inside = omega (arith, went.moved (omega (arith, all_long)), inside); less = field_less (length b) t last p.totals k went.small more }
