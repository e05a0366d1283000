-- The fields that lie whole in the bytes that are held: taking them keeps the tally to come. Assumes nothing.
use Prim.Native.Nat.{ℕ, zero, suc, ◌+◌, ◌-◌, ◌^◌, ◌<◌, ◌≤◌}
use mathlib.Core.Path.{◌≡◌, refl, sym, ap, subst, ◌∙◌}
use mathlib.Core.Bool.{Bool, true, false, true≢false}
use mathlib.Core.List.{List, [], ◌∷◌, ◌++◌, append-nil}
use native.Mathlib.Omega.{arith}
use borrow.Author.Tests.{ltb-true, ltb-false}
use lib.ListN.{length, take, drop, length-append, length-drop, drop_of_length-le}
use lib.Seq.{drop-drop, drop-append-le, get_or-drop}
use Rattle.std.specs.Prelude.{None}
use Rattle.std.proofs.lemmas.List.{take_rest}
use Rattle.std.specs.declared.ops.ControlFlow.{ControlFlow}
use Rattle.std.specs.declared.ops.ControlFlow.TheVariants.{Continue, Break}
use Rattle.records.specs.declared.parsing.Lists.{Lists}
use Rattle.records.specs.Told.{Outcome, parsed}
use Rattle.records.specs.WellFormed.{longest_input}
use Rattle.records.proofs.Longest.{decided_whole, decided_fault}
use Rattle.tally.specs.Counting.{Kept}
use Rattle.tally.specs.Pieces.{field}
use Rattle.tally.specs.Tally.{plus, counts_of, met_of, met, added, stepped, reached, tally, tally_on, Small}
use Rattle.tally.specs.declared.Totals.{Totals}
use Rattle.tally.specs.declared.Ending.TheVariants.{Whole}
use Rattle.tally.specs.declared.Reached.{Reached}
use Rattle.tally.specs.declared.Tally.{Tally}
use Rattle.tally.proofs.Adds.{within_small, over_small}
use Rattle.tally.proofs.Sums.{step_on, step_moves, tally_none}
use Rattle.tally.proofs.Theorems.{read_or_refused, step_goes_on, step_ends}
use Rattle.tallying.specs.Reads.{Bytes, fields_of}
use Rattle.tallying.specs.Taking.{is_enough, Follows, left_of, Onto, Went, Takes}

-- ---- bytes

pub append_bytes : (b more : List ℕ) → Bytes b → Bytes more → Bytes (b ++ more)
append_bytes [] more h m i = m i
append_bytes (x ∷ b) more h m zero = h zero
append_bytes (x ∷ b) more h m (suc i) = append_bytes b more (λ j. h (suc j)) m i

drop_bytes : (n : ℕ) (s : List ℕ) → Bytes s → Bytes (drop n s)
drop_bytes n s h i = omega (arith, get_or-drop n s i 0, h (n + i))

-- ---- a step

not_whole : (o : Outcome) → o.whole ≡ false → met_of o ≡ None
unfolding met_of
not_whole o e = simp e

-- where more bytes are there than any field has, those that follow change nothing
step_decided : (most : ℕ) (t : Totals) (b more : List ℕ) → Bytes b → Bytes more → longest_input < length b → stepped most t (b ++ more) ≡ stepped most t b
unfolding stepped met
step_decided most t b more bytes bytes' long = ap (added most t) (go (parsed b).whole refl)
  where
    go : (w : Bool) → (parsed b).whole ≡ w → met_of (parsed (b ++ more)) ≡ met_of (parsed b)
    go true e = ap met_of (decided_whole b more bytes e)
    go false e = not_whole (parsed (b ++ more)) (decided_fault b more (append_bytes b more bytes bytes') long e) ∙ sym (not_whole (parsed b) e)

-- at the end of the input too
step_same : (last : Bool) (most : ℕ) (t : Totals) (b more : List ℕ) → Bytes b → is_enough last (length b) ≡ true → Follows last more
    → stepped most t (b ++ more) ≡ stepped most t b
unfolding is_enough
step_same true most t b more bytes e f = ap (stepped most t) (ap (λ (l : List ℕ). b ++ l) (f.none refl) ∙ append-nil b)
step_same false most t b more bytes e f = step_decided most t b more bytes f.bytes (ltb-true longest_input (length b) e)

-- a field is counted
counts_one : (most : ℕ) (t : Totals) (s : List ℕ) {t' : Totals} {used : ℕ} → stepped most t s ≡ Continue (reached t' used) → fields_of t' ≡ fields_of t + 1
unfolding plus counts_of
counts_one most t s {t'} e =
    let one = read_or_refused (field (parsed s).told) in
    let sum = ap fields_of (step_on most t s e).2 in
    omega (arith, one, sum)

pub enough_some : (last : Bool) (left : ℕ) → is_enough last left ≡ true → 0 < left
unfolding is_enough
enough_some true left e = ltb-true 0 left e
enough_some false left e = let more : longest_input < left = ltb-true longest_input left e in omega arith

short_left : (last : Bool) (left : ℕ) → is_enough last left ≡ false → left ≤ longest_input
unfolding is_enough
short_left true left e = omega (arith, ltb-false 0 left e)
short_left false left e = ltb-false longest_input left e

none_left : (last : Bool) (left : ℕ) → is_enough last left ≡ false → last ≡ true → left ≡ 0
unfolding is_enough
none_left true left e l = omega (arith, ltb-false 0 left e)
none_left false left e l = absurd (true≢false (sym l))

-- ---- the loop over the fields

-- the fields before an index are counted, and the tally to come is what it was
pub record Taking (last : Bool) (most : ℕ) (t₀ : Totals) (s : List ℕ) (t : Totals) (at : ℕ) : Type 0 where
  pub bytes : Bytes s
  pub small : Small t
  pub inside : at ≤ length s
  pub same : (more : List ℕ) → Follows last more → tally_on most t (drop at s ++ more) ≡ tally_on most t₀ (s ++ more)
  pub no_fewer : fields_of t₀ ≤ fields_of t
  pub further : 0 < at → fields_of t₀ < fields_of t

module _ {last : Bool} {most : ℕ} {t₀ : Totals} {s : List ℕ} {t : Totals} {at : ℕ} (now : Taking last most t₀ s t at) where
  pub taking_done : {b : Bool} → b ≡ is_enough last (length s - at) → b ≡ false → Takes last most t₀ s (Continue (reached t at))
  taking_done is e =
      let behind-some : longest_input < length s → 0 < at = λ h. omega (arith, short_left last (length s - at) (sym is ∙ e)) in
      record {
        same = now.same;
        went = record {
          small = now.small;
          inside = now.inside;
          all = λ l. omega (arith, none_left last (length s - at) (sym is ∙ e) l, now.inside);
          moved = behind-some;
          further = λ h. now.further (behind-some h);
        };
      }

  module _ {b : Bool} {r : ControlFlow Tally Reached} (enough : b ≡ is_enough last (length s - at)) (true-now : b ≡ true) (told : r ≡ stepped most t (take (length s - at) (drop at s))) where
    is : r ≡ stepped most t (drop at s)
    is = told ∙ ap (stepped most t) (take_rest s at)

    same_step : (more : List ℕ) → Follows last more → stepped most t (drop at s ++ more) ≡ r
    same_step more f =
        step_same last most t (drop at s) more (drop_bytes at s now.bytes) (ap (is_enough last) (length-drop at s) ∙ sym enough ∙ true-now) f ∙ sym is

    module _ {n : Reached} (q : r ≡ Continue n) where
      moves : (0 < n.at) × (n.at ≤ length s - at)
      moves = let m = step_moves most t (drop at s) (sym is ∙ q) in (m.0, omega (arith, m.1, length-drop at s))

      pub taking_room : at + n.at ≤ length s
      taking_room = omega (arith, moves.1, now.inside)

      pub taking_less : length s - (at + n.at) < length s - at
      taking_less = omega (arith, moves.0, moves.1)

      -- the tally behind the field
      behind : (more : List ℕ) → Follows last more → tally_on most n.totals (drop (at + n.at) s ++ more) ≡ tally_on most t₀ (s ++ more)
      behind more f =
          let rest : drop n.at (drop at s ++ more) ≡ drop (at + n.at) s ++ more =
          drop-append-le n.at (drop at s) more (step_moves most t (drop at s) (sym is ∙ q)).1 ∙ ap (λ (l : List ℕ). l ++ more) (drop-drop n.at at s) in
          sym (step_goes_on most t (drop at s ++ more) (same_step more f ∙ q) ∙ ap (tally_on most n.totals) rest) ∙ now.same more f

      pub taking_turn : most ≤ 2 ^ 53 → Taking last most t₀ s n.totals (at + n.at)
      taking_turn few =
          let one = counts_one most t (drop at s) (sym is ∙ q) in
          record {
            bytes = now.bytes;
            small = within_small (step_on most t (drop at s) (sym is ∙ q)).3 few;
            inside = taking_room;
            same = behind;
            no_fewer = omega (arith, one, now.no_fewer);
            further = λ h. omega (arith, one, now.no_fewer);
          }

    pub taking_over : {y : Tally} → r ≡ Break y → most ≤ 2 ^ 53 → Takes last most t₀ s (Break y)
    taking_over q few =
        let some : 0 < length (drop at s) = omega (arith, enough_some last (length s - at) (sym enough ∙ true-now), length-drop at s) in
        record {
          same = λ more f. sym (step_ends most t (drop at s ++ more) (omega (arith, length-append (drop at s) more)) (same_step more f ∙ q)) ∙ now.same more f;
          went = over_small most t (drop at s) now.small few (sym is ∙ q);
        }

-- ---- the memory of one field

pub kept_then : {l₀ l l' : Lists} → Kept l₀ l → Kept l l' → Kept l₀ l'
kept_then a b = record {
  same_lent = record {
    linear = b.same_lent.linear ∙ a.same_lent.linear;
    rows = b.same_lent.rows ∙ a.same_lent.rows;
    cols = b.same_lent.cols ∙ a.same_lent.cols;
    quad = b.same_lent.quad ∙ a.same_lent.quad;
    start = b.same_lent.start ∙ a.same_lent.start;
  };
  linear_long = b.linear_long ∙ a.linear_long;
  rows_long = b.rows_long ∙ a.rows_long;
  cols_long = b.cols_long ∙ a.cols_long;
  quad_long = b.quad_long ∙ a.quad_long;
  start_long = b.start_long ∙ a.start_long;
}

-- ---- the end of the input

no_more : Follows true []
no_more = record { bytes = λ i. omega arith; none = λ e. refl }

module _ {most : ℕ} {t : Totals} {s : List ℕ} {r : ControlFlow Tally Reached} (taken : Takes true most t s r) where
  -- no field is left
  pub end_on : {p : Reached} → r ≡ Continue p → (tally Whole p.totals ≡ tally_on most t s) × Small p.totals
  end_on {p} q =
      let went : Onto true t s p.totals p.at = subst (Went true t s) q taken.went in
      let rest : drop p.at s ++ [] ≡ [] = ap (λ (l : List ℕ). l ++ []) (drop_of_length-le s {i = p.at} (omega (arith, went.all refl))) in
      let same : tally_on most p.totals (drop p.at s ++ []) ≡ tally_on most t (s ++ []) =
      ap (λ (x : ControlFlow Tally Reached). left_of most x s []) (sym q) ∙ taken.same [] no_more in
      (sym (tally_none most p.totals) ∙ ap (tally_on most p.totals) (sym rest) ∙ same ∙ ap (tally_on most t) (append-nil s), went.small)

  pub end_over : {y : Tally} → r ≡ Break y → (y ≡ tally_on most t s) × Small y.totals
  end_over {y} q = (
    ap (λ (x : ControlFlow Tally Reached). left_of most x s []) (sym q) ∙ taken.same [] no_more ∙ ap (tally_on most t) (append-nil s),
    subst (Went true t s) q taken.went,
  )
