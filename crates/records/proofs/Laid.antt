-- What is told lies at the front of the lists: a store at the count adds one to it, and the step on the lists is the step on what is told. Assumes nothing.
use Prim.Native.Nat.{ℕ, ◌+◌, ◌<◌, ◌≤◌}
use mathlib.Core.Path.{◌≡◌, refl, ap}
use mathlib.Core.Bool.{Bool, true, false, cond, ◌&&◌}
use mathlib.Core.List.{[], ◌∷◌, ◌++◌}
use native.Mathlib.Omega.{arith}
use borrow.Author.Tests.{ltb-true}
use lib.Dec.{ltb, eqb}
use lib.ListN.{length, length-append}
use lib.Ieee.{Float}
use Rattle.scratch.specs.Over.{over}
use Rattle.scratch.proofs.Over.{length_over, over_at, over_set, over_push}
use Rattle.meaning.specs.Free.{is_free}
use Rattle.records.specs.Told.{Told, with_weight, with_entry, with_given, may_declare, may_enter, may_give, Turned, more, ended, fault, taken}
use Rattle.records.specs.Parsing.{answer_of, lists_of, laid, Room, tally, stored, go_on, Noted, noted, note}
use Rattle.records.specs.declared.Record.{Record}
use Rattle.records.specs.declared.Record.TheVariants.{Weight, Entry, Given, End, Malformed}
use Rattle.std.specs.declared.ops.ControlFlow.TheVariants.{Continue, Break}

-- ---- what is told

-- as many start values as weights, three lists of one length, and within the limits
pub record Within (t : Told) : Type 0 where
  pub start : length t.start ≡ length t.linear
  pub rows : length t.rows ≡ length t.quad
  pub cols : length t.cols ≡ length t.quad
  pub few_variables : length t.linear ≤ 256
  pub few_entries : length t.quad ≤ 1024

pub record SameLengths (p p' : Told) : Type 0 where
  pub linear : length p'.linear ≡ length p.linear
  pub rows : length p'.rows ≡ length p.rows
  pub cols : length p'.cols ≡ length p.cols
  pub quad : length p'.quad ≡ length p.quad
  pub start : length p'.start ≡ length p.start

pub laid_lengths : {t p : Told} → Within t → Room p → SameLengths p (laid t p)
laid_lengths {t} {p} w r = record {
  linear = length_over t.linear p.linear (omega arith);
  rows = length_over t.rows p.rows (omega arith);
  cols = length_over t.cols p.cols (omega arith);
  quad = length_over t.quad p.quad (omega arith);
  start = length_over t.start p.start (omega arith);
}

pub laid_room : {t p : Told} → Within t → Room p → Room (laid t p)
laid_room w r =
    let same = laid_lengths w r in
    record { linear = omega arith; rows = omega arith; cols = omega arith; quad = omega arith; start = omega arith }

-- ---- a step

pub and_left : (a b : Bool) → (a && b) ≡ true → a ≡ true
and_left true b e = refl
and_left false b e = e

abbrev pub laid_turn : Told → Turned → Noted
laid_turn p (more t at) = noted (Continue (tally at (length t.linear) (length t.quad))) (laid t p)
laid_turn p (ended b t end) = noted (Break (answer_of b t end)) (laid t p)

module _ (t p : Told) (w : Within t) (r : Room p) where
  weight_laid : (x : Float) (at : ℕ) (b : Bool) → may_declare (length t.linear) ≡ b
      → noted (go_on b (tally at (length t.linear + 1) (length t.quad)))
      (lists_of (stored b (length t.linear) x (over t.linear p.linear)) (over t.rows p.rows) (over t.cols p.cols) (over t.quad p.quad)
      (stored b (length t.linear) 2 (over t.start p.start)))
      ≡ laid_turn p (cond b (more (with_weight x t) at) (fault t))
  weight_laid x at true e =
      let n = length t.linear in
      let room : n < 256 = ltb-true n 256 e in
      let one_more : n + 1 ≡ length (t.linear ++ x ∷ []) = omega (arith, length-append t.linear (x ∷ [])) in
      rw (over_push t.linear p.linear n x refl (omega arith), over_push t.start p.start n 2 w.start (omega arith), one_more)
  weight_laid x at false e = refl

  entry_laid : (row col : ℕ) (x : Float) (at : ℕ) (b : Bool) → may_enter (length t.quad) ≡ b
      → noted (go_on b (tally at (length t.linear) (length t.quad + 1)))
      (lists_of (over t.linear p.linear) (stored b (length t.quad) row (over t.rows p.rows)) (stored b (length t.quad) col (over t.cols p.cols))
      (stored b (length t.quad) x (over t.quad p.quad)) (over t.start p.start))
      ≡ laid_turn p (cond b (more (with_entry row col x t) at) (fault t))
  entry_laid row col x at true e =
      let m = length t.quad in
      let room : m < 1024 = ltb-true m 1024 e in
      let one_more : m + 1 ≡ length (t.quad ++ x ∷ []) = omega (arith, length-append t.quad (x ∷ [])) in
      rw (
        over_push t.rows p.rows m row w.rows (omega arith),
        over_push t.cols p.cols m col w.cols (omega arith),
        over_push t.quad p.quad m x refl (omega arith),
        one_more,
      )
  entry_laid row col x at false e = refl

  may_give_laid : (v b : ℕ) → may_give v b (length t.linear) (over t.start p.start) ≡ may_give v b (length t.linear) t.start
  may_give_laid v b = go (ltb v (length t.linear)) refl
    where
      go : (d : Bool) → ltb v (length t.linear) ≡ d
          → (ltb v (length t.linear) && (is_free (over t.start p.start) v && ltb b 2)) ≡ (ltb v (length t.linear) && (is_free t.start v && ltb b 2))
      go true e =
          let in-range : v < length t.linear = ltb-true v (length t.linear) e in
          ap (λ (y : ℕ). ltb v (length t.linear) && (eqb y 2 && ltb b 2)) (over_at t.start p.start v 0 (omega arith))
      go false e = rw e

  given_laid : (v b at : ℕ) (d : Bool) → may_give v b (length t.linear) t.start ≡ d
      → noted (go_on d (tally at (length t.linear) (length t.quad)))
      (lists_of (over t.linear p.linear) (over t.rows p.rows) (over t.cols p.cols) (over t.quad p.quad) (stored d v b (over t.start p.start)))
      ≡ laid_turn p (cond d (more (with_given v b t) at) (fault t))
  given_laid v b at true e =
      let in-range : v < length t.linear = ltb-true v (length t.linear) (and_left _ _ e) in
      rw (over_set t.start p.start v b (omega arith))
  given_laid v b at false e = refl

  pub laid_step : (at : ℕ) (found : Record) → note found (tally at (length t.linear) (length t.quad)) (laid t p) ≡ laid_turn p (taken found t)
  unfolding note taken
  laid_step at (Weight x next) = weight_laid x next.at _ refl
  laid_step at (Entry row col x next) = entry_laid row col x next.at _ refl
  laid_step at (Given v b next) = rw (may_give_laid v b) (given_laid v b next.at _ refl)
  laid_step at (End next) = refl
  laid_step at Malformed = refl
