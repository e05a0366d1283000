-- The loop of `parse`: what is told so far lies in the lists, and reading on from here gives what the whole input gives. Assumes nothing.
use Prim.Native.Nat.{ℕ, zero, suc, ◌+◌, ◌-◌, ◌<◌, ◌≤◌}
use mathlib.Core.Path.{◌≡◌, refl, sym, ap, ◌∙◌}
use mathlib.Core.Bool.{Bool, true, false, cond}
use mathlib.Core.List.{List, [], ◌∷◌}
use native.Mathlib.Omega.{arith}
use borrow.Author.Tests.{ltb-true}
use lib.ListN.{length, get_or, length-append, length-set}
use lib.Ieee.{Float}
use Rattle.std.specs.Prelude.{Option}
use Rattle.endian.specs.Bytes.{number_at, float_at}
use Rattle.scratch.specs.Over.{over}
use Rattle.records.specs.Reading.{read_at}
use Rattle.records.specs.Told.{Told, nothing, with_weight, with_entry, with_given, may_declare, may_enter, may_give, Turned, more, ended, fault, taken, Outcome, outcome, following, read_from, parsed}
use Rattle.records.specs.Parsing.{answer_of, laid, Room, Parses, tally, Noted, noted, note}
use Rattle.records.specs.declared.Record.{Record}
use Rattle.records.specs.declared.parsing.Parsed.{Parsed}
use Rattle.records.specs.declared.parsing.Tally.{Tally}
use Rattle.std.specs.declared.ops.ControlFlow.{ControlFlow}
use Rattle.std.specs.declared.ops.ControlFlow.TheVariants.{Continue, Break}
use Rattle.records.proofs.Finds.{Standing, weight, entry, given, end, malformed, standing}
use Rattle.records.proofs.Laid.{Within, laid_room, laid_turn, laid_step}

-- ---- a turn goes forward

-- what a turn that goes on leaves: a later index in the input, and lists within the limits
pub record Forward (s : List ℕ) (at : ℕ) (t : Told) (at' : ℕ) : Type 0 where
  pub later : at < at'
  pub reached : at' ≤ length s
  pub within : Within t

module _ (t₁ t : Told) (at : ℕ) {t' : Told} {at' : ℕ} where
  went_on : (b : Bool) → cond b (more t₁ at) (fault t) ≡ more t' at' → (b ≡ true) × (t₁ ≡ t') × (at ≡ at')
  went_on true e = (refl, cc, cc)
  went_on false e = let z : ◌≡◌ {A = ℕ} 0 1 = cc in absurd (omega arith)

pub nothing_within : Within nothing
nothing_within = record { start = refl; rows = refl; cols = refl; few_variables = omega arith; few_entries = omega arith }

module _ (s : List ℕ) (at : ℕ) {t : Told} (w : Within t) where
  with_weight_lem : (x : Float) → may_declare (length t.linear) ≡ true → Within (with_weight x t)
  with_weight_lem x e = let few : length t.linear < 256 = ltb-true (length t.linear) 256 e in record {
    start = omega (arith, length-append t.start (2 ∷ []), length-append t.linear (x ∷ []), w.start);
    rows = w.rows;
    cols = w.cols;
    few_variables = omega (arith, length-append t.linear (x ∷ []));
    few_entries = w.few_entries;
  }

  with_entry_lem : (row col : ℕ) (x : Float) → may_enter (length t.quad) ≡ true → Within (with_entry row col x t)
  with_entry_lem row col x e = let few : length t.quad < 1024 = ltb-true (length t.quad) 1024 e in record {
    start = w.start;
    rows = omega (arith, length-append t.rows (row ∷ []), length-append t.quad (x ∷ []), w.rows);
    cols = omega (arith, length-append t.cols (col ∷ []), length-append t.quad (x ∷ []), w.cols);
    few_variables = w.few_variables;
    few_entries = omega (arith, length-append t.quad (x ∷ []));
  }

  with_given_lem : (v b : ℕ) → Within (with_given v b t)
  with_given_lem v b = record {
    start = length-set t.start v b ∙ w.start;
    rows = w.rows;
    cols = w.cols;
    few_variables = w.few_variables;
    few_entries = w.few_entries;
  }

  moved : {t₁ t' : Told} {at₁ at' : ℕ} → at < at₁ → at₁ ≤ length s → Within t₁ → t₁ ≡ t' → at₁ ≡ at' → Forward s at t' at'
  moved l r v et ea = record { later = omega arith; reached = omega arith; within = rw et at v }

  pub forward : {found : Record} {t' : Told} {at' : ℕ} → Standing s at found → taken found t ≡ more t' at' → Forward s at t' at'
  unfolding taken
  forward (weight h m) e =
      let x = float_at s (at + 2) in
      let on = went_on (with_weight x t) t (at + 10) (may_declare (length t.linear)) e in
      moved (omega arith) h (with_weight_lem x on.0) on.1 on.2
  forward (entry h m) e =
      let row = number_at 2 s (at + 2) in
      let col = number_at 2 s (at + 4) in
      let x = float_at s (at + 6) in
      let on = went_on (with_entry row col x t) t (at + 14) (may_enter (length t.quad)) e in
      moved (omega arith) h (with_entry_lem row col x on.0) on.1 on.2
  forward (given h m) e =
      let v = number_at 2 s (at + 2) in
      let b = get_or s (at + 4) 0 in
      let on = went_on (with_given v b t) t (at + 5) (may_give v b (length t.linear) t.start) e in
      moved (omega arith) h (with_given_lem v b) on.1 on.2
  forward (end h m) e = let z : ◌≡◌ {A = ℕ} 0 1 = cc in absurd (omega arith)
  forward malformed e = let z : ◌≡◌ {A = ℕ} 0 1 = cc in absurd (omega arith)

-- ---- the invariant

-- at the loop's head: lists p₀ at the start and p now, k more turns allowed
pub record Reads (s : List ℕ) (p₀ p : Told) (t : Tally) : Type 0 where
  pub told : Told
  pub k : ℕ
  pub room : Room p₀
  pub within : Within told
  pub reached : t.at ≤ length s
  pub enough : length s < t.at + k
  pub lists : p ≡ laid told p₀
  pub counts : t ≡ tally t.at (length told.linear) (length told.quad)
  pub same : read_from k s t.at told ≡ parsed s

pub reads_start : (s : List ℕ) (p : Told) → Room p → Reads s p p (tally 0 0 0)
unfolding over parsed
reads_start s p room = record {
  told = nothing;
  k = suc (length s);
  room = room;
  within = nothing_within;
  reached = omega arith;
  enough = omega arith;
  lists = refl;
  counts = refl;
  same = refl;
}

module _ {s : List ℕ} {p₀ p : Told} {t : Tally} (now : Reads s p₀ p t) where
  pub reads_room : Room p
  reads_room = rw now.lists (laid_room now.within now.room)

  pub reads_few : t.variables ≤ 256
  reads_few = rw (ap (λ (a : Tally). a.variables) now.counts) now.within.few_variables

  module _ {found : Record} {r : ControlFlow (Option Parsed) Tally} {p' : Told} (f : found ≡ read_at s t.at) (n : noted r p' ≡ note found t p) where
    step : noted r p' ≡ laid_turn p₀ (taken (read_at s t.at) now.told)
    step =
        n
        ∙ ap (λ (x : Record). note x t p) f
        ∙ ap (λ (a : Tally). note (read_at s t.at) a p) now.counts
        ∙ ap (note (read_at s t.at) (tally t.at (length now.told.linear) (length now.told.quad))) now.lists
        ∙ laid_step now.told p₀ now.within now.room t.at (read_at s t.at)

    read_more : (j : ℕ) → now.k ≡ suc j → {u : Turned} → taken (read_at s t.at) now.told ≡ u → following (read_from j s) u ≡ parsed s
    unfolding read_from
    read_more j e {u} q =
        ap (following (read_from j s)) (sym q) ∙ ap (λ (i : ℕ). read_from i s t.at now.told) (sym e) ∙ now.same

    some_left : (j : ℕ) × (now.k ≡ suc j)
    some_left = go now.k refl
      where
        go : (i : ℕ) → now.k ≡ i → (j : ℕ) × (now.k ≡ suc j)
        go zero e = absurd (omega (arith, now.reached, now.enough))
        go (suc j) e = (j, e)

    -- a turn that goes on
    record On-ward (next : Tally) : Type 0 where
      told' : Told
      at' : ℕ
      is : taken (read_at s t.at) now.told ≡ more told' at'
      counts' : next ≡ tally at' (length told'.linear) (length told'.quad)
      lists' : p' ≡ laid told' p₀

    onward : {next : Tally} → r ≡ Continue next → On-ward next
    onward {next} on = go (taken (read_at s t.at) now.told) refl step
      where
        go : (u : Turned) → taken (read_at s t.at) now.told ≡ u → noted r p' ≡ laid_turn p₀ u → On-ward next
        go (more t₁ at₁) e q =
            let both : Continue next ≡ Continue (tally at₁ (length t₁.linear) (length t₁.quad)) = sym on ∙ ap (λ (m : Noted). m.turn) q in
            record { told' = t₁; at' = at₁; is = e; counts' = cc; lists' = ap (λ (m : Noted). m.lists) q }
        go (ended b t₁ e₁) e q =
            let both : Continue next ≡ Break (answer_of b t₁ e₁) = sym on ∙ ap (λ (m : Noted). m.turn) q in
            let z : ◌≡◌ {A = ℕ} 0 1 = cc in absurd (omega arith)

    pub reads_turn : {next : Tally} → r ≡ Continue next → Reads s p₀ p' next
    reads_turn {next} on =
        let o = onward on in
        let at_next : next.at ≡ o.at' = ap (λ (a : Tally). a.at) o.counts' in
        let ahead = forward s t.at now.within (standing s t.at) o.is in
        let left = some_left in
        record {
          told = o.told';
          k = left.0;
          room = now.room;
          within = ahead.within;
          reached = omega (arith, ahead.reached, at_next);
          enough = omega (arith, ahead.later, at_next, now.enough, left.1);
          lists = o.lists';
          counts = o.counts' ∙ ap (λ (a : ℕ). tally a (length o.told'.linear) (length o.told'.quad)) (sym at_next);
          same = ap (λ (a : ℕ). read_from left.0 s a o.told') at_next ∙ read_more left.0 left.1 o.is;
        }

    pub reads_less : {next : Tally} → r ≡ Continue next → length s - next.at < length s - t.at
    reads_less {next} on =
        let o = onward on in
        let at_next : next.at ≡ o.at' = ap (λ (a : Tally). a.at) o.counts' in
        let ahead = forward s t.at now.within (standing s t.at) o.is in
        omega (arith, ahead.later, ahead.reached, at_next)

    pub reads_done : {answer : Option Parsed} → r ≡ Break answer → Parses s p₀ answer p'
    reads_done {answer} stop = go (taken (read_at s t.at) now.told) refl step
      where
        go : (u : Turned) → taken (read_at s t.at) now.told ≡ u → noted r p' ≡ laid_turn p₀ u → Parses s p₀ answer p'
        go (more t₁ at₁) e q =
            let both : Break answer ≡ Continue (tally at₁ (length t₁.linear) (length t₁.quad)) = sym stop ∙ ap (λ (m : Noted). m.turn) q in
            let z : ◌≡◌ {A = ℕ} 0 1 = cc in
            absurd (omega arith)
        go (ended b t₁ e₁) e q =
            let both : Break answer ≡ Break (answer_of b t₁ e₁) = sym stop ∙ ap (λ (m : Noted). m.turn) q in
            let left = some_left in
            let all : outcome b t₁ e₁ ≡ parsed s = read_more left.0 left.1 e in
            let said : answer ≡ answer_of b t₁ e₁ = cc in
            record {
              answer = said ∙ ap (λ (o : Outcome). answer_of o.whole o.told o.end) all;
              lists = ap (λ (m : Noted). m.lists) q ∙ ap (λ (o : Outcome). laid o.told p₀) all;
            }
