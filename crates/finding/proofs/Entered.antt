-- One finding in the words: the probe values, the words elsewhere, and the constraints gathered. Assumes nothing.
use Prim.Native.Nat.{ℕ, zero, suc, ◌+◌, ◌<◌, ◌≤◌}
use mathlib.Core.Path.{◌≡◌, refl, sym, ap, ◌∙◌, subst}
use mathlib.Core.Logic.{◌≢◌}
use mathlib.Core.Bool.{true, cond}
use mathlib.Core.List.{List}
use native.Mathlib.Nat.{add-zero}
use native.Mathlib.Omega.{arith}
use borrow.Author.Tests.{lt-ltb}
use lib.Dec.{ltb}
use lib.ListN.{length, get_or, set, length-set}
use lib.Seq.{get_or-set_same, get_or-set_other}
use Rattle.constraints.specs.Keys.{key_of, Small}
use Rattle.constraints.proofs.Numbers.{key_is, record_small}
use Rattle.sorting.proofs.Joining.{slice_same}
use Rattle.found.specs.Holding.{Gathering}
use Rattle.found.proofs.Gathering.{gathering_put}
use Rattle.meaning.specs.Kinds.{Kind, at_least_one, exactly_one, no_more_than_one, greater_than, less_than, equal, Constraint, joining}
use Rattle.meaning.specs.Records.{Record, record_of}
use Rattle.probe.specs.Found.{Finding, nothing, value, constraint, found}
use Rattle.finding.specs.Finds.{added, wins, number_of, count_of}
use Rattle.finding.specs.Emit.{Bench, entered}

-- ---- the gathered words alone matter

pub gathering_same : {F : List Record} {lo hi held : ℕ} {list₀ list u u' : List ℕ} → Gathering F lo hi held list₀ list u → length u' ≡ length u
    → ((t : ℕ) → lo ≤ t → t < hi → get_or u' t 0 ≡ get_or u t 0) → Gathering F lo hi held list₀ list u'
gathering_same {F} {lo} {hi} {held} {list₀} {list} {u} {u'} G long same = record {
  flushed = G.flushed;
  holding = G.holding;
  count = G.count;
  keys = record { order = G.keys.order; room = omega (arith, G.keys.room); each = λ t a b. rw (same t a b) (G.keys.each t a b) };
  all = rw (slice_same lo hi u u' G.keys.room long same) G.all;
}

-- ---- a finding is between small ends

abbrev pub SmallFinding : Finding → Type 0
SmallFinding d = (c : Constraint) → d ≡ constraint c → Small (record_of c)

-- ---- one finding

module _ (d : Finding) (p : ℕ) (b : Bench) where
  pub entered_other : (t : ℕ) → t ≢ p → t ≢ b.end → get_or (entered d p b).words t 0 ≡ get_or b.words t 0
  unfolding entered
  entered_other t a e =
      let x = wins d (get_or b.words p 0) in
      get_or-set_other (set b.words p x) b.end t (number_of d) 0 e ∙ get_or-set_other b.words p t x 0 a

  pub entered_at : p ≢ b.end → p < length b.words → get_or (entered d p b).words p 0 ≡ wins d (get_or b.words p 0)
  unfolding entered
  entered_at a h =
      let x = wins d (get_or b.words p 0) in
      get_or-set_other (set b.words p x) b.end p (number_of d) 0 a ∙ get_or-set_same b.words p x 0 h

same_end : {F : List Record} {lo hi hi' held : ℕ} {list₀ list u : List ℕ} → hi ≡ hi' → Gathering F lo hi held list₀ list u → Gathering F lo hi' held list₀ list u
same_end e G = rw e at G

module _ (S : List Record) (lo held : ℕ) (list₀ list : List ℕ) (p : ℕ) (b : Bench) (low : p < lo) (room : b.end < length b.words)
    (G : Gathering S lo b.end held list₀ list b.words) where
  -- nothing is gathered where there is no constraint
  passed : (x y : ℕ) → Gathering S lo (b.end + 0) held list₀ list (set (set b.words p x) b.end y)
  passed x y = same_end (sym (add-zero b.end)) (gathering_same G (length-set (set b.words p x) b.end y ∙ length-set b.words p x)
      (λ t a h. get_or-set_other (set b.words p x) b.end t y 0 (λ e. absurd (omega arith)) ∙ get_or-set_other b.words p t x 0 (λ e. absurd (omega arith))))

  pub entered_gathers : (d : Finding) → SmallFinding d → Gathering (added d S) lo (entered d p b).end held list₀ list (entered d p b).words
  unfolding entered added number_of wins count_of
  entered_gathers nothing s = passed (get_or b.words p 0) 268435456
  entered_gathers (value w) s = passed w 268435456
  entered_gathers (constraint c) s =
      let k : ltb (key_of (record_of c)) 268435456 ≡ true = lt-ltb _ 268435456 (key_is (s c refl)).below in
      let x = get_or b.words p 0 in
      let G' = gathering_same {u' = set b.words p x} G (length-set b.words p x) (λ t a h. get_or-set_other b.words p t x 0 (λ e. absurd (omega arith))) in
      same_end (ap (λ z. b.end + cond z 1 0) (sym k)) (gathering_put G' (record_of c) (s c refl) (rw (length-set b.words p x) room) refl)

-- ---- the ends of a finding are small

pub none_constraint : {c : Constraint} {A : Type 0} → nothing ≡ constraint c → A
none_constraint e = let z : ◌≡◌ {A = ℕ} 0 1 = cc in absurd (omega arith)

value_constraint : {w : ℕ} {c : Constraint} {A : Type 0} → value w ≡ constraint c → A
value_constraint e = let z : ◌≡◌ {A = ℕ} 0 1 = cc in absurd (omega arith)

module _ (i j : ℕ) (a : i < 4096) (b : j < 4096) where
  is_small : (k : Kind) {d : Constraint} → constraint (joining k i j) ≡ constraint d → Small (record_of d)
  is_small k {d} e = let z : joining k i j ≡ d = cc in subst (λ (c : Constraint). Small (record_of c)) z (record_small (joining k i j) a b)

  pub found_small : (v w : ℕ) → SmallFinding (found i j v w)
  unfolding found
  found_small zero zero c e = value_constraint e
  found_small zero (suc zero) c e = is_small equal e
  found_small zero (suc (suc w)) c e = is_small greater_than e
  found_small (suc zero) zero c e = is_small exactly_one e
  found_small (suc zero) (suc zero) c e = value_constraint e
  found_small (suc zero) (suc (suc w)) c e = is_small at_least_one e
  found_small (suc (suc v)) zero c e = is_small no_more_than_one e
  found_small (suc (suc v)) (suc zero) c e = is_small less_than e
  found_small (suc (suc v)) (suc (suc w)) c e = none_constraint e
