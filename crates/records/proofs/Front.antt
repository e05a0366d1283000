-- What a caller of `parse` has: two results that its promise permits are equal, and a field lies at the front of the lists. Assumes nothing.
use Prim.Native.Nat.{ℕ, zero, suc, ◌+◌, ◌<◌, ◌≤◌}
use mathlib.Core.Path.{◌≡◌, refl, sym, ap, subst, ◌∙◌}
use mathlib.Core.Bool.{Bool, true, false, cond, true≢false}
use mathlib.Core.List.{List}
use native.Mathlib.Omega.{arith}
use lib.ListN.{length, get_or, take}
use Rattle.std.specs.Prelude.{Option, Some}
use Rattle.endian.specs.Bytes.{number_at, float_at}
use Rattle.scratch.proofs.Over.{over_front}
use Rattle.records.specs.Reading.{read_at}
use Rattle.records.specs.Told.{Told, nothing, with_weight, with_entry, with_given, may_declare, may_enter, may_give, Turned, more, ended, fault, taken, outcome, following, read_from, parsed}
use Rattle.records.specs.Parsing.{front, answer_of, Parses}
use Rattle.records.specs.declared.Record.{Record}
use Rattle.records.specs.declared.Record.TheVariants.{Weight, Entry, Given, End, Malformed}
use Rattle.records.specs.declared.parsing.Parsed.{Parsed}
use Rattle.records.proofs.Finds.{Standing, weight, entry, given, end, malformed, standing}
use Rattle.records.proofs.Laid.{Within}
use Rattle.records.proofs.Loop.{forward, nothing_within}

-- ---- one result

pub parses_once : {s : List ℕ} {p p₁ p₂ : Told} {r₁ r₂ : Option Parsed} → Parses s p r₁ p₁ → Parses s p r₂ p₂ → (r₁ ≡ r₂) × (p₁ ≡ p₂)
parses_once a b = (a.answer ∙ sym b.answer, a.lists ∙ sym b.lists)

-- ---- within the limits

stopped : (t₁ t : Told) (at : ℕ) {d : Bool} {t' : Told} {e' : ℕ} (b : Bool) → cond b (more t₁ at) (fault t) ≡ ended d t' e' → t ≡ t'
stopped t₁ t at true e = let z : ◌≡◌ {A = ℕ} 0 1 = cc in absurd (omega arith)
stopped t₁ t at false e = cc

ended_same : (found : Record) (t : Told) {d : Bool} {t' : Told} {e' : ℕ} → taken found t ≡ ended d t' e' → t ≡ t'
unfolding taken
ended_same (Weight x next) t e = stopped (with_weight x t) t next.at (may_declare (length t.linear)) e
ended_same (Entry row col x next) t e = stopped (with_entry row col x t) t next.at (may_enter (length t.quad)) e
ended_same (Given v b next) t e = stopped (with_given v b t) t next.at (may_give v b (length t.linear) t.start) e
ended_same (End next) t e = cc
ended_same Malformed t e = cc

read_within : (k : ℕ) (s : List ℕ) (at : ℕ) (t : Told) → Within t → Within (read_from k s at t).told
unfolding read_from
read_within zero s at t w = w
read_within (suc k) s at t w = go (taken (read_at s at) t) refl (λ at' t'. read_within k s at' t')
  where
    go : (u : Turned) → taken (read_at s at) t ≡ u → ((at' : ℕ) (t' : Told) → Within t' → Within (read_from k s at' t').told)
        → Within (following (read_from k s) u).told
    go (more t' at') e ih = ih at' t' (forward s at w (standing s at) e).within
    go (ended b t' e') e ih = subst Within (ended_same (read_at s at) t e) w

pub parsed_within : (s : List ℕ) → Within (parsed s).told
unfolding parsed
parsed_within s = read_within (suc (length s)) s 0 nothing nothing_within

-- ---- where the field ends

-- behind index at, and in the input
pub record Ends (at end : ℕ) (s : List ℕ) : Type 0 where
  pub later : at < end
  pub reached : end ≤ length s

went_on : (t₁ t : Told) (at : ℕ) {t' : Told} {e' : ℕ} (b : Bool) → cond b (more t₁ at) (fault t) ≡ ended true t' e' → ⊥
went_on t₁ t at true e = let z : ◌≡◌ {A = ℕ} 0 1 = cc in omega arith
went_on t₁ t at false e = let z : false ≡ true = cc in true≢false (sym z)

ended_at : (s : List ℕ) (at : ℕ) {found : Record} (t : Told) {t' : Told} {e' : ℕ} → Standing s at found → taken found t ≡ ended true t' e' → Ends at e' s
unfolding taken
ended_at s at t (weight h m) e = absurd (went_on (with_weight (float_at s (at + 2)) t) t (at + 10) (may_declare (length t.linear)) e)
ended_at s at t (entry h m) e =
    absurd (went_on (with_entry (number_at 2 s (at + 2)) (number_at 2 s (at + 4)) (float_at s (at + 6)) t) t (at + 14) (may_enter (length t.quad)) e)
ended_at s at t (given h m) e =
    let v = number_at 2 s (at + 2) in
    let b = get_or s (at + 4) 0 in
    absurd (went_on (with_given v b t) t (at + 5) (may_give v b (length t.linear) t.start) e)
ended_at s at t {e' = e'} (end h m) e = let here : at + 2 ≡ e' = cc in record { later = omega arith; reached = omega arith }
ended_at s at t malformed e = let z : false ≡ true = cc in absurd (true≢false (sym z))

read_ends : (k : ℕ) (s : List ℕ) (at : ℕ) (t : Told) → Within t → (read_from k s at t).whole ≡ true → Ends at (read_from k s at t).end s
unfolding read_from
read_ends zero s at t w h = absurd (true≢false (sym h))
read_ends (suc k) s at t w h = go (taken (read_at s at) t) refl (λ at' t'. read_ends k s at' t') h
  where
    go : (u : Turned) → taken (read_at s at) t ≡ u
        → ((at' : ℕ) (t' : Told) → Within t' → (read_from k s at' t').whole ≡ true → Ends at' (read_from k s at' t').end s)
        → (following (read_from k s) u).whole ≡ true → Ends at (following (read_from k s) u).end s
    go (more t' at') e ih q =
        let ahead = forward s at w (standing s at) e in
        let on = ih at' t' ahead.within q in
        record { later = omega (arith, ahead.later, on.later); reached = on.reached }
    go (ended b t' e') e ih q = ended_at s at t (standing s at) (e ∙ ap (λ (d : Bool). ended d t' e') q)

-- a field has two bytes at least, which stand in the input
pub parsed_ends : (s : List ℕ) → (parsed s).whole ≡ true → Ends 0 (parsed s).end s
unfolding parsed
parsed_ends s = read_ends (suc (length s)) s 0 nothing nothing_within

-- ---- the field in the lists

-- the first n places of two lists and the first m of three hold what is told
pub record Fronts (n m : ℕ) (t p : Told) : Type 0 where
  pub variables : n ≡ length t.linear
  pub entries : m ≡ length t.quad
  pub within : Within t
  pub linear : take n p.linear ≡ t.linear
  pub rows : take m p.rows ≡ t.rows
  pub cols : take m p.cols ≡ t.cols
  pub quad : take m p.quad ≡ t.quad
  pub start : take n p.start ≡ t.start

field_is : {n m end : ℕ} (b : Bool) (t : Told) (last : ℕ) → Some (front n m end) ≡ answer_of b t last
    → (b ≡ true) × (n ≡ length t.linear) × (m ≡ length t.quad) × (end ≡ last)
field_is {n} {m} {end} true t last e =
    let same : front n m end ≡ front (length t.linear) (length t.quad) last = cc in
    (refl, ap (λ (f : Parsed). f.variables) same, ap (λ (f : Parsed). f.entries) same, ap (λ (f : Parsed). f.end) same)
field_is false t last e = let z : ◌≡◌ {A = ℕ} 0 1 = cc in absurd (omega arith)

module _ {s : List ℕ} {p p' : Told} {r : Option Parsed} {n m end : ℕ} (done : Parses s p r p') (e : r ≡ Some (front n m end)) where
  is : ((parsed s).whole ≡ true) × (n ≡ length (parsed s).told.linear) × (m ≡ length (parsed s).told.quad) × (end ≡ (parsed s).end)
  is = field_is (parsed s).whole (parsed s).told (parsed s).end (sym e ∙ done.answer)

  pub field_whole : parsed s ≡ outcome true (parsed s).told end
  field_whole = ap (λ (b : Bool). outcome b (parsed s).told (parsed s).end) is.0 ∙ ap (outcome true (parsed s).told) (sym is.3)

  pub field_end : Ends 0 end s
  field_end = subst (λ (i : ℕ). Ends 0 i s) (sym is.3) (parsed_ends s is.0)

  pub field_fronts : Fronts n m (parsed s).told p'
  field_fronts =
      let t = (parsed s).told in
      let w = parsed_within s in
      record {
        variables = is.1;
        entries = is.2;
        within = w;
        linear = rw done.lists (over_front t.linear p.linear (sym is.1));
        rows = rw done.lists (over_front t.rows p.rows (w.rows ∙ sym is.2));
        cols = rw done.lists (over_front t.cols p.cols (w.cols ∙ sym is.2));
        quad = rw done.lists (over_front t.quad p.quad (sym is.2));
        start = rw done.lists (over_front t.start p.start (w.start ∙ sym is.1));
      }
