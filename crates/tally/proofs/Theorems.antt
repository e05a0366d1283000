-- What the totals of a tally are, in plain words. Assumes nothing.
use Prim.Native.Nat.{ℕ, zero, suc, ◌+◌, ◌-◌, ◌*◌, ◌/◌, ◌%◌, ◌<◌, ◌≤◌}
use mathlib.Core.Path.{◌≡◌, refl, sym, ap, subst, ◌∙◌}
use mathlib.Core.Logic.{◌⊎◌, ⊎_elim}
use mathlib.Core.Bool.{Bool, true, false, not, ◌&&◌, cond, true≢false}
use mathlib.Core.List.{List, [], ◌∷◌, ◌++◌, append_assoc, append-nil}
use native.Mathlib.Nat.{div-add-mod', mod-lt, mul-add-div_right, mul-add-mod_self_right, div-eq_of_lt, mod-eq_of_lt, add-zero, zero-add}
use native.Mathlib.Omega.{arith}
use borrow.Author.Tests.{eqb-false, ne_eqb, lt-ltb, le-ltb}
use lib.Dec.{eqb, ltb}
use lib.ListN.{length, get_or, drop, length-append}
use lib.Seq.{drop_at}
use Rattle.std.specs.declared.ops.ControlFlow.TheVariants.{Continue, Break}
use Rattle.meaning.specs.Free.{is_free}
use Rattle.field.specs.Grade.{is_exact_of}
use Rattle.field.specs.Table.{tested}
use Rattle.field.specs.Tests.{standard_tests, Sound}
use Rattle.field.proofs.Means.{standard_passes}
use Rattle.run.specs.Run.{closure}
use Rattle.run.proofs.Theorems.{closure_extends, closure_valid}
use Rattle.text.specs.Text.{decimal, space}
use Rattle.records.specs.Told.{Told, nothing, field_told, Outcome, outcome, parsed}
use Rattle.records.specs.WellFormed.{spelled, Spells}
use Rattle.records.proofs.Front.{parsed_ends}
use Rattle.records.proofs.Means.{spelled_parsed, parsed_means}
use Rattle.tally.specs.Pieces.{Piece, field, fault, followed, pieces_from, pieces, one, count_to, has_passed, accepted, values_of, of_read, is_read, reads, exacts, inexacts, refusals, is_forced_to, givens, zeros, ones, frees, variables, sum_of}
use Rattle.tally.specs.Tally.{none, totals_of, plus, counts_of, AtMost, is_within, counted, Counts, has_fault, ending_of, reached, tally, tally_on, tally_of, stepped}
use Rattle.tally.specs.Text.{rate_text}
use Rattle.tally.specs.declared.Totals.{Totals}
use Rattle.tally.specs.declared.Ending.{Ending}
use Rattle.tally.specs.declared.Ending.TheVariants.{Whole, Malformed, Full}
use Rattle.tally.proofs.Adds.{within_all, all_within}
use Rattle.tally.proofs.Sums.{pieces_front, step_on, step_moves, after_step, tally_step}
use Rattle.field.specs.Answers.{Answer, passed}
use Rattle.std.specs.Prelude.{Err, Ok}

-- ---- sums

sum_two : (g h k : Piece → ℕ) → ((p : Piece) → g p ≡ h p + k p) → (ps : List Piece) → sum_of g ps ≡ sum_of h ps + sum_of k ps
unfolding sum_of
sum_two g h k e [] = omega arith
sum_two g h k e (p ∷ ps) = omega (arith, e p, sum_two g h k e ps)

sum_four : (g a b c d : Piece → ℕ) → ((p : Piece) → g p ≡ a p + b p + c p + d p) → (ps : List Piece)
    → sum_of g ps ≡ sum_of a ps + sum_of b ps + sum_of c ps + sum_of d ps
unfolding sum_of
sum_four g a b c d e [] = omega arith
sum_four g a b c d e (p ∷ ps) = omega (arith, e p, sum_four g a b c d e ps)

-- ---- one field

by_grade : (b d : Bool) → cond b 1 0 ≡ cond b (one d) 0 + cond b (one (not d)) 0
by_grade true true = refl
by_grade true false = refl
by_grade false d = refl

read_one : (p : Piece) → reads p ≡ exacts p + inexacts p
unfolding of_read
read_one (field t) = by_grade (accepted t) (is_exact_of (field_told t))
read_one fault = refl

-- Theorem. A field is read or refused, and never both.
pub read_or_refused : (p : Piece) → reads p + refusals p ≡ 1
unfolding of_read is_read
read_or_refused (field t) = by (accepted t)
  where
    by : (b : Bool) → cond b 1 0 + one (not b) ≡ 1
    by true = refl
    by false = refl
read_or_refused fault = refl

three : (x : ℕ) → x ≤ 2 → one (eqb x 0) + one (eqb x 1) + one (eqb x 2) ≡ 1
three zero h = refl
three (suc zero) h = refl
three (suc (suc zero)) h = refl
three (suc (suc (suc x))) h = absurd (omega arith)

-- each variable is given, or forced to 0 or to 1, or free at the end
one_fate : (s v : List ℕ) (i : ℕ) → (get_or s i 0 ≡ 2) ⊎ (get_or v i 0 ≡ get_or s i 0) → get_or v i 0 ≤ 2
    → one (not (is_free s i)) + one (is_forced_to 0 s v i) + one (is_forced_to 1 s v i) + one (is_free v i) ≡ 1
unfolding is_forced_to
one_fate s v i kept small = go (is_free s i) refl
  where
    go : (b : Bool) → is_free s i ≡ b → one (not b) + one (b && eqb (get_or v i 0) 0) + one (b && eqb (get_or v i 0) 1) + one (eqb (get_or v i 0) 2) ≡ 1
    go true e = omega (arith, three (get_or v i 0) small)
    go false e =
        let other = eqb-false (get_or s i 0) 2 e in
        let stays : get_or v i 0 ≡ get_or s i 0 = ⊎_elim (λ q. absurd (other q)) (λ q. q) kept in
        simp (ne_eqb (get_or v i 0) 2 (λ q. other (sym stays ∙ q)))

all_fates : (s v : List ℕ) → ((i : ℕ) → (get_or s i 0 ≡ 2) ⊎ (get_or v i 0 ≡ get_or s i 0)) → ((i : ℕ) → get_or v i 0 ≤ 2) → (n : ℕ)
    → n ≡ count_to (λ i. not (is_free s i)) n + count_to (is_forced_to 0 s v) n + count_to (is_forced_to 1 s v) n + count_to (is_free v) n
unfolding count_to
all_fates s v kept small zero = refl
all_fates s v kept small (suc n) = omega (arith, all_fates s v kept small n, one_fate s v n (kept n) (small n))

has_passed_lem : (k : Answer Unit) → has_passed k ≡ true → k ≡ passed
unfolding has_passed
has_passed_lem (Ok x) e = refl
has_passed_lem (Err r) e = absurd (true≢false (sym e))

-- a field that is read is sound
pub accepted_sound : (t : Told) → accepted t ≡ true → Sound (field_told t) t.start
unfolding accepted
accepted_sound t e = (standard_passes (field_told t) t.start).0 (has_passed_lem (tested (standard_tests (field_told t) t.start)) e)

fates_one : (p : Piece) → variables p ≡ givens p + zeros p + ones p + frees p
unfolding of_read values_of
fates_one fault = refl
fates_one (field t) = go (accepted t) refl
  where
    go : (b : Bool) → accepted t ≡ b
        → cond b (length t.linear) 0
        ≡ cond b (count_to (λ i. not (is_free t.start i)) (length t.linear)) 0
        + cond b (count_to (is_forced_to 0 t.start (closure (field_told t) t.start)) (length t.linear)) 0
        + cond b (count_to (is_forced_to 1 t.start (closure (field_told t) t.start)) (length t.linear)) 0
        + cond b (count_to (is_free (closure (field_told t) t.start)) (length t.linear)) 0
    go true e =
        let start = (accepted_sound t e).start in
        all_fates t.start (closure (field_told t) t.start) (closure_extends (field_told t) start).kept (closure_valid (field_told t) start).small (length t.linear)
    go false e = refl

-- ---- the totals

none_plus : (t : Totals) → plus none t ≡ t
unfolding plus
none_plus t = rw (
  zero-add t.read,
  zero-add t.exact,
  zero-add t.inexact,
  zero-add t.refused,
  zero-add t.given,
  zero-add t.zero,
  zero-add t.one,
  zero-add t.free,
)

module _ (most : ℕ) (s : List ℕ) where
  -- Theorem. Each total is the sum over the pieces that are counted.
  pub totals_are : (tally_of most s).totals ≡ totals_of (counted most none (pieces s))
  unfolding tally_of tally_on
  totals_are = none_plus (totals_of (counted most none (pieces s)))

  -- Theorem. The number read is that of the exact and of the inexact fields together.
  pub read_splits : (tally_of most s).totals.read ≡ (tally_of most s).totals.exact + (tally_of most s).totals.inexact
  unfolding totals_of
  read_splits = rw totals_are (sum_two reads exacts inexacts read_one (counted most none (pieces s)))

  -- Theorem. Those given, forced to 0, forced to 1 and free are all variables of the fields that are read.
  pub variables_split : sum_of variables (counted most none (pieces s))
      ≡ (tally_of most s).totals.given + (tally_of most s).totals.zero + (tally_of most s).totals.one + (tally_of most s).totals.free
  unfolding totals_of
  variables_split = rw totals_are (sum_four variables givens zeros ones frees fates_one (counted most none (pieces s)))

-- ---- the rate

-- Theorem. The two numbers of the rate are the quotient and the remainder of 1000 times the forced by those not given.
pub rate_is : (forced rest a b : ℕ) → b < rest → 1000 * forced ≡ a * rest + b → rate_text forced rest ≡ decimal a ++ (space ++ decimal b)
unfolding rate_text
rate_is forced rest a b h e =
    let some : rest ≡ 0 → ⊥ = λ z. omega (arith, z, h) in
    let pos : 0 < rest = omega arith in
    let quotient : 1000 * forced / rest ≡ a = ap (λ (x : ℕ). x / rest) e ∙ mul-add-div_right pos a b ∙ ap (λ (x : ℕ). a + x) (div-eq_of_lt h) ∙ add-zero a in
    let remainder : 1000 * forced % rest ≡ b = ap (λ (x : ℕ). x % rest) e ∙ mul-add-mod_self_right a rest b ∙ mod-eq_of_lt h in
    simp (ne_eqb rest 0 some) (rw (quotient, remainder))

-- Theorem. Where some variable is not given, the rate has two numbers, and the second is below the number of those not given.
pub rate_shown : (forced rest : ℕ) → 0 < rest
    → (a : ℕ) × (b : ℕ) × (b < rest) × (1000 * forced ≡ a * rest + b) × (rate_text forced rest ≡ decimal a ++ (space ++ decimal b))
rate_shown forced rest pos =
    let a = 1000 * forced / rest in
    let b = 1000 * forced % rest in
    let less : b < rest = mod-lt (1000 * forced) {m = rest} pos in
    let splits : 1000 * forced ≡ a * rest + b = sym (div-add-mod' (1000 * forced) rest) in
    (a, b, less, splits, rate_is forced rest a b less splits)

-- Theorem. Where every variable is given, the rate is one dash.
pub rate_dash : (forced : ℕ) → rate_text forced 0 ≡ 45 ∷ []
unfolding rate_text
rate_dash forced = refl

-- ---- the fields

-- Theorem. An empty input has no field.
pub no_field : pieces [] ≡ []
unfolding pieces pieces_from
no_field = refl

-- Theorem. A field that is spelled at the front is the first, and what stands behind its ZZ has the others.
pub next_field : (s : List ℕ) (u : Told) (rest : List ℕ) → Spells s nothing u rest → pieces s ≡ field u ∷ pieces rest
next_field s u rest w =
    let is = spelled_parsed w in
    let ends = parsed_ends s (ap (λ (o : Outcome). o.whole) is) in
    let long = length-append (spelled w.items) rest in
    let behind : drop (length s - length rest) s ≡ rest =
    ap (drop (length s - length rest)) w.bytes ∙ drop_at (spelled w.items) rest (length s - length rest) (omega (arith, ap length w.bytes, long)) in
    pieces_front s (omega (arith, ends.later, ends.reached)) ∙ ap (followed pieces s) is ∙ ap (λ (l : List ℕ). field u ∷ pieces l) behind

-- Theorem. Where no field is spelled at the front, the input is malformed there, and what follows is not looked at.
pub fault_ends : (s : List ℕ) → ((i : ℕ) → get_or s i 0 < 256) → 0 < length s → ((u : Told) (rest : List ℕ) → Spells s nothing u rest → ⊥) → pieces s ≡ fault ∷ []
fault_ends s bytes some not-one = pieces_front s some ∙ go (parsed s).whole refl
  where
    go : (w : Bool) → (parsed s).whole ≡ w → cond w (field (parsed s).told ∷ pieces (drop (parsed s).end s)) (fault ∷ []) ≡ fault ∷ []
    go true e =
        let ends = parsed_ends s e in
        absurd (not-one (parsed s).told (drop (parsed s).end s)
        ((parsed_means s bytes (parsed s).told (parsed s).end ends.reached).0 (ap (λ (b : Bool). outcome b (parsed s).told (parsed s).end) e)))
    go false e = refl

-- ---- the limit

sum_push : (g : Piece → ℕ) (ps : List Piece) (p : Piece) → sum_of g (ps ++ p ∷ []) ≡ sum_of g ps + g p
unfolding sum_of
sum_push g [] p = omega arith
sum_push g (x ∷ ps) p = omega (arith, sum_push g ps p)

totals_push : (ps : List Piece) (p : Piece) → totals_of (ps ++ p ∷ []) ≡ plus (totals_of ps) (counts_of p)
unfolding plus totals_of counts_of
totals_push ps p = rw (
  sum_push reads ps p,
  sum_push exacts ps p,
  sum_push inexacts ps p,
  sum_push refusals ps p,
  sum_push givens ps p,
  sum_push zeros ps p,
  sum_push ones ps p,
  sum_push frees ps p,
)

module _ (most : ℕ) where
  counted_from : (done ps : List Piece) → AtMost most (totals_of done) → Counts most (done ++ ps) (done ++ counted most (totals_of done) ps)
  unfolding counted
  counted_from done [] h = record {
    rest = [];
    front = sym (append-nil (done ++ []));
    within = rw (append-nil done) h;
    passes = λ p qs e. let z : ◌≡◌ {A = ℕ} 0 1 = cc in absurd (omega arith);
  }
  counted_from done (p ∷ ps) h = rw (← totals_push done p) (go (is_within most (totals_of (done ++ p ∷ []))) refl (counted_from (done ++ p ∷ []) ps))
    where
      go : (b : Bool) → is_within most (totals_of (done ++ p ∷ [])) ≡ b
          → (AtMost most (totals_of (done ++ p ∷ [])) → Counts most ((done ++ p ∷ []) ++ ps) ((done ++ p ∷ []) ++ counted most (totals_of (done ++ p ∷ [])) ps))
          → Counts most (done ++ p ∷ ps) (done ++ cond b (p ∷ counted most (totals_of (done ++ p ∷ [])) ps) [])
      go true e ih =
          subst (λ (l : List Piece). Counts most l (done ++ p ∷ counted most (totals_of (done ++ p ∷ [])) ps)) (append_assoc done (p ∷ []) ps)
          (subst (Counts most ((done ++ p ∷ []) ++ ps)) (append_assoc done (p ∷ []) (counted most (totals_of (done ++ p ∷ [])) ps)) (ih (within_all e)))
      go false e ih = record {
        rest = p ∷ ps;
        front = ap (λ (l : List Piece). l ++ p ∷ ps) (sym (append-nil done));
        within = rw (append-nil done) h;
        passes = λ q qs r w. let same : p ≡ q = cc in
            true≢false (sym (all_within (subst (λ (x : Piece). AtMost most (totals_of (done ++ x ∷ []))) (sym same) (rw (append-nil done) at w))) ∙ e);
      }

none_within : (most : ℕ) → AtMost most none
none_within most = record {
  read = omega arith;
  exact = omega arith;
  inexact = omega arith;
  refused = omega arith;
  given = omega arith;
  zero = omega arith;
  one = omega arith;
  free = omega arith;
}

-- Theorem. The pieces that are counted stand in front, pass no limit, and would pass it with the next one.
pub counted_well : (most : ℕ) (s : List ℕ) → Counts most (pieces s) (counted most none (pieces s))
unfolding totals_of sum_of
counted_well most s = counted_from most [] (pieces s) (none_within most)

-- Theorem. No total of a tally passes the limit.
pub none_passes : (most : ℕ) (s : List ℕ) → AtMost most (tally_of most s).totals
none_passes most s = subst (AtMost most) (sym (totals_are most s)) (counted_well most s).within

-- ---- 19

sum_append : (g : Piece → ℕ) (ps qs : List Piece) → sum_of g (ps ++ qs) ≡ sum_of g ps + sum_of g qs
unfolding sum_of
sum_append g [] qs = omega arith
sum_append g (p ∷ ps) qs = omega (arith, sum_append g ps qs)

-- the pieces in front have no larger totals
front_within : (most : ℕ) (ps qs : List Piece) → AtMost most (totals_of (ps ++ qs)) → AtMost most (totals_of ps)
unfolding totals_of
front_within most ps qs w = record {
  read = omega (arith, w.read, sum_append reads ps qs);
  exact = omega (arith, w.exact, sum_append exacts ps qs);
  inexact = omega (arith, w.inexact, sum_append inexacts ps qs);
  refused = omega (arith, w.refused, sum_append refusals ps qs);
  given = omega (arith, w.given, sum_append givens ps qs);
  zero = omega (arith, w.zero, sum_append zeros ps qs);
  one = omega (arith, w.one, sum_append ones ps qs);
  free = omega (arith, w.free, sum_append frees ps qs);
}

not_full : (b : Bool) → cond b Malformed Whole ≡ Full → ⊥
not_full true e = let z : ◌≡◌ {A = ℕ} 0 1 = cc in omega arith
not_full false e = let z : ◌≡◌ {A = ℕ} 0 1 = cc in omega arith

-- Theorem. 19 is told exactly where a total over all pieces passes the limit.
pub full_exactly : (most : ℕ) (s : List ℕ)
    → ((tally_of most s).ending ≡ Full → AtMost most (totals_of (pieces s)) → ⊥) × ((AtMost most (totals_of (pieces s)) → ⊥) → (tally_of most s).ending ≡ Full)
unfolding tally_of tally_on ending_of
full_exactly most s = (told rest_of.rest rest_of.front rest_of.passes, needed rest_of.rest rest_of.front)
  where
    ps : List Piece
    ps = pieces s

    cs : List Piece
    cs = counted most none ps

    rest_of : Counts most ps cs
    rest_of = counted_well most s

    told : (rest : List Piece) → ps ≡ cs ++ rest → ((p : Piece) (qs : List Piece) → rest ≡ p ∷ qs → AtMost most (totals_of (cs ++ p ∷ [])) → ⊥)
        → cond (ltb (length cs) (length ps)) Full (cond (has_fault ps) Malformed Whole) ≡ Full → AtMost most (totals_of ps) → ⊥
    told [] front passes e w =
        let all : length ps ≤ length cs = omega (arith, ap length front, length-append cs []) in
        not_full (has_fault ps) (simp (le-ltb (length cs) (length ps) all) at e)
    told (p ∷ qs) front passes e w =
        passes p qs refl (front_within most (cs ++ p ∷ []) qs (subst (λ (l : List Piece). AtMost most (totals_of l)) (front ∙ sym (append_assoc cs (p ∷ []) qs)) w))

    needed : (rest : List Piece) → ps ≡ cs ++ rest → (AtMost most (totals_of ps) → ⊥)
        → cond (ltb (length cs) (length ps)) Full (cond (has_fault ps) Malformed Whole) ≡ Full
    needed [] front n = absurd (n (subst (λ (l : List Piece). AtMost most (totals_of l)) (sym (front ∙ append-nil cs)) rest_of.within))
    needed (p ∷ qs) front n =
        let less : length cs < length ps = omega (arith, ap length front, length-append cs (p ∷ qs)) in
        simp (lt-ltb (length cs) (length ps) less)

-- ---- the public step

-- Theorem. A step that goes on leaves the tally of what stands behind its field, with the totals so far.
pub step_goes_on : (most : ℕ) (t : Totals) (s : List ℕ) {t' : Totals} {end : ℕ} → stepped most t s ≡ Continue (reached t' end) → tally_on most t s ≡ tally_on most t' (drop end s)
step_goes_on most t s {t'} {end} e =
    let moved = step_moves most t s e in
    tally_step most t s (omega (arith, moved.0, moved.1)) ∙ ap (after_step (tally_on most) s) e

-- Theorem. A step that does not go on gives the tally of the whole input.
pub step_ends : (most : ℕ) (t : Totals) (s : List ℕ) {ending : Ending} {t' : Totals} → 0 < length s → stepped most t s ≡ Break (tally ending t') → tally_on most t s ≡ tally ending t'
step_ends most t s some e = tally_step most t s some ∙ ap (after_step (tally_on most) s) e

-- Theorem. A step that goes on leaves no total above the limit.
pub step_within : (most : ℕ) (t : Totals) (s : List ℕ) {t' : Totals} {end : ℕ} → stepped most t s ≡ Continue (reached t' end) → AtMost most t'
step_within most t s e = within_all (step_on most t s e).3
