-- The counts of one field, from the loop over its variables to the definitions of what it adds. Assumes nothing.
use Prim.Native.Nat.{ℕ, zero, suc, ◌+◌, ◌<◌, ◌≤◌}
use mathlib.Core.Path.{◌≡◌, refl, sym, ap, ◌∙◌}
use mathlib.Core.Bool.{Bool, true, false, not, ◌&&◌, cond}
use mathlib.Core.List.{List}
use native.Mathlib.Numerals.{add-one}
use native.Mathlib.Omega.{arith}
use lib.Dec.{eqb}
use mir.Val.{bool_byte}
use lib.ListN.{length, get_or, take}
use Rattle.std.specs.Prelude.{Option, Some, None, Err, Ok}
use Rattle.meaning.specs.Free.{is_free}
use Rattle.field.specs.declared.Grade.{Grade}
use Rattle.field.specs.declared.Refusal.{Refusal}
use Rattle.field.specs.declared.Grade.TheVariants.{Exact, Inexact}
use Rattle.field.specs.Field.{Field}
use Rattle.field.specs.Grade.{is_exact_of, grade_of}
use Rattle.field.specs.Table.{tested}
use Rattle.field.specs.Tests.{standard_tests}
use Rattle.run.specs.Run.{closure}
use Rattle.records.specs.Told.{Told, field_told, parsed}
use Rattle.records.specs.Parsing.{front, answer_of, told_by, SameLent, Room, Parses}
use Rattle.records.specs.declared.parsing.Lists.{Lists}
use Rattle.records.specs.declared.parsing.Parsed.{Parsed}
use Rattle.records.proofs.Laid.{Within, laid_lengths}
use Rattle.records.proofs.Front.{parsed_within, field_whole, field_fronts}
use Rattle.answering.specs.Answer.{front_field}
use Rattle.tally.specs.Pieces.{field, fault, one, count_to, has_passed, accepted, is_read, values_of, of_read, is_forced_to}
use Rattle.tally.specs.Tally.{totals, none, counts_of, reached, met_of, met, Small}
use Rattle.tally.specs.Counting.{fates, fates_of, with_fates, read_counts, checked_counts, field_counts, Kept, SmallMet, found, malformed}
use Rattle.tally.specs.declared.Totals.{Totals}
use Rattle.tally.specs.declared.counting.Fates.{Fates}
use Rattle.field.specs.Answers.{Answer, passed}

-- ---- the loop over the variables

pub one_few : (b : Bool) → one b ≤ 1
one_few true = omega arith
one_few false = omega arith

pub count_few : (p : ℕ → Bool) (n : ℕ) → count_to p n ≤ n
unfolding count_to
count_few p zero = omega arith
count_few p (suc n) = omega (arith, count_few p n, one_few (p n))

count_next : (p : ℕ → Bool) (i : ℕ) → count_to p (i + 1) ≡ count_to p i + one (p i)
unfolding count_to
count_next p i = ap (count_to p) (add-one i)

-- a test as a number
pub bit_one : (b : Bool) → bool_byte b ≡ one b
bit_one true = refl
bit_one false = refl

pub bit_few : (b : Bool) {d : ℕ} → d ≡ bool_byte b → d ≤ 1
bit_few b e = omega (arith, e, bit_one b, one_few b)

forced_at : (v : ℕ) {first last first' last' : ℕ} → first ≡ first' → last ≡ last' → one (eqb first 2 && eqb last v) ≡ one (eqb first' 2 && eqb last' v)
forced_at v a b = rw (a, b)

-- the first i variables are counted
pub record CountedTo (start values : List ℕ) (g z o f i : ℕ) : Type 0 where
  pub within : i ≤ length start
  pub given : g ≡ count_to (λ j. not (is_free start j)) i
  pub zero : z ≡ count_to (is_forced_to 0 start values) i
  pub one : o ≡ count_to (is_forced_to 1 start values) i
  pub free : f ≡ count_to (is_free values) i

pub count_start : (start values : List ℕ) → CountedTo start values 0 0 0 0 0
unfolding count_to
count_start start values = record { within = omega arith; given = refl; zero = refl; one = refl; free = refl }

module _ {start values : List ℕ} {g z o f i : ℕ} (now : CountedTo start values g z o f i) where
  -- each count is at most the variables so far
  pub count_given : g ≤ i
  count_given = omega (arith, now.given, count_few (λ j. not (is_free start j)) i)

  pub count_zero : z ≤ i
  count_zero = omega (arith, now.zero, count_few (is_forced_to 0 start values) i)

  pub count_one : o ≤ i
  count_one = omega (arith, now.one, count_few (is_forced_to 1 start values) i)

  pub count_free : f ≤ i
  count_free = omega (arith, now.free, count_few (is_free values) i)

  pub count_turn : {first last d₁ d₂ d₃ d₄ : ℕ} → i < length start → first ≡ get_or start i 0 → last ≡ get_or values i 0 → d₁ ≡ bool_byte (not (eqb first 2))
      → d₂ ≡ one (eqb first 2 && eqb last 0) → d₃ ≡ one (eqb first 2 && eqb last 1) → d₄ ≡ bool_byte (eqb last 2)
      → CountedTo start values (g + d₁) (z + d₂) (o + d₃) (f + d₄) (i + 1)
  unfolding is_forced_to
  count_turn h a b e₁ e₂ e₃ e₄ = record {
    within = omega arith;
    given = omega (arith, now.given, e₁ ∙ bit_one _ ∙ ap (λ (x : ℕ). one (not (eqb x 2))) a, count_next (λ j. not (is_free start j)) i);
    zero = omega (arith, now.zero, e₂ ∙ forced_at 0 a b, count_next (is_forced_to 0 start values) i);
    one = omega (arith, now.one, e₃ ∙ forced_at 1 a b, count_next (is_forced_to 1 start values) i);
    free = omega (arith, now.free, e₄ ∙ bit_one _ ∙ ap (λ (x : ℕ). one (eqb x 2)) b, count_next (is_free values) i);
  }

  pub count_done : length start ≤ i → fates g z o f ≡ fates_of start values (length start)
  unfolding fates_of
  count_done h =
      let all : i ≡ length start = omega (arith, now.within) in
      rw (now.given, now.zero, now.one, now.free, all)

-- ---- a field that is read

module _ (start values : List ℕ) {grade : Grade} {d : Fates} {n : Totals} (e : d ≡ fates_of start values (length start)) (zeros : n ≡ none) where
  pub read_exact : grade ≡ Exact → totals 1 1 n.inexact n.refused d.given d.zero d.one d.free ≡ read_counts grade start values
  unfolding read_counts with_fates
  read_exact g = rw (g, e, zeros)

  pub read_inexact : grade ≡ Inexact → totals 1 n.exact 1 n.refused d.given d.zero d.one d.free ≡ read_counts grade start values
  unfolding read_counts with_fates
  read_inexact g = rw (g, e, zeros)

pub refused_one : {n : Totals} → n ≡ none → totals n.read n.exact n.inexact 1 n.given n.zero n.one n.free ≡ counts_of fault
unfolding counts_of of_read is_read
refused_one e = rw e

-- ---- the counts of a field

module _ (F : Field) (s : List ℕ) {r : Totals} where
  pub counts_read : {g : Grade} {v : List ℕ} → (tested (standard_tests F s) ≡ passed) × (g ≡ grade_of F) × (v ≡ closure F s) → r ≡ read_counts g s v → r ≡ field_counts F s
  unfolding field_counts checked_counts
  counts_read is e = rw is.0 (e ∙ rw (is.1, is.2))

  pub counts_refused : {refusal : Refusal} → tested (standard_tests F s) ≡ Err refusal → r ≡ counts_of fault → r ≡ field_counts F s
  unfolding field_counts checked_counts
  counts_refused is e = rw is e

-- the variables of one list are those of the other
graded_counts : (s v : List ℕ) (n : ℕ) → length s ≡ n → (b : Bool) → read_counts (cond b Exact Inexact) s v
    ≡ totals 1 (one b) (one (not b)) 0 (count_to (λ i. not (is_free s i)) n) (count_to (is_forced_to 0 s v) n) (count_to (is_forced_to 1 s v) n) (count_to (is_free v) n)
unfolding read_counts with_fates fates_of
graded_counts s v n e true = rw e
graded_counts s v n e false = rw e

-- what the code counts is what the definitions say
pub field_counts_lem : (t : Told) → length t.start ≡ length t.linear → field_counts (field_told t) t.start ≡ counts_of (field t)
unfolding field_counts checked_counts grade_of has_passed counts_of of_read is_read accepted values_of
field_counts_lem t e = by (tested (standard_tests (field_told t) t.start))
  where
    by : (k : Answer Unit) → checked_counts k (field_told t) t.start
        ≡ totals (cond (has_passed k) 1 0) (cond (has_passed k) (one (is_exact_of (field_told t))) 0) (cond (has_passed k) (one (not (is_exact_of (field_told t)))) 0)
        (one (not (has_passed k))) (cond (has_passed k) (count_to (λ i. not (is_free t.start i)) (length t.linear)) 0)
        (cond (has_passed k) (count_to (is_forced_to 0 t.start (closure (field_told t) t.start)) (length t.linear)) 0)
        (cond (has_passed k) (count_to (is_forced_to 1 t.start (closure (field_told t) t.start)) (length t.linear)) 0)
        (cond (has_passed k) (count_to (is_free (closure (field_told t) t.start)) (length t.linear)) 0)
    by (Ok x) = graded_counts t.start (closure (field_told t) t.start) (length t.linear) e (is_exact_of (field_told t))
    by (Err r) = refl

-- ---- the field at the front

-- the lists that were parsed into
pub parse_keeps : {s : List ℕ} {l l' : Lists} {r : Option Parsed} → Room (told_by l) → SameLent l l' → Parses s (told_by l) r (told_by l') → Kept l l'
parse_keeps {s} room same done =
    let long = laid_lengths (parsed_within s) room in
    record {
      same_lent = same;
      linear_long = ap (λ (p : Told). length p.linear) done.lists ∙ long.linear;
      rows_long = ap (λ (p : Told). length p.rows) done.lists ∙ long.rows;
      cols_long = ap (λ (p : Told). length p.cols) done.lists ∙ long.cols;
      quad_long = ap (λ (p : Told). length p.quad) done.lists ∙ long.quad;
      start_long = ap (λ (p : Told). length p.start) done.lists ∙ long.start;
    }

module _ {s : List ℕ} {p p' : Told} {r : Option Parsed} (done : Parses s p r p') where
  pub met_field : {n m end : ℕ} {counts : Totals} → r ≡ Some (front n m end) → counts ≡ field_counts (front_field n m p') (take n p'.start) → Some (reached counts end) ≡ met s
  unfolding met met_of
  met_field {end = end} {counts = counts} e same =
      let at = field_fronts done e in
      let t = (parsed s).told in
      let is : counts ≡ counts_of (field t) =
      same ∙ rw (at.linear, at.rows, at.cols, at.quad, at.start) (field_counts_lem t at.within.start) in
      ap (λ (d : Totals). Some (reached d end)) is ∙ sym (ap met_of (field_whole done e))

  pub met_malformed : r ≡ None → None ≡ met s
  unfolding met met_of
  met_malformed e = by (parsed s).whole (sym e ∙ done.answer)
    where
      by : (b : Bool) → None ≡ answer_of b (parsed s).told (parsed s).end → None ≡ cond b (Some (reached (counts_of (field (parsed s).told)) (parsed s).end)) None
      by true q = let z : ◌≡◌ {A = ℕ} 0 1 = cc in absurd (omega arith)
      by false q = refl

-- ---- what one field adds is little

cond_few : (b : Bool) (k n : ℕ) → n ≤ k → cond b n 0 ≤ k
cond_few true k n h = h
cond_few false k n h = omega arith

pub small_field : (t : Told) → Within t → Small (counts_of (field t))
unfolding counts_of of_read is_read
small_field t w =
    let few = w.few_variables in
    record {
      read = omega (arith, cond_few (accepted t) 1 1 (omega arith));
      exact = omega (arith, cond_few (accepted t) 1 _ (one_few (is_exact_of (field_told t))));
      inexact = omega (arith, cond_few (accepted t) 1 _ (one_few (not (is_exact_of (field_told t)))));
      refused = omega (arith, one_few (not (accepted t)));
      given = omega (arith, cond_few (accepted t) 256 _ (counted (λ i. not (is_free t.start i))));
      zero = omega (arith, cond_few (accepted t) 256 _ (counted (is_forced_to 0 t.start (values_of t))));
      one = omega (arith, cond_few (accepted t) 256 _ (counted (is_forced_to 1 t.start (values_of t))));
      free = omega (arith, cond_few (accepted t) 256 _ (counted (is_free (values_of t))));
    }
  where
    counted : (p : ℕ → Bool) → count_to p (length t.linear) ≤ 256
    counted p = omega (arith, count_few p (length t.linear), w.few_variables)

pub small_fault : Small (counts_of fault)
unfolding counts_of of_read is_read
small_fault = record {
  read = omega arith;
  exact = omega arith;
  inexact = omega arith;
  refused = omega arith;
  given = omega arith;
  zero = omega arith;
  one = omega arith;
  free = omega arith;
}

pub met_small : (s : List ℕ) → SmallMet (met s)
unfolding met met_of
met_small s = by (parsed s).whole
  where
    by : (b : Bool) → SmallMet (cond b (Some (reached (counts_of (field (parsed s).told)) (parsed s).end)) None)
    by true = found (small_field (parsed s).told (parsed_within s))
    by false = malformed
