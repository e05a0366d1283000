-- Texts written one behind another are one text, and the pieces of an answer make its text. Assumes nothing.
use Prim.Native.Nat.{ℕ, zero, suc, ◌+◌, ◌-◌, ◌*◌, ◌/◌, ◌%◌, ◌^◌, ◌<◌, ◌≤◌}
use mathlib.Core.Path.{◌≡◌, refl, sym, ap, ◌∙◌}
use mathlib.Core.Bool.{Bool, true, false, cond}
use mathlib.Core.List.{List, [], ◌∷◌, ◌++◌, append_assoc, append-nil}
use native.Mathlib.Nat.{pow-succ'}
use native.Mathlib.Numerals.{add-one}
use native.Mathlib.Omega.{arith}
use borrow.Author.Tests.{lt-ltb, le-ltb, eq-eqb, ne_eqb}
use lib.Dec.{ltb}
use lib.ListN.{length, get_or, take, drop, length-append, drop_of_length-le}
use lib.Seq.{sets, sets-eq}
use borrow.Rule.Slice.PartMut.{put_mid, Post-is}
use Rattle.field.specs.declared.Grade.{Grade}
use Rattle.scratch.specs.Over.{over}
use Rattle.scratch.proofs.Over.{sets_then, over_sets}
use Rattle.text.specs.Text.{digit, digits, decimal, grade_line, forced_line, end_line, answer_text, is_forced, forced_at, forced, forced_lines, Wrote, Shows, Written}

-- ---- texts

pub wrote_none : {o : List ℕ} {at : ℕ} → Wrote [] o at o at
wrote_none = record { list = refl; next = omega arith }

module _ {a b o₀ o₁ o₂ : List ℕ} {at m r : ℕ} where
  pub wrote_then : Wrote a o₀ at o₁ m → Wrote b o₁ m o₂ r → Wrote (a ++ b) o₀ at o₂ r
  wrote_then w v = record {
    list =
        v.list
        ∙ ap (λ (i : ℕ). sets o₁ i b) w.next
        ∙ ap (λ (o : List ℕ). sets o (at + length a) b) w.list
        ∙ sets_then a b o₀ at;
    next = omega (arith, v.next, w.next, length-append a b);
  }

module _ {a b o₀ o : List ℕ} {at r : ℕ} where
  pub as_text : a ≡ b → Wrote a o₀ at o r → Wrote b o₀ at o r
  as_text e w = rw e at w

pub written : {text o₀ o : List ℕ} {r : ℕ} → Wrote text o₀ 0 o r → r ≤ length o₀ → Written text o₀ o r
written {text} {o₀} w h = record { list = w.list ∙ over_sets text o₀ (omega (arith, w.next)); size = omega (arith, w.next) }

pub as_written : {a b o₀ o : List ℕ} {r : ℕ} → a ≡ b → Written a o₀ o r → Written b o₀ o r
as_written e w = rw e at w

-- a text lies within the bytes that it was written into
pub written_fits : {text o₀ o : List ℕ} {r : ℕ} → Written text o₀ o r → r ≤ length o
unfolding over
written_fits {text} {o₀} w = omega (arith, w.size, ap length w.list, length-append text (drop (length text) o₀))

-- bytes written over as many are what was written
pub copied : {s v v' : List ℕ} {r : ℕ} → Wrote s v 0 v' r → length v ≡ length s → v' ≡ s
unfolding over
copied {s} {v} w long =
    (written w (omega (arith, w.next))).list
    ∙ ap (λ (l : List ℕ). s ++ l) (drop_of_length-le v {i = length s} (omega arith))
    ∙ append-nil s

pub written_once : {text o o₁ o₂ : List ℕ} {r₁ r₂ : ℕ} → Written text o o₁ r₁ → Written text o o₂ r₂ → (r₁ ≡ r₂) × (o₁ ≡ o₂)
written_once a b = (a.size ∙ sym b.size, a.list ∙ sym b.list)

-- bytes copied into a part of as many are written there
pub copied_in : (text o : List ℕ) (at : ℕ) {part : List ℕ} → at + length text ≤ length o → part ≡ text
    → Wrote text o at (put_mid at (at + length text - at) o part) (at + length text)
copied_in text o at {part} room e = record {
  list =
      ap (put_mid at (at + length text - at) o) e
      ∙ ap (λ (l : List ℕ). take at o ++ (text ++ l)) (Post-is at (at + length text) o (omega arith))
      ∙ sym (append_assoc (take at o) text (drop (at + length text) o))
      ∙ sym (sets-eq text o at room);
  next = refl;
}

-- ---- numbers

-- a digit more than are needed changes nothing
digits_enough : (k n : ℕ) → n < 10 ^ suc k → digits (suc k) n ≡ digits (suc (suc k)) n
unfolding digits
digits_enough zero n h = let one : n < 10 = omega arith in simp (lt-ltb n 10 one)
digits_enough (suc k) n h =
    let fewer : n / 10 < 10 ^ suc k = omega (arith, pow-succ' 10 (suc k)) in
    ap (λ (l : List ℕ). cond (ltb n 10) (digit n ∷ []) (l ++ digit (n % 10) ∷ [])) (digits_enough k (n / 10) fewer)

digits_short : (j k n : ℕ) → n < 10 ^ suc k → length (digits j n) ≤ suc k
unfolding digits
digits_short zero k n h = omega arith
digits_short (suc j) zero n h = let one : n < 10 = omega arith in simp (lt-ltb n 10 one) (omega arith)
digits_short (suc j) (suc k) n h = go (ltb n 10) (digits_short j k (n / 10) (omega (arith, pow-succ' 10 (suc k))))
  where
    go : (b : Bool) → length (digits j (n / 10)) ≤ suc k → length (cond b (digit n ∷ []) (digits j (n / 10) ++ digit (n % 10) ∷ [])) ≤ suc (suc k)
    go true l = omega arith
    go false l = omega (arith, length-append (digits j (n / 10)) (digit (n % 10) ∷ []))

-- a number below 10^(k + 1) has k + 1 digits at most
pub decimal_short : (k n : ℕ) → n < 10 ^ suc k → length (decimal n) ≤ suc k
unfolding decimal
decimal_short = digits_short 20

pub decimal_one : (n : ℕ) → n < 10 → decimal n ≡ digit n ∷ []
unfolding decimal digits
decimal_one n h = simp (lt-ltb n 10 h)

pub decimal_more : (n : ℕ) → 10 ≤ n → n < 2 ^ 64 → decimal n ≡ decimal (n / 10) ++ digit (n % 10) ∷ []
unfolding decimal digits
decimal_more n h few =
    let fewer : n / 10 < 10 ^ 19 = omega arith in
    simp (le-ltb n 10 h) (ap (λ (l : List ℕ). l ++ digit (n % 10) ∷ []) (digits_enough 18 (n / 10) fewer))

module _ {n at r : ℕ} {o₀ o : List ℕ} where
  pub number_one : {d : ℕ} → n < 10 → d ≡ 48 + n → Wrote (d ∷ []) o₀ at o r → Wrote (decimal n) o₀ at o r
  number_one h e w = rw (decimal_one n h) (rw e at w)

  pub number_more : {d m : ℕ} {o₁ : List ℕ} → 10 ≤ n → n < 2 ^ 64 → d ≡ 48 + n % 10 → Wrote (decimal (n / 10)) o₀ at o₁ m → Wrote (d ∷ []) o₁ m o r
      → Wrote (decimal n) o₀ at o r
  number_more h few e first last = rw (decimal_more n h few) (wrote_then first (rw e at last))

-- the room for all digits has that for all but the last
pub number_room : (n : ℕ) → 10 ≤ n → n < 2 ^ 64 → length (decimal n) ≡ length (decimal (n / 10)) + 1
number_room n h few = ap length (decimal_more n h few) ∙ length-append (decimal (n / 10)) (digit (n % 10) ∷ [])

-- ---- the line of one variable

module _ (start values : List ℕ) (i : ℕ) where
  pub not_free : (get_or start i 0 ≡ 2 → ⊥) → forced_at start values i ≡ []
  not_free h = simp (ne_eqb (get_or start i 0) 2 h)

  pub still_free : get_or start i 0 ≡ 2 → get_or values i 0 ≡ 2 → forced_at start values i ≡ []
  still_free h k = simp (eq-eqb (get_or start i 0) 2 h, eq-eqb (get_or values i 0) 2 k)

  pub is_forced_lem : get_or start i 0 ≡ 2 → (get_or values i 0 ≡ 2 → ⊥) → forced_at start values i ≡ i ∷ []
  is_forced_lem h k = simp (eq-eqb (get_or start i 0) 2 h, ne_eqb (get_or values i 0) 2 k)

  one_at_most : length (forced_at start values i) ≤ 1
  one_at_most = go (is_forced start values i)
    where
      go : (b : Bool) → length (cond b (i ∷ []) []) ≤ 1
      go true = omega arith
      go false = omega arith

  pub shows_none : {o : List ℕ} {at count : ℕ} → forced_at start values i ≡ [] → Shows values (forced_at start values i) o at count o at count 10
  unfolding forced_lines
  shows_none e = record { wrote = rw e wrote_none; counted = omega (arith, ap length e); short = omega arith }

  pub shows_one : {o₀ o : List ℕ} {at count r : ℕ} → forced_at start values i ≡ i ∷ [] → Wrote (forced_line i (get_or values i 0)) o₀ at o r → r ≤ at + 10
      → Shows values (forced_at start values i) o₀ at count o r (count + 1) 10
  unfolding forced_lines
  shows_one e w h = record {
    wrote = rw (e, append-nil) w;
    counted = omega (arith, ap length e);
    short = h;
  }

-- ---- the lines of all variables

lines_append : (values a b : List ℕ) → forced_lines values (a ++ b) ≡ forced_lines values a ++ forced_lines values b
unfolding forced_lines
lines_append values [] b = refl
lines_append values (i ∷ a) b =
    ap (λ (l : List ℕ). forced_line i (get_or values i 0) ++ l) (lines_append values a b)
    ∙ sym (append_assoc (forced_line i (get_or values i 0)) (forced_lines values a) (forced_lines values b))

pub forced_few : (start values : List ℕ) (n : ℕ) → length (forced start values n) ≤ n
unfolding forced
forced_few start values zero = omega arith
forced_few start values (suc n) =
    omega (arith, length-append (forced start values n) (forced_at start values n), one_at_most start values n, forced_few start values n)

-- the lines of the first i variables stand
pub record Showing (start values o₀ : List ℕ) (from : ℕ) (o : List ℕ) (r count i : ℕ) : Type 0 where
  pub within : i ≤ length start
  pub long : length o ≡ length o₀
  pub few : count ≤ i
  pub shows : Shows values (forced start values i) o₀ from 0 o r count (10 * i)

pub show_start : (start values o₀ : List ℕ) (from : ℕ) → Showing start values o₀ from o₀ from 0 0
unfolding forced forced_lines
show_start start values o₀ from = record {
  within = omega arith;
  long = refl;
  few = omega arith;
  shows = record { wrote = wrote_none; counted = refl; short = omega arith };
}

module _ {start values o₀ : List ℕ} {from : ℕ} {o : List ℕ} {r count i : ℕ} where
  pub show_turn : {o' : List ℕ} {r' count' : ℕ} → Showing start values o₀ from o r count i → i < length start → length o' ≡ length o
      → Shows values (forced_at start values i) o r count o' r' count' 10 → Showing start values o₀ from o' r' count' (i + 1)
  unfolding forced
  show_turn {o'} {r'} {count'} now h same one =
      let so_far = now.shows in
      let next : forced start values (i + 1) ≡ forced start values i ++ forced_at start values i = ap (forced start values) (add-one i) in
      record {
        within = omega arith;
        long = same ∙ now.long;
        few = omega (arith, one.counted, now.few, one_at_most start values i);
        shows = record {
          wrote =
              as_text (sym (lines_append values (forced start values i) (forced_at start values i)) ∙ ap (forced_lines values) (sym next))
              (wrote_then so_far.wrote one.wrote);
          counted = omega (arith, one.counted, so_far.counted, length-append (forced start values i) (forced_at start values i), ap length next);
          short = omega (arith, one.short, so_far.short);
        };
      }

-- ---- the grade

module _ {grade : Grade} {o₀ o : List ℕ} {at r : ℕ} where
  pub wrote_grade : {g : Grade} → grade ≡ g → Wrote (grade_line g) o₀ at o r → Wrote (grade_line grade) o₀ at o r
  wrote_grade e w = as_text (ap grade_line (sym e)) w

-- ---- the whole answer

module _ (grade : Grade) (start values : List ℕ) {o₀ o₁ o₂ o : List ℕ} {a b count room r : ℕ} where
  pub answer_written : Wrote (grade_line grade) o₀ 0 o₁ a → Shows values (forced start values (length start)) o₁ a 0 o₂ b count room
      → Wrote (end_line count) o₂ b o r → r ≤ length o₀ → Written (answer_text grade start values) o₀ o r
  unfolding answer_text
  answer_written first lines last h =
      let counted : count ≡ length (forced start values (length start)) = omega (arith, lines.counted) in
      written (wrote_then first (wrote_then lines.wrote (as_text (ap end_line counted) last))) h
