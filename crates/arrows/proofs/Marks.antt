-- Arrows marked one after the other are the arrows of both lists. Assumes nothing.
use mathlib.Core.Path.{◌≡◌, refl, sym, ap, ◌∙◌}
use mathlib.Core.Logic.{⊎_elim}
use mathlib.Core.Bool.{Bool, ◌&&◌, ◌||◌, or-false, or_assoc}
use mathlib.Core.List.{List, [], ◌∷◌, ◌++◌, append-nil, append_assoc}
use Prim.Native.Nat.{ℕ, suc, ◌+◌, ◌-◌, ◌/◌, ◌%◌, ◌^◌, ◌<◌, ◌≤◌}
use native.Mathlib.Nat.{div-one}
use native.Mathlib.Numerals.{add-one}
use native.Mathlib.Omega.{arith}
use lib.ListN.{take}
use lib.Seq.{take-suc, take_all}
use lib.Dec.{eqb, ltb}
use borrow.Author.Tests.{eqb-true, eq-eqb, ltb-true, lt-ltb, le-ltb}
use Rattle.scratch.proofs.All.{both}
use Rattle.meaning.specs.Kinds.{Pair, pair}
use Rattle.meaning.specs.Literal.{Implication, forth, back, bars}
use Rattle.meaning.specs.Records.{Record, record_on, chosen, pairs_in, rules_of}
use Rattle.meaning.proofs.Values.{below_or_at}
use Rattle.constraints.specs.Record.{room, record_at, records}
use Rattle.constraints.proofs.Records.{length_records, record_at_lem}
use Rattle.literals.specs.Ends.{rules}
use Rattle.reaching.specs.Via.{literal, arrow}
use Rattle.reaching.proofs.Truth.{or_left, or_right, or_cases, and_true, same_test}
use Rattle.bit_rows.specs.Rows.{bit_in, Holding, marked}
use Rattle.arrows.specs.Marks.{more, selves, Marked, Marking, Selving}

arrow_append : (E F : List Implication) (a b : ℕ) → arrow (E ++ F) a b ≡ (arrow E a b || arrow F a b)
unfolding arrow
arrow_append [] F a b = refl
arrow_append (e ∷ E) F a b = rw (arrow_append E F a b) (sym (or_assoc (eqb (literal e.from e.when) a && eqb (literal e.to e.gives) b) (arrow E a b) (arrow F a b)))

pub more_none : (w : List ℕ) → Marked [] w w
unfolding more arrow
more_none w = record { long = refl; bits = λ a b h. sym (or-false (bit_in w a b)) }

pub more_then : {w₀ w₁ w₂ : List ℕ} (E F : List Implication) → Marked E w₀ w₁ → Marked F w₁ w₂ → Marked (E ++ F) w₀ w₂
unfolding more
more_then {w₀} {w₁} {w₂} E F p q =
    record {
      long = q.long ∙ p.long;
      bits = λ a b h. q.bits a b h ∙ ap (λ (t : Bool). t || arrow F a b) (p.bits a b h) ∙ or_assoc (bit_in w₀ a b) (arrow E a b) (arrow F a b) ∙ ap (λ (t : Bool). bit_in w₀ a b || t) (sym (arrow_append E F a b));
    }

-- one arrow
pub more_one : {w₀ w : List ℕ} (e : Implication) → Holding (marked (bit_in w₀) (literal e.from e.when) (literal e.to e.gives)) w₀ w → Marked (e ∷ []) w₀ w
unfolding more arrow marked
more_one e h = record { long = h.long; bits = λ a b l. h.bits a b l ∙ rw (or-false _) refl }

-- the two of a forbidden pair
pub bar_done : {w₀ w₁ w₂ : List ℕ} (i j a b : ℕ)
    → Holding (marked (bit_in w₀) (literal i a) (literal j (1 - b))) w₀ w₁
    → Holding (marked (bit_in w₁) (literal j b) (literal i (1 - a))) w₁ w₂
    → Marked (bars i j (pair a b ∷ [])) w₀ w₂
bar_done i j a b p q = more_then (forth i j (pair a b) ∷ []) (back i j (pair a b) ∷ []) (more_one (forth i j (pair a b)) p) (more_one (back i j (pair a b)) q)

pub bar_out : (w : List ℕ) (i j : ℕ) (p : Pair) {b : ℕ} → b ≡ 0 → Marked (bars i j (chosen b p)) w w
bar_out w i j p e = rw e (more_none w)

bars_append : (i j : ℕ) (ps qs : List Pair) → bars i j (ps ++ qs) ≡ bars i j ps ++ bars i j qs
bars_append i j [] qs = refl
bars_append i j (p ∷ ps) qs = rw (bars_append i j ps qs) refl

then_pairs : {w₀ w₁ w₂ : List ℕ} (i j : ℕ) (ps qs : List Pair) → Marked (bars i j ps) w₀ w₁ → Marked (bars i j qs) w₁ w₂ → Marked (bars i j (ps ++ qs)) w₀ w₂
then_pairs i j ps qs p q = rw (bars_append i j ps qs) (more_then (bars i j ps) (bars i j qs) p q)

-- all four
pub set_done : {w₀ w₁ w₂ w₃ w₄ : List ℕ} (i j S : ℕ)
    → Marked (bars i j (chosen (S / 2 ^ 0 % 2) (pair 0 0))) w₀ w₁
    → Marked (bars i j (chosen (S / 2 ^ 1 % 2) (pair 0 1))) w₁ w₂
    → Marked (bars i j (chosen (S / 2 ^ 2 % 2) (pair 1 0))) w₂ w₃
    → Marked (bars i j (chosen (S / 2 ^ 3 % 2) (pair 1 1))) w₃ w₄
    → Marked (bars i j (pairs_in S)) w₀ w₄
unfolding pairs_in
set_done i j S p q r s =
    let k₀ = chosen (S % 2) (pair 0 0) in
    let k₁ = chosen (S / 2 % 2) (pair 0 1) in
    let k₂ = chosen (S / 4 % 2) (pair 1 0) in
    then_pairs i j (k₀ ++ k₁ ++ k₂) (chosen (S / 8 % 2) (pair 1 1)) (then_pairs i j (k₀ ++ k₁) k₂ (then_pairs i j k₀ k₁ (rw (div-one S) at p) q) r) s

-- ---- record by record

rules_append : (l m : List Record) → rules_of (l ++ m) ≡ rules_of l ++ rules_of m
unfolding rules_of
rules_append [] m = refl
rules_append (r ∷ l) m = rw (rules_append l m) (sym (append_assoc (bars r.lower r.higher (pairs_in r.set)) (rules_of l) (rules_of m)))

-- with one record more
rules_next : (list : List ℕ) (t : ℕ) → t < room list
    → rules_of (take (suc t) (records list)) ≡ rules_of (take t (records list)) ++ bars (record_at list t).lower (record_at list t).higher (pairs_in (record_at list t).set)
unfolding rules_of
rules_next list t h =
    ap rules_of (take-suc (records list) t (record_on 0 0 0) (omega (arith, length_records list)) ∙ ap (λ (r : Record). take t (records list) ++ r ∷ []) (record_at_lem list t (record_on 0 0 0) h))
    ∙ rules_append (take t (records list)) (record_at list t ∷ []) ∙ ap (λ (x : List Implication). rules_of (take t (records list)) ++ x) (append-nil _)

pub marking_start : (list w : List ℕ) → Marking list w 0 w
unfolding rules_of
marking_start list w = record { within = omega arith; marked = more_none w }

pub marking_turn : {list w₀ w w₁ : List ℕ} {t : ℕ} (i j S : ℕ) → t < room list → Marking list w₀ t w
    → i ≡ (record_at list t).lower → j ≡ (record_at list t).higher → S ≡ (record_at list t).set
    → Marked (bars i j (pairs_in S)) w w₁ → Marking list w₀ (t + 1) w₁
marking_turn {list} {t = t} i j S h m p q r k =
    record { within = omega arith; marked = rw (add-one, rules_next list t h) (more_then (rules_of (take t (records list))) _ m.marked (rw (← p, ← q, ← r) k)) }

pub marking_done : {list w₀ w : List ℕ} {t : ℕ} → room list ≤ t → Marking list w₀ t w → Marked (rules list) w₀ w
marking_done {list} {t = t} h m = rw (take_all t (records list) (omega (arith, length_records list))) at m.marked

-- ---- each number leads to itself

pub selving_start : (m : ℕ) (w : List ℕ) → Selving m w 0 w
unfolding selves
selving_start m w = record { within = omega arith; held = record { long = refl; bits = λ a b h. rw (le-ltb a 0 (omega arith)) (sym (or-false (bit_in w a b))) } }

pub selving_turn : {m : ℕ} {w₀ w w₁ : List ℕ} {a : ℕ} → a < m → Selving m w₀ a w → Holding (marked (bit_in w) a a) w w₁ → Selving m w₀ (a + 1) w₁
unfolding selves marked
selving_turn {m} {w₀} {w} {w₁} {a} h s k = record { within = omega arith; held = record { long = k.long ∙ s.held.long; bits = bits } }
  where
    same : (c d : ℕ) → ((ltb c a && eqb c d) || (eqb a c && eqb a d)) ≡ (ltb c (a + 1) && eqb c d)
    same c d =
        same_test ((ltb c a && eqb c d) || (eqb a c && eqb a d)) (ltb c (a + 1) && eqb c d)
        (λ z. ⊎_elim
        (λ y. let f = both (ltb c a) (eqb c d) y in and_true (lt-ltb c (a + 1) (omega (arith, ltb-true c a f.0))) f.1)
        (λ y. let f = both (eqb a c) (eqb a d) y in let p = eqb-true a c f.0 in let q = eqb-true a d f.1 in and_true (lt-ltb c (a + 1) (omega arith)) (eq-eqb c d (omega arith)))
        (or_cases (ltb c a && eqb c d) (eqb a c && eqb a d) z))
        (λ z. let f = both (ltb c (a + 1)) (eqb c d) z in
        let l : c < suc a = omega (arith, ltb-true c (a + 1) f.0) in
        let q = eqb-true c d f.1 in
        ⊎_elim (λ y. or_left _ (and_true (lt-ltb c a y) f.1)) (λ y. or_right (ltb c a && eqb c d) (and_true (eq-eqb a c (sym y)) (eq-eqb a d (omega arith)))) (below_or_at l))

    bits : (c d : ℕ) → d < 2048 → bit_in w₁ c d ≡ (bit_in w₀ c d || (ltb c (a + 1) && eqb c d))
    bits c d l =
        k.bits c d l ∙ ap (λ (t : Bool). t || (eqb a c && eqb a d)) (s.held.bits c d l)
        ∙ or_assoc (bit_in w₀ c d) (ltb c a && eqb c d) (eqb a c && eqb a d) ∙ ap (λ (t : Bool). bit_in w₀ c d || t) (same c d)
