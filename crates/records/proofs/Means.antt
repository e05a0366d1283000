-- `parsed` answers a field exactly where one is spelled at the front of the input, and the one that is told there. Assumes nothing.
use Prim.Native.Nat.{ℕ, zero, suc, ◌+◌, ◌-◌, ◌<◌, ◌≤◌}
use mathlib.Core.Path.{◌≡◌, refl, sym, ap, subst, ◌∙◌}
use mathlib.Core.Logic.{◌↔◌}
use mathlib.Core.Bool.{Bool, true, false, ◌&&◌, cond, true≢false}
use mathlib.Core.List.{List, [], ◌∷◌, ◌++◌, append_assoc}
use native.Mathlib.Nat.{add-zero}
use native.Mathlib.Omega.{arith}
use borrow.Author.Tests.{ltb-true, eqb-true, lt-ltb, eq-eqb}
use lib.Dec.{ltb}
use lib.ListN.{length, get_or, drop, length-append, length-drop, drop_of_length-le}
use lib.Seq.{drop-cons, drop-drop, drop_at, get_or-drop}
use lib.Ieee.{binary64, of_bits}
use Rattle.std.specs.Prelude.{Option, Some}
use Rattle.meaning.specs.Free.{is_free}
use Rattle.endian.specs.Bytes.{number_at, bytes_of, float_at}
use Rattle.records.specs.Reading.{mark_vC, mark_qE, mark_fX, mark_zZ, cursor, weight_at, entry_at, given_at, read_at}
use Rattle.records.specs.Told.{Told, nothing, with_weight, with_entry, with_given, may_declare, may_enter, may_give, more, ended, fault, taken, Outcome, outcome, following, read_from, parsed}
use Rattle.records.specs.Parsing.{front, answer_of, laid, Parses}
use Rattle.records.specs.WellFormed.{Item, weight, entry, given, spell, spelled, tells, Fine, Tells, none, next, Spells, WellFormed}
use Rattle.records.specs.declared.Record.{Record}
use Rattle.records.specs.declared.Record.TheVariants.{Weight, Entry, Given}
use Rattle.records.specs.declared.parsing.Parsed.{Parsed}
use Rattle.records.proofs.Front.{field_whole, field_end}
use Rattle.endian.proofs.Numbers.{number_below}
use Rattle.records.proofs.Spelling.{number_spelled, spelled_number}
use Rattle.records.proofs.Finds.{fits, same_entry, read_weight, read_entry, read_given, read_end, Standing, standing}
use Rattle.records.proofs.Finds as finds
use Rattle.records.proofs.Laid.{and_left}

-- ---- what is spelled is read

-- the record that an item is read as
abbrev record_of : Item → ℕ → Record
record_of (weight bits) at = Weight (of_bits binary64 bits) (cursor at)
record_of (entry row col bits) at = Entry row col (of_bits binary64 bits) (cursor at)
record_of (given variable value) at = Given variable value (cursor at)

taken_item : (at : ℕ) (t : Told) (i : Item) → Fine t i → taken (record_of i at) t ≡ more (tells i t) at
unfolding taken Fine tells
taken_item at t (weight bits) f = simp (lt-ltb (length t.linear) 256 f.1)
taken_item at t (entry row col bits) f = simp (lt-ltb (length t.quad) 1024 f.3)
taken_item at t (given v b) f =
    simp (lt-ltb v (length t.linear) f.1, eq-eqb (get_or t.start v 0) 2 f.2, lt-ltb b 2 f.3)

module _ (s : List ℕ) (at : ℕ) (rest : List ℕ) where
  -- as many bytes as are spelled are left
  left_over : {l : List ℕ} → drop at s ≡ l → length l ≡ length s - at
  left_over e = ap length (sym e) ∙ length-drop at s

  -- the mark is at the front
  mark_read : (m : ℕ) (l : List ℕ) → drop at s ≡ bytes_of 2 m ++ l → m < 65536 → m ≡ number_at 2 s at
  mark_read m l e h = sym (number_spelled s at 0 2 m [] l e refl h) ∙ ap (number_at 2 s) (add-zero at)

  read_item : (t : Told) (i : Item) → Fine t i → drop at s ≡ spell i ++ rest → read_at s at ≡ record_of i (at + length (spell i))
  unfolding Fine spell bytes_of float_at weight_at entry_at given_at
  read_item t (weight bits) f e =
      let n = left_over e in
      let body = number_spelled s at 2 8 bits (86 ∷ 67 ∷ []) rest e refl f.0 in
      sym (read_weight s at n (omega arith) (mark_read mark_vC _ e (omega arith)) refl)
      ∙ sym (fits 10 s at _ n (omega arith))
      ∙ ap (λ (b : ℕ). Weight (of_bits binary64 b) (cursor (at + 10))) body
  read_item t (entry row col bits) f e =
      let n = left_over e in
      let first = number_spelled s at 2 2 row (81 ∷ 69 ∷ []) (bytes_of 2 col ++ (bytes_of 8 bits ++ rest)) e refl f.0 in
      let second = number_spelled s at 4 2 col (81 ∷ 69 ∷ bytes_of 2 row) (bytes_of 8 bits ++ rest) e refl f.1 in
      let third = number_spelled s at 6 8 bits (81 ∷ 69 ∷ (bytes_of 2 row ++ bytes_of 2 col)) rest e refl f.2 in
      sym (read_entry s at n (omega arith) (mark_read mark_qE _ e (omega arith)) refl)
      ∙ sym (fits 14 s at _ n (omega arith))
      ∙ same_entry first second (ap (of_bits binary64) third)
  read_item t (given v b) f e =
      let n = left_over e in
      let first = number_spelled s at 2 2 v (70 ∷ 88 ∷ []) (b ∷ rest) e refl f.0 in
      let second : get_or s (at + 4) 0 ≡ b = sym (get_or-drop at s 4 0) ∙ ap (λ (l : List ℕ). get_or l 4 0) e in
      sym (read_given s at n (omega arith) (mark_read mark_fX _ e (omega arith)) refl)
      ∙ sym (fits 5 s at _ n (omega arith))
      ∙ ap (λ (v' : ℕ). Given v' (get_or s (at + 4) 0) (cursor (at + 5))) first
      ∙ ap (λ (b' : ℕ). Given v b' (cursor (at + 5))) second

-- the end of a field
read_last : (s : List ℕ) (at : ℕ) (t : Told) (rest : List ℕ) → drop at s ≡ 90 ∷ 90 ∷ rest → taken (read_at s at) t ≡ ended true t (at + 2)
unfolding taken bytes_of
read_last s at t rest e =
    let n = left_over s at [] e in
    ap (λ (r : Record). taken r t)
    (sym (read_end s at n (omega arith) (mark_read s at [] mark_zZ rest e (omega arith)) refl))

spelled_long : (i : Item) → 2 ≤ length (spell i)
unfolding spell
spelled_long (weight bits) = omega arith
spelled_long (entry row col bits) = omega arith
spelled_long (given v b) = omega arith

complete : {items : List Item} {t u : Told} → Tells t items u → (s : List ℕ) (at k : ℕ) (rest : List ℕ) → drop at s ≡ spelled items ++ rest
    → at ≤ length s → length s < at + k → read_from k s at t ≡ outcome true u (length s - length rest)
unfolding read_from spelled
complete r s at zero rest e h l = absurd (omega arith)
complete (none {t}) s at (suc k) rest e h l =
    let n = left_over s at [] e in
    let here : at + 2 ≡ length s - length rest = omega (arith, n) in
    ap (following (read_from k s)) (read_last s at t rest e) ∙ ap (outcome true t) here
complete (next {t} {u} {i} {is} f r) s at (suc k) rest e h l =
    let split : drop at s ≡ spell i ++ (spelled is ++ rest) = e ∙ append_assoc (spell i) (spelled is) rest in
    let n = left_over s at [] split in
    let behind : drop (at + length (spell i)) s ≡ spelled is ++ rest =
    sym (drop-drop (length (spell i)) at s) ∙ ap (drop (length (spell i))) split ∙ drop_at (spell i) (spelled is ++ rest) (length (spell i)) refl in
    let both = length-append (spell i) (spelled is ++ rest) in
    let some = spelled_long i in
    ap (λ (x : Record). following (read_from k s) (taken x t)) (read_item s at (spelled is ++ rest) t i f split)
    ∙ ap (following (read_from k s)) (taken_item (at + length (spell i)) t i f)
    ∙ complete {items = is} {t = tells i t} r s (at + length (spell i)) k rest behind (omega arith) (omega arith)

-- ---- what is read was spelled

and_right : (a b : Bool) → (a && b) ≡ true → b ≡ true
and_right true b e = e
and_right false b e = absurd (true≢false (sym e))

-- a turn that ends well went on
went_on : (read : ℕ → Told → Outcome) (t₁ t u : Told) (at end : ℕ) (b : Bool) → following read (cond b (more t₁ at) (fault t)) ≡ outcome true u end
    → (b ≡ true) × (read at t₁ ≡ outcome true u end)
went_on read t₁ t u at end true e = (refl, e)
went_on read t₁ t u at end false e = absurd (true≢false (sym (ap (λ (o : Outcome). o.whole) e)))

module _ (s : List ℕ) (bytes : (i : ℕ) → get_or s i 0 < 256) where
  then_spelled : (at to : ℕ) {t u : Told} {rest : List ℕ} (i : Item) → Fine t i → drop at s ≡ spell i ++ drop to s → Spells (drop to s) (tells i t) u rest
      → Spells (drop at s) t u rest
  unfolding spelled
  then_spelled at to {rest = rest} i f e r = record {
    items = i ∷ r.items;
    bytes = e ∙ ap (λ (l : List ℕ). spell i ++ l) r.bytes ∙ sym (append_assoc (spell i) (spelled r.items) rest);
    told = next f r.told;
  }

  -- the mark, and what follows it
  marked : (at m : ℕ) → at + 2 ≤ length s → number_at 2 s at ≡ m → drop at s ≡ bytes_of 2 m ++ drop (at + 2) s
  marked at m room e = spelled_number 2 s at bytes room ∙ ap (λ (n : ℕ). bytes_of 2 n ++ drop (at + 2) s) e

  -- the k bytes that stand j bytes from `at`
  field : (at j k : ℕ) → at + (j + k) ≤ length s → drop (at + j) s ≡ bytes_of k (number_at k s (at + j)) ++ drop (at + (j + k)) s
  field at j k room =
      let past : at + j + k ≡ at + (j + k) = omega arith in
      spelled_number k s (at + j) bytes (omega arith) ∙ ap (λ (i : ℕ). bytes_of k (number_at k s (at + j)) ++ drop i s) past

  module _ (t u : Told) (last : ℕ) (read : ℕ → Told → Outcome)
      (ih : (at : ℕ) (t : Told) → read at t ≡ outcome true u last → Spells (drop at s) t u (drop last s)) (at : ℕ) where
    sound_step : {found : Record} → Standing s at found → following read (taken found t) ≡ outcome true u last → Spells (drop at s) t u (drop last s)
    unfolding taken Fine tells float_at spell bytes_of spelled
    sound_step (finds.weight h m) e =
        let bits = number_at 8 s (at + 2) in
        let on = went_on read (with_weight (of_bits binary64 bits) t) t u (at + 10) last (may_declare (length t.linear)) e in
        let whole : drop at s ≡ bytes_of 2 mark_vC ++ (bytes_of 8 bits ++ drop (at + 10) s) =
        marked at mark_vC (omega arith) m ∙ ap (λ (l : List ℕ). bytes_of 2 mark_vC ++ l) (field at 2 8 h) in
        then_spelled at (at + 10) (weight bits) (number_below 8 s (at + 2) bytes (omega arith), ltb-true (length t.linear) 256 on.0) whole
        (ih (at + 10) _ on.1)
    sound_step (finds.entry h m) e =
        let row = number_at 2 s (at + 2) in
        let col = number_at 2 s (at + 4) in
        let bits = number_at 8 s (at + 6) in
        let on = went_on read (with_entry row col (of_bits binary64 bits) t) t u (at + 14) last (may_enter (length t.quad)) e in
        let whole : drop at s ≡ bytes_of 2 mark_qE ++ (bytes_of 2 row ++ (bytes_of 2 col ++ (bytes_of 8 bits ++ drop (at + 14) s))) =
        marked at mark_qE (omega arith) m
        ∙ ap (λ (l : List ℕ). bytes_of 2 mark_qE ++ l) (field at 2 2 (omega arith)
        ∙ ap (λ (l : List ℕ). bytes_of 2 row ++ l) (field at 4 2 (omega arith) ∙ ap (λ (l : List ℕ). bytes_of 2 col ++ l) (field at 6 8 h))) in
        then_spelled at (at + 14) (entry row col bits) (
          number_below 2 s (at + 2) bytes (omega arith),
          number_below 2 s (at + 4) bytes (omega arith),
          number_below 8 s (at + 6) bytes (omega arith),
          ltb-true (length t.quad) 1024 on.0,
        )
        whole
        (ih (at + 14) _ on.1)
    sound_step (finds.given h m) e =
        let v = number_at 2 s (at + 2) in
        let b = get_or s (at + 4) 0 in
        let on = went_on read (with_given v b t) t u (at + 5) last (may_give v b (length t.linear) t.start) e in
        let rest = and_right (ltb v (length t.linear)) (is_free t.start v && ltb b 2) on.0 in
        let past : suc (at + 4) ≡ at + 5 = omega arith in
        let whole : drop at s ≡ bytes_of 2 mark_fX ++ (bytes_of 2 v ++ (b ∷ drop (at + 5) s)) =
        marked at mark_fX (omega arith) m
        ∙ ap (λ (l : List ℕ). bytes_of 2 mark_fX ++ l) (field at 2 2 (omega arith)
        ∙ ap (λ (l : List ℕ). bytes_of 2 v ++ l) (drop-cons s (at + 4) 0 (omega arith) ∙ ap (λ (i : ℕ). b ∷ drop i s) past)) in
        then_spelled at (at + 5) (given v b) (
          number_below 2 s (at + 2) bytes (omega arith),
          ltb-true v (length t.linear) (and_left _ _ on.0),
          eqb-true (get_or t.start v 0) 2 (and_left _ _ rest),
          ltb-true b 2 (and_right (is_free t.start v) (ltb b 2) rest),
        )
        whole
        (ih (at + 5) _ on.1)
    sound_step (finds.end h m) e =
        let same : t ≡ u = ap (λ (o : Outcome). o.told) e in
        record {
          items = [];
          bytes = marked at mark_zZ h m ∙ ap (λ (i : ℕ). bytes_of 2 mark_zZ ++ drop i s) (ap (λ (o : Outcome). o.end) e);
          told = subst (λ (x : Told). Tells t [] x) same none;
        }
    sound_step finds.malformed e = absurd (true≢false (sym (ap (λ (o : Outcome). o.whole) e)))

  sound : (k at : ℕ) (t u : Told) (last : ℕ) → read_from k s at t ≡ outcome true u last → Spells (drop at s) t u (drop last s)
  unfolding read_from
  sound zero at t u last e = absurd (true≢false (sym (ap (λ (o : Outcome). o.whole) e)))
  sound (suc k) at t u last e = sound_step t u last (read_from k s) (λ at' t' e'. sound k at' t' u last e') at (standing s at) e

-- what is spelled at the front is read, up to what stands behind it
pub spelled_parsed : {s : List ℕ} {u : Told} {rest : List ℕ} → Spells s nothing u rest → parsed s ≡ outcome true u (length s - length rest)
unfolding parsed
spelled_parsed {s} {u} {rest} w = complete w.told s 0 (suc (length s)) rest w.bytes (omega arith) (omega arith)

-- Theorem. A field is answered exactly if it is spelled at the front, and `end` is the index behind it.
pub parsed_means : (s : List ℕ) → ((i : ℕ) → get_or s i 0 < 256) → (u : Told) (end : ℕ) → end ≤ length s
    → (parsed s ≡ outcome true u end) ↔ Spells s nothing u (drop end s)
unfolding parsed
parsed_means s bytes u end h = (
  λ e. sound s bytes (suc (length s)) 0 nothing u end e,
  λ w. spelled_parsed w ∙ ap (outcome true u) (omega (arith, length-drop end s)),
)

-- Theorem. The field is all of the input exactly if that is well-formed.
pub whole_means : (s : List ℕ) → ((i : ℕ) → get_or s i 0 < 256) → (u : Told) → (parsed s ≡ outcome true u (length s)) ↔ WellFormed s u
whole_means s bytes u =
    let none_left : drop (length s) s ≡ [] = drop_of_length-le s {i = length s} (omega arith) in
    let means = parsed_means s bytes u (length s) (omega arith) in
    ((λ e. subst (Spells s nothing u) none_left (means.0 e)), λ w. means.1 (subst (Spells s nothing u) (sym none_left) w))

-- what an input tells is one field at most
pub told_once : (s : List ℕ) → ((i : ℕ) → get_or s i 0 < 256) → (u v : Told) → WellFormed s u → WellFormed s v → u ≡ v
told_once s bytes u v a b = ap (λ (o : Outcome). o.told) (sym ((whole_means s bytes u).1 a) ∙ (whole_means s bytes v).1 b)

-- ---- the call

module _ {s : List ℕ} {p p' : Told} {r : Option Parsed} (bytes : (i : ℕ) → get_or s i 0 < 256) (done : Parses s p r p') where
  -- a well-formed input is answered with its field, which lies in the lists
  pub parse_well_formed : (u : Told) → WellFormed s u → (r ≡ answer_of true u (length s)) × (p' ≡ laid u p)
  parse_well_formed u w =
      let e = (whole_means s bytes u).1 w in
      (done.answer ∙ ap (λ (o : Outcome). answer_of o.whole o.told o.end) e, done.lists ∙ ap (λ (o : Outcome). laid o.told p) e)

  -- an answer that is a field is that of a field at the front
  pub parse_field : {n m end : ℕ} → r ≡ Some (front n m end) → Spells s nothing (parsed s).told (drop end s)
  parse_field {end = end} e = (parsed_means s bytes (parsed s).told end (field_end done e).reached).0 (field_whole done e)
