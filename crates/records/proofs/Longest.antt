-- How long a field is at most, and that so many bytes decide what stands at the front. Assumes nothing.
use Prim.Native.Nat.{ℕ, suc, ◌+◌, ◌-◌, ◌*◌, ◌<◌, ◌≤◌}
use mathlib.Core.Path.{◌≡◌, refl, sym, ap, subst, ◌∙◌}
use mathlib.Core.Bool.{Bool, true, false, cond, true≢false}
use mathlib.Core.List.{List, [], ◌∷◌, ◌++◌, append_assoc}
use native.Mathlib.Omega.{arith}
use lib.Dec.{eqb}
use lib.Ieee.{binary64, of_bits}
use lib.ListN.{length, get_or, take, drop, length-append, length-set, length-drop, take-append-drop}
use lib.Seq.{take_at, take-append-le}
use Rattle.meaning.specs.Free.{frees}
use Rattle.meaning.proofs.Free.{frees_set}
use Rattle.endian.specs.Bytes.{bytes_of}
use Rattle.records.specs.Told.{Told, nothing, Outcome, outcome, parsed}
use Rattle.records.specs.WellFormed.{Item, weight, entry, given, spell, spelled, tells, Fine, Tells, none, next, Spells, longest_input}
use Rattle.records.proofs.Laid.{Within}
use Rattle.records.proofs.Front.{parsed_within, parsed_ends}
use Rattle.records.proofs.Means.{spelled_parsed, parsed_means}

-- ---- the longest field

frees_push : (s : List ℕ) → frees (s ++ 2 ∷ []) ≡ frees s + 1
unfolding frees
frees_push [] = refl
frees_push (v ∷ s) = by (eqb v 2) (frees_push s)
  where
    by : (b : Bool) → frees (s ++ 2 ∷ []) ≡ frees s + 1 → cond b (suc (frees (s ++ 2 ∷ []))) (frees (s ++ 2 ∷ [])) ≡ cond b (suc (frees s)) (frees s) + 1
    by true e = omega arith
    by false e = e

-- 10 bytes for each weight, 14 for each entry and 5 for each value given
abbrev bulk : Told → ℕ → ℕ
bulk t left = 10 * length t.linear + 14 * length t.quad + 5 * length t.start + 5 * left

item_size : (t : Told) (i : Item) → Fine t i → length (spell i) + bulk t (frees (tells i t).start) ≡ bulk (tells i t) (frees t.start)
unfolding spell bytes_of tells Fine
item_size t (weight bits) f =
    omega (arith, length-append t.start (2 ∷ []), frees_push t.start, length-append t.linear (of_bits binary64 bits ∷ []))
item_size t (entry row col bits) f = omega (arith, length-append t.quad (of_bits binary64 bits ∷ []))
item_size t (given v b) f = omega (arith, length-set t.start v b, frees_set t.start v b f.2 f.3)

size : {t u : Told} {items : List Item} → Tells t items u → length (spelled items) + bulk t (frees u.start) ≡ 2 + bulk u (frees t.start)
unfolding spelled
size none = omega arith
size (next {t} {u} {i} {is} f rest) = omega (arith, size rest, item_size t i f, length-append (spell i) (spelled is))

-- what a field tells is within the limits
pub told_within : {s : List ℕ} {u : Told} {rest : List ℕ} → Spells s nothing u rest → Within u
told_within {s} w = subst Within (ap (λ (o : Outcome). o.told) (spelled_parsed w)) (parsed_within s)

-- 256 weights, 1,024 entries and 256 given values
pub longest_field : {s : List ℕ} {u : Told} {rest : List ℕ} → Spells s nothing u rest → length s ≤ longest_input + length rest
unfolding frees
longest_field {s} {u} {rest} w =
    let within = told_within w in
    omega (arith, size w.told, ap length w.bytes, length-append (spelled w.items) rest, within.few_variables, within.few_entries, within.start)

-- ---- a front that is longer decides

module _ (b more : List ℕ) where
  -- what is spelled at the front of b is spelled at the front of all
  then_more : {u : Told} {rest : List ℕ} → Spells b nothing u rest → Spells (b ++ more) nothing u (rest ++ more)
  then_more {u} {rest} w = record {
    items = w.items;
    bytes = ap (λ (l : List ℕ). l ++ more) w.bytes ∙ append_assoc (spelled w.items) rest more;
    told = w.told;
  }

  -- what is spelled at the front of all, within b, is spelled at the front of b
  without_more : {u : Told} {rest : List ℕ} → length rest ≤ length (b ++ more) → length (b ++ more) ≤ length b + length rest
      → Spells (b ++ more) nothing u rest → Spells b nothing u (drop (length (b ++ more) - length rest) b)
  without_more {u} {rest} h short w =
      let k = length (spelled w.items) in
      let here : length (b ++ more) - length rest ≡ k = omega (arith, ap length w.bytes, length-append (spelled w.items) rest) in
      let fits : k ≤ length b = omega arith in
      let front : take k b ≡ spelled w.items =
      sym (take-append-le k b more fits) ∙ ap (take k) w.bytes ∙ take_at (spelled w.items) rest k refl in
      record {
        items = w.items;
        bytes =
            sym (take-append-drop k b)
            ∙ ap (λ (l : List ℕ). l ++ drop k b) front
            ∙ ap (λ (i : ℕ). spelled w.items ++ drop i b) (sym here);
        told = w.told;
      }

  -- a field at the front of b is that of all
  pub decided_whole : ((i : ℕ) → get_or b i 0 < 256) → (parsed b).whole ≡ true → parsed (b ++ more) ≡ parsed b
  decided_whole bytes h =
      let u = (parsed b).told in
      let e = (parsed b).end in
      let ends = parsed_ends b h in
      let is : parsed b ≡ outcome true u e = ap (λ (d : Bool). outcome d u e) h in
      let w = (parsed_means b bytes u e ends.reached).0 is in
      let last : length (b ++ more) - length (drop e b ++ more) ≡ e =
      omega (arith, length-append b more, length-append (drop e b) more, length-drop e b, ends.reached) in
      spelled_parsed (then_more w) ∙ ap (outcome true u) last ∙ sym is

  -- where b is longer than any field, a fault at the front of b is one of all
  pub decided_fault : ((i : ℕ) → get_or (b ++ more) i 0 < 256) → longest_input < length b → (parsed b).whole ≡ false → (parsed (b ++ more)).whole ≡ false
  decided_fault bytes long h = go (parsed (b ++ more)).whole refl
    where
      go : (d : Bool) → (parsed (b ++ more)).whole ≡ d → d ≡ false
      go false q = refl
      go true q =
          let u = (parsed (b ++ more)).told in
          let e = (parsed (b ++ more)).end in
          let ends = parsed_ends (b ++ more) q in
          let w = (parsed_means (b ++ more) bytes u e ends.reached).0 (ap (λ (d : Bool). outcome d u e) q) in
          let left = length-drop e (b ++ more) in
          let inside = without_more (omega arith) (omega (arith, longest_field w)) w in
          absurd (true≢false (sym (ap (λ (o : Outcome). o.whole) (spelled_parsed inside)) ∙ h))
