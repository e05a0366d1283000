-- THE BRIDGE: the small components, enumerated one after another, keep the start values, and on an exact field their values are
-- in some best completion. Assumes nothing.
use Prim.Native.Nat.{ℕ, zero, suc, ◌≤◌}
use mathlib.Core.Path.{◌≡◌, refl, sym, ◌∙◌}
use mathlib.Core.Logic.{◌≢◌, ◌⊎◌, inl, inr, ⊎_elim}
use mathlib.Core.Bool.{Bool, true, false, cond}
use mathlib.Core.List.{List, [], ◌∷◌, ◌++◌}
use native.Mathlib.Nat.{le_refl}
use native.Mathlib.Omega.{arith}
use borrow.Author.Tests.{leb-true}
use lib.Dec.{eqb, leb}
use lib.ListN.{length, get_or}
use Rattle.meaning.specs.Steps.{Extends}
use Rattle.meaning.specs.Part.{Safe}
use Rattle.meaning.proofs.Values.{extends_refl, extends_trans}
use Rattle.meaning.proofs.Theorems.{best_completion_exists, one_after_another}
use Rattle.field.specs.Field.{Field, variables, Shaped, StartFor}
use Rattle.field.specs.Grade.{ExactIn}
use Rattle.field.specs.Reading.{whole_of}
use Rattle.parts.specs.Walk.{members_from, marks_from, Parts, part_at, parts_to, components}
use Rattle.parts.specs.Part.{has, Open, Rest}
use Rattle.parts.proofs.Listed.{has_at, at_has}
use Rattle.parts.proofs.Theorems.{members_once, members_open, marks_after, starts_rest, components_separate}
use Rattle.enumeration.specs.Terms.{mask_of, put_to, solved}
use Rattle.enumeration.specs.Alone.{Alone}
use Rattle.enumeration.proofs.Putting.{put_long}
use Rattle.enumeration.proofs.Bits.{put_at, put_other}
use Rattle.enumeration.proofs.Bridge.{part_safe}
use Rattle.components.specs.Small.{solved_part, solved_parts, small_parts}
use Rattle.components.proofs.Parted.{solved_append}

-- where the enumeration stands: v is valid and extends s, and what is open is free in it
record Going (n : ℕ) (s marks v : List ℕ) : Type 0 where
  extends : Extends s v
  valid : StartFor n v
  free : (i : ℕ) → Open marks i → get_or v i 0 ≡ 2

module _ {F : Field} (S : Shaped F) {s marks v : List ℕ} (R : Rest F true s marks) (G : Going (variables F) s marks v) (start : ℕ) where
  abbrev members : List ℕ
  members = members_from F true marks start

  -- the next component stands alone at v
  alone : (u : ℕ) → Alone u F v members
  alone u = record {
    once = members_once S true marks R.long start;
    below = λ b h. (members_open S true marks R.long start _ (has_at members b h)).1;
    free = λ i h. G.free i (members_open S true marks R.long start i h).0;
    separate = λ k h. ⊎_elim inl (λ e. inr (⊎_elim (λ n. inl (still _ n)) (λ n. inr (still _ n)) e)) (components_separate S u R start k h);
  }
    where
      still : (i : ℕ) → get_or s i 0 ≢ 2 → get_or v i 0 ≢ 2
      still i n e = ⊎_elim n (λ q. n (sym q ∙ e)) (G.extends.kept i)

  left_open : (i : ℕ) → Open (marks_from F true marks start) i → Open marks i × (has members i ≡ false)
  left_open i o = by (has members i) refl
    where
      by : (b : Bool) → has members i ≡ b → Open marks i × (has members i ≡ false)
      by true e = absurd (let z = sym (rw e at (marks_after S true marks R.long start i)) ∙ o in omega arith)
      by false e = (sym (rw e at (marks_after S true marks R.long start i)) ∙ o, e)

  solved_going : Going (variables F) s (marks_from F true marks start) (solved F v members)
  unfolding solved
  solved_going = record {
    extends = extends_trans G.extends (record { as_long = put_long v members (mask_of F v members) (length members); kept = λ i. kept i (has members i) refl });
    valid = record { long = put_long v members (mask_of F v members) (length members) ∙ G.valid.long; small = λ i. small i (has members i) refl };
    free = λ i o. let l = left_open i o in put_other v members (mask_of F v members) i l.1 (length members) (le_refl _) ∙ G.free i l.0;
  }
    where
      kept : (i : ℕ) (b : Bool) → has members i ≡ b → (get_or v i 0 ≡ 2) ⊎ (get_or (put_to v members (mask_of F v members) (length members)) i 0 ≡ get_or v i 0)
      kept i true e = inl ((alone 0).free i e)
      kept i false e = inr (put_other v members (mask_of F v members) i e (length members) (le_refl _))

      small : (i : ℕ) (b : Bool) → has members i ≡ b → get_or (put_to v members (mask_of F v members) (length members)) i 0 ≤ 2
      small i true e =
          let p = at_has members i e in
          rw (← p.1.1, put_at v members (mask_of F v members) (alone 0).once (λ b h. omega (arith, (alone 0).below b h, G.valid.long)) (length members) p.0 p.1.0 (le_refl _))
          (omega arith)
      small i false e = rw (put_other v members (mask_of F v members) i e (length members) (le_refl _)) (G.valid.small i)

  part_going : Going (variables F) s (marks_from F true marks start) (solved_part F v members)
  unfolding solved_part
  part_going = by (leb (length members) 10)
    where
      by : (b : Bool) → Going (variables F) s (marks_from F true marks start) (cond b (solved F v members) v)
      by true = solved_going
      by false = record { extends = G.extends; valid = G.valid; free = λ i o. G.free i (left_open i o).0 }

  same_safe : (u : ℕ) → Safe (whole_of u F) v v
  same_safe u = let b = best_completion_exists (whole_of u F) v G.valid.small in record { extends = extends_refl v; witness = b.0; best = b.1; agrees = b.1.completion.extends }

  step_safe : {u : ℕ} → u ≤ 2044 → ExactIn u F → Safe (whole_of u F) v (solved_part F v members)
  unfolding solved_part
  step_safe {u} unit exact = by (leb (length members) 10) refl
    where
      by : (b : Bool) → leb (length members) 10 ≡ b → Safe (whole_of u F) v (cond b (solved F v members) v)
      by true e = part_safe unit S exact G.valid (alone u) (leb-true _ _ e)
      by false e = same_safe u

-- ---- all starts

module _ {F : Field} (S : Shaped F) {s : List ℕ} (valid : StartFor (variables F) s) where
  abbrev after : Parts → List ℕ
  after p = solved_parts F s p.found

  one_more : (p : Parts) (ms : List ℕ) → solved_parts F s (p.found ++ (ms ∷ [])) ≡ solved_part F (after p) ms
  unfolding solved_parts
  one_more p ms = solved_append F s p.found (ms ∷ [])

  going : (i : ℕ) → Going (variables F) s (parts_to F true s i).marks (after (parts_to F true s i))
  unfolding parts_to part_at solved_parts
  going zero = record { extends = extends_refl s; valid = valid; free = λ i o. o }
  going (suc i) = by (eqb (get_or (parts_to F true s i).marks i 0) 2) (going i)
    where
      p : Parts
      p = parts_to F true s i

      next : Parts
      next = record { marks = marks_from F true p.marks i; found = p.found ++ (members_from F true p.marks i ∷ []) }

      by : (b : Bool) → Going (variables F) s p.marks (after p) → Going (variables F) s (cond b next p).marks (after (cond b next p))
      by true G = rw (one_more p (members_from F true p.marks i)) (part_going S (starts_rest S true s valid.long i) G i)
      by false G = G

  safe_to : {u : ℕ} → u ≤ 2044 → ExactIn u F → (i : ℕ) → Safe (whole_of u F) s (after (parts_to F true s i))
  unfolding parts_to part_at solved_parts
  safe_to {u} unit exact zero = same_safe S (starts_rest S true s valid.long 0) (going 0) 0 u
  safe_to {u} unit exact (suc i) = by (eqb (get_or (parts_to F true s i).marks i 0) 2) (safe_to unit exact i)
    where
      p : Parts
      p = parts_to F true s i

      next : Parts
      next = record { marks = marks_from F true p.marks i; found = p.found ++ (members_from F true p.marks i ∷ []) }

      by : (b : Bool) → Safe (whole_of u F) s (after p) → Safe (whole_of u F) s (after (cond b next p))
      by true G =
          rw (one_more p (members_from F true p.marks i))
          (one_after_another (whole_of u F) G (step_safe S (starts_rest S true s valid.long i) (going i) i unit exact))
      by false G = G

  -- for every field the values extend the start values, and are start values themselves
  pub parts_extend : Extends s (small_parts F s) × StartFor (variables F) (small_parts F s)
  unfolding small_parts components
  parts_extend = ((going (variables F)).extends, (going (variables F)).valid)

  -- some best completion has all values
  pub parts_safe : {u : ℕ} → u ≤ 2044 → ExactIn u F → Safe (whole_of u F) s (small_parts F s)
  unfolding small_parts components
  parts_safe unit exact = safe_to unit exact (variables F)
