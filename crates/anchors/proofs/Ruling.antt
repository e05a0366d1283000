-- The list of anchors is the one that the rule gives, over the components in the order of their lowest variables. Assumes nothing.
use Prim.Native.Nat.{ℕ, zero, suc, ◌<◌}
use mathlib.Core.Path.{◌≡◌, refl, sym, ap, ap₂, ◌∙◌}
use mathlib.Core.Bool.{Bool, true, false, cond, ◌&&◌, false≢true}
use mathlib.Core.List.{List, [], ◌∷◌, ◌++◌, append_assoc, append-nil}
use native.Mathlib.Omega.{arith}
use borrow.Author.Tests.{eqb-true}
use lib.Dec.{eqb, leb}
use lib.ListN.{length, get_or}
use Rattle.field.specs.Field.{Field, variables, Shaped}
use Rattle.field.specs.Tests.{Finite}
use Rattle.parts.specs.Walk.{Parts, opened, members_from, marks_from, part_at, parts_to, components}
use Rattle.parts.specs.Part.{has, here}
use Rattle.parts.proofs.Marks.{opened_long}
use Rattle.parts.proofs.Theorems.{members_start, starts_rest, components_found}
use Rattle.anchors.specs.Model.{leads, all_turnable, anchor_in, Found, found, marks_at, new_at, anchor_at, anchors_to, anchors_of}
use Rattle.anchors.specs.Rule.{AnchorsOf, no_part, anchored, passed_over}
use Rattle.anchors.proofs.Choosing.{leads_part, leads_one, turns_is}

-- ---- the anchors of parts whose first member is the start

unfoldable pub anchors_in : Field → List ℕ → ℕ → List (List ℕ) → List ℕ
anchors_in F s least [] = []
anchors_in F s least (K ∷ Ks) = anchor_in F s least (get_or K 0 0) K ++ anchors_in F s least Ks

anchors_in_append : (F : Field) (s : List ℕ) (least : ℕ) (Ks Js : List (List ℕ)) → anchors_in F s least (Ks ++ Js) ≡ anchors_in F s least Ks ++ anchors_in F s least Js
unfolding anchors_in
anchors_in_append F s least [] Js = refl
anchors_in_append F s least (K ∷ Ks) Js = ap (λ (l : List ℕ). anchor_in F s least (get_or K 0 0) K ++ l) (anchors_in_append F s least Ks Js) ∙ sym (append_assoc (anchor_in F s least (get_or K 0 0) K) _ _)

module _ {F : Field} (S : Shaped F) (fine : Finite F) (s : List ℕ) (least : ℕ) where
  in_rule : (Ks : List (List ℕ)) → ((p : ℕ) → p < length Ks → has (get_or Ks p []) (get_or (get_or Ks p []) 0 0) ≡ true) → AnchorsOf F s least Ks (anchors_in F s least Ks)
  unfolding anchors_in anchor_in
  in_rule [] all = no_part
  in_rule (K ∷ Ks) all = go (leb least (length K) && all_turnable F s K) refl (in_rule Ks (λ p l. all (suc p) (omega arith)))
    where
      go : (b : Bool) → (leb least (length K) && all_turnable F s K) ≡ b → AnchorsOf F s least Ks (anchors_in F s least Ks)
          → AnchorsOf F s least (K ∷ Ks) (cond b (leads F (get_or K 0 0) K ∷ []) [] ++ anchors_in F s least Ks)
      go true e rest = anchored ((turns_is F s least K).0 e) (leads_part S fine (get_or K 0 0) (all 0 (omega arith))) rest
      go false e rest = passed_over (λ t. false≢true (sym e ∙ (turns_is F s least K).1 t)) rest

-- the rule gives one list
module _ {F : Field} (S : Shaped F) (fine : Finite F) {s : List ℕ} {least : ℕ} where
  pub rule_one : {Ks : List (List ℕ)} {l r : List ℕ} → AnchorsOf F s least Ks l → AnchorsOf F s least Ks r → l ≡ r
  rule_one no_part no_part = refl
  rule_one (anchored t a x) (anchored n b y) = ap₂ (λ (i : ℕ) (l : List ℕ). i ∷ l) (leads_one S fine a b) (rule_one x y)
  rule_one (anchored t a x) (passed_over n y) = absurd (n t)
  rule_one (passed_over n x) (anchored t b y) = absurd (n t)
  rule_one (passed_over n x) (passed_over m y) = rule_one x y

-- ---- the search finds the components

module _ {F : Field} (S : Shaped F) (s : List ℕ) (long : length s ≡ variables F) (least : ℕ) where
  abbrev marks₀ : List ℕ
  marks₀ = opened true s

  long₀ : length marks₀ ≡ variables F
  long₀ = opened_long true s ∙ long

  -- the search so far has the marks and the anchors of the components so far
  record Matches (p : Found) (q : Parts) : Type 0 where
    marks_same : p.marks ≡ q.marks
    anchors_same : p.anchors ≡ anchors_in F s least q.found

  match_next : (p : Found) (q : Parts) (i : ℕ) → length q.marks ≡ variables F → Matches p q → Matches (anchor_at F s least p i) (part_at F false q i)
  unfolding anchor_at marks_at new_at part_at anchors_in
  match_next p q i l M = rw M.marks_same (go (eqb (get_or q.marks i 0) 2) (λ e. members_start S false q.marks l i (eqb-true (get_or q.marks i 0) 2 e)) refl)
    where
      K : List ℕ
      K = members_from F false q.marks i

      go : (b : Bool) → (eqb (get_or q.marks i 0) 2 ≡ true → get_or K 0 0 ≡ i) → eqb (get_or q.marks i 0) 2 ≡ b
          → Matches (found (cond b (marks_from F false q.marks i) q.marks) (p.anchors ++ cond b (anchor_in F s least i K) []))
          (cond b (record { marks = marks_from F false q.marks i; found = q.found ++ (K ∷ []) }) q)
      go true first e = record {
        marks_same = refl;
        anchors_same = ap₂ (λ (x y : List ℕ). x ++ y) M.anchors_same (sym (append-nil (anchor_in F s least i K)) ∙ ap (λ (j : ℕ). anchor_in F s least j K ++ []) (sym (first e)))
            ∙ sym (anchors_in_append F s least q.found (K ∷ []));
      }
      go false first e = record { marks_same = refl; anchors_same = append-nil p.anchors ∙ M.anchors_same }

  matches : (i : ℕ) → Matches (anchors_to F s least i) (parts_to F false marks₀ i)
  unfolding anchors_to parts_to anchors_in
  matches zero = record { marks_same = refl; anchors_same = refl }
  matches (suc i) = match_next (anchors_to F s least i) (parts_to F false marks₀ i) i (starts_rest S false marks₀ long₀ i).long (matches i)

  -- THE RULE: the anchors are those of the components, in their order
  pub anchors_ruled : Finite F → AnchorsOf F s least (components F false (opened true s)) (anchors_of F s least)
  unfolding anchors_of components
  anchors_ruled fine =
      let C = components_found S false marks₀ long₀ in
      rw (matches (variables F)).anchors_same (in_rule S fine s least (parts_to F false marks₀ (variables F)).found (λ p l.
      let k = C.each p l in rw k.first (k.component.all k.start (here refl k.opens))))
