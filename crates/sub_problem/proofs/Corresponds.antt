-- ONE TO ONE: completions of the start values and choices of the smaller problem's variables, by `restrict` and `extend`. Assumes nothing.
use Prim.Native.Nat.{ℕ, ◌<◌}
use mathlib.Core.Path.{◌≡◌, refl, sym, ap, ◌∙◌}
use mathlib.Core.Logic.{◌⊎◌, inl, inr, ⊎_elim}
use mathlib.Core.Bool.{Bool, true, false, cond}
use mathlib.Core.List.{List}
use native.Mathlib.Decide.{dec_lt}
use native.Mathlib.Omega.{arith}
use borrow.Author.Tests.{eqb-true, eqb-false}
use lib.ListN.{length, get_or, length-map, length-replicate, get_or-replicate, get_or-eq_default}
use lib.Seq.{ext_get_or}
use Rattle.meaning.specs.Free.{is_free}
use Rattle.meaning.specs.Steps.{Valid}
use Rattle.meaning.specs.Field.{Completion}
use Rattle.rows.proofs.Upto.{length_up_to, get_d_up_to}
use Rattle.sub_problem.specs.Reduced.{back, new_index}
use Rattle.sub_problem.specs.Corresponds.{all_free, restrict, extend}
use Rattle.shift.proofs.Picked.{map_at}
use Rattle.sub_problem.proofs.Numbering.{back_below, back_is_free, new_back, new_below, back_new}

-- what holds of a value inside a list and of 0 holds everywhere
everywhere : (P : ℕ → Type 0) (l : List ℕ) → ((i : ℕ) → i < length l → P (get_or l i 0)) → P 0 → (i : ℕ) → P (get_or l i 0)
everywhere P l h z i = elim (dec_lt i (length l)) [
  | yes b ↦ h i b
  | no b ↦ rw (get_or-eq_default l 0 {n = i} (omega arith)) z
]

module _ (s : List ℕ) where
  module _ (x : List ℕ) where
    pub restrict_long : length (restrict s x) ≡ length (back s)
    restrict_long = length-map (back s) (λ i. get_or x i 0)

    pub restrict_at : (t : ℕ) → t < length (back s) → get_or (restrict s x) t 0 ≡ get_or x (get_or (back s) t 0) 0
    restrict_at t h = map_at (λ i. get_or x i 0) (back s) t 0 h

    pub restrict_new : (i : ℕ) → is_free s i ≡ true → i < length s → get_or (restrict s x) (new_index s i) 0 ≡ get_or x i 0
    restrict_new i e h = restrict_at (new_index s i) (new_below s i e h) ∙ ap (λ (j : ℕ). get_or x j 0) (back_new s i e h)

  module _ (y : List ℕ) where
    pub extend_long : length (extend s y) ≡ length s
    extend_long = length_up_to (λ i. cond (is_free s i) (get_or y (new_index s i) 0) (get_or s i 0)) (length s)

    pub extend_at : (i : ℕ) → i < length s → get_or (extend s y) i 0 ≡ cond (is_free s i) (get_or y (new_index s i) 0) (get_or s i 0)
    extend_at i h = get_d_up_to (λ i. cond (is_free s i) (get_or y (new_index s i) 0) (get_or s i 0)) (length s) i 0 h

    -- restricted again, it is y
    pub restrict_extend : length y ≡ length (back s) → restrict s (extend s y) ≡ y
    restrict_extend l = ext_get_or 0 (restrict s (extend s y)) y (restrict_long (extend s y) ∙ sym l) (λ t h.
        let b : t < length (back s) = omega (arith, restrict_long (extend s y)) in
        restrict_at (extend s y) t b
        ∙ extend_at (get_or (back s) t 0) (back_below s t b)
        ∙ ap (λ (f : Bool). cond f (get_or y (new_index s (get_or (back s) t 0)) 0) (get_or s (get_or (back s) t 0) 0)) (back_is_free s t b)
        ∙ ap (λ (j : ℕ). get_or y j 0) (new_back s t b))

    -- and a completion, where y is one
    pub extend_completes : Valid s → Completion (all_free (length (back s))) y → Completion s (extend s y)
    extend_completes valid c = record { extends = record { as_long = extend_long; kept = kept }; full = everywhere (λ v. v < 2) (extend s y) (λ i h. full i (omega (arith, extend_long))) (omega arith) }
      where
        kept : (i : ℕ) → (get_or s i 0 ≡ 2) ⊎ (get_or (extend s y) i 0 ≡ get_or s i 0)
        kept i = elim (dec_lt i (length s)) [
          | yes h ↦ by (is_free s i) refl (extend_at i h)
          | no h ↦ inr (get_or-eq_default (extend s y) 0 {n = i} (omega (arith, extend_long)) ∙ sym (get_or-eq_default s 0 {n = i} (omega arith)))
        ]
          where
            by : (b : Bool) → is_free s i ≡ b → get_or (extend s y) i 0 ≡ cond (is_free s i) (get_or y (new_index s i) 0) (get_or s i 0) → (get_or s i 0 ≡ 2) ⊎ (get_or (extend s y) i 0 ≡ get_or s i 0)
            by true f e = inl (eqb-true (get_or s i 0) 2 f)
            by false f e = inr (e ∙ rw f refl)

        full : (i : ℕ) → i < length s → get_or (extend s y) i 0 < 2
        full i h = by (is_free s i) refl (extend_at i h)
          where
            by : (b : Bool) → is_free s i ≡ b → get_or (extend s y) i 0 ≡ cond (is_free s i) (get_or y (new_index s i) 0) (get_or s i 0) → get_or (extend s y) i 0 < 2
            by true f e = rw (e, f) (c.full (new_index s i))
            by false f e = rw (e, f) (elim (dec_lt (get_or s i 0) 2) [
              | yes b ↦ b
              | no b ↦ absurd (eqb-false (get_or s i 0) 2 f (omega (arith, valid i)))
            ])

  module _ {x : List ℕ} (c : Completion s x) where
    -- a given place has its value
    pub has_given : (i : ℕ) → is_free s i ≡ false → get_or x i 0 ≡ get_or s i 0
    has_given i f = ⊎_elim (λ e. absurd (eqb-false (get_or s i 0) 2 f e)) (λ e. e) (c.extends.kept i)

    -- extended again, its restriction is itself
    pub extend_restrict : extend s (restrict s x) ≡ x
    extend_restrict = ext_get_or 0 (extend s (restrict s x)) x (extend_long (restrict s x) ∙ sym c.extends.as_long) (λ i h.
        let b : i < length s = omega (arith, extend_long (restrict s x)) in
        extend_at (restrict s x) i b ∙ by i b (is_free s i) refl)
      where
        by : (i : ℕ) → i < length s → (b : Bool) → is_free s i ≡ b → cond b (get_or (restrict s x) (new_index s i) 0) (get_or s i 0) ≡ get_or x i 0
        by i h true f = restrict_new x i f h
        by i h false f = sym (has_given i f)

    pub restrict_completes : Completion (all_free (length (back s))) (restrict s x)
    restrict_completes = record {
      extends = record { as_long = restrict_long x ∙ sym (length-replicate (length (back s)) 2); kept = kept };
      full = everywhere (λ v. v < 2) (restrict s x) (λ t h. rw (restrict_at x t (omega (arith, restrict_long x))) (c.full (get_or (back s) t 0))) (omega arith);
    }
      where
        kept : (t : ℕ) → (get_or (all_free (length (back s))) t 0 ≡ 2) ⊎ (get_or (restrict s x) t 0 ≡ get_or (all_free (length (back s))) t 0)
        kept t = elim (dec_lt t (length (back s))) [
          | yes h ↦ inl (get_or-replicate (length (back s)) t 2 0 h)
          | no h ↦ inr (get_or-eq_default (restrict s x) 0 {n = t} (omega (arith, restrict_long x)) ∙ sym (get_or-eq_default (all_free (length (back s))) 0 {n = t} (omega (arith, length-replicate {A = ℕ} (length (back s)) 2))))
        ]
