-- A list laid over the front of another: its length, its front, what is past it, and one element more. Assumes nothing.
use Prim.Native.Nat.{ℕ, suc, ◌+◌, ◌-◌, ◌<◌, ◌≤◌}
use mathlib.Core.Path.{◌≡◌, sym, ap, ◌∙◌}
use mathlib.Core.List.{List, [], ◌∷◌, ◌++◌, append_assoc}
use native.Mathlib.Nat.{add-zero, zero-add}
use native.Mathlib.Numerals.{add-one}
use native.Mathlib.Omega.{arith}
use lib.ListN.{length, get_or, set, take, drop, length-append, length-drop, length-set, get_or-append}
use lib.Seq.{get_or-append-add, get_or-drop, drop-cons, set_at, set-append_left, take_at, drop_at, sets, sets-eq}
use Rattle.scratch.specs.Over.{over}

-- two lists stored one behind the other are one list stored
pub sets_then : {A : Type 0} (a b s : List A) (at : ℕ) → sets (sets s at a) (at + length a) b ≡ sets s at (a ++ b)
sets_then [] b s at = ap (λ (i : ℕ). sets s i b) (add-zero at)
sets_then (x ∷ a) b s at =
    let e : at + suc (length a) ≡ suc at + length a = omega arith in
    ap (λ (i : ℕ). sets (sets (set s at x) (suc at) a) i b) e ∙ sets_then a b (set s at x) (suc at)

module _ {A : Type 0} (l s : List A) where
  pub length_over : length l ≤ length s → length (over l s) ≡ length s
  unfolding over
  length_over h = omega (arith, length-append l (drop (length l) s), length-drop (length l) s)

  -- its front is the list that was laid
  pub over_front : {n : ℕ} → length l ≡ n → take n (over l s) ≡ l
  unfolding over
  over_front {n} e = take_at l (drop (length l) s) n e

  pub over_at : (i : ℕ) (d : A) → i < length l → get_or (over l s) i d ≡ get_or l i d
  unfolding over
  over_at i d h = get_or-append l (drop (length l) s) d i h

  pub over_set : (i : ℕ) (x : A) → i < length l → set (over l s) i x ≡ over (set l i x) s
  unfolding over
  over_set i x h = set-append_left l (drop (length l) s) i x h ∙ ap (λ (n : ℕ). set l i x ++ drop n s) (sym (length-set l i x))

  -- past it nothing is changed
  pub over_rest : {n : ℕ} → length l ≡ n → drop n (over l s) ≡ drop n s
  unfolding over
  over_rest {n} e = drop_at l (drop (length l) s) n e ∙ ap (λ (k : ℕ). drop k s) e

  pub over_past : (k : ℕ) (d : A) → length l ≤ k → get_or (over l s) k d ≡ get_or s k d
  unfolding over
  over_past k d h =
      let e : k ≡ length l + (k - length l) = omega arith in
      ap (λ (j : ℕ). get_or (over l s) j d) e
      ∙ get_or-append-add l (drop (length l) s) (k - length l) d
      ∙ get_or-drop (length l) s (k - length l) d
      ∙ ap (λ (j : ℕ). get_or s j d) (sym e)

  -- stored from the front on, one by one
  pub over_sets : length l ≤ length s → sets s 0 l ≡ over l s
  unfolding over
  over_sets h = sets-eq l s 0 (omega arith) ∙ ap (λ (j : ℕ). l ++ drop j s) (zero-add (length l))

  -- one element more
  pub over_push : (n : ℕ) (x : A) → length l ≡ n → n < length s → set (over l s) n x ≡ over (l ++ x ∷ []) s
  unfolding over
  over_push n x e h =
      ap (λ (t : List A). set (l ++ t) n x) (drop-cons s (length l) x (omega arith))
      ∙ set_at l (get_or s (length l) x) (drop (suc (length l)) s) x n e
      ∙ sym (append_assoc l (x ∷ []) (drop (suc (length l)) s))
      ∙ ap (λ (j : ℕ). (l ++ x ∷ []) ++ drop j s) (sym (length-append l (x ∷ []) ∙ add-one (length l)))
