-- The new numbers: the map back and `new_index` undo each other, and both rise. Assumes nothing.
use Prim.Native.Nat.{ℕ, zero, suc, ◌<◌, ◌≤◌}
use mathlib.Core.Path.{◌≡◌, refl, sym, ap, ◌∙◌}
use mathlib.Core.Logic.{inl, inr}
use mathlib.Core.Bool.{Bool, true, false, cond}
use mathlib.Core.List.{List, [], ◌∷◌, ◌++◌, append-nil}
use lib.ListN.{length, get_or}
use Rattle.meaning.specs.Free.{is_free, free_to}
use Rattle.field.specs.Field.{Before}
use Rattle.shift.specs.Picked.{picked}
use Rattle.sub_problem.specs.Reduced.{back, new_index}
use Rattle.shift.proofs.Picked.{picked_few, picked_at, picked_index, picked_has, picked_below, picked_rises}

module _ (s : List ℕ) where
  -- the map back is the list of the free variables
  pub back_free : (n : ℕ) → picked (is_free s) n ≡ free_to s n
  unfolding picked free_to
  back_free zero = refl
  back_free (suc n) = by (is_free s n) ∙ ap (λ (l : List ℕ). l ++ cond (is_free s n) (n ∷ []) []) (back_free n)
    where
      by : (b : Bool) → cond b (picked (is_free s) n ++ n ∷ []) (picked (is_free s) n) ≡ picked (is_free s) n ++ cond b (n ∷ []) []
      by true = refl
      by false = sym (append-nil (picked (is_free s) n))

  pub back_few : length (back s) ≤ length s
  back_few = picked_few (is_free s) (length s)

  module _ (t : ℕ) (h : t < length (back s)) where
    pub back_below : get_or (back s) t 0 < length s
    back_below = (picked_at (is_free s) (length s) t h).0

    pub back_is_free : is_free s (get_or (back s) t 0) ≡ true
    back_is_free = (picked_at (is_free s) (length s) t h).1

    pub new_back : new_index s (get_or (back s) t 0) ≡ t
    new_back = picked_index (is_free s) (length s) t h

  pub back_rises : (a b : ℕ) → a < b → b < length (back s) → get_or (back s) a 0 < get_or (back s) b 0
  back_rises = picked_rises (is_free s) (length s)

  module _ (i : ℕ) (free : is_free s i ≡ true) where
    pub new_below : i < length s → new_index s i < length (back s)
    new_below h = (picked_has (is_free s) (length s) i free h).0

    pub back_new : i < length s → get_or (back s) (new_index s i) 0 ≡ i
    back_new h = (picked_has (is_free s) (length s) i free h).1

    pub new_rises : (j : ℕ) → i < j → new_index s i < new_index s j
    new_rises j h = picked_below (is_free s) i j free h

  -- entries keep their order
  pub before_new : (r c r₂ c₂ : ℕ) → is_free s r ≡ true → is_free s c ≡ true → Before r c r₂ c₂ → Before (new_index s r) (new_index s c) (new_index s r₂) (new_index s c₂)
  before_new r c r₂ c₂ fr fc (inl h) = inl (new_rises c fc c₂ h)
  before_new r c r₂ c₂ fr fc (inr h) = inr (ap (new_index s) h.0, new_rises r fr r₂ h.1)
