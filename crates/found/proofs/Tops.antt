-- The last of two rising lists taken together. Assumes nothing.
use mathlib.Core.Path.{◌≡◌, sym, subst}
use mathlib.Core.Logic.{⊎_elim}
use mathlib.Core.List.Memᴰ
use mathlib.Core.List.{List, [], ◌∷◌, ◌++◌, Memᴰ}
use Rattle.meaning.specs.Records.{Record, Proper, AllProper, SameBans}
use Rattle.meaning.specs.Rising.{Before, Rising, merged_list}
use Rattle.meaning.proofs.Sets.{some_pair}
use Rattle.meaning.proofs.Bans.{bans_of, same_refl, same_trans, same_both, same_records}
use Rattle.meaning.proofs.Pairs.{pair_refl, before_trans, before_as}
use Rattle.meaning.proofs.Rising.{merged_bans, merged_proper, merged_rising, merged_is, rising_snoc, rising_last}

-- what the last of a rising list stands before, all stand before
pub all_before : (l : List Record) (x w : Record) → Rising (l ++ x ∷ []) → Before x w → (z : Record) → Memᴰ z (l ++ x ∷ []) → Before z w
all_before l x w r h z m =
    ⊎_elim
    (λ q. before_trans (rising_last l x r z q) h)
    (λ q. subst (λ (y : Record). Before y w) (sym (Memᴰ.eq_of_singleton q)) h)
    (Memᴰ.append_cases l m)

pub proper_both : {l m : List Record} → AllProper l → AllProper m → AllProper (l ++ m)
proper_both {l} a b z q = ⊎_elim (a z) (b z) (Memᴰ.append_cases l q)

-- where x stands behind all of m, the list of m with x is merged by merging m
pub merged_top : (l m : List Record) (x : Record) → AllProper l → AllProper m → Proper x → ((z : Record) → Memᴰ z m → Before z x) → SameBans (m ++ x ∷ []) l
    → merged_list l ≡ merged_list m ++ x ∷ []
merged_top l m x a b p h e =
    sym (merged_is (merged_list m ++ x ∷ []) l (proper_both (merged_proper m b) (λ z q. subst Proper (sym (Memᴰ.eq_of_singleton q)) p)) a
    (rising_snoc (merged_list m) x (merged_rising m) behind) (same_trans (same_both (merged_bans m) (same_refl (x ∷ []))) e))
  where
    behind : (y : Record) → Memᴰ y (merged_list m) → Before y x
    behind y q =
        let proper = merged_proper m b y q in
        let some = some_pair y.set proper.some proper.four in
        let f = (merged_bans m).to y.lower y.higher some.0 (bans_of q some.1) in
        before_as (record { lower = f.is_lower; higher = f.is_higher }) (pair_refl x) (h f.by f.among)

-- what stands behind both may stand behind the first
pub moved : (k l : List Record) (x : Record) → SameBans (k ++ l ++ x ∷ []) (k ++ x ∷ [] ++ l)
moved k l x = same_records
    (λ z m. ⊎_elim
    (λ q. ⊎_elim (λ r. Memᴰ.append_left l (Memᴰ.append_left (x ∷ []) r)) (λ r. Memᴰ.append_right (k ++ x ∷ []) r) (Memᴰ.append_cases k q))
    (λ q. Memᴰ.append_left l (Memᴰ.append_right k q))
    (Memᴰ.append_cases (k ++ l) m))
    (λ z m. ⊎_elim
    (λ q. ⊎_elim (λ r. Memᴰ.append_left (x ∷ []) (Memᴰ.append_left l r)) (λ r. Memᴰ.append_right (k ++ l) r) (Memᴰ.append_cases k q))
    (λ q. Memᴰ.append_left (x ∷ []) (Memᴰ.append_right k q))
    (Memᴰ.append_cases (k ++ x ∷ []) m))
