-- The loops over the members of a component: whether all may turn, and which one leads. Assumes nothing.
use Prim.Native.Nat.{ℕ, suc, ◌+◌, ◌<◌, ◌≤◌}
use mathlib.Core.Path.{◌≡◌, refl, sym, ap, ◌∙◌}
use mathlib.Core.Bool.{Bool, true, false, cond, ◌&&◌}
use mathlib.Core.List.{List, [], ◌∷◌}
use native.Mathlib.Numerals.{add-one}
use native.Mathlib.Nat.{zero-lt-suc}
use native.Mathlib.Omega.{arith}
use borrow.Author.Tests.{eq-eqb, ne_eqb, lt-ltb, le-ltb}
use lib.Dec.{ltb}
use lib.ListN.{length, get_or, drop, drop_of_length-le}
use lib.Seq.{drop-cons}
use lib.Ieee.{Float, lt, eq}
use Rattle.scratch.proofs.Region.{length_region, region_at}
use Rattle.field.specs.Field.{Field, variables}
use Rattle.parts.specs.Cells.{members_base}
use Rattle.anchors.specs.declared.Leader.{Leader}
use Rattle.anchors.specs.Sums.{balanced, weight_of, Walkable}
use Rattle.anchors.specs.Model.{leader, against, lead_over, leads, turnable, all_turnable}
use Rattle.anchors.specs.Cells.{members_in, Members}

-- ---- a member takes the lead, or not

module _ (a : Leader) (i : ℕ) (w : Float) where
  pub heavier : lt a.weight w ≡ true → leader i w ≡ against a i w
  unfolding against
  heavier e = rw e

  pub lower : lt a.weight w ≡ false → eq w a.weight ≡ true → i < a.variable → leader i w ≡ against a i w
  unfolding against
  lower e t l = rw (e, t, lt-ltb i a.variable l)

  pub behind : lt a.weight w ≡ false → eq w a.weight ≡ true → a.variable ≤ i → a ≡ against a i w
  unfolding against
  behind e t l = rw (e, t, le-ltb i a.variable l)

  pub lighter : lt a.weight w ≡ false → eq w a.weight ≡ false → a ≡ against a i w
  unfolding against
  lighter e t = rw (e, t)

-- ---- the members that are left

module _ {F : Field} {count : ℕ} {u : List ℕ} (M : Members F count u) where
  members_long : length (members_in F count u) ≡ count
  members_long = length_region (members_base F) count u M.room

  member_cons : (h : ℕ) → h < count → drop h (members_in F count u) ≡ get_or u (members_base F + h) 0 ∷ drop (h + 1) (members_in F count u)
  member_cons h l =
      rw (add-one h) (drop-cons (members_in F count u) h 0 (omega (arith, members_long))
      ∙ ap (λ (i : ℕ). i ∷ drop (suc h) (members_in F count u)) (region_at (members_base F) count u h 0 l))

  members_end : (h : ℕ) → count ≤ h → drop h (members_in F count u) ≡ []
  members_end h l = drop_of_length-le (members_in F count u) {i = h} (omega (arith, members_long))

-- ---- whether all may turn

pub record Turning (F : Field) (s : List ℕ) (count : ℕ) (u : List ℕ) (h : ℕ) : Type 0 where
  pub members : Members F count u
  pub within : h ≤ count
  pub left : all_turnable F s (drop h (members_in F count u)) ≡ all_turnable F s (members_in F count u)

module _ {F : Field} {s : List ℕ} {count : ℕ} {u : List ℕ} {h : ℕ} (now : Turning F s count u h) where
  turned : {i : ℕ} → h < count → i ≡ get_or u (members_base F + h) 0
      → (turnable F s i && all_turnable F s (drop (h + 1) (members_in F count u))) ≡ all_turnable F s (members_in F count u)
  unfolding all_turnable
  turned l e = rw e (sym (ap (all_turnable F s) (member_cons now.members h l)) ∙ now.left)

  pub turning_fixed : {i : ℕ} → h < count → i ≡ get_or u (members_base F + h) 0 → (get_or s i 0 ≡ 2 → ⊥) → false ≡ all_turnable F s (members_in F count u)
  unfolding turnable
  turning_fixed {i} l e n = rw (ne_eqb (get_or s i 0) 2 n) at (turned l e)

  pub turning_tilted : {i : ℕ} {b : Bool} → h < count → i ≡ get_or u (members_base F + h) 0 → get_or s i 0 ≡ 2 → b ≡ balanced F i → b ≡ false
      → false ≡ all_turnable F s (members_in F count u)
  unfolding turnable
  turning_tilted {i} l e n eb z = rw (eq-eqb (get_or s i 0) 2 n, ← eb, z) at (turned l e)

  pub turning_next : {i : ℕ} {b : Bool} → h < count → i ≡ get_or u (members_base F + h) 0 → get_or s i 0 ≡ 2 → b ≡ balanced F i → b ≡ true → Turning F s count u (h + 1)
  unfolding turnable
  turning_next {i} l e n eb z = record { members = now.members; within = omega arith; left = rw (eq-eqb (get_or s i 0) 2 n, ← eb, z) at (turned l e) }

  pub turning_done : count ≤ h → true ≡ all_turnable F s (members_in F count u)
  unfolding all_turnable
  turning_done l = sym (ap (all_turnable F s) (members_end now.members h l)) ∙ now.left

-- ---- which one leads

pub record Leading (F : Field) (count : ℕ) (u : List ℕ) (first : Leader) (h : ℕ) (now : Leader) : Type 0 where
  pub members : Members F count u
  pub within : h ≤ count
  pub left : lead_over F now (drop h (members_in F count u)) ≡ lead_over F first (members_in F count u)

module _ {F : Field} {count : ℕ} {u : List ℕ} {first now : Leader} {h : ℕ} (L : Leading F count u first h now) where
  pub leading_next : {i : ℕ} {w : Float} {next : Leader} → h < count → i ≡ get_or u (members_base F + h) 0 → w ≡ weight_of F i → next ≡ against now i w → Leading F count u first (h + 1) next
  unfolding lead_over
  leading_next l e ew en = record { members = L.members; within = omega arith; left = rw (en, ew, e) (sym (ap (lead_over F now) (member_cons L.members h l)) ∙ L.left) }

  pub leading_done : {start : ℕ} {w : Float} → count ≤ h → first ≡ leader start w → w ≡ weight_of F start → now.variable ≡ leads F start (members_in F count u)
  unfolding leads lead_over
  leading_done {start} l e ew =
      ap (λ (a : Leader). a.variable) (sym (ap (lead_over F now) (members_end L.members h l)) ∙ L.left)
      ∙ ap (λ (a : Leader). (lead_over F a (members_in F count u)).variable) (e ∙ ap (leader start) ew)

-- the leader is the start or a member
leader_below : (F : Field) (n : ℕ) (a : Leader) (l : List ℕ) → a.variable < n → ((h : ℕ) → h < length l → get_or l h 0 < n) → (lead_over F a l).variable < n
unfolding lead_over against
leader_below F n a [] b all = b
leader_below F n a (i ∷ l) b all =
    leader_below F n (against a i (weight_of F i)) l (go (lt a.weight (weight_of F i)) (eq (weight_of F i) a.weight) (ltb i a.variable)) (λ h k. all (suc h) (omega arith))
  where
    here : i < n
    here = all 0 (zero-lt-suc (length l))

    go : (x y z : Bool) → (cond x (leader i (weight_of F i)) (cond y (cond z (leader i (weight_of F i)) a) a)).variable < n
    go true y z = here
    go false true true = here
    go false true false = b
    go false false z = b

pub leads_below : {F : Field} {count start : ℕ} {u : List ℕ} → Members F count u → start < variables F → leads F start (members_in F count u) < variables F
unfolding leads
leads_below {F} {count} {start} {u} M b =
    leader_below F (variables F) (leader start (weight_of F start)) (members_in F count u) b (λ h k.
    let l : h < count = omega (arith, members_long M) in rw (region_at (members_base F) count u h 0 l) (M.below h l))
