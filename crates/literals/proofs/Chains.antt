-- Linking the ends: each goes in front of the chain of its variable. Assumes nothing.
use Prim.Native.Nat.{ℕ, ◌+◌, ◌*◌, ◌-◌, ◌<◌, ◌≤◌}
use mathlib.Core.Path.{◌≡◌, refl, sym, ap, ◌∙◌, subst}
use mathlib.Core.Logic.{◌≢◌, ⊎_elim}
use mathlib.Core.List.{List}
use native.Mathlib.Decide.{ℕ_discrete}
use native.Mathlib.Omega.{arith}
use lib.ListN.{length, get_or, set, length-set}
use lib.Seq.{get_or-set_same, get_or-set_other}
use Rattle.meaning.proofs.Values.{below_or_at}
use Rattle.constraints.specs.Record.{room}
use Rattle.literals.specs.Ends.{mine, Unlinked, Last, Linked}

-- the first x ends are linked in u, which is as long as u₀
pub record Linking (list : List ℕ) (n : ℕ) (u₀ u : List ℕ) (x : ℕ) : Type 0 where
  pub within : x ≤ 2 * room list
  pub long : length u ≡ length u₀
  pub linked : Linked list n u x

-- one end more, of another variable
last_more : {list : List ℕ} {i x p : ℕ} → Last list i x p → mine list x ≢ i → Last list i (x + 1) p
last_more {list} {i} {x} {p} L ne = record {
  within = omega (arith, L.within);
  here = L.here;
  none = λ y h k e. ⊎_elim (λ b. L.none y h b e) (λ q. ne (ap (mine list) (sym q) ∙ e)) (below_or_at {i = y} {k = x} (omega arith));
}

-- one end more, of this variable
last_here : {list : List ℕ} {i : ℕ} (x : ℕ) → mine list x ≡ i → Last list i (x + 1) (x + 1)
last_here {list} {i} x e =
    let z : x + 1 - 1 ≡ x = omega arith in
    record { within = omega arith; here = λ h. ap (mine list) z ∙ e; none = λ y h k. absurd (omega arith) }

pub link_start : (list : List ℕ) {n : ℕ} {u : List ℕ} → Unlinked n u → Linking list n u u 0
link_start list {n} {u} zeros = record {
  within = omega arith;
  long = refl;
  linked = record {
    head = λ i h. record {
      within = omega (arith, zeros i h);
      here = λ k. absurd (omega (arith, zeros i h));
      none = λ y k l. absurd (omega arith);
    };
    next = λ y h. absurd (omega arith);
  };
}

module _ {list : List ℕ} {n : ℕ} {u₀ u : List ℕ} {x i : ℕ} (K : Linking list n u₀ u x) (room₀ : 3 * n + 2 * room list ≤ length u₀) (h : x < 2 * room list)
    (e : i ≡ mine list x) (hi : i < n) where
  -- the store of the link, then that of the chain's new beginning
  linked_on : List ℕ
  linked_on = set (set u (3 * n + x) (get_or u (2 * n + i) 0)) (2 * n + i) (x + 1)

  at_head : get_or linked_on (2 * n + i) 0 ≡ x + 1
  unfolding linked_on
  at_head = get_or-set_same (set u (3 * n + x) (get_or u (2 * n + i) 0)) (2 * n + i) (x + 1) 0 (simp length-set (omega (arith, K.long)))

  at_link : get_or linked_on (3 * n + x) 0 ≡ get_or u (2 * n + i) 0
  unfolding linked_on
  at_link =
      get_or-set_other (set u (3 * n + x) (get_or u (2 * n + i) 0)) (2 * n + i) (3 * n + x) (x + 1) 0 (λ q. omega arith)
      ∙ get_or-set_same u (3 * n + x) (get_or u (2 * n + i) 0) 0 (omega (arith, K.long))

  elsewhere : (y : ℕ) → y ≢ 2 * n + i → y ≢ 3 * n + x → get_or linked_on y 0 ≡ get_or u y 0
  unfolding linked_on
  elsewhere y p q =
      get_or-set_other (set u (3 * n + x) (get_or u (2 * n + i) 0)) (2 * n + i) y (x + 1) 0 p
      ∙ get_or-set_other u (3 * n + x) y (get_or u (2 * n + i) 0) 0 q

  heads : (j : ℕ) → j < n → Last list j (x + 1) (get_or linked_on (2 * n + j) 0)
  heads j hj = elim (ℕ_discrete j i) [
    | yes q ↦ rw (q, at_head) (last_here x (sym e))
    | no q ↦ rw (elsewhere (2 * n + j) (λ z. q (omega arith)) (λ z. omega arith)) (last_more (K.linked.head j hj) (λ z. q (sym (e ∙ z))))
  ]

  nexts : (y : ℕ) → y < x + 1 → Last list (mine list y) y (get_or linked_on (3 * n + y) 0)
  nexts y hy = ⊎_elim
      (λ b. rw (elsewhere (3 * n + y) (λ z. omega arith) (λ z. omega arith)) (K.linked.next y b))
      (λ q. subst (λ (z : ℕ). Last list (mine list z) z (get_or linked_on (3 * n + z) 0)) (sym q) (rw (at_link, sym e) (K.linked.head i hi)))
      (below_or_at {i = y} {k = x} (omega arith))

  pub link_turn : Linking list n u₀ (set (set u (3 * n + x) (get_or u (2 * n + i) 0)) (2 * n + i) (x + 1)) (x + 1)
  unfolding linked_on
  link_turn = record { within = omega arith; long = simp length-set K.long; linked = record { head = heads; next = nexts } }

pub link_done : {list : List ℕ} {n : ℕ} {u₀ u : List ℕ} {x : ℕ} → Linking list n u₀ u x → 2 * room list ≤ x → Linked list n u (2 * room list)
link_done {list} {n} {u = u} {x = x} K h =
    let e : x ≡ 2 * room list = omega (arith, K.within) in
    rw e at K.linked
