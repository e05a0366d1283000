-- A search along a list, and what the least head of rising lists says of all that is ahead. Assumes nothing.
use Prim.Native.Nat.{ℕ, ◌+◌, ◌<◌, ◌≤◌}
use mathlib.Core.Path.{◌≡◌, refl, sym, ◌∙◌}
use mathlib.Core.Bool.{Bool, true, false, ◌&&◌}
use native.Mathlib.Decide.{ℕ_discrete, dec_lt}
use native.Mathlib.Omega.{arith}
use borrow.Author.Tests.{leb-true, leb-false}
use mathlib.Core.List.{List}
use lib.Dec.{eqb, leb}
use lib.ListN.{get_or}
use Rattle.scratch.proofs.All.{both}
use Rattle.scanning.specs.declared.Cursor.{Cursor}
use Rattle.scanning.specs.Merge.{Next, place_at, near_at, far_at}

-- ---- the search: no position from `at` to p is picked with a value of b or more

pub record Searching (pick : ℕ → Bool) (val : ℕ → ℕ) (b at end p : ℕ) : Type 0 where
  pub from : at ≤ p
  pub to : p ≤ end
  pub passed : (j : ℕ) → at ≤ j → j < p → pick j ≡ true → val j < b

module _ {pick : ℕ → Bool} {val : ℕ → ℕ} {b at end : ℕ} where
  pub search_start : at ≤ end → Searching pick val b at end at
  search_start h = record { from = omega arith; to = h; passed = λ j l m. absurd (omega arith) }

  pub search_turn : {p : ℕ} → Searching pick val b at end p → p < end → (pick p ≡ true → val p < b) → Searching pick val b at end (p + 1)
  search_turn {p} S l h = record {
    from = omega (arith, S.from);
    to = omega arith;
    passed = λ j k m e. elim (ℕ_discrete j p) [ yes q ↦ rw q (h (rw q at e)) | no ne ↦ S.passed j k (omega arith) e ];
  }

  pub search_hit : {p x n : ℕ} → Searching pick val b at end p → p < end → pick p ≡ true → b ≤ x → x ≡ val p → Next pick val b at end n (record { at = p; head = x })
  search_hit S l k h e = record { from = S.from; to = S.to; passed = S.passed; found = λ z. (k, e); least = λ z. h; none = λ z. absurd (omega arith) }

  pub search_none : {p n : ℕ} → Searching pick val b at end p → end ≤ p → Next pick val b at end n (record { at = end; head = n })
  search_none {p} S h = record {
    from = omega (arith, S.from, S.to);
    to = omega arith;
    passed = λ j l m. S.passed j l (omega (arith, h));
    found = λ z. absurd (omega arith);
    least = λ z. absurd (omega arith);
    none = λ z. refl;
  }

-- ---- a search through places: entry k stands at p, and passes the test or not

module _ (near far u : List ℕ) (from i : ℕ) {b at end p : ℕ} (S : Searching (near_at near u from i) (far_at far u from) b at end p) (l : p < end)
    (k : ℕ) (e : k ≡ place_at u from p) {r : Bool} (er : r ≡ (eqb (get_or near k 0) i && leb b (get_or far k 0))) where
  pub place_hit : {x n : ℕ} → r ≡ true → x ≡ get_or far k 0 → Next (near_at near u from i) (far_at far u from) b at end n (record { at = p; head = x })
  place_hit h ex =
      let t = both _ _ (sym er ∙ h) in
      search_hit S l (rw (← e) t.0) (omega (arith, ex, leb-true b (get_or far k 0) t.1)) (rw (← e) ex)

  pub place_miss : r ≡ false → Searching (near_at near u from i) (far_at far u from) b at end (p + 1)
  place_miss h = search_turn S l (λ q. rw (← e) (leb-false b (get_or far k 0) (rest (eqb (get_or near k 0) i) (rw (← e) at q) (sym er ∙ h))))
    where
      rest : (y : Bool) → y ≡ true → (y && leb b (get_or far k 0)) ≡ false → leb b (get_or far k 0) ≡ false
      rest y q z = rw q at z

-- ---- a cursor: the picked positions behind it have values below b

pub record Behind (pick : ℕ → Bool) (val : ℕ → ℕ) (low end at b : ℕ) : Type 0 where
  pub from : low ≤ at
  pub to : at ≤ end
  pub passed : (p : ℕ) → low ≤ p → p < at → pick p ≡ true → val p < b

-- the picked values rise
abbrev pub Rises : (ℕ → Bool) → (ℕ → ℕ) → ℕ → ℕ → Type 0
Rises pick val low end = (p q : ℕ) → low ≤ p → p < q → q < end → pick p ≡ true → pick q ≡ true → val p ≤ val q

-- the head is b or more
pub head_from : {pick : ℕ → Bool} {val : ℕ → ℕ} {end at b n : ℕ} {r : Cursor} → Next pick val b at end n r → b ≤ n → b ≤ r.head
head_from {end = end} {r = r} N h = elim (dec_lt r.at end) [ yes q ↦ N.least q | no q ↦ omega (arith, N.none (omega arith)) ]

module _ {pick : ℕ → Bool} {val : ℕ → ℕ} {low end at b n : ℕ} {r : Cursor} where
  pub behind_next : Behind pick val low end at b → Next pick val b at end n r → {d : ℕ} → b ≤ d → Behind pick val low end r.at d
  behind_next B N {d} h = record {
    from = omega (arith, B.from, N.from);
    to = N.to;
    passed = λ p l m e. elim (dec_lt p at) [ yes q ↦ omega (arith, B.passed p l q e) | no q ↦ omega (arith, N.passed p (omega arith) m e) ];
  }

  -- what is picked and b or more is not below the head
  pub head_least : Behind pick val low end at b → Next pick val b at end n r → Rises pick val low end
      → (p : ℕ) → low ≤ p → p < end → pick p ≡ true → b ≤ val p → r.head ≤ val p
  head_least B N rises p l m e h = ahead (dec_lt p r.at)
    where
      ahead : Dec (p < r.at) → r.head ≤ val p
      ahead (yes q) = absurd (omega (arith, (behind_next B N {d = b} (omega arith)).passed p l q e))
      ahead (no q) = let z : r.at < end = omega arith in elim (ℕ_discrete p r.at) [
        | yes s ↦ rw (s, (N.found z).1) (omega arith)
        | no s ↦ omega (arith, (N.found z).1, rises r.at p (omega (arith, B.from, N.from)) (omega arith) m (N.found z).0 e)
      ]
