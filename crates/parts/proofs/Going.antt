-- What holds while a walk goes on: what is on the stack or a member was open and is reached, stands there once and is marked; all other marks are as they were. Assumes nothing.
use Prim.Native.Nat.{ℕ, zero, suc, ◌+◌, ◌<◌, ◌≤◌}
use mathlib.Core.Path.{◌≡◌, refl, sym, ◌∙◌}
use mathlib.Core.Logic.{◌≢◌, inl, inr, ⊎_elim}
use mathlib.Core.Bool.{Bool, true, false, cond, false≢true}
use mathlib.Core.List.{List, [], ◌∷◌, ◌++◌}
use native.Mathlib.Decide.{ℕ_discrete, dec_lt}
use native.Mathlib.Omega.{arith}
use borrow.Author.Tests.{eq-eqb, ne_eqb}
use lib.ListN.{length, get_or, set, length-set}
use lib.Seq.{get_or-set_same, get_or-set_other, set_out}
use Rattle.meaning.specs.Free.{frees}
use Rattle.meaning.proofs.Free.{frees_set}
use Rattle.field.specs.Field.{Field, Shaped}
use Rattle.places.specs.Places.{places, other_end, Touches}
use Rattle.places.proofs.Places.{places_touch}
use Rattle.parts.specs.Walk.{Search, search, joins, push, visit, visit_at, visit_all, serve}
use Rattle.parts.specs.Part.{has, Apart, Open, Joined, Reaches, there}
use Rattle.parts.proofs.Listed.{has_there, has_else, apart_there, places_all, other_is, other_ends}

-- ---- a variable is visited, or not

-- what holds of both holds of a visit
visit_cases : (P : Search → Type 0) (w : Search) (j : ℕ) → (Open w.marks j → P (push w j)) → (get_or w.marks j 0 ≢ 2 → P w) → P (visit w j)
unfolding visit
visit_cases P w j yes-open no-open =
    elim (ℕ_discrete (get_or w.marks j 0) 2) [
      | yes e ↦ rw (eq-eqb (get_or w.marks j 0) 2 e) (yes-open e)
      | no ne ↦ rw (ne_eqb (get_or w.marks j 0) 2 ne) (no-open ne)
    ]

past_end : (l : List ℕ) (j : ℕ) → length l ≤ j → get_or l j 0 ≡ 0
past_end [] j h = refl
past_end (x ∷ l) zero h = absurd (omega arith)
past_end (x ∷ l) (suc j) h = past_end l j (omega arith)

set_zero : (l : List ℕ) (j : ℕ) → get_or (set l j 0) j 0 ≡ 0
set_zero l j =
    elim (dec_lt j (length l)) [
      | yes h ↦ get_or-set_same l j 0 0 h
      | no h ↦ rw (set_out l j 0 (omega arith)) (past_end l j (omega arith))
    ]

-- what is open is a variable
pub open_below : (l : List ℕ) (j : ℕ) → Open l j → j < length l
open_below l j e = elim (dec_lt j (length l)) [ yes h ↦ h | no h ↦ absurd (omega (arith, past_end l j (omega arith))) ]

-- ---- what is not open stays so, and a visited variable is not open

-- no variable opens from w to w'
abbrev Closes : Search → Search → Type 0
Closes w w' = (i : ℕ) → get_or w.marks i 0 ≢ 2 → get_or w'.marks i 0 ≢ 2

visit_closes : (w : Search) (j : ℕ) → Closes w (visit w j)
unfolding push
visit_closes w j = visit_cases (Closes w) w j (λ e i ne k. elim (ℕ_discrete i j) [
  | yes q ↦ omega (arith, rw q at k, set_zero w.marks j)
  | no q ↦ ne (sym (get_or-set_other w.marks j i 0 0 q) ∙ k)
]) (λ ne i h. h)

pub visited : (w : Search) (j : ℕ) → get_or (visit w j).marks j 0 ≢ 2
unfolding push
visited w j = visit_cases (λ v. get_or v.marks j 0 ≢ 2) w j (λ e k. omega (arith, set_zero w.marks j)) (λ ne. ne)

module _ (F : Field) (zeros : Bool) (i : ℕ) where
  at_cases : (P : Search → Type 0) (w : Search) (k : ℕ) → (joins F zeros k ≡ true → P (visit w (other_end F.rows F.cols i k))) → P w → P (visit_at F zeros i w k)
  unfolding visit_at
  at_cases P w k yes-joins no_joins = by (joins F zeros k) yes-joins
    where
      by : (b : Bool) → (b ≡ true → P (visit w (other_end F.rows F.cols i k))) → P (cond b (visit w (other_end F.rows F.cols i k)) w)
      by true f = f refl
      by false f = no_joins

  at_closes : (w : Search) (k : ℕ) → Closes w (visit_at F zeros i w k)
  at_closes w k = at_cases (Closes w) w k (λ e. visit_closes w _) (λ j h. h)

  all_closes : (w : Search) (ks : List ℕ) → Closes w (visit_all F zeros i w ks)
  unfolding visit_all
  all_closes w [] j h = h
  all_closes w (k ∷ ks) j h = all_closes (visit_at F zeros i w k) ks j (at_closes w k j h)

  at_visited : (w : Search) (k : ℕ) → joins F zeros k ≡ true → get_or (visit_at F zeros i w k).marks (other_end F.rows F.cols i k) 0 ≢ 2
  unfolding visit_at
  at_visited w k e = rw e (visited w (other_end F.rows F.cols i k))

  all_visited : (w : Search) (ks : List ℕ) (x : ℕ) → x < length ks → joins F zeros (get_or ks x 0) ≡ true
      → get_or (visit_all F zeros i w ks).marks (other_end F.rows F.cols i (get_or ks x 0)) 0 ≢ 2
  unfolding visit_all
  all_visited w [] x h e = absurd (omega arith)
  all_visited w (k ∷ ks) zero h e = all_closes (visit_at F zeros i w k) ks _ (at_visited w k e)
  all_visited w (k ∷ ks) (suc x) h e = all_visited (visit_at F zeros i w k) ks x (omega arith) e

-- ---- each visit takes from the open ones what it puts onto the stack

abbrev pub left : Search → ℕ
left w = length w.stack + frees w.marks

pub visit_left : (w : Search) (j : ℕ) → left (visit w j) ≡ left w
unfolding push
visit_left w j = visit_cases (λ v. left v ≡ left w) w j (λ e. omega (arith, frees_set w.marks j 0 e (omega arith))) (λ ne. refl)

all_left : (F : Field) (zeros : Bool) (i : ℕ) (w : Search) (ks : List ℕ) → left (visit_all F zeros i w ks) ≡ left w
unfolding visit_all
all_left F zeros i w [] = refl
all_left F zeros i w (k ∷ ks) = all_left F zeros i (visit_at F zeros i w k) ks ∙ at_cases F zeros i (λ v. left v ≡ left w) w k (λ e. visit_left w _) refl

pub serve_left : (F : Field) (zeros : Bool) (w : Search) (i : ℕ) → left (serve F zeros w i) ≡ left w
unfolding serve
serve_left F zeros w i = all_left F zeros i w (places F.rows F.cols i)

pub visit_long : (w : Search) (j : ℕ) → length (visit w j).marks ≡ length w.marks
unfolding push
visit_long w j = visit_cases (λ v. length v.marks ≡ length w.marks) w j (λ e. length-set w.marks j 0) (λ ne. refl)

all_long : (F : Field) (zeros : Bool) (i : ℕ) (w : Search) (ks : List ℕ) → length (visit_all F zeros i w ks).marks ≡ length w.marks
unfolding visit_all
all_long F zeros i w [] = refl
all_long F zeros i w (k ∷ ks) =
    all_long F zeros i (visit_at F zeros i w k) ks ∙ at_cases F zeros i (λ v. length v.marks ≡ length w.marks) w k (λ e. visit_long w _) refl

pub serve_long : (F : Field) (zeros : Bool) (w : Search) (i : ℕ) → length (serve F zeros w i).marks ≡ length w.marks
unfolding serve
serve_long F zeros w i = all_long F zeros i w (places F.rows F.cols i)

-- ---- the invariant

-- what is known of a variable that is on the stack or a member
pub record Taken (F : Field) (zeros : Bool) (marks₀ : List ℕ) (start : ℕ) (marks : List ℕ) (i : ℕ) : Type 0 where
  pub was_open : Open marks₀ i
  pub marked : get_or marks i 0 ≡ 0
  pub reached : Reaches F zeros marks₀ start i

pub record Going (F : Field) (zeros : Bool) (marks₀ : List ℕ) (start : ℕ) (members : List ℕ) (w : Search) : Type 0 where
  pub taken : (i : ℕ) → has (members ++ w.stack) i ≡ true → Taken F zeros marks₀ start w.marks i
  pub other : (i : ℕ) → has (members ++ w.stack) i ≡ false → get_or w.marks i 0 ≡ get_or marks₀ i 0
  pub apart : Apart (members ++ w.stack)

pub bool_cases : {A : Type 0} (b : Bool) → (b ≡ true → A) → (b ≡ false → A) → A
bool_cases true f g = f refl
bool_cases false f g = g refl

pub going_start : {F : Field} {zeros : Bool} {marks₀ : List ℕ} {start : ℕ} → Going F zeros marks₀ start [] (search marks₀ [])
unfolding has Apart
going_start = record { taken = λ i h. absurd (false≢true h); other = λ i h. refl; apart = tt }

module _ {F : Field} {zeros : Bool} {marks₀ : List ℕ} {start : ℕ} {m : List ℕ} where
  push_going : {w : Search} → Going F zeros marks₀ start m w → (j : ℕ) → Open w.marks j → (Open marks₀ j → Reaches F zeros marks₀ start j)
      → Going F zeros marks₀ start m (push w j)
  unfolding push
  push_going {w} G j e r =
      let fresh : has (m ++ w.stack) j ≡ false = bool_cases _ (λ h. absurd (omega (arith, (G.taken j h).marked))) (λ h. h) in
      let was : Open marks₀ j = sym (G.other j fresh) ∙ e in
      record {
        taken = λ i h. elim (ℕ_discrete i j) [
          | yes q ↦ rw q (record { was_open = was; marked = set_zero w.marks j; reached = r was })
          | no ne ↦ (let t = G.taken i (sym (has_else m w.stack j i ne) ∙ h) in
              record { was_open = t.was_open; marked = get_or-set_other w.marks j i 0 0 ne ∙ t.marked; reached = t.reached })
        ];
        other = λ i h. elim (ℕ_discrete i j) [
          | yes q ↦ absurd (false≢true (sym (rw q at h) ∙ has_there m w.stack j))
          | no ne ↦ get_or-set_other w.marks j i 0 0 ne ∙ G.other i (sym (has_else m w.stack j i ne) ∙ h)
        ];
        apart = apart_there m w.stack j fresh G.apart;
      }

  pub visit_going : {w : Search} → Going F zeros marks₀ start m w → (j : ℕ) → (Open marks₀ j → Reaches F zeros marks₀ start j) → Going F zeros marks₀ start m (visit w j)
  visit_going {w} G j r = visit_cases (Going F zeros marks₀ start m) w j (λ e. push_going G j e r) (λ ne. G)

  module _ (S : Shaped F) {i : ℕ} (r : Reaches F zeros marks₀ start i) where
    all_going : {w : Search} (ks : List ℕ) → ((x : ℕ) → x < length ks → (get_or ks x 0 < length F.rows) × Touches F.rows F.cols i (get_or ks x 0))
        → Going F zeros marks₀ start m w → Going F zeros marks₀ start m (visit_all F zeros i w ks)
    unfolding visit_all
    all_going {w = w} [] at G = G
    all_going {w = w} (k ∷ ks) at G = all_going {w = visit_at F zeros i w k} ks (λ x h. at (suc x) (omega arith)) (at_cases F zeros i (Going F zeros marks₀ start m) w k (λ e.
        let t = at 0 (omega arith) in
        visit_going G _ (λ o. there r (record { entry = k; below = omega (arith, t.0, S.rows_long); joining = e; ends = other_ends F.rows F.cols i k t.1 }) o)) G)

    pub serve_going : {w : Search} → Going F zeros marks₀ start m w → Going F zeros marks₀ start m (serve F zeros w i)
    unfolding serve
    serve_going G = all_going (places F.rows F.cols i) (places_touch F.rows F.cols i) G

-- ---- the neighbours of a served variable are not open

pub serve_closes : (F : Field) (zeros : Bool) (w : Search) (i : ℕ) → Closes w (serve F zeros w i)
unfolding serve
serve_closes F zeros w i = all_closes F zeros i w (places F.rows F.cols i)

pub serve_visited : {F : Field} {zeros : Bool} → Shaped F → (w : Search) {i j : ℕ} → Joined F zeros i j → get_or (serve F zeros w i).marks j 0 ≢ 2
unfolding serve
serve_visited {F} {zeros} S w {i} {j} J =
    let touches : Touches F.rows F.cols i J.entry = ⊎_elim (λ a. inl a.0) (λ b. inr b.1) J.ends in
    let p = places_all F.rows F.cols i J.entry (omega (arith, J.below, S.rows_long)) (S.cols_long ∙ sym S.rows_long) touches in
    rw (other_is F.rows F.cols i j J.entry J.ends) at
    (rw p.1.1 at (all_visited F zeros i w (places F.rows F.cols i) p.0 p.1.0 (rw p.1.1 J.joining)))
