-- The view of lent words as a search: the stack in the words, and steps that follow one another. Assumes nothing.
use Prim.Native.Nat.{ℕ, zero, suc, ◌+◌, ◌-◌, ◌<◌}
use mathlib.Core.Path.{◌≡◌, refl, ap, ◌∙◌}
use mathlib.Core.List.{List, ◌∷◌}
use native.Mathlib.Omega.{arith}
use lib.ListN.{length, get_or}
use Rattle.field.specs.Field.{Field}
use Rattle.parts.specs.Walk.{Search}
use Rattle.parts.specs.Cells.{Cells, stack_in, search_in, Placed, Kept, Does}

-- ---- the stack in the words

pub stack_long : (u : List ℕ) (a top : ℕ) → length (stack_in u a top) ≡ top
unfolding stack_in
stack_long u a zero = refl
stack_long u a (suc top) = ap suc (stack_long u a top)

-- words that are the same at its places hold the same stack
pub stack_same : (u v : List ℕ) (a top : ℕ) → ((h : ℕ) → h < top → get_or v (a + h) 0 ≡ get_or u (a + h) 0) → stack_in v a top ≡ stack_in u a top
unfolding stack_in
stack_same u v a zero e = refl
stack_same u v a (suc top) e = rw (e top (omega arith), stack_same u v a top (λ h l. e h (omega arith)))

-- the h-th below the top
pub stack_at : (u : List ℕ) (a top h : ℕ) → h < top → get_or (stack_in u a top) h 0 ≡ get_or u (a + (top - suc h)) 0
unfolding stack_in
stack_at u a zero h l = absurd (omega arith)
stack_at u a (suc top) zero l = let e : suc top - 1 ≡ top = omega arith in rw e
stack_at u a (suc top) (suc h) l = let e : suc top - suc (suc h) ≡ top - suc h = omega arith in rw e (stack_at u a top h (omega arith))

-- its top
pub stack_some : (u : List ℕ) (a top : ℕ) → 0 < top → stack_in u a top ≡ get_or u (a + (top - 1)) 0 ∷ stack_in u a (top - 1)
unfolding stack_in
stack_some u a zero h = absurd (omega arith)
stack_some u a (suc top) h = let e : suc top - 1 ≡ top = omega arith in rw e

-- ---- steps follow one another

pub kept_same : {F : Field} {s : Cells} → Placed F s → Kept F s s
kept_same P = record { placed = P; taken = refl; front = refl; rest = refl; long = refl }

pub kept_then : {F : Field} {s s₁ s₂ : Cells} → Kept F s s₁ → Kept F s₁ s₂ → Kept F s s₂
kept_then D E = record {
  placed = E.placed;
  taken = E.taken ∙ D.taken;
  front = E.front ∙ D.front;
  rest = E.rest ∙ D.rest;
  long = E.long ∙ D.long;
}

pub does_same : {F : Field} {g : Search → Search} {s : Cells} → Placed F s → search_in F s ≡ g (search_in F s) → Does F g s s
does_same P e = record { search = e; kept = kept_same P }

pub does_as : {F : Field} {g : Search → Search} (h : Search → Search) {s s' : Cells} → Does F g s s' → g (search_in F s) ≡ h (search_in F s) → Does F h s s'
does_as h D e = record { search = D.search ∙ e; kept = D.kept }
