-- What the usual call's answer says: tests that change nothing lent, then the later stages. Assumes nothing.
use mathlib.Core.Path.{◌≡◌, refl, sym, ap, ◌∙◌}
use mathlib.Core.Logic.{◌≢◌, ◌↔◌}
use mathlib.Core.Bool.{Bool, true, false}
use mathlib.Core.List.{List, [], ◌∷◌, ◌++◌}
use Rattle.field.specs.declared.Refusal.{Refusal}
use Rattle.field.specs.Table.{Test, test, tested, FirstToFail, fails, passes}
use Rattle.calls.specs.Call.{Left, left, Stage, stage, run, called, table, usual, Leave, no_stage, and_stage, Each, without}
use Rattle.calls.proofs.Call as any
use Rattle.field.specs.Answers.{Answer, passed}
use Rattle.std.specs.Prelude.{Err}

-- a stage of this refusal or of another, and those after it
pub this_stage : {L : Type 0} {r : Refusal} {b : Bool} {l : L} {ts : List (Stage L)} → Leave r l ts → Leave r l (stage r b l ∷ ts)
this_stage h = and_stage (λ _. refl) h

pub other_stage : {L : Type 0} {r t : Refusal} {b : Bool} {l k : L} {ts : List (Stage L)} → r ≢ t → Leave r l ts → Leave r l (stage t b k ∷ ts)
other_stage n h = and_stage (λ e. absurd (n (sym e))) h

module _ {A L : Type 0} (refuse : Refusal → A) (given : L) (tests : List Test) (later : List (Stage L)) (done : Left A L) where
  -- ---- how code meets the promise

  pub refused_call : {r : Refusal} → tested tests ≡ Err r → left (refuse r) given ≡ called (usual refuse given tests later done)
  unfolding called
  refused_call e = any.tests_refuse refuse done given tests later e

  pub passed_call : tested tests ≡ passed → run refuse later done ≡ called (usual refuse given tests later done)
  unfolding called
  passed_call e = any.tests_pass refuse done given tests later e

  -- ---- what the answer says

  -- what holds of every refusal that a test or a later stage gives, and of the answer where the tests pass, holds of the answer
  pub answer_has : (P : A → Type 0) → ((r : Refusal) → tested tests ≡ Err r → P (refuse r)) → Each (λ r. P (refuse r)) later → (tested tests ≡ passed → P done.answer)
      → P (called (usual refuse given tests later done)).answer
  unfolding called
  answer_has P refused each ended = go (tested tests) refl
    where
      go : (k : Answer Unit) → tested tests ≡ k → P (called (usual refuse given tests later done)).answer
      go (Err r) e = rw (← refused_call e) (refused r e)
      go passed e = rw (← passed_call e) (any.run_has refuse done P later each (ended e))

  module _ (same : (r t : Refusal) → refuse r ≡ refuse t → r ≡ t) (apart : (r : Refusal) → done.answer ≡ refuse r → ⊥) where
    -- it is refused with r exactly if r's stage is the first to fail of its table
    pub refused_when : {ts : List Test} → tests ++ table later ≡ ts → (r : Refusal) → ((called (usual refuse given tests later done)).answer ≡ refuse r) ↔ FirstToFail ts r
    refused_when w r = rw (any.table_keeping given tests later ∙ w) at (any.refused_when (usual refuse given tests later done) same apart r)

    -- a refusal that no later stage gives changes nothing lent
    pub refused_leaves : (r : Refusal) → Leave r given later → (called (usual refuse given tests later done)).answer ≡ refuse r → called (usual refuse given tests later done) ≡ left (refuse r) given
    refused_leaves r h e = any.refused_leaves (usual refuse given tests later done) same apart r given (any.keeping_leave given tests h) e

    -- one that no test gives leaves what the later stages do
    pub later_leaves : (r : Refusal) (l : L) → without r tests ≡ true → Leave r l later → (called (usual refuse given tests later done)).answer ≡ refuse r
        → called (usual refuse given tests later done) ≡ left (refuse r) l
    later_leaves r l w h e = any.refused_leaves (usual refuse given tests later done) same apart r l (any.later_leave given tests w h) e

    -- and is given exactly if all tests pass and its stage is the first to fail of the later ones
    pub later_when : (r : Refusal) → without r tests ≡ true → ((called (usual refuse given tests later done)).answer ≡ refuse r) ↔ ((tested tests ≡ passed) × FirstToFail (table later) r)
    later_when r w =
        let t = refused_when refl r in
        let z = any.first_later tests (table later) r w in
        ((λ e. z.0 (t.0 e)), λ h. t.1 (z.1 h))

    -- it is done exactly if every stage passes, whatever that means
    pub done_when : {X : Type 0} → (tested (tests ++ table later) ≡ passed) ↔ X → ((called (usual refuse given tests later done)).answer ≡ done.answer) ↔ X
    done_when m =
        let t = rw (any.table_keeping given tests later) at (any.done_when (usual refuse given tests later done) same apart) in
        ((λ e. m.0 (t.0 e)), λ x. t.1 (m.1 x))

    -- any answer but a refusal says so, and leaves what it says
    pub done_leaves : ((r : Refusal) → (called (usual refuse given tests later done)).answer ≡ refuse r → ⊥) → called (usual refuse given tests later done) ≡ done
    done_leaves n = any.done_leaves (usual refuse given tests later done) same apart n

-- ---- one stage after the tests

module _ {A L : Type 0} (refuse : Refusal → A) (given : L) (tests : List Test) (r : Refusal) (l : L) (done : Left A L) where
  -- how code meets the promise: it passes, or it does not
  module _ (passed : tested tests ≡ passed) {b : Bool} where
    pub last_passes : b ≡ true → done ≡ called (usual refuse given tests (stage r b l ∷ []) done)
    unfolding run
    last_passes e = (rw e) ∙ passed_call refuse given tests (stage r b l ∷ []) done passed

    pub last_refuses : b ≡ false → left (refuse r) l ≡ called (usual refuse given tests (stage r b l ∷ []) done)
    unfolding run
    last_refuses e = (rw e) ∙ passed_call refuse given tests (stage r b l ∷ []) done passed

  -- its refusal, if no test gives it, says that all tests pass and that it does not
  pub last_when : (same : (x y : Refusal) → refuse x ≡ refuse y → x ≡ y) → ((t : Refusal) → done.answer ≡ refuse t → ⊥) → without r tests ≡ true → (b : Bool)
      → ((called (usual refuse given tests (stage r b l ∷ []) done)).answer ≡ refuse r) ↔ ((tested tests ≡ passed) × (b ≡ false))
  unfolding table
  last_when same apart w b =
      let t = later_when refuse given tests (stage r b l ∷ []) done same apart r w in
      ((λ e. let h = t.0 e in (h.0, only h.1)), λ h. t.1 (h.0, fails h.1))
    where
      only : {x : Refusal} → FirstToFail (test r b ∷ []) x → b ≡ false
      only (fails p) = p
      only (passes _ x) = elim x [ ]
