-- What any call's answer says, proved once. Assumes nothing.
use Prim.Native.Nat.{ℕ}
use mathlib.Core.Path.{◌≡◌, refl, sym, ap, ◌∙◌}
use mathlib.Core.Logic.{◌≢◌, ◌↔◌}
use mathlib.Core.Bool.{Bool, true, false, cond, not, ◌&&◌}
use mathlib.Core.List.{List, [], ◌∷◌, ◌++◌}
use native.Mathlib.Omega.{arith}
use lib.Dec.{eqb}
use Rattle.scratch.proofs.All.{both}
use Rattle.scratch.proofs.Means.{ne_is}
use Rattle.field.specs.declared.Refusal.{Refusal}
use Rattle.field.specs.Answers.{number_of, Answer, passed}
use Rattle.field.specs.Table as tests
use Rattle.field.specs.Table.{Test, test, unless, tested, FirstToFail, AllPass, more}
use Rattle.field.proofs.Table.{refused_exactly, passed_exactly, group_no, group_ok}
use Rattle.calls.specs.Call.{Left, left, Stage, stage, Call, run, called, table, keeping, Stops, fails, passes, Leave, no_stage, and_stage, Each, without}
use Rattle.std.specs.Prelude.{Ok, Err}

not_failed : {r : Refusal} → passed ≡ Err r → ⊥
not_failed e = let z : ◌≡◌ {A = ℕ} 0 1 = cc in omega arith

-- a refusal that no test gives is never the first to fail
pub never_first : (ts : List Test) (r : Refusal) → without r ts ≡ true → FirstToFail ts r → ⊥
unfolding without
never_first (t ∷ ts) r e (tests.fails p) = (ne_is (number_of t.refusal) (number_of t.refusal)).0 (both (not (eqb (number_of t.refusal) (number_of t.refusal))) (without t.refusal ts) e).0 refl
never_first (t ∷ ts) r e (tests.passes p h) = never_first ts r (both (not (eqb (number_of t.refusal) (number_of r))) (without r ts) e).1 h
never_first [] r e x'' = elim x'' [ ]

-- and is given after the tests exactly if all of them pass
pub first_later : (ts us : List Test) (r : Refusal) → without r ts ≡ true → FirstToFail (ts ++ us) r ↔ ((tested ts ≡ passed) × FirstToFail us r)
first_later ts us r w = (
  λ h. go (tested ts) refl ((refused_exactly (ts ++ us) r).1 h),
  λ h. (refused_exactly (ts ++ us) r).0 (sym (group_ok ts us h.0 (sym ((refused_exactly us r).1 h.1)))),
)
  where
    go : (k : Answer Unit) → tested ts ≡ k → tested (ts ++ us) ≡ Err r → (tested ts ≡ passed) × FirstToFail us r
    go (Ok _) e f = (e, (refused_exactly us r).0 (group_ok ts us e refl ∙ f))
    go (Err t) e f = absurd (never_first ts r w ((refused_exactly ts r).0 (e ∙ group_no ts us e ∙ f)))

-- ---- stages

module _ {L : Type 0} where
  -- a stage that stops a call is the first to fail of the table
  stops_first : {ts : List (Stage L)} {r : Refusal} {l : L} → Stops ts r l → FirstToFail (table ts) r
  unfolding table
  stops_first (fails p) = tests.fails p
  stops_first (passes p h) = tests.passes p (stops_first h)

  -- what is left by the first that fails
  first_stops : (ts : List (Stage L)) {r : Refusal} → FirstToFail (table ts) r → (l : L) × Stops ts r l
  unfolding table
  first_stops (t ∷ ts) (tests.fails p) = (t.leaves, fails p)
  first_stops (t ∷ ts) (tests.passes p h) = let z = first_stops ts h in (z.0, passes p z.1)
  first_stops [] {r = r} x' = elim x' [ ]

  stops_leaves : {r : Refusal} {l k : L} {ts : List (Stage L)} → Leave r l ts → Stops ts r k → k ≡ l
  stops_leaves (and_stage h hs) (fails p) = h refl
  stops_leaves (and_stage h hs) (passes p s) = stops_leaves hs s
  stops_leaves {r = r} {l = l} {k = k} no_stage x3 = elim x3 [ ]

  -- tests that leave what was given, as a table
  pub table_keeping : (given : L) (ts : List Test) (us : List (Stage L)) → table (keeping given ts ++ us) ≡ ts ++ table us
  unfolding table keeping
  table_keeping given [] us = refl
  table_keeping given (t ∷ ts) us = ap (λ (rest : List Test). t ∷ rest) (table_keeping given ts us)

  -- each of them leaves what was given,
  pub keeping_leave : {r : Refusal} (given : L) (ts : List Test) {us : List (Stage L)} → Leave r given us → Leave r given (keeping given ts ++ us)
  unfolding keeping
  keeping_leave given [] h = h
  keeping_leave given (t ∷ ts) h = and_stage (λ _. refl) (keeping_leave given ts h)

  -- and a refusal that none of them gives leaves what the later stages leave
  pub later_leave : {r : Refusal} {l : L} (given : L) (ts : List Test) {us : List (Stage L)} → without r ts ≡ true → Leave r l us → Leave r l (keeping given ts ++ us)
  unfolding keeping without
  later_leave given [] e h = h
  later_leave {r} given (t ∷ ts) e h =
      let p = both (not (eqb (number_of t.refusal) (number_of r))) (without r ts) e in
      and_stage (λ z. absurd ((ne_is _ _).0 p.0 (ap number_of z))) (later_leave given ts p.1 h)

-- ---- a call

module _ {A L : Type 0} (refuse : Refusal → A) (done : Left A L) where
  pub run_stops : {ts : List (Stage L)} {r : Refusal} {l : L} → Stops ts r l → run refuse ts done ≡ left (refuse r) l
  unfolding run
  run_stops (fails p) = rw p
  run_stops (passes p h) = rw p (run_stops h)

  pub run_passes : (ts : List (Stage L)) → AllPass (table ts) → run refuse ts done ≡ done
  unfolding run table
  run_passes [] a = refl
  run_passes (t ∷ ts) (more p a) = rw p (run_passes ts a)

  -- the answer is a refusal of a stage or the one when done
  pub run_has : (P : A → Type 0) (ts : List (Stage L)) → Each (λ r. P (refuse r)) ts → P done.answer → P (run refuse ts done).answer
  unfolding run
  run_has P [] each ended = ended
  run_has P (t ∷ ts) each ended = by t.passes (run_has P ts each.1 ended)
    where
      by : (b : Bool) → P (run refuse ts done).answer → P (cond b (run refuse ts done) (left (refuse t.refusal) t.leaves)).answer
      by true rest = rest
      by false rest = each.0

  -- how code that tests in order meets the promise: a test fails, or all pass and leave the later stages
  pub tests_refuse : (given : L) (ts : List Test) (us : List (Stage L)) {r : Refusal} → tested ts ≡ Err r → left (refuse r) given ≡ run refuse (keeping given ts ++ us) done
  unfolding run keeping tested
  tests_refuse given [] us e = absurd (not_failed e)
  tests_refuse given (t ∷ ts) us {r} e = by t.passes e (tests_refuse given ts us)
    where
      by : (b : Bool) → unless b t.refusal (tested ts) ≡ Err r → (tested ts ≡ Err r → left (refuse r) given ≡ run refuse (keeping given ts ++ us) done)
          → left (refuse r) given ≡ cond b (run refuse (keeping given ts ++ us) done) (left (refuse t.refusal) given)
      by true e rest = rest e
      by false e rest = let z : r ≡ t.refusal = cc in ap (λ (x : Refusal). left (refuse x) given) z

  pub tests_pass : (given : L) (ts : List Test) (us : List (Stage L)) → tested ts ≡ passed → run refuse us done ≡ run refuse (keeping given ts ++ us) done
  unfolding run keeping tested
  tests_pass given [] us e = refl
  tests_pass given (t ∷ ts) us e = by t.passes e (tests_pass given ts us)
    where
      by : (b : Bool) → unless b t.refusal (tested ts) ≡ passed → (tested ts ≡ passed → run refuse us done ≡ run refuse (keeping given ts ++ us) done)
          → run refuse us done ≡ cond b (run refuse (keeping given ts ++ us) done) (left (refuse t.refusal) given)
      by true e rest = rest e
      by false e rest = absurd (not_failed (sym e))

-- any two results that a promise permits are equal
pub one_result : {A L : Type 0} (promised x y : Left A L) → x ≡ promised → y ≡ promised → x ≡ y
one_result promised x y p q = p ∙ sym q

-- a call whose refusals differ, and whose answer is no refusal
module _ {A L : Type 0} (c : Call A L) (same : (r t : Refusal) → c.refuse r ≡ c.refuse t → r ≡ t) (apart : (r : Refusal) → c.done.answer ≡ c.refuse r → ⊥) where
  -- the two ways that it can go
  data Way : Type 0 where
    stopped : {r : Refusal} {l : L} → Stops c.stages r l → called c ≡ left (c.refuse r) l → Way
    ended : AllPass (table c.stages) → called c ≡ c.done → Way

  way : Way
  unfolding called
  way = go (tested (table c.stages)) refl
    where
      go : (k : Answer Unit) → tested (table c.stages) ≡ k → Way
      go (Ok _) e = let a = (passed_exactly (table c.stages)).0 e in ended a (run_passes c.refuse c.done c.stages a)
      go (Err r) e = let z = first_stops c.stages ((refused_exactly (table c.stages) r).0 e) in stopped z.1 (run_stops c.refuse c.done z.1)

  answers : {x : Left A L} → called c ≡ x → x.answer ≡ (called c).answer
  answers e = ap (λ (x : Left A L). x.answer) (sym e)

  -- Theorem. By stage: it is refused with r and leaves l exactly if the stages before one pass, and it fails with r and leaves l.
  pub stopped_when : (r : Refusal) (l : L) → (called c ≡ left (c.refuse r) l) ↔ Stops c.stages r l
  unfolding called
  stopped_when r l = (to way, run_stops c.refuse c.done)
    where
      to : Way → called c ≡ left (c.refuse r) l → Stops c.stages r l
      to (stopped {r = t} {l = k} h w) e =
          let er : t ≡ r = same t r (ap (λ (x : Left A L). x.answer) (sym w ∙ e)) in
          let el : k ≡ l = ap (λ (x : Left A L). x.lent) (sym w ∙ e) in
          rw (sym er, sym el) h
      to (ended a w) e = absurd (apart r (ap (λ (x : Left A L). x.answer) (sym w ∙ e)))

  -- Theorem. It is refused with r exactly if the stages before one of r's pass, and that fails.
  pub refused_when : (r : Refusal) → ((called c).answer ≡ c.refuse r) ↔ FirstToFail (table c.stages) r
  unfolding called
  refused_when r = (to way, λ h. let z = first_stops c.stages h in sym (answers (run_stops c.refuse c.done z.1)))
    where
      to : Way → (called c).answer ≡ c.refuse r → FirstToFail (table c.stages) r
      to (stopped {r = t} h w) e = let er : t ≡ r = same t r (answers w ∙ e) in rw (sym er) (stops_first h)
      to (ended a w) e = absurd (apart r (answers w ∙ e))

  -- Theorem. A call refused with r leaves what the stages of r leave.
  pub refused_leaves : (r : Refusal) (l : L) → Leave r l c.stages → (called c).answer ≡ c.refuse r → called c ≡ left (c.refuse r) l
  refused_leaves r l h e = go way
    where
      go : Way → called c ≡ left (c.refuse r) l
      go (stopped {r = t} {l = k} s w) =
          let er : t ≡ r = same t r (answers w ∙ e) in
          let el : k ≡ l = stops_leaves h (rw er at s) in
          w ∙ ap (λ (x : Refusal). left (c.refuse x) k) er ∙ ap (left (c.refuse r)) el
      go (ended a w) = absurd (apart r (answers w ∙ e))

  -- it is done exactly if every stage passes
  pub done_when : ((called c).answer ≡ c.done.answer) ↔ (tested (table c.stages) ≡ passed)
  unfolding called
  done_when = (to way, λ e. sym (answers (run_passes c.refuse c.done c.stages ((passed_exactly (table c.stages)).0 e))))
    where
      to : Way → (called c).answer ≡ c.done.answer → tested (table c.stages) ≡ passed
      to (stopped {r = t} h w) e = absurd (apart t (sym (answers w ∙ e)))
      to (ended a w) e = (passed_exactly (table c.stages)).1 a

  -- Theorem. Any answer but a refusal says that the call is done, and leaves what it says.
  pub done_leaves : ((r : Refusal) → (called c).answer ≡ c.refuse r → ⊥) → called c ≡ c.done
  done_leaves n = go way
    where
      go : Way → called c ≡ c.done
      go (stopped {r = t} h w) = absurd (n t (sym (answers w)))
      go (ended a w) = w
