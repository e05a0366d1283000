-- The run up to where i has its value: it is a part of the run, and i stands in no place that was served. Assumes nothing.
use Prim.Native.Nat.{ℕ, zero, suc, ◌+◌, ◌<◌, ◌≤◌}
use mathlib.Core.Path.{◌≡◌, refl, sym, ap, ◌∙◌}
use mathlib.Core.Logic.{◌≢◌, ⊎_elim}
use mathlib.Core.Bool.{Bool, true, false, cond, ◌&&◌}
use mathlib.Core.List.{List, [], ◌∷◌}
use native.Mathlib.Decide.{ℕ_discrete}
use native.Mathlib.Nat.{le_refl}
use native.Mathlib.Omega.{arith}
use borrow.Author.Tests.{eqb-true, eqb-false, ltb-true, ltb-false}
use lib.ListN.{length, get_or, length-append, get_or-append}
use lib.Dec.{ltb}
use Rattle.meaning.specs.Steps.{Extends}
use Rattle.meaning.proofs.Values.{extends_refl, extends_trans, extends_set}
use Rattle.field.specs.Field.{Field, variables, Shaped, StartFor}
use Rattle.field.specs.Grade.{ExactIn}
use Rattle.rows.specs.Model.{row_of}
use Rattle.rows.specs.Stored.{up_to}
use Rattle.rows.proofs.Upto.{length_up_to}
use Rattle.run.specs.Run.{Run, is_free, force, move_row, serve, work, propagate, closure_run, closure}
use Rattle.run.proofs.Keeps.{ByForce, ByMove, by_serve, by_work, work_stays}
use Rattle.run.proofs.Room.{RoomOf, room_force, room_move, room_scan, room_propagate}
use Rattle.run.proofs.Serve.{Rest, serve_rest}
use Rattle.run.proofs.Bridge.{start_rows_worth}
use Rattle.run.proofs.Bridge as bridge
use Rattle.reason.specs.Until.{Stop, until, scanned, stop_of}

-- ---- a run that goes on keeps its values, and its queue grows at the end

pub record Grown (run next : Run) : Type 0 where
  pub values : Extends run.values next.values
  pub longer : length run.queue ≤ length next.queue
  pub front : (p : ℕ) → p < length run.queue → get_or next.queue p 0 ≡ get_or run.queue p 0

grown_same : (run : Run) → Grown run run
grown_same run = record { values = extends_refl run.values; longer = le_refl _; front = λ p l. refl }

grown_then : {a b c : Run} → Grown a b → Grown b c → Grown a c
grown_then x y = record { values = extends_trans x.values y.values; longer = omega (arith, x.longer, y.longer); front = λ p l. y.front p (omega (arith, x.longer)) ∙ x.front p l }

grown_force : (run : Run) → ByForce (Grown run)
unfolding force
grown_force run next t v free l g = record {
  values = extends_trans g.values (extends_set next.values t v free);
  longer = omega (arith, g.longer, length-append next.queue (t ∷ []));
  front = λ p b. get_or-append next.queue (t ∷ []) 0 p (omega (arith, g.longer)) ∙ g.front p b;
}

grown_move : (run : Run) → ByMove (Grown run)
unfolding move_row
grown_move run next t a v g = record { values = g.values; longer = g.longer; front = g.front }

module _ (F : Field) where
  grown_serve : (run : Run) (i : ℕ) → Grown run (serve F run i)
  grown_serve run i = by_serve (Grown run) (grown_force run) (grown_move run) F run i (grown_same run)

  pub grown_work : (turns : ℕ) (run : Run) (h : ℕ) → Grown run (work F turns run h)
  grown_work turns run h = by_work (Grown run) (grown_force run) (grown_move run) F turns run h (grown_same run)

-- ---- where it stops

-- the stop is a part of the run; where i is still free, nothing is left to serve; and no place that was served is i's
pub record Split (F : Field) (s : List ℕ) (turns : ℕ) (run : Run) (h i : ℕ) (stop : Stop) : Type 0 where
  pub left : ℕ
  pub rest : work F turns run h ≡ work F left stop.run stop.head
  pub room : RoomOf (variables F) s stop.run
  pub served : stop.head ≤ length stop.run.queue
  pub over : get_or stop.run.values i 0 ≡ 2 → length stop.run.queue ≤ stop.head
  pub later : (q : ℕ) → q < stop.head → get_or stop.run.queue q 0 ≢ i

module _ (F : Field) (s : List ℕ) (i : ℕ) where
  pub work_split : (turns : ℕ) (run : Run) (h : ℕ) → variables F ≤ h + turns → h ≤ length run.queue → RoomOf (variables F) s run → ((q : ℕ) → q < h → get_or run.queue q 0 ≢ i)
      → Split F s turns run h i (until F turns run h i)
  unfolding until work
  work_split zero run h enough l room later =
      record { left = 0; rest = refl; room = room; served = l; over = λ f. omega (arith, room.count); later = later }
  work_split (suc turns) run h enough l room later = go (is_free run i) (ltb h (length run.queue)) refl refl (λ b f.
      work_split turns next (suc h) (omega arith) (omega (arith, grown.longer))
      (by_serve (RoomOf (variables F) s) (room_force (variables F) s) (room_move (variables F) s) F run (get_or run.queue h 0) room) (later_next b f))
    where
      next : Run
      next = serve F run (get_or run.queue h 0)

      grown : Grown run next
      grown = grown_serve F run (get_or run.queue h 0)

      later_next : h < length run.queue → get_or run.values i 0 ≡ 2 → (q : ℕ) → q < suc h → get_or next.queue q 0 ≢ i
      later_next b f q c e =
          let small = room.fixed q (omega arith) in
          let z = ap (λ (y : ℕ). get_or run.values y 0) (sym (grown.front q (omega arith)) ∙ e) ∙ f in
          omega arith

      go : (x y : Bool) → is_free run i ≡ x → ltb h (length run.queue) ≡ y
          → (h < length run.queue → get_or run.values i 0 ≡ 2 → Split F s turns next (suc h) i (until F turns next (suc h) i))
          → Split F s (suc turns) run h i (cond (x && y) (until F turns next (suc h) i) (record { run = run; head = h }))
      go true true e f on =
          let a = on (ltb-true _ _ f) (eqb-true _ _ e) in
          record { left = a.left; rest = rw f a.rest; room = a.room; served = a.served; over = a.over; later = a.later }
      go true false e f on = record { left = suc turns; rest = refl; room = room; served = l; over = λ z. ltb-false _ _ f; later = later }
      go false y e f on = record { left = suc turns; rest = refl; room = room; served = l; over = λ z. absurd (eqb-false _ _ e z); later = later }

  -- the value of i is the whole run's
  pub split_value : {turns : ℕ} {run : Run} {h : ℕ} {stop : Stop} → Split F s turns run h i stop → get_or (work F turns run h).values i 0 ≡ get_or stop.run.values i 0
  split_value {turns} {run} {h} {stop} a = rw a.rest (go (ℕ_discrete (get_or stop.run.values i 0) 2))
    where
      go : Dec (get_or stop.run.values i 0 ≡ 2) → get_or (work F a.left stop.run stop.head).values i 0 ≡ get_or stop.run.values i 0
      go (yes e) = rw (work_stays F a.left stop.run stop.head (a.over e)) refl
      go (no n) = ⊎_elim (λ e. absurd (n e)) (λ e. e) ((grown_work F a.left stop.run stop.head).values.kept i)

-- ---- from the start values

module _ (F : Field) {s : List ℕ} (start : StartFor (variables F) s) (i : ℕ) where
  pub stop_split : Split F s (variables F) (scanned F s) 0 i (stop_of F s i)
  unfolding stop_of scanned
  stop_split = work_split F s i (variables F) (scanned F s) 0 (omega arith) (omega arith) (room_scan F (up_to (row_of F s) (variables F)) start (variables F)) (λ q l. absurd (omega arith))

  pub run_is : closure_run F s ≡ work F (variables F) (scanned F s) 0
  unfolding closure_run propagate scanned
  run_is = refl

  pub closure_room : RoomOf (variables F) s (closure_run F s)
  unfolding closure_run
  closure_room = room_propagate F (up_to (row_of F s) (variables F)) start

  -- i is free at the stop exactly if it is free in the closure
  pub stop_value : get_or (stop_of F s i).run.values i 0 ≡ get_or (closure F s) i 0
  unfolding closure
  stop_value = sym (ap (λ (r : Run). get_or r.values i 0) run_is ∙ split_value F s i stop_split)

  -- the closure's run goes on from the stop
  pub stop_grown : Grown (stop_of F s i).run (closure_run F s)
  stop_grown = rw (run_is, stop_split.rest) (grown_work F stop_split.left (stop_of F s i).run (stop_of F s i).head)

-- ---- on an exact field

module _ {u : ℕ} {F : Field} (shaped : Shaped F) (exact : ExactIn u F) {s : List ℕ} (i : ℕ) where
  until_rest : (turns : ℕ) (run : Run) (h : ℕ) → Rest u F s (variables F) h run → Rest u F s (variables F) (until F turns run h i).head (until F turns run h i).run
  unfolding until
  until_rest zero run h a = a
  until_rest (suc turns) run h a = go (is_free run i) (ltb h (length run.queue)) refl (λ b. until_rest turns next (suc h) (serve_rest shaped exact h run b a))
    where
      next : Run
      next = serve F run (get_or run.queue h 0)

      go : (x y : Bool) → ltb h (length run.queue) ≡ y
          → (h < length run.queue → Rest u F s (variables F) (until F turns next (suc h) i).head (until F turns next (suc h) i).run)
          → Rest u F s (variables F) (cond (x && y) (until F turns next (suc h) i) (record { run = run; head = h })).head (cond (x && y) (until F turns next (suc h) i) (record { run = run; head = h })).run
      go true true f rest = rest (ltb-true _ _ f)
      go true false f rest = a
      go false y f rest = a

  pub stop_rest : StartFor (variables F) s → Rest u F s (variables F) (stop_of F s i).head (stop_of F s i).run
  unfolding stop_of scanned
  stop_rest start = until_rest (variables F) (scanned F s) 0
      (bridge.scanned start (up_to (row_of F s) (variables F)) (omega (arith, length_up_to (row_of F s) (variables F))) (start_rows_worth shaped exact start) (variables F))
