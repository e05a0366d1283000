-- A probe afresh leaves the closure with the one value added, and the words behind its queue. Assumes nothing.
use Prim.Native.Nat.{ℕ, ◌+◌, ◌-◌, ◌<◌, ◌≤◌}
use mathlib.Core.Path.{◌≡◌, refl, sym, ap, ◌∙◌}
use mathlib.Core.List.{List}
use native.Mathlib.Decide.{ℕ_discrete}
use native.Mathlib.Omega.{arith}
use lib.Ieee.{Float}
use lib.ListN.{length, get_or, set, length-set}
use lib.Seq.{get_or-drop, get_or-set_same, get_or-set_other}
use Rattle.field.specs.Field.{Field, variables}
use Rattle.rows.specs.Stored.{Fillable, Filled}
use Rattle.rows.proofs.Stored.{written_rows}
use Rattle.run.specs.Run.{Run, propagate, closure_run, closure}
use Rattle.run.specs.Cells.{Cells, cells, base, run_in, Placed, Kept, Does}
use Rattle.run.proofs.Cells.{placed_start}
use Rattle.probe.specs.Call.{cold}
use Rattle.cold.specs.Afresh.{Afresh, Behind, Laid}

-- ---- one probe

-- a run writes nothing behind its queue
kept_behind : {F : Field} {a b : Cells} → Kept F a b → (p : ℕ) → base F + variables F ≤ p → get_or b.words p 0 ≡ get_or a.words p 0
kept_behind {F} {a} {b} K p h =
    let d = base F + b.tail in
    let e : d + (p - d) ≡ p = omega (arith, K.placed.queue_room) in
    rw e at (sym (get_or-drop d b.words (p - d) 0) ∙ ap (λ (z : List ℕ). get_or z (p - d) 0) K.words_rest ∙ get_or-drop d a.words (p - d) 0)

module _ {F : Field} {s : List ℕ} {values floats : ℕ} {u : List ℕ} (A : Afresh F s values floats u) (i v : ℕ) {vs : List ℕ} (assumed : vs ≡ set s i v) where
  with_long : length vs ≡ variables F
  with_long = ap length assumed ∙ length-set s i v ∙ A.start.long

  pub fill_asks : {f : List Float} → length f ≡ floats → Fillable F vs f
  fill_asks e = record { shaped = A.shaped; values_long = with_long; room = omega (arith, A.floats_room, e) }

  module _ {f₀ f : List Float} (e : length f₀ ≡ floats) (filled : Filled F vs f₀ f) where
    pub run_asks : Placed F (cells vs f u 0)
    run_asks = placed_start A.shaped with_long (omega (arith, A.floats_room, e, filled.long)) A.places A.words_room

    module _ {vs' u' : List ℕ} {f' : List Float} {r : ℕ} (ran : Does F (λ run. propagate F run.values run.rows) (cells vs f u 0) (cells vs' f' u' r)) where
      pub probe_values : vs' ≡ cold F s i v
      unfolding closure closure_run run_in
      probe_values =
          ap (λ (run : Run). run.values) ran.run
          ∙ ap (λ (run : Run). run.values) (ap (propagate F vs) (written_rows filled))
          ∙ ap (closure F) assumed

      pub probe_behind : Behind F u u'
      probe_behind = record { long = ran.kept.words_long; places = ran.kept.placed.adjacent; rest = kept_behind ran.kept }

-- ---- its values in the words

pub record Laying (first n j : ℕ) (values u₀ u : List ℕ) : Type 0 where
  pub room : first + n ≤ length u₀
  pub within : j ≤ n
  pub laid : Laid first j values u₀ u

pub laying_start : (first n : ℕ) (values u : List ℕ) → first + n ≤ length u → Laying first n 0 values u u
laying_start first n values u h = record {
  room = h;
  within = omega arith;
  laid = record { long = refl; are = λ t l. absurd (omega arith); front = λ p l. refl; rest = λ p l. refl };
}

module _ {first n j : ℕ} {values u₀ u : List ℕ} (L : Laying first n j values u₀ u) where
  pub laying_room : j < n → first + j < length u
  laying_room h = omega (arith, L.room, L.laid.long)

  pub laying_turn : j < n → {x : ℕ} → x ≡ get_or values j 0 → Laying first n (j + 1) values u₀ (set u (first + j) x)
  laying_turn h {x} is = record {
    room = L.room;
    within = omega arith;
    laid = record {
      long = length-set u (first + j) x ∙ L.laid.long;
      are = λ t l. elim (ℕ_discrete t j) [
        | yes e ↦ rw e (get_or-set_same u (first + j) x 0 (laying_room h) ∙ is)
        | no ne ↦ get_or-set_other u (first + j) (first + t) x 0 (λ z. ne (omega arith)) ∙ L.laid.are t (omega (arith, ne))
      ];
      front = λ p l. get_or-set_other u (first + j) p x 0 (λ z. absurd (omega arith)) ∙ L.laid.front p l;
      rest = λ p l. get_or-set_other u (first + j) p x 0 (λ z. absurd (omega arith)) ∙ L.laid.rest p (omega arith);
    };
  }

  pub laying_done : n ≤ j → Laid first n values u₀ u
  laying_done h = let z : j ≡ n = omega (arith, L.within) in rw z at L.laid
