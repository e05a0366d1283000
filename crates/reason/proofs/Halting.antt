-- What the turns of `serve_until` and `take_back` keep. Assumes nothing.
use Prim.Native.Nat.{ℕ, zero, suc, ◌+◌, ◌-◌, ◌<◌, ◌≤◌}
use mathlib.Core.Path.{◌≡◌, refl, sym, ap, ◌∙◌}
use mathlib.Core.Logic.{◌≢◌}
use mathlib.Core.Bool.{Bool, true, false, ◌&&◌}
use mathlib.Core.List.{List}
use native.Mathlib.Numerals.{add-one}
use native.Mathlib.Omega.{arith}
use borrow.Author.Tests.{lt-ltb, le-ltb, eq-eqb, ne_eqb}
use lib.ListN.{length, get_or, set, length-set}
use Rattle.scratch.specs.Region.{region}
use Rattle.scratch.proofs.Region.{length_region, region_at}
use Rattle.field.specs.Field.{Field, variables}
use Rattle.run.specs.Run.{Run, is_free, serve}
use Rattle.run.specs.Cells.{Cells, base, run_in, Placed, Kept, Does}
use Rattle.run.proofs.Cells.{kept_same, kept_then, queue_long, queue_at}
use Rattle.reason.specs.Until.{Stop, until}
use Rattle.reason.specs.Stages.{Halted, AllBelow, back}

and_false : (a : Bool) → (a && false) ≡ false
and_false true = refl
and_false false = refl

until_step : (F : Field) (turns : ℕ) (run : Run) (h i : ℕ) → get_or run.values i 0 ≡ 2 → h < length run.queue
    → until F (suc turns) run h i ≡ until F turns (serve F run (get_or run.queue h 0)) (suc h) i
unfolding until
until_step F turns run h i f l = rw (eq-eqb (get_or run.values i 0) 2 f, lt-ltb h (length run.queue) l) refl

until_end : (F : Field) (turns : ℕ) (run : Run) (h i : ℕ) → length run.queue ≤ h → until F turns run h i ≡ record { run = run; head = h }
unfolding until
until_end F zero run h i l = refl
until_end F (suc turns) run h i l = rw (le-ltb h (length run.queue) l, and_false (is_free run i)) refl

until_set : (F : Field) (turns : ℕ) (run : Run) (h i : ℕ) → get_or run.values i 0 ≢ 2 → until F turns run h i ≡ record { run = run; head = h }
unfolding until
until_set F zero run h i n = refl
until_set F (suc turns) run h i n = rw (ne_eqb (get_or run.values i 0) 2 n) refl

-- ---- serve_until: head variables are served

pub record Halting (F : Field) (i head : ℕ) (s₀ s : Cells) : Type 0 where
  pub served : head ≤ s.tail
  pub stop : until F (variables F - head) (run_in F s) head i ≡ until F (variables F) (run_in F s₀) 0 i
  pub kept : Kept F s₀ s

pub halt_start : {F : Field} {s : Cells} {i : ℕ} → Placed F s → Halting F i 0 s s
halt_start {F} P = let e : variables F - 0 ≡ variables F = omega arith in record { served = omega arith; stop = rw e refl; kept = kept_same P }

module _ {F : Field} {i head : ℕ} {s₀ s : Cells} (W : Halting F i head s₀ s) where
  pub halt_index : head < s.tail → base F + head < length s.words
  halt_index l = omega (arith, W.kept.placed.queue_room, W.kept.placed.words_room)

  pub halt_below : {t : ℕ} → head < s.tail → t ≡ get_or s.words (base F + head) 0 → t < variables F
  halt_below l e = rw e (W.kept.placed.queue_below head l)

  pub halt_turn : {s' : Cells} {t : ℕ} → head < s.tail → get_or s.values i 0 ≡ 2 → t ≡ get_or s.words (base F + head) 0 → Does F (λ run. serve F run t) s s'
      → Halting F i (head + 1) s₀ s'
  unfolding run_in
  halt_turn {s'} {t} l free et D =
      let n = variables F in
      let P = W.kept.placed in
      let within : head < n = omega (arith, P.queue_room) in
      let e : n - head ≡ suc (n - suc head) = omega arith in
      let ej : t ≡ get_or (run_in F s).queue head 0 = et ∙ sym (queue_at P head l) in
      record {
        served = omega (arith, D.kept.grows);
        stop = rw (add-one head, D.run, ej)
            (sym (until_step F (n - suc head) (run_in F s) head i free (omega (arith, queue_long P))) ∙ sym (ap (λ (k : ℕ). until F k (run_in F s) head i) e) ∙ W.stop);
        kept = kept_then W.kept D.kept;
      }

  halted : until F (variables F - head) (run_in F s) head i ≡ record { run = run_in F s; head = head } → Halted F i s₀ s head
  halted e = record { run = ap (λ (x : Stop). x.run) (sym e ∙ W.stop); head_is = ap (λ (x : Stop). x.head) (sym e ∙ W.stop); served = W.served; kept = W.kept }

  pub halt_over : s.tail ≤ head → Halted F i s₀ s head
  halt_over l = halted (until_end F (variables F - head) (run_in F s) head i (omega (arith, queue_long W.kept.placed)))

  pub halt_set : get_or s.values i 0 ≢ 2 → Halted F i s₀ s head
  unfolding run_in
  halt_set n = halted (until_set F (variables F - head) (run_in F s) head i n)

-- ---- take_back: the queue from head up to p is free again

pub back_long : (values queue : List ℕ) (h k : ℕ) → length (back values queue h k) ≡ length values
unfolding back
back_long values queue h zero = refl
back_long values queue h (suc k) = length-set (back values queue h k) _ _ ∙ back_long values queue h k

pub record Backing (values₀ u : List ℕ) (base last head p : ℕ) (values : List ℕ) : Type 0 where
  pub room : base + last ≤ length u
  pub below : AllBelow (length values₀) (region base last u)
  pub from : head ≤ p
  pub to : p ≤ last
  pub is : values ≡ back values₀ (region base last u) head (p - head)

pub back_start : {values u : List ℕ} {base last head : ℕ} → head ≤ last → base + last ≤ length u → AllBelow (length values) (region base last u) → Backing values u base last head head values
unfolding back
back_start {head = head} l room below = let e : head - head ≡ 0 = omega arith in record { room = room; below = below; from = omega arith; to = l; is = rw e refl }

module _ {values₀ u values : List ℕ} {base last head p : ℕ} (B : Backing values₀ u base last head p values) where
  pub back_index : p < last → base + p < length u
  back_index l = omega (arith, B.room)

  pub back_same : length values ≡ length values₀
  back_same = rw B.is (back_long values₀ (region base last u) head (p - head))

  pub back_below : {t : ℕ} → p < last → t ≡ get_or u (base + p) 0 → t < length values
  back_below l e = rw (e, ← region_at base last u p 0 l) (omega (arith, B.below p (omega (arith, length_region base last u B.room)), back_same))

  pub back_turn : {t : ℕ} → p < last → t ≡ get_or u (base + p) 0 → Backing values₀ u base last head (p + 1) (set values t 2)
  unfolding back
  back_turn {t} l e =
      let k : p + 1 - head ≡ suc (p - head) = omega (arith, B.from) in
      let j : head + (p - head) ≡ p = omega (arith, B.from) in
      record { room = B.room; below = B.below; from = omega (arith, B.from); to = omega arith; is = rw (k, j, e, region_at base last u p 0 l, ← B.is) refl }

  pub back_done : last ≤ p → values ≡ back values₀ (region base last u) head (last - head)
  back_done l = let e : p - head ≡ last - head = omega (arith, B.to) in B.is ∙ ap (λ (k : ℕ). back values₀ (region base last u) head k) e
