-- The probe at 1: each step asks what the one before leaves, up to what both probes find; and both probes. Assumes nothing.
use Prim.Native.Nat.{ℕ, ◌+◌, ◌<◌, ◌≤◌}
use mathlib.Core.Path.{◌≡◌, refl, sym, ap, ◌∙◌}
use mathlib.Core.Logic.{◌≢◌, ◌⊎◌, inl, inr, ⊎_elim}
use mathlib.Core.List.{List}
use native.Mathlib.Nat.{le_refl}
use native.Mathlib.Omega.{arith}
use lib.Ieee.{Float}
use lib.ListN.{length, get_or, set, take}
use Rattle.meaning.specs.Records.{Record}
use Rattle.found.specs.Holding.{Gathering}
use Rattle.meaning.specs.Free.{frees}
use Rattle.meaning.proofs.Values.{inside}
use Rattle.field.specs.Field.{Field, variables}
use Rattle.rows.specs.Stored.{Filled}
use Rattle.run.specs.Run.{closure}
use Rattle.run.specs.Cells.{cells, base}
use Rattle.probing.specs.declared.Known.{Known}
use Rattle.probing.specs.Remembered.{Probes}
use Rattle.probing.proofs.Probing.{probed_below}
use Rattle.workspace.specs.Restored.{Touched}
use Rattle.workspace.proofs.Theorems.{start_with, probe_values, probe_restores, restored_floats, restored_remembers}
use Rattle.probe.specs.Found.{nothing}
use Rattle.finding.specs.Finds.{wins, gives_at, finding_of, finding, finding_by, records_to}
use Rattle.finding.specs.Emit.{lay_to, Layable, bench, finding_in, emit_to, chosen_to, Emittable}
use Rattle.finding.proofs.Entered.{gathering_same}
use Rattle.finding.specs.Enters.{Enters}
use Rattle.finding.proofs.Entering.{enters_then, enters_as, enters_values, enters_gathers}
use Rattle.finding.proofs.Listing.{Listed, emit_enters, emit_most}
use Rattle.finding.proofs.Copied.{front_by}
use Rattle.finding.proofs.Laid.{lay_long, lay_others, lay_at}
use Rattle.finding.proofs.Chosen.{chosen_most, chosen_frees, closure_room}
use Rattle.finding.proofs.Given.{gives_self, gives_start, gives_twice, finds_none, finding_from}
use Rattle.twin.specs.Twin.{first_at, values_at, kept_at, EndFor, Halfway, Beside, Twinned}
use Rattle.twin.proofs.Framed.{remembers_front, touched_front, probe_behind}
use Rattle.twin.proofs.Halfway.{queue_few}

finding_is : (F : Field) (s : List ℕ) (i j : ℕ) {w : List ℕ} → w ≡ closure F (set s i 1) → finding_of s i (closure F (set s i 0)) w j ≡ finding F s i j
unfolding finding_by
finding_is F s i j e = rw e

module _ {F : Field} {s : List ℕ} {f : List Float} {u : List ℕ} {known : Known} {i k end : ℕ} (H : Halfway F s f u known i k) (N : EndFor F u end) where
  abbrev n : ℕ
  n = variables F

  abbrev v : List ℕ
  v = closure F (set s i 0)

  s_long : length s ≡ n
  s_long = H.remembers.start.long

  kept_below : (p : ℕ) → p < k → get_or u (kept_at F + p) 0 < n
  kept_below p h = omega (arith, inside s (get_or u (kept_at F + p) 0) (H.kept_free p h), s_long)

  small_i : i < 4096
  small_i = omega (arith, H.few, probed_below H.remembers i 0 H.free (omega arith))

  first_gives : (j : ℕ) → j < n → {x : ℕ} → x ≡ get_or u (first_at F + j) 0 → gives_at i j (get_or s j 0) x ≡ gives_at i j (get_or s j 0) (get_or v j 0)
  first_gives j h e = ap (gives_at i j (get_or s j 0)) (e ∙ H.first j h) ∙ gives_twice i j (get_or s j 0) (get_or v j 0)

  -- the probe, which leaves the values w
  module _ {w u₁ : List ℕ} {f₁ : List Float} {l : ℕ} (Q : Probes F s i 1 (cells s f u 0) (cells w f₁ u₁ l)) where
    w_is : w ≡ closure F (set s i 1)
    w_is = probe_values H.remembers i 1 H.free (omega arith) Q

    w_small : (j : ℕ) → get_or w j 0 ≤ 2
    w_small j = rw w_is ((closure_room F (start_with H.remembers.start i 1 H.free (omega arith))).valid.small j)

    long₁ : length u₁ ≡ length u
    long₁ = Q.kept.words_long

    l_few : l ≤ n
    l_few = queue_few H.remembers i 1 H.free (omega arith) Q

    touched : Touched F s i (cells w f₁ u₁ l)
    touched = probe_restores H.remembers i 1 H.free (omega arith) Q

    behind₁ : (p : ℕ) → first_at F ≤ p → get_or u₁ p 0 ≡ get_or u p 0
    behind₁ p h = probe_behind Q p (omega arith)

    -- what is found from the words is what both probes find
    finds₁ : (u' : List ℕ) → ((j : ℕ) → j < n → get_or u' (first_at F + j) 0 ≡ get_or u₁ (first_at F + j) 0) → (j : ℕ) → j < n → finding_in s w i (first_at F) u' j ≡ finding F s i j
    finds₁ u' same j h = finding_from s v w i (first_at F) u' j (first_gives j h (same j h ∙ behind₁ (first_at F + j) (omega arith))) ∙ finding_is F s i j w_is

    pub emit_asks : Emittable s w u₁ i (base F) l 0 (first_at F) (values_at F) end
    emit_asks = record {
      small_i = small_i;
      few = omega (arith, H.few, s_long);
      long = Q.kept.placed.values_long ∙ sym s_long;
      below = λ p h. omega (arith, Q.kept.placed.queue_below p h, s_long);
      apart = λ p h j b e. absurd (omega (arith, l_few));
      list_room = omega (arith, l_few, N.low);
      first_room = omega (arith, s_long);
      value_room = omega (arith, s_long, N.low);
      end_room = omega (arith, N.room, long₁, l_few, chosen_most w 0 u₁ (base F) l);
    }

    -- the findings of what it forced
    module _ {u₂ : List ℕ} {r₂ : ℕ} (entered : bench u₂ r₂ ≡ emit_to s w i (base F) 0 (first_at F) (values_at F) (bench u₁ end) l) where
      enters₂ : Enters (finding_in s w i (first_at F) u₁) (length s) (values_at F) (Listed w 0 u₁ (base F) l) (bench u₁ end) (bench u₂ r₂)
      enters₂ = emit_enters emit_asks entered

      others₂ : (p : ℕ) → p < end → ((j : ℕ) → j < n → p ≢ values_at F + j) → get_or u₂ p 0 ≡ get_or u₁ p 0
      others₂ p h apart = enters₂.others p h (λ j b. apart j (omega (arith, s_long)))

      list₂ : (p : ℕ) → p < k → get_or u₂ (kept_at F + p) 0 ≡ get_or u (kept_at F + p) 0
      list₂ p h = others₂ (kept_at F + p) (omega (arith, H.count, N.low)) (λ j b e. absurd (omega arith)) ∙ behind₁ (kept_at F + p) (omega arith)

      chosen₂ : chosen_to w 2 u₂ (kept_at F) k ≤ frees w
      chosen₂ = chosen_frees w u₂ (kept_at F) k w_small (λ p q a b e. H.apart p q a b (sym (list₂ p (omega arith)) ∙ e ∙ list₂ q b))

      pub emit_asks_2 : Emittable s w u₂ i (kept_at F) k 2 (first_at F) (values_at F) r₂
      emit_asks_2 = record {
        small_i = small_i;
        few = omega (arith, H.few, s_long);
        long = Q.kept.placed.values_long ∙ sym s_long;
        below = λ p h. rw (list₂ p h) (omega (arith, kept_below p h, s_long));
        apart = λ p h j b e. absurd (omega (arith, s_long));
        list_room = omega (arith, H.count, N.low, enters₂.low);
        first_room = omega (arith, s_long);
        value_room = omega (arith, s_long, N.low, enters₂.low);
        end_room = omega (arith, emit_most emit_asks entered, chosen_most w 0 u₁ (base F) l, chosen₂, Q.kept.placed.queue_room, N.room, enters₂.long, long₁);
      }

      -- the findings of what the probe at 0 alone forced
      module _ {u₃ : List ℕ} {r : ℕ} (entered-2 : bench u₃ r ≡ emit_to s w i (kept_at F) 2 (first_at F) (values_at F) (bench u₂ r₂) k) where
        abbrev Entry : ℕ → Type 0
        Entry j = Listed w 0 u₁ (base F) l j ⊎ Listed w 2 u₂ (kept_at F) k j

        enters₃ : Enters (finding F s i) n (values_at F) Entry (bench u₁ end) (bench u₃ r)
        enters₃ = enters_then
            (enters_as (finds₁ u₁ (λ j h. refl)) (rw s_long at enters₂))
            (enters_as (finds₁ u₂ (λ j h. others₂ (first_at F + j) (omega (arith, N.low)) (λ x b e. absurd (omega arith)))) (rw s_long at (emit_enters emit_asks_2 entered-2)))
            (λ j z. z)

        front₃ : (d : ℕ) → d ≤ values_at F → take d u₃ ≡ take d u₁
        front₃ d h = front_by d u₁ u₃ (omega (arith, N.low, N.room, long₁)) enters₃.long
            (λ p l. enters₃.others p (omega (arith, N.low)) (λ j b e. absurd (omega arith)))

        behind₃ : (p : ℕ) → values_at F + n ≤ p → p < end → get_or u₃ p 0 ≡ get_or u p 0
        behind₃ p a b = enters₃.others p b (λ j c e. absurd (omega arith)) ∙ behind₁ p (omega arith)

        -- of no other variable is anything found
        rest₃ : (j : ℕ) → j < n → Entry j ⊎ (finding F s i j ≡ nothing)
        rest₃ j h = ⊎_elim
            (λ a. ⊎_elim
            (λ m. inl (inr record {
              place = m.place;
              high = m.high;
              holds = list₂ m.place m.high ∙ m.holds;
              enough = omega (arith, a, ap (λ (z : ℕ). get_or s z 0) m.holds, H.kept_free m.place m.high);
            }))
            (λ b. inr (none (sym (H.first j h) ∙ b) (gives_start i j (get_or s j 0) (get_or w j 0) a)))
            (H.forced j h))
            (⊎_elim
            (λ e. inr (none (gives_self (get_or s j 0) (get_or v j 0) e) (gives_self (get_or s j 0) (get_or w j 0) e)))
            (λ m. inl (inl record { place = m.place; high = m.high; holds = m.holds; enough = omega arith })))
            (touched.values j)
          where
            none : gives_at i j (get_or s j 0) (get_or v j 0) ≡ 2 → gives_at i j (get_or s j 0) (get_or w j 0) ≡ 2 → finding F s i j ≡ nothing
            none a b = sym (finding_is F s i j w_is) ∙ finds_none s i v w j a b

        pub emitted_touched : Touched F s i (cells w f₁ u₃ l)
        emitted_touched = touched_front F u₁ u₃ (front₃ (first_at F) (omega arith)) enters₃.long touched

        pub emitted_long : length u₃ ≡ length u
        emitted_long = enters₃.long ∙ long₁

        list₃ : (p : ℕ) → p < k → get_or u₃ (kept_at F + p) 0 ≡ get_or u (kept_at F + p) 0
        list₃ p h = behind₃ (kept_at F + p) (omega arith) (omega (arith, H.count, N.low))

        pub lay_asks_2 : {m : ℕ} → m ≤ k → Layable s u₃ (kept_at F) m (first_at F)
        lay_asks_2 b = record {
          below = λ p h. rw (list₃ p (omega arith)) (omega (arith, kept_below p (omega arith), s_long));
          list_low = omega (arith, s_long);
          list_room = omega (arith, H.count, N.low, N.room, emitted_long);
        }

        module _ {f₃ : List Float} (X : Filled F s f₁ f₃) where
          pub second_floats : f₃ ≡ f
          second_floats = restored_floats H.remembers i 1 H.free (omega arith) Q X

          -- the start values of what the probe at 0 forced, which are free, are laid over its values
          module _ {u₄ : List ℕ} (reset : u₄ ≡ lay_to s (kept_at F) (first_at F) u₃ k) where
            asks : Layable s u₃ (kept_at F) k (first_at F)
            asks = lay_asks_2 (le_refl k)

            long₄ : length u₄ ≡ length u₁
            long₄ = ap length reset ∙ lay_long asks k ∙ enters₃.long

            others₄ : (p : ℕ) → ((j : ℕ) → j < n → p ≢ first_at F + j) → get_or u₄ p 0 ≡ get_or u₃ p 0
            others₄ p apart = ap (λ (z : List ℕ). get_or z p 0) reset ∙ lay_others asks k (le_refl k) p (λ j h. apart j (omega (arith, s_long)))

            front₄ : take (first_at F) u₄ ≡ take (first_at F) u₁
            front₄ = front_by (first_at F) u₁ u₄ (omega (arith, N.low, N.room, long₁)) long₄
                (λ p h. others₄ p (λ j b e. absurd (omega arith)) ∙ enters₃.others p (omega (arith, N.low)) (λ j b e. absurd (omega arith)))

            first₄ : (j : ℕ) → j < n → get_or u₄ (first_at F + j) 0 ≡ 2
            first₄ j h = ap (λ (z : List ℕ). get_or z (first_at F + j) 0) reset ∙ ⊎_elim
                (λ a. let p = a.0.0 in let b = a.0.1.0 in a.1 ∙ ap (λ (z : ℕ). get_or s z 0) (sym a.0.1.1 ∙ list₃ p b) ∙ H.kept_free p b)
                (λ a. a.1
                ∙ enters₃.others (first_at F + j) (omega (arith, N.low)) (λ x b e. absurd (omega arith))
                ∙ behind₁ (first_at F + j) (omega arith)
                ∙ ⊎_elim (λ m. absurd (a.0 m.place m.high (list₃ m.place m.high ∙ m.holds))) (λ b. b) (H.forced j h))
                (lay_at asks k (le_refl k) j (omega (arith, s_long)))

            gathers₄ : {S : List Record} {lo held : ℕ} {list₀ list : List ℕ} → kept_at F + n ≤ lo → Gathering S lo end held list₀ list u
                → Gathering (records_to (finding F s i) S n) lo r held list₀ list u₄
            gathers₄ a G =
                let G₁ = gathering_same {u' = u₁} G long₁ (λ t b c. behind₁ t (omega arith)) in
                let G₃ = enters_gathers enters₃ rest₃ (omega arith) G₁ in
                gathering_same {u' = u₄} G₃ (long₄ ∙ sym enters₃.long) (λ t b c. others₄ t (λ j d e. absurd (omega arith)))

            pub second_done : Twinned F s f known i u end u₄ r
            second_done =
                let R = remembers_front F u₁ u₄ front₄ long₄ (restored_remembers H.remembers i 1 H.free (omega arith) Q X) in record {
                  remembers = rw second_floats at R;
                  long = long₄ ∙ long₁;
                  first = first₄;
                  values = λ j h. others₄ (values_at F + j) (λ x b e. absurd (omega arith))
                      ∙ enters_values enters₃ rest₃ j h
                      ∙ ap (wins (finding F s i j)) (behind₁ (values_at F + j) (omega arith));
                  between = λ j h. others₄ (values_at F + n + j) (λ x b e. absurd (omega arith)) ∙ behind₃ (values_at F + n + j) (omega arith) (omega (arith, N.low));
                  gathers = gathers₄;
                }

-- ---- both

pub end_beside : {F : Field} {u u' : List ℕ} {end : ℕ} → EndFor F u end → Beside F u u' → EndFor F u' end
end_beside N B = record { low = N.low; room = omega (arith, N.room, B.long) }

pub half_again : {F : Field} {s : List ℕ} {f f' : List Float} {u : List ℕ} {known : Known} {i k : ℕ} → f' ≡ f → Halfway F s f u known i k → Halfway F s f' u known i k
half_again e H = rw e H

pub twin_done : {F : Field} {s : List ℕ} {f f' : List Float} {known : Known} {i end r : ℕ} {u u' u'' : List ℕ} → f' ≡ f → Beside F u u' → Twinned F s f' known i u' end u'' r
    → Twinned F s f known i u end u'' r
twin_done {F} {s} {i = i} e B T = record {
  remembers = rw e at T.remembers;
  long = T.long ∙ B.long;
  first = T.first;
  values = λ j h. T.values j h ∙ ap (wins (finding F s i j)) (B.before (values_at F + j) (omega arith) (omega arith));
  between = λ j h. T.between j h ∙ B.before (values_at F + variables F + j) (omega arith) (omega arith);
  gathers = λ a G. T.gathers a (gathering_same G B.long (λ t b c. B.behind t (omega arith)));
}
