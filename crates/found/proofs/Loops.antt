-- The two loops: one counts what both lists hold, the other lays it from the back. Assumes nothing.
use Prim.Native.Nat.{ℕ, ◌+◌, ◌*◌, ◌-◌, ◌<◌, ◌≤◌}
use mathlib.Core.Path.{◌≡◌, refl, sym, ap, ◌∙◌}
use mathlib.Core.List.{List, [], ◌∷◌, ◌++◌, append_assoc, append-nil}
use native.Mathlib.Nat.{div-mul-le_self}
use native.Mathlib.Omega.{arith}
use lib.ListN.{length, get_or, take, drop, length-append, take-append-drop}
use lib.Seq.{append_snoc}
use Rattle.scratch.specs.Over.{over}
use Rattle.meaning.specs.Records.{Record}
use Rattle.constraints.specs.Record.{flat, room, filled, stored}
use Rattle.constraints.specs.Keys.{unkey}
use Rattle.constraints.proofs.Records.{length_flat, has_room, length_stored, flat_append}
use Rattle.found.specs.Joint.{front, Held, Climbed, joint, Between, Taking}
use Rattle.found.specs.Blocks.{raised}
use Rattle.found.proofs.Fronts.{front_length, front_fewer, front_stored, flat_front, drop_stored, held_fewer, held_same, climbed_fewer, joint_as, joint_long, joint_none}
use Rattle.found.proofs.Raising.{length_raised}
use Rattle.found.proofs.TakenBlocks.{front_raised, drop_raised, taking_as, block_taken, block_length}

-- one is taken
taken_length : {i lo j key i' j' : ℕ} {list u : List ℕ} → Taking i lo j list u key i' j' → length (joint i lo j list u) ≡ length (joint i' lo j' list u) + 1
taken_length {i} {lo} {j} {key} {i'} {j'} {list} {u} T = ap length T.is ∙ length-append (joint i' lo j' list u) (unkey key ∷ [])

-- ---- counting

-- n were taken
pub record Counting (held lo hi : ℕ) (list u : List ℕ) (items keys n : ℕ) : Type 0 where
  pub few : items ≤ held
  pub low : lo ≤ keys
  pub high : keys ≤ hi
  pub turns : n + items + keys ≤ held + hi
  pub count : n + length (joint items lo keys list u) ≡ length (joint held lo hi list u)

module _ {held lo hi : ℕ} {list u : List ℕ} {items keys n : ℕ} (C : Counting held lo hi list u items keys n) where
  -- a block and the word in front of it are taken
  pub counting_turn : Held held list → Climbed lo hi u → lo < keys → {p key items' keys' : ℕ} → Between p p items (get_or u (keys - 1) 0) list → Taking p lo keys list u key items' keys'
      → Counting held lo hi list u items' keys' (n + (items - p + 1))
  counting_turn H W h {p} B T =
      let F = held_fewer items held list C.few H in
      let b = block_length list (climbed_fewer lo keys hi u C.low C.high W) h p items F B.within B.above in record {
        few = omega (arith, T.fewer, B.within, C.few);
        low = T.low;
        high = omega (arith, T.high, C.high);
        turns = omega (arith, T.less, B.within, C.turns);
        count = omega (arith, taken_length T, b, C.count);
      }

  pub counting_done : Held held list → keys ≤ lo → n + items ≡ length (joint held lo hi list u)
  counting_done H h =
      let e : keys ≡ lo = omega (arith, C.low) in
      let F = held_fewer items held list C.few H in
      let z : length (joint items lo keys list u) ≡ items = ap (λ (k : ℕ). length (joint items lo k list u)) e ∙ ap length (joint_none items lo list u F) ∙ front_length items list F.fits in
      omega (arith, z, C.count)

-- ---- laying

-- what was taken stands from place n on, the rest of the list is as it was, and so are the items that are left
pub record Laying (held lo hi : ℕ) (u list₀ : List ℕ) (items keys n : ℕ) (list : List ℕ) : Type 0 where
  pub long : length list ≡ length list₀
  pub few : items ≤ held
  pub low : lo ≤ keys
  pub high : keys ≤ hi
  pub count : n ≡ length (joint items lo keys list₀ u)
  pub same : front items list ≡ front items list₀
  pub rest : List Record
  pub whole : joint held lo hi list₀ u ≡ joint items lo keys list₀ u ++ rest
  pub back : drop (3 * n) list ≡ flat rest ++ drop (3 * length (joint held lo hi list₀ u)) list₀

pub laying_start : (held lo hi : ℕ) (u list : List ℕ) (total : ℕ) → lo ≤ hi → total ≡ length (joint held lo hi list u) → Laying held lo hi u list held hi total list
unfolding flat
laying_start held lo hi u list total h e = record {
  long = refl;
  few = omega arith;
  low = h;
  high = omega arith;
  count = e;
  same = refl;
  rest = [];
  whole = sym (append-nil (joint held lo hi list u));
  back = ap (λ (n : ℕ). drop (3 * n) list) e;
}

module _ {held lo hi : ℕ} {u list₀ : List ℕ} {items keys n : ℕ} {list : List ℕ} (L : Laying held lo hi u list₀ items keys n list) (H : Held held list₀) where
  -- the items that are left are still in order
  pub laying_held : Held items list
  laying_held = held_same items list₀ list (sym L.same) (sym L.long) (held_fewer items held list₀ L.few H)

  module _ {key items' keys' : ℕ} (T : Taking items lo keys list u key items' keys') where
    taken_is : joint items lo keys list₀ u ≡ joint items' lo keys' list₀ u ++ unkey key ∷ []
    taken_is =
        sym (joint_as items lo keys list list₀ u L.same)
        ∙ T.is
        ∙ ap (λ (l : List Record). l ++ unkey key ∷ []) (joint_as items' lo keys' list list₀ u (front_fewer items' items list list₀ T.fewer L.same))

    taken_count : n ≡ length (joint items' lo keys' list₀ u) + 1
    taken_count = L.count ∙ ap length taken_is ∙ length-append (joint items' lo keys' list₀ u) (unkey key ∷ [])

    pub laying_some : 0 < n
    laying_some = omega (arith, taken_count)

    module _ (room_for : length (joint held lo hi list₀ u) ≤ room list₀) where
      -- its place is in the list
      pub laying_place : 3 * (n - 1) + 2 < length list
      laying_place =
          let w : length (joint held lo hi list₀ u) ≡ n + length L.rest =
          ap length L.whole ∙ length-append (joint items lo keys list₀ u) L.rest ∙ ap (λ (t : ℕ). t + length L.rest) (sym L.count) in
          omega (arith, L.long, (has_room list₀ (n - 1)).0 (omega (arith, w, laying_some)))

      pub laying_turn : {list' : List ℕ} → list' ≡ stored list (n - 1) (unkey key) → Laying held lo hi u list₀ items' keys' (n - 1) list'
      unfolding flat
      laying_turn {list'} e =
          let x = unkey key in
          let m = taken_count in
          let q : n - 1 + 1 ≡ n = omega (arith, laying_some) in
          let long-enough = joint_long items' lo keys' list₀ u (held_fewer items' held list₀ (omega (arith, T.fewer, L.few)) H) in record {
            long = ap length e ∙ length_stored list (n - 1) x ∙ L.long;
            few = omega (arith, T.fewer, L.few);
            low = T.low;
            high = omega (arith, T.high, L.high);
            count = omega (arith, m);
            same = ap (front items') e ∙ front_stored items' (n - 1) list x (omega (arith, m, long-enough)) ∙ front_fewer items' items list list₀ T.fewer L.same;
            rest = x ∷ L.rest;
            whole = L.whole ∙ ap (λ (l : List Record). l ++ L.rest) taken_is ∙ append_snoc (joint items' lo keys' list₀ u) x L.rest;
            back = ap (drop (3 * (n - 1))) e
                ∙ drop_stored (n - 1) list x laying_place
                ∙ ap (λ (t : ℕ). x.lower ∷ x.higher ∷ x.set ∷ drop (3 * t) list) q
                ∙ ap (λ (l : List ℕ). x.lower ∷ x.higher ∷ x.set ∷ l) L.back;
          }

  -- with no words left the items that are left stand where they stood
  pub laying_done : keys ≤ lo → list ≡ filled (joint held lo hi list₀ u) list₀
  unfolding filled over
  laying_done h =
      let e : keys ≡ lo = omega (arith, L.low) in
      let F = held_fewer items held list₀ L.few H in
      let f = front items list₀ in
      let d = drop (3 * length (joint held lo hi list₀ u)) list₀ in
      let j : joint items lo keys list₀ u ≡ front items list₀ = ap (λ (k : ℕ). joint items lo k list₀ u) e ∙ joint_none items lo list₀ u F in
      let w : joint held lo hi list₀ u ≡ f ++ L.rest = L.whole ∙ ap (λ (l : List Record). l ++ L.rest) j in
      let c : n ≡ items = L.count ∙ ap length j ∙ front_length items list₀ F.fits in
      let front_is : take (3 * n) list ≡ flat f =
      ap (λ (m : ℕ). take (3 * m) list) c ∙ flat_front items list (omega (arith, L.long, F.fits, div-mul-le_self (length list₀) 3)) ∙ ap flat L.same in
      let all : take (3 * n) list ++ drop (3 * n) list ≡ flat f ++ (flat L.rest ++ d) = rw (front_is, L.back) in
      sym (take-append-drop (3 * n) list) ∙ all ∙ sym (append_assoc (flat f) (flat L.rest) d)
      ∙ ap (λ (l : List ℕ). l ++ d) (sym (flat_append f L.rest) ∙ ap flat (sym w))
      ∙ ap (λ (k : ℕ). flat (joint held lo hi list₀ u) ++ drop k list₀) (sym (length_flat (joint held lo hi list₀ u)))

-- ---- laying a block and a word

module _ {held lo hi : ℕ} {u list₀ : List ℕ} {items keys n : ℕ} {list : List ℕ} (L : Laying held lo hi u list₀ items keys n list) (H : Held held list₀) where
  module _ (W : Climbed lo hi u) {total : ℕ} (is : total ≡ length (joint held lo hi list₀ u)) (fits : total ≤ room list₀)
      (h : lo < keys) {p : ℕ} (B : Between p p items (get_or u (keys - 1) 0) list) where
    room_for : length (joint held lo hi list₀ u) ≤ room list₀
    room_for = omega (arith, is, fits)

    laying_up : items ≤ n
    laying_up = omega (arith, L.count, joint_long items lo keys list₀ u (held_fewer items held list₀ L.few H))

    laying_fits : 3 * n ≤ length list
    laying_fits =
        let w : length (joint held lo hi list₀ u) ≡ n + length L.rest =
        ap length L.whole ∙ length-append (joint items lo keys list₀ u) L.rest ∙ ap (λ (t : ℕ). t + length L.rest) (sym L.count) in
        omega (arith, L.long, w, room_for, div-mul-le_self (length list₀) 3)

    -- there is room to move the block up
    pub laying_moves : (3 * p ≤ 3 * items) × ((3 * items ≤ 3 * n) × (3 * n ≤ length list))
    laying_moves = (omega (arith, B.within), (omega (arith, laying_up), laying_fits))

    climbed : Climbed lo keys u
    climbed = climbed_fewer lo keys hi u L.low L.high W

    block_is : joint items lo keys list₀ u ≡ joint p lo keys list₀ u ++ drop p (front items list₀)
    block_is =
        sym (joint_as items lo keys list list₀ u L.same)
        ∙ block_taken list climbed h p items (laying_held L H) B.within B.above
        ∙ ap (λ (l : List Record). l ++ drop p (front items list)) (joint_as p lo keys list list₀ u (front_fewer p items list list₀ B.within L.same))
        ∙ ap (λ (l : List Record). joint p lo keys list₀ u ++ drop p l) L.same

    block_count : n ≡ length (joint p lo keys list₀ u) + (items - p)
    block_count =
        L.count
        ∙ ap (λ (l : List Record). length l) (sym (joint_as items lo keys list list₀ u L.same))
        ∙ block_length list climbed h p items (laying_held L H) B.within B.above
        ∙ ap (λ (l : List Record). length l + (items - p)) (joint_as p lo keys list list₀ u (front_fewer p items list list₀ B.within L.same))

    module _ {list' : List ℕ} (e : list' ≡ raised (3 * p) (3 * items) (3 * n) list) where
      up_long : length list' ≡ length list
      up_long = ap length e ∙ length_raised (3 * p) (3 * items) (3 * n) list laying_fits (omega (arith, B.within)) (omega (arith, laying_up))

      up_front : front p list' ≡ front p list
      up_front = ap (front p) e ∙ front_raised p items n list B.within laying_up laying_fits (sym (ap length e) ∙ up_long)

      -- the block above the last word is moved up
      pub laying_block : Laying held lo hi u list₀ p keys (n - (items - p)) list'
      laying_block =
          let d = drop (3 * length (joint held lo hi list₀ u)) list₀ in
          let block = drop p (front items list₀) in record {
            long = up_long ∙ L.long;
            few = omega (arith, B.within, L.few);
            low = L.low;
            high = L.high;
            count = omega (arith, block_count);
            same = up_front ∙ front_fewer p items list list₀ B.within L.same;
            rest = block ++ L.rest;
            whole = L.whole ∙ ap (λ (l : List Record). l ++ L.rest) block_is ∙ append_assoc (joint p lo keys list₀ u) block L.rest;
            back = ap (drop (3 * (n - (items - p)))) e
                ∙ drop_raised p items n list B.within laying_up laying_fits
                ∙ ap (λ (l : List Record). flat (drop p l) ++ drop (3 * n) list) L.same
                ∙ ap (λ (l : List ℕ). flat block ++ l) L.back
                ∙ sym (append_assoc (flat block) (flat L.rest) d)
                ∙ ap (λ (l : List ℕ). l ++ d) (sym (flat_append block L.rest));
          }

      -- and the word goes in front of it
      module _ {key items' keys' : ℕ} (T : Taking p lo keys list u key items' keys') where
        taken_up : Taking p lo keys list' u key items' keys'
        taken_up = taking_as (sym up_front) T

        spot : n - (items - p) - 1 ≡ n - (items - p + 1)
        spot = omega arith

        pub laying_less : items - p + 1 ≤ n
        laying_less = omega (arith, laying_some laying_block H taken_up)

        pub laying_step : {list'' : List ℕ} → list'' ≡ stored list' (n - (items - p + 1)) (unkey key) → Laying held lo hi u list₀ items' keys' (n - (items - p + 1)) list''
        laying_step {list''} q = rw spot at (laying_turn laying_block H taken_up room_for {list' = list''} (rw spot q))
