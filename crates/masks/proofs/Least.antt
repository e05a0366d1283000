-- The search for the lowest mask of least sum. Assumes nothing.
use Prim.Native.Nat.{ℕ, suc, ◌+◌, ◌*◌, ◌/◌, ◌≤◌, ◌<◌}
use mathlib.Core.Path.{◌≡◌, refl, ap}
use mathlib.Core.Bool.{Bool, true, false, cond}
use mathlib.Core.List.{List}
use native.Mathlib.Omega.{arith}
use lib.ListN.{get_or}
use lib.Ieee.{Float, nan, lt}
use Rattle.masks.specs.declared.Lead.{Lead}
use Rattle.masks.specs.Masks.{Best, top, best_of, lowest}
use Rattle.masks.specs.Block.{Block, Leads}

-- ---- within a block: best and mask are those after its first l masks

pub record Leading (g : ℕ → Float) (base count l : ℕ) (best : Float) (mask : ℕ) : Type 0 where
  pub within : l ≤ count
  pub so_far : record { sum = best; mask = mask } ≡ best_of g (base + l)

module _ {g : ℕ → Float} {base count : ℕ} where
  pub lead_start : {lead : Lead} → Leads g base lead → Leading g base count 0 lead.sum lead.mask
  lead_start L = record { within = omega arith; so_far = let e : base + 0 ≡ base = omega arith in rw e L.best }

  module _ {l : ℕ} {best : Float} {mask : ℕ} (L : Leading g base count l best mask) (h : l < count) (few : count ≤ 32)
      {sums : List Float} (B : Block (λ l. g (base + l)) sums) where
    lead_by : (b : Bool) → lt (get_or sums l nan) best ≡ b → cond b (record { sum = get_or sums l nan; mask = base + l }) (record { sum = best; mask = mask }) ≡ best_of g (suc (base + l))
    unfolding best_of
    lead_by b e = rw (← L.so_far, ← B.at l (omega arith), e)

    pub lead_taken : lt (get_or sums l nan) best ≡ true → Leading g base count (l + 1) (get_or sums l nan) (base + l)
    lead_taken e = record { within = omega arith; so_far = let k : base + (l + 1) ≡ suc (base + l) = omega arith in rw k (lead_by true e) }

    pub lead_kept : lt (get_or sums l nan) best ≡ false → Leading g base count (l + 1) best mask
    lead_kept e = record { within = omega arith; so_far = let k : base + (l + 1) ≡ suc (base + l) = omega arith in rw k (lead_by false e) }

  pub lead_done : {l : ℕ} {best : Float} {mask : ℕ} → Leading g base count l best mask → count ≤ l → Leads g (base + count) (record { sum = best; mask = mask })
  lead_done {l} L h = record { best = let e : l ≡ count = omega (arith, L.within) in rw e at L.so_far }

-- ---- block by block: the masks of the first b blocks are done

pub record Walking (g : ℕ → Float) (size b : ℕ) (lead : Lead) : Type 0 where
  pub within : b ≤ size / 32
  pub leads : Leads g (b * 32) lead

module _ {g : ℕ → Float} {size : ℕ} where
  pub walk_start : Walking g size 0 (record { sum = top; mask = 0 })
  unfolding best_of
  walk_start = record { within = omega arith; leads = record { best = refl } }

  module _ {b : ℕ} {lead : Lead} (W : Walking g size b lead) where
    pub walk_turn : {lead' : Lead} → b < size / 32 → Leads g (b * 32 + 32) lead' → Walking g size (b + 1) lead'
    walk_turn h L = record { within = omega arith; leads = let e : (b + 1) * 32 ≡ b * 32 + 32 = omega arith in rw e L }

    pub walk_whole : size / 32 ≤ b → Leads g (size / 32 * 32) lead
    walk_whole h = let e : b ≡ size / 32 = omega (arith, W.within) in rw e at W.leads

  pub leads_lowest : {n : ℕ} {lead : Lead} → Leads g n lead → n ≡ size → lead.mask ≡ lowest g size
  leads_lowest L e = rw e at (ap (λ (x : Best). x.mask) L.best)
