-- The number of bits of a row: word by word. Assumes nothing.
use mathlib.Core.Path.{◌≡◌, refl, sym, ap, ◌∙◌}
use mathlib.Core.List.{List}
use Prim.Native.Nat.{ℕ, zero, suc, ◌+◌, ◌-◌, ◌*◌, ◌/◌, ◌%◌, ◌^◌, ◌<◌, ◌≤◌}
use native.Mathlib.Omega.{arith}
use native.Mathlib.Nat.{mod-lt, mod-eq_of_lt, mod-one}
use lib.Count.{ones, ones_cat}
use lib.Pow.{mod-pow-add, pow_pos}
use lib.ListN.{get_or, take, drop}
use lib.Seq.{get_or-take, get_or-drop}
use lib.Dec.{eqb}
use Rattle.reaching.specs.Via.{bit, count_below}
use Rattle.reaching.proofs.Counts.{count_same, count_add, count_most}
use Rattle.bit_rows.specs.Rows.{digit, bit_in, Counting}

-- ---- a word

ones_bit : (x : ℕ) → x < 2 → ones x ≡ bit (eqb x 1)
unfolding ones
ones_bit zero h = refl
ones_bit (suc zero) h = refl
ones_bit (suc (suc x)) h = absurd (omega arith)

-- the lowest m digits
low_count : (x m : ℕ) → ones (x % 2 ^ m) ≡ count_below (digit x) m
unfolding count_below digit ones
low_count x zero = ap ones (mod-one x)
low_count x (suc m) =
    let e : x % 2 ^ suc m ≡ (x / 2 ^ m % 2) * 2 ^ m + x % 2 ^ m = ap (λ (j : ℕ). x % 2 ^ j) (omega arith) ∙ mod-pow-add x 1 m in
    omega (arith, ap ones e, ones_cat m (x / 2 ^ m % 2) (x % 2 ^ m) (mod-lt (x) (pow_pos m)), ones_bit (x / 2 ^ m % 2) (omega arith), low_count x m)

pub word_count : (x : ℕ) → x < 2 ^ 64 → ones x ≡ count_below (digit x) 64
word_count x h = ap ones (sym (mod-eq_of_lt h)) ∙ low_count x 64

-- ---- a row

-- word i of row a, read from the row alone
pub row_word : (w : List ℕ) (a i : ℕ) → i < 32 → get_or (take (a * 32 + 32 - a * 32) (drop (a * 32) w)) i 0 ≡ get_or w (a * 32 + i) 0
row_word w a i h = get_or-take (a * 32 + 32 - a * 32) (drop (a * 32) w) i 0 (omega arith) ∙ get_or-drop (a * 32) w i 0

pub count_start : (w : List ℕ) (a : ℕ) → Counting w a 0 0
unfolding count_below
count_start w a = record { within = omega arith; so_far = refl }

pub count_turn : {w : List ℕ} {a i sum : ℕ} → i < 32 → get_or w (a * 32 + i) 0 < 2 ^ 64 → Counting w a i sum → Counting w a (i + 1) (sum + ones (get_or w (a * 32 + i) 0))
unfolding bit_in
count_turn {w} {a} {i} {sum} h l c =
    record {
      within = omega arith;
      so_far =
          let x = get_or w (a * 32 + i) 0 in
          let e : (i + 1) * 64 ≡ i * 64 + 64 = omega arith in
          rw e
          (omega (arith, c.so_far, count_add (bit_in w a) (i * 64) 64, word_count (get_or w (a * 32 + i) 0) l, count_same (digit (get_or w (a * 32 + i) 0)) (λ t. bit_in w a (i * 64 + t)) 64 same));
    }
  where
    same : (t : ℕ) → t < 64 → digit (get_or w (a * 32 + i) 0) t ≡ bit_in w a (i * 64 + t)
    same t s =
        let p : (i * 64 + t) / 64 ≡ i = omega arith in
        let q : (i * 64 + t) % 64 ≡ t = omega arith in
        rw (p, q) refl

pub count_fits : {w : List ℕ} {a i sum : ℕ} → Counting w a i sum → sum ≤ i * 64
count_fits {w} {a} {i} c = omega (arith, c.so_far, count_most (bit_in w a) (i * 64))
