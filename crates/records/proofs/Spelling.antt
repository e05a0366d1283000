-- Numbers and their bytes: reading what was spelled, and spelling what was read. Assumes nothing.
use Prim.Native.Nat.{ℕ, zero, suc, ◌+◌, ◌/◌, ◌%◌, ◌^◌, ◌<◌, ◌≤◌}
use mathlib.Core.Path.{◌≡◌, refl, sym, ap, ◌∙◌}
use mathlib.Core.List.{List, ◌∷◌, ◌++◌}
use native.Mathlib.Nat.{pow-succ', add-zero}
use native.Mathlib.Omega.{arith}
use lib.ListN.{length, get_or, take, drop}
use lib.Seq.{drop-cons, drop-drop, drop_at, take_at}
use Rattle.endian.specs.Bytes.{value_of, number_at, bytes_of}
use Rattle.endian.proofs.Numbers.{number_cons}

length_bytes : (k n : ℕ) → length (bytes_of k n) ≡ k
unfolding bytes_of
length_bytes zero n = refl
length_bytes (suc k) n = ap suc (length_bytes k (n / 256))

value_bytes : (k n : ℕ) → n < 256 ^ k → value_of (bytes_of k n) ≡ n
unfolding bytes_of value_of
value_bytes zero n h = omega arith
value_bytes (suc k) n h =
    let smaller : n / 256 < 256 ^ k = omega (arith, pow-succ' 256 k) in
    omega (arith, value_bytes k (n / 256) smaller)

-- a number that stands j bytes from `at` is read there
pub number_spelled : (s : List ℕ) (at j k n : ℕ) (front rest : List ℕ) → drop at s ≡ front ++ (bytes_of k n ++ rest) → length front ≡ j → n < 256 ^ k
    → number_at k s (at + j) ≡ n
unfolding number_at
number_spelled s at j k n front rest e f h =
    let here : drop (at + j) s ≡ bytes_of k n ++ rest = sym (drop-drop j at s) ∙ ap (drop j) e ∙ drop_at front (bytes_of k n ++ rest) j f in
    ap (λ (l : List ℕ). value_of (take k l)) here ∙ ap value_of (take_at (bytes_of k n) rest k (length_bytes k n)) ∙ value_bytes k n h

-- the k bytes from `at` spell the number that is read there
pub spelled_number : (k : ℕ) (s : List ℕ) (at : ℕ) → ((i : ℕ) → get_or s i 0 < 256) → at + k ≤ length s → drop at s ≡ bytes_of k (number_at k s at) ++ drop (at + k) s
unfolding bytes_of
spelled_number zero s at h room = ap (λ (i : ℕ). drop i s) (sym (add-zero at))
spelled_number (suc k) s at h room =
    let b = get_or s at 0 in
    let rest = number_at k s (suc at) in
    let inside : at < length s = omega arith in
    let number = number_cons k s at inside in
    let low : b ≡ number_at (suc k) s at % 256 = omega (arith, number, h at) in
    let high : rest ≡ number_at (suc k) s at / 256 = omega (arith, number, h at) in
    let past : suc at + k ≡ at + suc k = omega arith in
    drop-cons s at 0 inside
    ∙ ap (λ (l : List ℕ). b ∷ l) (spelled_number k s (suc at) h (omega arith))
    ∙ ap (λ (i : ℕ). b ∷ (bytes_of k rest ++ drop i s)) past
    ∙ ap (λ (x : ℕ). x ∷ (bytes_of k rest ++ drop (at + suc k) s)) low
    ∙ ap (λ (x : ℕ). (number_at (suc k) s at % 256) ∷ (bytes_of k x ++ drop (at + suc k) s)) high
