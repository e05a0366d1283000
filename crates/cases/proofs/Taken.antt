-- A list taken from the contents lies over the front of the list that it is taken to. Assumes nothing.
use Prim.Native.Nat.{ℕ, ◌+◌, ◌*◌, ◌≤◌}
use mathlib.Core.Path.{◌≡◌, sym, ap, ◌∙◌}
use mathlib.Core.Logic.{◌≢◌}
use mathlib.Core.List.{List, ◌++◌}
use native.Mathlib.Nat.{zero-add}
use native.Mathlib.Omega.{arith}
use borrow.Author.Tests.{eq-eqb, ne_eqb}
use lib.Ieee.{Float}
use lib.ListN.{length, get_or, take, drop}
use lib.Seq.{length-take-le}
use Rattle.endian.specs.Bytes.{number_at, float_at}
use Rattle.rows.specs.Stored.{up_to}
use Rattle.rows.proofs.Upto.{length_up_to, up_to_same}
use Rattle.scratch.specs.Cleared.{cleared}
use Rattle.scratch.specs.Over.{over}
use Rattle.stream.specs.declared.head.Head.{Head}
use Rattle.stream.specs.Heads.{contents_of}
use Rattle.cases.specs.Contents.{linear_in, start_at, start_in, list_before}

-- w is stored in the first n elements of t
pub taken : {A : Type 0} (g : ℕ → A) (n : ℕ) (t w : List A) → n ≤ length t → w ≡ up_to g (length (take n t)) → w ++ drop n t ≡ over (up_to g n) t
unfolding over
taken g n t w room e =
    ap (λ v. v ++ drop n t) (e ∙ ap (up_to g) (length-take-le n t room))
    ∙ ap (λ (k : ℕ). up_to g n ++ drop k t) (sym (length_up_to g n))

module _ (h : Head) (s : List ℕ) where
  pub linear_taken : (t w : List Float) → h.linear ≤ length t → w ≡ up_to (λ i. float_at s (0 + 8 * i)) (length (take h.linear t))
      → w ++ drop h.linear t ≡ over (linear_in h s) t
  linear_taken t w room e =
      taken (λ i. float_at s (0 + 8 * i)) h.linear t w room e
      ∙ ap (λ l. over l t) (up_to_same (λ i. float_at s (0 + 8 * i)) (λ i. float_at s (8 * i)) h.linear (λ i l. ap (float_at s) (zero-add (8 * i))))

  pub start_taken : (at : ℕ) (t w : List ℕ) → at + h.start + 2 * h.constraints ≡ contents_of h → h.start ≤ length t
      → w ≡ up_to (λ i. get_or s (at + i) 0) (length (take h.start t)) → w ++ drop h.start t ≡ over (start_in h s) t
  start_taken at t w stands room e =
      let a : at ≡ start_at h = omega arith in
      taken (λ i. get_or s (at + i) 0) h.start t w room e ∙ ap (λ (k : ℕ). over (up_to (λ i. get_or s (k + i) 0) h.start) t) a

  pub constraints_taken : (at : ℕ) (list w : List ℕ) → length list ≡ h.constraints → at + 2 * h.constraints ≡ contents_of h
      → w ≡ up_to (λ i. number_at 2 s (at + 2 * i)) (length list) → w ≡ list_before h s list
  unfolding list_before
  constraints_taken at list w long stands e =
      let a : at ≡ start_at h + h.start = omega arith in
      rw (eq-eqb _ _ long) (e
      ∙ ap (λ (n : ℕ). up_to (λ i. number_at 2 s (at + 2 * i)) n) long
      ∙ ap (λ (k : ℕ). up_to (λ i. number_at 2 s (k + 2 * i)) h.constraints) a)

  pub none_taken : (list w : List ℕ) → length list ≢ h.constraints → w ≡ cleared 42405 list → w ≡ list_before h s list
  unfolding list_before
  none_taken list w other e = rw (ne_eqb _ _ other) e
