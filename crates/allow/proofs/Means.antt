-- What the tests of the call mean: all pass exactly if the number of variables, the list and both scratches are as the table asks. Assumes nothing.
use Prim.Native.Nat.{ℕ, ◌+◌, ◌*◌, ◌<◌, ◌≤◌}
use mathlib.Core.Path.{◌≡◌, refl, sym, ◌∙◌}
use mathlib.Core.Logic.{◌⊎◌, inl, inr, ⊎_elim, ◌↔◌}
use mathlib.Core.Bool.{Bool, true, false, false≢true}
use mathlib.Core.List.{List}
use native.Mathlib.Decide.{dec_lt}
use native.Mathlib.Omega.{arith}
use Rattle.scratch.proofs.Means.{le_is, both_is}
use Rattle.field.specs.declared.Refusal.TheVariants.{Variables, Argument, Scratch, Room}
use Rattle.field.specs.Table.{tested}
use Rattle.field.specs.Tests.{words_fit}
use Rattle.field.proofs.Table.{last_is, pass_is}
use Rattle.calls.specs.Call.{without}
use Rattle.constraints.specs.Record.{room}
use Rattle.propagation.proofs.Means.{listed_is}
use Rattle.allow.specs.Call.{allow_tests, Ready, fits}
use Rattle.field.specs.Answers.{Answer, passed}

-- Theorem. 1, 7 and 8 pass exactly if the variables are few, the records fit and both scratches are long enough.
pub ready_is : (n : ℕ) (list : List ℕ) (longs words : ℕ) → (tested (allow_tests n list longs words) ≡ passed) ↔ Ready n list longs words
unfolding allow_tests words_fit
ready_is n list longs words =
    let eight = pass_is Scratch _ _ (le_is (128 * n) longs) (last_is Scratch _ (le_is (16 * n + 8 * room list + 16) words)) in
    let t = pass_is Variables _ _ (le_is n 1024) (pass_is Argument _ _ (listed_is n list) eight) in (
      λ e. let p = t.0 e in record { few = p.0; listed = p.1.0; longs_room = p.1.1.0; words_room = p.1.1.1 },
      λ r. t.1 (r.few, (r.listed, (r.longs_room, r.words_room))),
    )

pub passed_ready : (n : ℕ) (list : List ℕ) (longs words : ℕ) {k : Answer Unit} → k ≡ tested (allow_tests n list longs words) → k ≡ passed → Ready n list longs words
passed_ready n list longs words tests e = (ready_is n list longs words).0 (sym tests ∙ e)

-- 9
pub fits_is : (n places numbers : ℕ) → (fits n places numbers ≡ true) ↔ ((n ≤ places) × (2 * n ≤ numbers))
unfolding fits
fits_is n places numbers = both_is _ _ (le_is n places) (le_is (2 * n) numbers)

pub short_is : (n places numbers : ℕ) → (fits n places numbers ≡ false) ↔ ((places < n) ⊎ (numbers < 2 * n))
short_is n places numbers = (λ e. short (dec_lt places n) (dec_lt numbers (2 * n)) e, λ h. fails (fits n places numbers) refl h)
  where
    short : Dec (places < n) → Dec (numbers < 2 * n) → fits n places numbers ≡ false → (places < n) ⊎ (numbers < 2 * n)
    short (yes l) d e = inl l
    short (no l) (yes m) e = inr m
    short (no l) (no m) e = absurd (false≢true (sym e ∙ (fits_is n places numbers).1 (omega arith, omega arith)))

    fails : (b : Bool) → fits n places numbers ≡ b → (places < n) ⊎ (numbers < 2 * n) → b ≡ false
    fails false e h = refl
    fails true e h = let f = (fits_is n places numbers).0 e in absurd (⊎_elim (λ l. omega (arith, f.0)) (λ l. omega (arith, f.1)) h)

-- none of the tests gives 9
pub never_room : (n : ℕ) (list : List ℕ) (longs words : ℕ) → without Room (allow_tests n list longs words) ≡ true
unfolding without allow_tests
never_room n list longs words = refl
