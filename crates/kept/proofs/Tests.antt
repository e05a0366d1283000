-- What the tests of the four calls mean, and which refusals they never give. Assumes nothing.
use Prim.Native.Nat.{ℕ, ◌+◌, ◌<◌, ◌≤◌}
use mathlib.Core.Path.{◌≡◌, refl}
use mathlib.Core.Logic.{◌≢◌, ◌↔◌}
use mathlib.Core.Bool.{true}
use mathlib.Core.List.{List}
use native.Mathlib.Omega.{arith}
use lib.ListN.{get_or}
use Rattle.scratch.proofs.Means.{lt_is, le_is, eq_is, ne_is, both_is}
use Rattle.field.specs.declared.Refusal.TheVariants.{Start, Argument, Scratch, Inexact, Room}
use Rattle.field.specs.Field.{Field, variables, entries}
use Rattle.field.specs.Table.{tested}
use Rattle.field.specs.Tests.{shape_tests, standard_tests}
use Rattle.field.proofs.Table.{pass_is, last_is, group_is}
use Rattle.field.proofs.Means.{standard_passes, floats_mean, words_mean}
use Rattle.field.proofs.Faults.{fault_other}
use Rattle.calls.specs.Call.{without}
use Rattle.probe.specs.Call.{may_probe}
use Rattle.kept.specs.Calls.{bounds_fit, record_tests, lent_tests, may_pin, pin_tests, may_release, release_tests, Recorded, Lendable, Pinnable, Releasable}
use Rattle.field.specs.Answers.{passed}

pub bounds_mean : (n bounds : ℕ) → (bounds_fit n bounds ≡ true) ↔ (bounds ≡ n + n)
unfolding bounds_fit
bounds_mean n bounds = eq_is bounds (n + n)

pub record_passes : (F : Field) (s : List ℕ) (bounds : ℕ) → (tested (record_tests F s bounds) ≡ passed) ↔ Recorded F s bounds
unfolding record_tests
record_passes F s bounds =
    let t = group_is (standard_tests F s) _ (standard_passes F s) (last_is Start _ (bounds_mean (variables F) bounds)) in
    ((λ e. let p = t.0 e in record { sound = p.0; long = p.1 }), λ h. t.1 (h.sound, h.long))

pub lent_passes : (F : Field) (s : List ℕ) (bounds floats words : ℕ) → (tested (lent_tests F s bounds floats words) ≡ passed) ↔ Lendable F s bounds floats words
unfolding lent_tests
lent_passes F s bounds floats words =
    let t = group_is (record_tests F s bounds) _ (record_passes F s bounds)
    (pass_is Scratch _ _ (floats_mean (variables F) (entries F) floats) (last_is Scratch _ (words_mean (variables F) (entries F) words))) in (
      (λ e. let p = t.0 e in record { ready = record { sound = p.0.sound; floats_room = p.1.0; words_room = p.1.1 }; long = p.0.long }),
      λ h. t.1 (record { sound = h.ready.sound; long = h.long }, (h.ready.floats_room, h.ready.words_room)),
    )

-- 7 is not given exactly if the variable is below n and free, and the value is 0 or 1
pub pin_means : (n : ℕ) (s : List ℕ) (i v : ℕ) → (may_pin n s i v ≡ true) ↔ ((i < n) × ((get_or s i 0 ≡ 2) × (v ≤ 1)))
unfolding may_pin
pin_means n s i v = both_is _ _ (lt_is i n) (both_is _ _ (eq_is _ 2) (le_is v 1))

pub pin_passes : (F : Field) (s : List ℕ) (bounds i v : ℕ) → (tested (pin_tests F s bounds i v) ≡ passed) ↔ Pinnable F s bounds i v
unfolding pin_tests
pin_passes F s bounds i v =
    let t = group_is (record_tests F s bounds) _ (record_passes F s bounds) (last_is Argument _ (pin_means (variables F) s i v)) in
    ((λ e. let p = t.0 e in record { recorded = p.0; below = p.1.0; free = p.1.1.0; small = p.1.1.1 }), λ h. t.1 (h.recorded, (h.below, (h.free, h.small))))

-- and for a release exactly if the variable is below n and not free
pub release_means : (n : ℕ) (s : List ℕ) (i : ℕ) → (may_release n s i ≡ true) ↔ ((i < n) × (get_or s i 0 ≢ 2))
unfolding may_release
release_means n s i = both_is _ _ (lt_is i n) (ne_is _ 2)

pub release_passes : (F : Field) (s : List ℕ) (bounds i : ℕ) → (tested (release_tests F s bounds i) ≡ passed) ↔ Releasable F s bounds i
unfolding release_tests
release_passes F s bounds i =
    let t = group_is (record_tests F s bounds) _ (record_passes F s bounds) (last_is Argument _ (release_means (variables F) s i)) in
    ((λ e. let p = t.0 e in record { recorded = p.0; below = p.1.0; fixed = p.1.1 }), λ h. t.1 (h.recorded, (h.below, h.fixed)))

-- none of 1 to 8 gives 9 or 12
module _ (F : Field) (s : List ℕ) (bounds floats words : ℕ) where
  pub never_room : without Room (lent_tests F s bounds floats words) ≡ true
  unfolding without lent_tests record_tests standard_tests shape_tests
  never_room = rw (fault_other (variables F) F.rows F.cols 9 (omega arith)) refl

  pub never_inexact : without Inexact (lent_tests F s bounds floats words) ≡ true
  unfolding without lent_tests record_tests standard_tests shape_tests
  never_inexact = rw (fault_other (variables F) F.rows F.cols 12 (omega arith)) refl

-- a variable may be pinned where it may be probed
pub probed_pinned : (n : ℕ) (s : List ℕ) (i v : ℕ) → may_probe n s i v ≡ may_pin n s i v
unfolding may_probe may_pin
probed_pinned n s i v = refl
