-- Of the tests of the calls that allow a diagonal and work from start values, none gives 9. Assumes nothing.
use Prim.Native.Nat.{ℕ}
use mathlib.Core.Path.{◌≡◌, refl}
use mathlib.Core.Bool.{true}
use mathlib.Core.List.{List}
use native.Mathlib.Omega.{arith}
use Rattle.field.specs.declared.Refusal.TheVariants.{Room}
use Rattle.field.specs.Field.{Field, variables}
use Rattle.field.specs.Tests.{shape_tests, loose_tests, open_tests}
use Rattle.field.proofs.Faults.{fault_other}
use Rattle.calls.specs.Call.{without}

pub never_room : (F : Field) (s : List ℕ) (floats words : ℕ) → without Room (open_tests F s floats words) ≡ true
unfolding without open_tests loose_tests shape_tests
never_room F s floats words = rw (fault_other (variables F) F.rows F.cols 9 (omega arith)) refl
