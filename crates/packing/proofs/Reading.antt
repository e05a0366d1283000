-- Refusal, position, grade and counts are read back from the number of an answer. Assumes nothing.
use Prim.Native.Nat.{ℕ, ◌/◌, ◌%◌, ◌≤◌, ◌<◌}
use mathlib.Core.Path.{◌≡◌, refl}
use native.Mathlib.Omega.{arith}
use Rattle.field.specs.declared.Grade.{Grade}
use Rattle.field.specs.declared.Grade.TheVariants.{Exact, Inexact}
use Rattle.field.specs.declared.Counted.{Counted}
use Rattle.pairs.specs.declared.Paired.{Paired}
use Rattle.reason.specs.declared.Ground.{Ground}
use Rattle.reason.specs.declared.Ground.TheVariants.{Given, Lower, Upper}
use Rattle.reason.specs.declared.Reasoned.{Reasoned}
use Rattle.reason.specs.Answers.{reasoned_answer}
use Rattle.sub_problem.specs.declared.Reduced.{Reduced}
use Rattle.mend.specs.declared.Mended.{Mended}
use Rattle.allow.specs.declared.Allowed.{Allowed}
use Rattle.allow.specs.declared.Allowed.TheVariants.{Yes, No}
use Rattle.field.specs.Answers.{number_of, position_of, answer_number, Answer}
use Rattle.field.proofs.Answers.{number_most}
use Rattle.packing.specs.declared.findings.Parts.{Parts}
use Rattle.packing.specs.Layout.{packed, Reads, grade_in, count_in, more_in, packed_by, Fits, grade_number, packed_checked, checked_count, packed_answer, packed_counted, answer_grade, answer_count, counted_grade, count_of, packed_paired, paired_grade, paired_count, pairs_examined, ground_number, reasoned_grade, reasoned_count, reasoned_unit, reasoned_parts, packed_reasoned, packed_reduced, reduced_grade, new_entries, new_variables, packed_mended, mended_grade, mended_entries, mended_changes, packed_allowed, allowed_grade, allowed_count, parts_of_nothing, parts_of_grade, parts_of_counted, parts_of_paired, parts_of_reasoned, parts_of_reduced, parts_of_mended, parts_of_allowed}
use Rattle.std.specs.Prelude.{Err, Ok}

-- Theorem. From a packed number each of its four parts is read back, where refusal, grade and count fit their bits.
pub layout_reads : (refusal grade count pairs : ℕ) → refusal < 0x100 → grade < 0x100 → count < 0x1000_0000
    → Reads (packed refusal grade count pairs) refusal grade count pairs
layout_reads refusal grade count pairs a b c = record {
  refusal_read = omega arith;
  grade_read = omega arith;
  count_read = omega arith;
  pairs_read = omega arith;
}

-- ---- any answer

module _ {A : Type 0} (parts : A → Parts) where
  -- Theorem. From the number of any answer its four parts are read back, where the grade of what is found is a byte and the count fits.
  pub found_reads : ((x : A) → (parts x).grade < 0x100) → (a : Answer A) → count_in parts a < 0x1000_0000
      → Reads (packed_by parts a) (answer_number a) (grade_in parts a) (count_in parts a) (more_in parts a)
  found_reads small (Ok x) few = layout_reads 0 (parts x).grade (parts x).count (parts x).more (omega arith) (small x) few
  found_reads small (Err r) few = layout_reads (number_of r) 0 (position_of r) 0 (omega (arith, number_most r)) (omega arith) few

  -- where only one count is found, an answer whose count fits has room for both
  pub one_fits : ((x : A) → (parts x).more ≡ 0) → (a : Answer A) → count_in parts a < 0x1000_0000 → Fits parts a
  one_fits none (Ok x) few = record { count = few; more = omega (arith, none x) }
  one_fits none (Err r) few = record { count = few; more = omega arith }

-- ---- each answer

pub grade_small : (g : Grade) → grade_number g < 0x100
grade_small Exact = omega arith
grade_small Inexact = omega arith

allowed_small : (x : Allowed) → (parts_of_allowed x).grade < 0x100
allowed_small Yes = omega arith
allowed_small (No i) = omega arith

-- `allow` finds one count alone
pub allowed_none : (x : Allowed) → (parts_of_allowed x).more ≡ 0
allowed_none Yes = refl
allowed_none (No i) = refl

-- Theorem. From the number of an answer without a grade its refusal and a position are read back.
pub checked_reads : (a : Answer Unit) → checked_count a < 0x1000_0000 → Reads (packed_checked a) (answer_number a) 0 (checked_count a) 0
checked_reads (Ok x) few = found_reads parts_of_nothing (λ y. omega arith) (Ok x) few
checked_reads (Err r) few = found_reads parts_of_nothing (λ y. omega arith) (Err r) few

-- Theorem. From the number of an answer with a grade alone its refusal, its grade and a position are read back.
pub answer_reads : (a : Answer Grade) → answer_count a < 0x1000_0000 → Reads (packed_answer a) (answer_number a) (answer_grade a) (answer_count a) 0
answer_reads (Ok g) few = found_reads parts_of_grade grade_small (Ok g) few
answer_reads (Err r) few = found_reads parts_of_grade grade_small (Err r) few

-- Theorem. From the number of an answer that counts its refusal, its grade and its count are read back.
pub counted_reads : (a : Answer Counted) → count_of a < 0x1000_0000 → Reads (packed_counted a) (answer_number a) (counted_grade a) (count_of a) 0
counted_reads (Ok x) few = found_reads parts_of_counted (λ y. grade_small y.grade) (Ok x) few
counted_reads (Err r) few = found_reads parts_of_counted (λ y. grade_small y.grade) (Err r) few

-- Theorem. From the number of an answer of `pairs` its refusal, its grade, the records and the pairs are read back.
pub paired_reads : (a : Answer Paired) → paired_count a < 0x1000_0000 → Reads (packed_paired a) (answer_number a) (paired_grade a) (paired_count a) (pairs_examined a)
paired_reads a few = found_reads parts_of_paired (λ y. grade_small y.grade) a few

-- Theorem. From the number of an answer of `reason` its refusal, its grade, its count, and unit with ground are read back.
pub reasoned_reads : (a : Answer Reasoned) → reasoned_count a < 0x1000_0000 → Reads (packed_reasoned a) (answer_number a) (reasoned_grade a) (reasoned_count a) (reasoned_parts a)
reasoned_reads a few = found_reads parts_of_reasoned (λ y. omega arith) a few

pub ground_small : (g : Ground) → ground_number g ≤ 2
ground_small Given = omega arith
ground_small (Lower b) = omega arith
ground_small (Upper b) = omega arith

-- Theorem. The unit and the ground are read from what they stand in.
pub parts_read : (g : Ground) (k m : ℕ) → (reasoned_parts (reasoned_answer g k m) / 4 ≡ k) × (reasoned_parts (reasoned_answer g k m) % 4 ≡ ground_number g)
parts_read g k m = (omega (arith, ground_small g), omega (arith, ground_small g))

-- a reason whose count fits and whose unit is a byte has room for both counts
pub reasoned_fit : (a : Answer Reasoned) → reasoned_count a < 0x1000_0000 → reasoned_unit a < 256 → Fits parts_of_reasoned a
reasoned_fit (Ok x) few byte = record { count = few; more = omega (arith, ground_small x.because) }
reasoned_fit (Err r) few byte = record { count = few; more = omega arith }

-- Theorem. From the number of an answer of `sub_problem` its refusal, its grade, the new m and the new n are read back.
pub reduced_reads : (a : Answer Reduced) → new_entries a < 0x1000_0000 → Reads (packed_reduced a) (answer_number a) (reduced_grade a) (new_entries a) (new_variables a)
reduced_reads a few = found_reads parts_of_reduced (λ y. grade_small y.grade) a few

-- Theorem. From the number of an answer of `mend` its refusal, its grade, the new m and the changes are read back.
pub mended_reads : (a : Answer Mended) → mended_entries a < 0x1000_0000 → Reads (packed_mended a) (answer_number a) (mended_grade a) (mended_entries a) (mended_changes a)
mended_reads a few = found_reads parts_of_mended (λ y. grade_small y.grade) a few

-- Theorem. From the number of an answer of `allow` its refusal, yes or no, and the variable named are read back.
pub allowed_reads : (a : Answer Allowed) → allowed_count a < 0x1000_0000 → Reads (packed_allowed a) (answer_number a) (allowed_grade a) (allowed_count a) 0
allowed_reads (Ok Yes) few = found_reads parts_of_allowed allowed_small (Ok Yes) few
allowed_reads (Ok (No i)) few = found_reads parts_of_allowed allowed_small (Ok (No i)) few
allowed_reads (Err r) few = found_reads parts_of_allowed allowed_small (Err r) few
