-- A float field read as a field of whole numbers, counted in the unit u. Assumes nothing.
use Rattle.std.specs.Prelude.{ℕ, suc}
use Rattle.meaning.specs.Field as meaning
use Rattle.weights.specs.Worth.{read}
use Rattle.field.specs.Field.{Field, variables, entries, linear_of, row_end, column_end, quad_of}

-- The field in whole numbers: 2c and q counted in the unit whose half is u.
abbrev pub whole_of : ℕ → Field → meaning.Field
whole_of u F = record {
  n = variables F;
  m = entries F;
  linear = λ i. read u (linear_of F i);
  row = row_end F;
  column = column_end F;
  weight = λ k. read (suc u) (quad_of F k);
}
