-- The row of an address, as it is found from a checkpoint on.
use Rattle.std.specs.Prelude.{ℕ, List, Option, option_map}
use Rattle.dw_model.specs.Matrix.{Row, row_of}
use Rattle.dw_line.specs.declared.rows.Row.{Row as RowTold}

-- a row, as a caller sees it
abbrev pub row_told : Row → RowTold
row_told row = record { file = row.file; line = row.line; column = row.column }

-- the row of an address, as a caller sees it, where it has one
abbrev pub told_at : List Row → ℕ → Option RowTold
told_at rows a = option_map row_told (row_of rows a)
