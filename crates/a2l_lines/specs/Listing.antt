-- The lines of `--units`.
use Rattle.std.specs.Prelude.{ℕ, List, Option}
use Rattle.dw_model.specs.Output.{unit_lines}
use Rattle.dw_model.specs.Section.{Sections}
use Rattle.dw_model.specs.Unit.{units}
use Rattle.a2l_lines.specs.Ends.{WritesAll, WritesBeginning}

-- a line for each unit
abbrev pub lines_in : Sections → List ℕ
lines_in sections = unit_lines (units sections.info)

-- they were written
abbrev pub Lists : Sections → (old new : Option (List ℕ)) → Type 0
Lists sections old new = WritesAll old new (lines_in sections)

-- a beginning of them was
abbrev pub ListsBeginning : Sections → (old new : Option (List ℕ)) → Type 0
ListsBeginning sections old new = WritesBeginning old new (lines_in sections)
