-- The line table that a unit names, as the unit sees it.
use Rattle.std.proofs.Common.{◌≡◌, ℕ, List, Option, Some, None, Result, Ok, Err, refl, subst, arith}
use Rattle.std.specs.Prelude.{option_and_then}
use Rattle.dw_model.specs.declared.dwarf.TheConstants.{DW_AT_comp_dir}
use Rattle.dw_model.specs.Results.{◌>>=◌}
use Rattle.dw_model.specs.Faults.{Bad as ModelBad}
use Rattle.dw_model.specs.Text.{text}
use Rattle.dw_model.specs.Section.{Sections}
use Rattle.dw_model.specs.Unit.{DwarfUnit}
use Rattle.dw_model.specs.Entry.{Entry, attribute}
use Rattle.dw_model.specs.Root.{bases}
use Rattle.dw_model.specs.Answer.{Lines, lines, lines_at}
use Rattle.dw_line.specs.declared.fault.LineFault.{LineFault}
use Rattle.dw_line.specs.declared.fault.LineFault.TheVariants.{Bad}
use Rattle.dw_line.specs.Lines.{Table, lines_shown, lines_of, TellsEach}
use Rattle.dw_symbols.specs.declared.answer.UnitFault.{UnitFault}
use Rattle.dw_symbols.specs.declared.answer.UnitFault.TheVariants.{Line}
use Rattle.dw_symbols.specs.UnitParts.{named_table, directory_of, IsTableAt, IsNamed, AreTurned, HasLines}

-- ---- the table at an offset

-- a table that a unit names
abbrev seen : Result Lines ModelBad → Result (Option Lines) ModelBad
seen table = table >>= λ table. Ok (Some table)

abbrev seen_of : Result Table ModelBad → Result (Option Lines) ModelBad
seen_of table = table >>= λ table. Ok (Some (lines_shown table))

abbrev directory_by : Sections → DwarfUnit → Entry → Option (List ℕ)
directory_by s unit first = option_and_then (text s.tables (bases s unit)) (attribute DW_AT_comp_dir first)

table-at : (s : Sections) (unit : DwarfUnit) (first : Entry) (offset : ℕ)
    → seen (lines_at s unit first offset) ≡ seen_of (lines_of s.tables (bases s unit) s.line (directory_by s unit first) offset)
unfolding lines_at lines_of
table-at s unit first offset = grind arith

lines-named : (s : Sections) (unit : DwarfUnit) (offset : ℕ) → named_table s unit ≡ Some offset → lines s unit ≡ seen_of (lines_of s.tables (bases s unit) s.line (directory_of s unit) offset)
unfolding lines
lines-named s unit offset e = grind (arith, table-at s unit)

lines-unnamed : (s : Sections) (unit : DwarfUnit) → named_table s unit ≡ None → lines s unit ≡ Ok None
unfolding lines
lines-unnamed s unit e = grind arith

-- a table that can't be read
pub bad-table : (line : List ℕ) (offset : ℕ) (e : LineFault) → e ≡ Bad → TellsEach line offset e → IsTableAt line offset (Err Line)
bad-table line offset e is each = (refl, subst (λ (e : LineFault). TellsEach line offset e) is each)

-- ---- turned to a unit

module _ (s : Sections) (unit : DwarfUnit) where
  pub fault-turned : (code : UnitFault) → IsNamed s unit (Err code) → HasLines s unit (Err code)
  fault-turned code is = grind (arith, lines-named)

  pub table-turned : (old new : Option Table) → IsNamed s unit (Ok old) → AreTurned s unit old new → HasLines s unit (Ok new)
  table-turned old new is turned = grind (arith, lines-unnamed, lines-named)

  pub named-turned : (old new : Option Table) → IsNamed s unit (Ok old) → AreTurned s unit old new → IsNamed s unit (Ok new)
  named-turned old new is turned = grind arith
