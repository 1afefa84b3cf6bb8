-- What is read of a unit.
use Rattle.std.specs.Prelude.{◌≡◌, ℕ, List, map, Option, Some, None, option_map, option_and_then, Result, Ok, Err}
use Rattle.dw_model.specs.declared.dwarf.TheConstants.{DW_AT_stmt_list, DW_AT_comp_dir}
use Rattle.dw_model.specs.Results.{with_code}
use Rattle.dw_model.specs.Faults.{Bad, bad}
use Rattle.dw_model.specs.Text.{Tables, Bases, text}
use Rattle.dw_model.specs.Section.{Sections}
use Rattle.dw_model.specs.Unit.{DwarfUnit}
use Rattle.dw_model.specs.Entry.{attribute, as_section_offset}
use Rattle.dw_model.specs.Root.{root, bases}
use Rattle.dw_model.specs.Answer.{Lines, Code, tree_fault, line_fault, lines}
use Rattle.dw_model.specs.Tree.{tree as model_tree, chain}
use Rattle.dw_line.specs.Lines.{Table, lines_shown, lines_of}
use Rattle.dw_frames.specs.declared.function.Described.{Described}
use Rattle.dw_frames.specs.Told.{described_shown, told_of}
use Rattle.dw_frames.specs.Tree.{nodes_of}
use Rattle.dw_frames.specs.UnitIn.{UnitIn}
use Rattle.dw_symbols.specs.declared.answer.UnitFault.{UnitFault}
use Rattle.dw_symbols.specs.declared.answer.UnitFault.TheVariants.{Line}
use Rattle.dw_symbols.specs.Answer.{code_shown}

-- ---- functions

-- the unit has no functions, for this fault
abbrev pub HasTreeFault : Sections → DwarfUnit → UnitFault → Type 0
HasTreeFault sections unit fault = with_code tree_fault (model_tree sections unit) ≡ Err (code_shown fault)

-- the tree is that of a unit, whose entries can be read
pub record IsTreeOf (sections : Sections) (unit : DwarfUnit) (tree : UnitIn) : Type 0 where
  pub file : tree.sections ≡ sections
  pub of : tree.unit ≡ unit
  pub read : model_tree sections unit ≡ Ok (nodes_of sections unit)

-- the tree is the unit's, or the fault tells why it has none
abbrev pub HasTree : Sections → DwarfUnit → Result UnitIn UnitFault → Type 0
HasTree sections unit (Ok tree) = IsTreeOf sections unit tree
HasTree sections unit (Err fault) = HasTreeFault sections unit fault

-- the functions are those of the unit that hold an address
pub record AreFunctionsAt (sections : Sections) (unit : DwarfUnit) (a : ℕ) (functions : List Described) : Type 0 where
  pub read : model_tree sections unit ≡ Ok (nodes_of sections unit)
  pub told : map described_shown functions
      ≡ map (λ node. told_of sections unit node.entry) (chain sections unit (nodes_of sections unit) a)

-- ---- lines

-- where the line table begins that a unit names
abbrev pub named_table : Sections → DwarfUnit → Option ℕ
named_table sections unit =
    option_and_then (λ first. option_and_then as_section_offset (attribute DW_AT_stmt_list first)) (root sections unit)

-- the directory in which a unit was compiled
abbrev pub directory_of : Sections → DwarfUnit → Option (List ℕ)
directory_of sections unit =
    option_and_then (λ first. option_and_then (text sections.tables (bases sections unit))
    (attribute DW_AT_comp_dir first)) (root sections unit)

-- whichever unit names a table at an offset, it can't be read
abbrev pub IsBadTable : List ℕ → ℕ → Type 0
IsBadTable line offset =
    (tables : Tables) (bases : Bases) (top : Option (List ℕ)) → lines_of tables bases line top offset ≡ Err bad

-- It is the line table at an offset, as any unit sees it; or no unit can read the table there.
abbrev pub IsTableAt : List ℕ → ℕ → Result (Option Table) UnitFault → Type 0
IsTableAt line offset (Ok (Some table)) = (table.section ≡ line) × (table.offset ≡ offset)
IsTableAt line offset (Ok None) = ⊥
IsTableAt line offset (Err fault) = (fault ≡ Line) × IsBadTable line offset

-- it is the line table at some offset of a section, or no unit can read the one there
abbrev pub IsTable : List ℕ → Result (Option Table) UnitFault → Type 0
IsTable line read = (offset : ℕ) × IsTableAt line offset read

-- the same where there is an offset, and no table where there is none
abbrev pub IsTableOf : List ℕ → Option ℕ → Result (Option Table) UnitFault → Type 0
IsTableOf line None read = read ≡ Ok None
IsTableOf line (Some offset) read = IsTableAt line offset read

-- it is the table that a unit names, as any unit sees it
abbrev pub IsNamed : Sections → DwarfUnit → Result (Option Table) UnitFault → Type 0
IsNamed sections unit read = IsTableOf sections.line (named_table sections unit) read

-- the line table at an offset of a section, as a unit sees it
abbrev pub lines_seen : Sections → DwarfUnit → (section : List ℕ) → (offset : ℕ) → Result Table Bad
lines_seen sections unit section offset =
    lines_of sections.tables (bases sections unit) section (directory_of sections unit) offset

-- a line table that was turned to a unit
pub record IsTurned (sections : Sections) (unit : DwarfUnit) (old new : Table) : Type 0 where
  pub lines : lines_seen sections unit old.section old.offset ≡ Ok new
  pub section : new.section ≡ old.section
  pub offset : new.offset ≡ old.offset

-- the same where there is one
abbrev pub AreTurned : Sections → DwarfUnit → (old new : Option Table) → Type 0
AreTurned sections unit None None = Unit {0}
AreTurned sections unit (Some old) (Some new) = IsTurned sections unit old new
AreTurned sections unit _ _ = ⊥

-- a line table without its place, or why there is none
abbrev pub read_shown : Result (Option Table) UnitFault → Result (Option Lines) Code
read_shown (Ok table) = Ok (option_map lines_shown table)
read_shown (Err fault) = Err (code_shown fault)

-- it is the line table that a unit names, as the unit sees it
abbrev pub HasLines : Sections → DwarfUnit → Result (Option Table) UnitFault → Type 0
HasLines sections unit read = read_shown read ≡ with_code (λ _. line_fault) (lines sections unit)
