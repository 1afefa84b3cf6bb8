-- What is wrong with a file.
use Rattle.std.specs.Prelude.{ℕ, List}

-- Why a file is refused: the condition that fails, with the name of the section that it speaks of,
-- or the offset of the unit in .debug_info. Out of memory is none of them: it says nothing of the
-- file.
pub data Refusal : Type 0 where
  not_elf : Refusal
  not_elf64_little : Refusal
  relocatable : Refusal
  section_table : Refusal
  section_range : (name : List ℕ) → Refusal
  compressed : (name : List ℕ) → Refusal
  unit_header : (offset : ℕ) → Refusal
  address_size : (offset : ℕ) → Refusal
  root : (offset : ℕ) → Refusal
  root_ranges : (offset : ℕ) → Refusal

-- Why bytes can't be read as a number, a value or an entry: they end too early, the form is
-- unknown, a number is too wide, or an abbreviation has no declaration.
pub data Fault : Type 0 where
  ends_early : Fault
  unknown_form : Fault
  too_wide : Fault
  undeclared : Fault

-- the one fault of range lists and of line tables
pub data Bad : Type 0 where
  bad : Bad

-- Why the entries of a unit can't be used: one can't be read, one is too deep, or the ranges of a
-- function are bad.
pub data TreeFault : Type 0 where
  entry_fault : TreeFault
  depth_fault : TreeFault
  ranges_fault : TreeFault
