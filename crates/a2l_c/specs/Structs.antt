-- What the structs of the header report.
use Rattle.std.specs.Prelude.{◌≡◌, ℕ, List, [], ◌++◌, length, drop, ◌≤◌, ◌<◌, is_some}
use Rattle.std.specs.Option.{unwrap_or}
use Rattle.dw_model.specs.Answer.{Answer, Location, Frame, Piece, Code, tree_fault, line_fault, not_covered, fault}
use Rattle.dw_model.specs.Answer.{found, located}
use Rattle.dw_model.specs.Faults.{entry_fault, depth_fault, ranges_fault}
use Rattle.dw_elf.specs.declared.fault.OpenFault.{OpenFault}
use Rattle.dw_elf.specs.declared.fault.OpenFault.TheVariants.{NotElf, NotElf64Little, Relocatable, SectionTable}
use Rattle.dw_elf.specs.declared.fault.OpenFault.TheVariants.{SectionRange, Compressed, UnitHeader, AddressSize, Root}
use Rattle.dw_elf.specs.declared.fault.OpenFault.TheVariants.{RootRanges, Memory}
use Rattle.dw_elf.specs.OpenFault.{number_of, name_of}
use Rattle.dw_elf.specs.Name.{text_of}
use Rattle.a2l_c.specs.declared.structs.CRefusal.{CRefusal}
use Rattle.a2l_c.specs.declared.structs.CAnswer.{CAnswer}
use Rattle.a2l_c.specs.declared.structs.CLocation.{CLocation}
use Rattle.a2l_c.specs.declared.structs.CFrame.{CFrame}
use Rattle.a2l_c.specs.declared.structs.CPiece.{CPiece}

-- the section of which a reason speaks, or nothing
abbrev pub section_in : OpenFault → List ℕ
section_in NotElf = []
section_in NotElf64Little = []
section_in Relocatable = []
section_in SectionTable = []
section_in (SectionRange name) = text_of name
section_in (Compressed name) = text_of name
section_in (UnitHeader offset) = []
section_in (AddressSize offset) = []
section_in (Root offset) = []
section_in (RootRanges offset) = []
section_in Memory = []

-- the offset of the unit of which a reason speaks, or 0
abbrev pub offset_in : OpenFault → ℕ
offset_in NotElf = 0
offset_in NotElf64Little = 0
offset_in Relocatable = 0
offset_in SectionTable = 0
offset_in (SectionRange name) = 0
offset_in (Compressed name) = 0
offset_in (UnitHeader offset) = offset
offset_in (AddressSize offset) = offset
offset_in (Root offset) = offset
offset_in (RootRanges offset) = offset
offset_in Memory = 0

-- a struct reports a reason
pub record IsReason (fault : OpenFault) (told : CRefusal) : Type 0 where
  pub number : told.number ≡ number_of fault
  pub name : told.name.now ≡ name_of fault
  pub section : told.section.now ≡ section_in fault
  pub offset : told.offset ≡ offset_in fault

-- the bytes of a location's path, of which there are none if it isn't known
abbrev pub path_of : Location → List ℕ
path_of location = unwrap_or location.path []

-- A path was copied to the front of a buffer, where it fits; what stands behind it is as before.
pub record IsCopied (old new path : List ℕ) : Type 0 where
  pub fits : length path ≤ length old
  pub bytes : new ≡ path ++ drop (length path) old

-- a path doesn't fit into a buffer
abbrev pub IsTooLong : (buffer path : List ℕ) → Type 0
IsTooLong buffer path = length buffer < length path

-- what a struct reports of a location: 0 for what isn't known
abbrev pub location_told : Location → CLocation
location_told location = record {
  path_length = length (path_of location);
  line = unwrap_or location.line 0;
  column = unwrap_or location.column 0;
  path_known = is_some location.path;
  line_known = is_some location.line;
  column_known = is_some location.column;
}

-- a struct reports a frame
pub record IsFrame (frame : Frame) (told : CFrame) : Type 0 where
  pub name : told.name.now ≡ unwrap_or frame.name []
  pub name_known : told.name_known ≡ is_some frame.name
  pub location : told.location ≡ location_told frame.location

-- what a struct reports of a piece
abbrev pub piece_told : Piece → CPiece
piece_told piece = record { begin = piece.begin; end = piece.end; location = location_told piece.location }

-- the numbers of the faults of units
abbrev pub code_number : Code → ℕ
code_number (tree_fault entry_fault) = 1
code_number (tree_fault depth_fault) = 2
code_number (tree_fault ranges_fault) = 3
code_number line_fault = 4

-- what a struct reports of an answer
abbrev pub answer_told : Answer → CAnswer
answer_told not_covered = record { kind = 0; fault = 0; unit = 0; count = 0 }
answer_told (found unit frames) = record { kind = 1; fault = 0; unit = unit; count = length frames }
answer_told (fault unit code) = record { kind = 2; fault = code_number code; unit = unit; count = 0 }
answer_told (located pieces) = record { kind = 3; fault = 0; unit = 0; count = length pieces }
