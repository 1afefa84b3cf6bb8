-- The units of .debug_info (DWARF 5, section 7.5.1).
use Rattle.std.specs.Prelude.{◌≡◌, ◌<◌, ◌≤◌, ◌++◌, ◌∷◌, ℕ, ◌+◌, Bool, true, false, not, List, [], filter_map, length}
use Rattle.std.specs.Prelude.{Option, Some, None, Result, Ok, Err, ok_or, ◌==◌, if◌then◌else◌}
use Rattle.std.specs.List.{cons_option}
use Rattle.std.specs.Result.{result_unwrap_or}
use Rattle.dw_model.specs.declared.dwarf.TheConstants.{DWARF_VERSION, ADDRESS_SIZE, DW_UT_COMPILE, DW_UT_PARTIAL}
use Rattle.dw_model.specs.declared.dwarf.TheConstants.{DW_UT_SKELETON, DWO_ID_SIZE}
use Rattle.dw_model.specs.Results.{◌>>=◌, refuse_if}
use Rattle.dw_model.specs.Reading.{Place, start, number_at, bytes_at, items}
use Rattle.dw_model.specs.InitialLength.{Width, offset_size, length_size, InitialLength, of_length, reserved}
use Rattle.dw_model.specs.InitialLength.{initial_length, IsInitialLength}
use Rattle.dw_model.specs.Faults.{Refusal, unit_header, address_size}

-- What is done with a unit: compile and skeleton units answer addresses, partial ones are only
-- targets of references, and all others are skipped (own).
pub data Kind : Type 0 where
  compile partial skeleton skipped : Kind

-- the kind of a unit of version 5 (table 7.2)
abbrev pub kind_of : ℕ → Kind
kind_of unit_type =
    if unit_type == DW_UT_COMPILE then compile
    else (if unit_type == DW_UT_PARTIAL then partial else (if unit_type == DW_UT_SKELETON then skeleton else skipped))

abbrev pub is_skipped : Kind → Bool
is_skipped compile = false
is_skipped partial = false
is_skipped skeleton = false
is_skipped skipped = true

-- A unit: where it begins and ends, its version and kind, the size of its offsets, where its
-- abbreviations are in .debug_abbrev, and where its first entry is. Offsets count from the first
-- byte of .debug_info. A skipped unit has no abbreviations, and no entry before its end.
pub record DwarfUnit : Type 0 where
  pub offset : ℕ
  pub end : ℕ
  pub version : ℕ
  pub kind : Kind
  pub offset_size : ℕ
  pub debug_abbrev_offset : ℕ
  pub first_entry : ℕ

-- Where the bytes after a unit's length are: the unit's offset, theirs, and their end.
pub record Extent : Type 0 where
  pub offset : ℕ
  pub base : ℕ
  pub end : ℕ

abbrev pub skipped_unit : Extent → ℕ → ℕ → DwarfUnit
skipped_unit extent offset_size version =
    record {
      offset = extent.offset;
      end = extent.end;
      version = version;
      kind = skipped;
      offset_size = offset_size;
      debug_abbrev_offset = 0;
      first_entry = extent.end;
    }

-- only the header of a skeleton unit has a dwo_id (section 7.5.1.2)
abbrev pub dwo_id_size : Kind → ℕ
dwo_id_size compile = 0
dwo_id_size partial = 0
dwo_id_size skeleton = DWO_ID_SIZE
dwo_id_size skipped = 0

-- The header of a unit that isn't skipped, after its type. An address of another size is reported
-- only where the whole header is there.
unfoldable pub kept_unit : Extent → ℕ → Kind → Place → Result DwarfUnit Refusal
kept_unit extent offset_size kind p = do
  size ← ok_or (number_at 1 p) (unit_header extent.offset)
  debug_abbrev_offset ← ok_or (number_at offset_size size.1) (unit_header extent.offset)
  dwo_id ← ok_or (bytes_at (dwo_id_size kind) debug_abbrev_offset.1) (unit_header extent.offset)
  _ ← refuse_if (not (size.0 == ADDRESS_SIZE)) (address_size extent.offset)
  Ok (record {
    offset = extent.offset;
    end = extent.end;
    version = DWARF_VERSION;
    kind = kind;
    offset_size = offset_size;
    debug_abbrev_offset = debug_abbrev_offset.0;
    first_entry = extent.base + dwo_id.1.at;
  })

-- The unit whose bytes after its length are these. The version is needed in each unit, the type in
-- those of version 5, and the other fields in those that aren't skipped.
unfoldable pub unit_of : Extent → ℕ → List ℕ → Result DwarfUnit Refusal
unit_of extent offset_size bytes = do
  version ← ok_or (number_at 2 (start bytes)) (unit_header extent.offset)
  if not (version.0 == DWARF_VERSION) then Ok (skipped_unit extent offset_size version.0) else (do
    unit_type ← ok_or (number_at 1 version.1) (unit_header extent.offset)
    if is_skipped (kind_of unit_type.0) then Ok (skipped_unit extent offset_size version.0)
        else kept_unit extent offset_size (kind_of unit_type.0) unit_type.1)

-- what else a unit has to meet, beside its header
abbrev pub Test : Type 0
Test = DwarfUnit → Result (Unit {0}) Refusal

-- nothing else
abbrev pub untested : Test
untested unit = Ok tt

-- the unit after its initial length; length 0 is padding and no unit (own)
unfoldable pub unit_behind : Test → ℕ → InitialLength → Place → Result (Option DwarfUnit × Place) Refusal
unit_behind test offset reserved p = Err (unit_header offset)
unit_behind test offset (of_length n width) p = do
  bytes ← ok_or (bytes_at n p) (unit_header offset)
  if n == 0 then Ok (None, bytes.1) else (do
    unit ← unit_of (record { offset = offset; base = p.at; end = bytes.1.at }) (offset_size width) bytes.0
    _ ← test unit
    Ok (Some unit, bytes.1))

-- a piece of .debug_info: an initial length, and as many bytes
unfoldable pub piece_at : Test → Place → Result (Option DwarfUnit × Place) Refusal
piece_at test p = do
  unit_length ← ok_or (initial_length p) (unit_header p.at)
  unit_behind test p.at unit_length.0 unit_length.1

-- the next piece, and none at the end
unfoldable pub next_piece : Test → Place → Result (Option (Option DwarfUnit) × Place) Refusal
next_piece test p = if length p.left == 0 then Ok (None, p) else (do
  piece ← piece_at test p
  Ok (Some piece.0, piece.1))

-- the units from a place on, or their first fault
unfoldable pub cut_from : Test → Place → Result (List DwarfUnit) Refusal
cut_from test p = do
  pieces ← items (λ p. p.left) (next_piece test) p
  Ok (filter_map (λ piece. piece) pieces.0)

-- the one cut of .debug_info into units, or the first fault in their headers
abbrev pub cut : List ℕ → Result (List DwarfUnit) Refusal
cut info = cut_from untested (start info)

-- the units of a .debug_info that is accepted
abbrev pub units : List ℕ → List DwarfUnit
units info = result_unwrap_or (cut info) []

-- ---- whole pieces

-- what is after the length of a piece, and the width that the length gives
pub record Content : Type 0 where
  pub width : Width
  pub bytes : List ℕ

-- The piece is an initial length and the content that it counts.
abbrev pub IsPiece : Content → List ℕ → Type 0
IsPiece content piece =
    (len : List ℕ) × (piece ≡ len ++ content.bytes) × IsInitialLength content.width (length content.bytes) len

-- The bytes are pieces with these contents, one after the other.
abbrev pub AreContents : List ℕ → List Content → Type 0
AreContents bytes [] = bytes ≡ []
AreContents bytes (content ∷ others) =
    (piece rest : List ℕ) × (bytes ≡ piece ++ rest) × IsPiece content piece × AreContents rest others

-- where the bytes after a unit's length are
abbrev pub extent_at : ℕ → Width → List ℕ → Extent
extent_at offset width bytes =
    record { offset = offset; base = offset + length_size width; end = offset + length_size width + length bytes }

-- The unit of a piece that begins at the offset; no content makes none.
abbrev pub IsUnitOf : Test → ℕ → Width → List ℕ → Option DwarfUnit → Type 0
IsUnitOf test offset width [] found = found ≡ None
IsUnitOf test offset width (b ∷ bytes) found =
    (unit : DwarfUnit) × (found ≡ Some unit)
    × (unit_of (extent_at offset width (b ∷ bytes)) (offset_size width) (b ∷ bytes) ≡ Ok unit) × (test unit ≡ Ok tt)

-- The units of the pieces with these contents, the first of which begins at the offset.
abbrev pub AreUnits : Test → ℕ → List Content → List DwarfUnit → Type 0
AreUnits test offset [] found = found ≡ []
AreUnits test offset (content ∷ others) found =
    (unit : Option DwarfUnit) × (rest : List DwarfUnit) × (found ≡ cons_option unit rest)
    × IsUnitOf test offset content.width content.bytes unit
    × AreUnits test (offset + length_size content.width + length content.bytes) others rest

-- A unit that is in a section of so many bytes: its first entry is after its beginning, and no
-- later than its end.
abbrev pub StandsIn : ℕ → DwarfUnit → Type 0
StandsIn size unit = (unit.offset < unit.first_entry) × (unit.first_entry ≤ unit.end) × (unit.end ≤ size)
