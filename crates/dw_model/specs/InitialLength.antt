-- Initial lengths, each in one of the two formats (DWARF 5, sections 7.2.2 and 7.4).
use Rattle.std.specs.Prelude.{◌≡◌, ◌<◌, ◌++◌, ℕ, List, length, Option, Some, nat_le, ◌==◌, if◌then◌else◌}
use Rattle.byteorder.specs.Endian.{little_number}
use Rattle.dw_model.specs.declared.dwarf.TheConstants.{DW_LENGTH_RESERVED, DW_LENGTH_64BIT, OFFSET_SIZE_32}
use Rattle.dw_model.specs.declared.dwarf.TheConstants.{OFFSET_SIZE_64, LENGTH_SIZE_32, LENGTH_SIZE_64}
use Rattle.dw_model.specs.Options.{◌>>=◌}
use Rattle.dw_model.specs.Reading.{Place, number_at}

-- How many bytes an offset has: four in the 32-bit format, eight in the 64-bit one.
pub data Width : Type 0 where
  four eight : Width

abbrev pub offset_size : Width → ℕ
offset_size four = OFFSET_SIZE_32
offset_size eight = OFFSET_SIZE_64

-- how many bytes an initial length has
abbrev pub length_size : Width → ℕ
length_size four = LENGTH_SIZE_32
length_size eight = LENGTH_SIZE_64

-- What an initial length says: a length and the width of the offsets after it, or nothing, since
-- the value is reserved.
pub data InitialLength : Type 0 where
  of_length : (length : ℕ) → Width → InitialLength
  reserved : InitialLength

-- what four bytes say that aren't the escape
abbrev pub short_length : ℕ → InitialLength
short_length n = if nat_le DW_LENGTH_RESERVED n then reserved else of_length n four

-- the length after the escape
abbrev pub long_length : Place → Option (InitialLength × Place)
long_length p = do
  n ← number_at 8 p
  Some (of_length n.0 eight, n.1)

-- An initial length: four bytes, and where they are the escape, eight more.
unfoldable pub initial_length : Place → Option (InitialLength × Place)
initial_length p = do
  n ← number_at 4 p
  if n.0 == DW_LENGTH_64BIT then long_length n.1 else Some (short_length n.0, n.1)

-- The bytes are one whole initial length of this width.
abbrev pub IsInitialLength : Width → (n : ℕ) → List ℕ → Type 0
IsInitialLength four n bytes = (length bytes ≡ 4) × (little_number 4 bytes ≡ n) × (n < DW_LENGTH_RESERVED)
IsInitialLength eight n bytes =
    (escape number : List ℕ) × (bytes ≡ escape ++ number) × (length escape ≡ 4)
    × (little_number 4 escape ≡ DW_LENGTH_64BIT)
    × (length number ≡ 8) × (little_number 8 number ≡ n)
