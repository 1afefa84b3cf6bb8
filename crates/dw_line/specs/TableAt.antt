-- The bytes of a line table in .debug_line.
use Rattle.std.specs.Prelude.{ℕ, List, length, drop, Option, None, option_map, option_and_then}
use Rattle.std.specs.Option.{option_map_or}
use Rattle.dw_model.specs.Reading.{Place, bytes_at}
use Rattle.dw_model.specs.InitialLength.{offset_size, InitialLength, of_length, reserved, initial_length}

-- the bytes of a table, the size of the offsets in them, and where they end, as an offset of the
-- section
abbrev pub TableBytes : Type 0
TableBytes = List ℕ × ℕ × ℕ

-- the bytes after a length, as many as it says
abbrev pub table_behind_length : InitialLength → Place → Option TableBytes
table_behind_length (of_length n width) p =
    option_map (λ table. (table.0, offset_size width, table.1.at)) (bytes_at n p)
table_behind_length reserved p = None

-- the bytes of the table at an offset, after its length, where they are there
unfoldable pub table_at : List ℕ → ℕ → Option TableBytes
table_at section offset =
    option_and_then (λ unit_length. table_behind_length unit_length.0 unit_length.1)
    (initial_length (record { at = offset; left = drop offset section }))

-- how many these are
abbrev pub table_size : List ℕ → ℕ → ℕ
table_size section offset = option_map_or (λ table. length table.0) (table_at section offset) 0
