-- How many things are kept of a line table, besides its checkpoints.
use Rattle.std.specs.Prelude.{ℕ, ◌+◌, ◌*◌, ◌/◌, length}
use Rattle.dw_line.specs.Lines.{Table}
use Rattle.dw_line.specs.Sequences.{used_sequences}

-- its used sequences, its directories and its files
abbrev pub least_held : Table → ℕ
least_held table =
    length (used_sequences table.rows) + length table.header.directories + length table.header.files

-- at most these, two segments of an index for each used sequence, and one way for 64 bytes of its
-- program
abbrev pub most_held : Table → ℕ
most_held table = least_held table + 2 * length (used_sequences table.rows) + length table.header.program / 64
