-- What a line table that was read is seen as.
use Rattle.std.specs.Prelude.{◌≡◌, ◌≤◌, ◌+◌, ◌*◌, ℕ, List, length, Option, Ok, option_map}
use Rattle.dw_model.specs.Matrix.{Row}
use Rattle.dw_model.specs.Text.{Tables, Bases}
use Rattle.dw_index.specs.Segments.{owner_at}
use Rattle.dw_forms.specs.Tables.{tables_shown, bases_shown}
use Rattle.dw_line.specs.declared.lines.Lines.TheInside.{Inside}
use Rattle.dw_line.specs.Header.{header_in, header_shown}
use Rattle.dw_line.specs.Leaps.{FewLeaps}
use Rattle.dw_line.specs.Lines.{Table, lines_of, matrix_of}
use Rattle.dw_line.specs.Reached.{IsLast}
use Rattle.dw_line.specs.Sequences.{used_sequences, number_among, AreKept}

-- as a unit sees it that has these texts and was compiled in the directory
abbrev pub table_in : Inside → Tables → Bases → Option (List ℕ) → Table
table_in lines tables bases comp_dir = record {
  section = lines.section.now;
  offset = lines.offset;
  header = header_in tables bases lines.header;
  rows = matrix_of (header_shown lines.header);
  comp_dir = comp_dir;
}

abbrev pub lines_in : Inside → Table
lines_in lines =
    table_in lines (tables_shown lines.unit.tables) (bases_shown lines.unit.bases)
    (option_map (λ directory. directory.now) lines.unit.comp_dir)

-- the used sequences of its program
abbrev pub used_in : Inside → List (List Row)
used_in lines = used_sequences (matrix_of (header_shown lines.header))

-- Each unit sees the table at its offset so. What is kept is of the used sequences of the header's
-- program, no more checkpoints than it has bytes, with three for each sequence; the index finds the
-- first of them that holds an address, and the row that was found last is one of theirs.
pub record AreRead (lines : Inside) : Type 0 where
  pub each : (tables : Tables) (bases : Bases) (comp_dir : Option (List ℕ))
      → lines_of tables bases lines.section.now comp_dir lines.offset ≡ Ok (table_in lines tables bases comp_dir)
  pub kept : AreKept (header_shown lines.header) lines.checkpoints.items lines.sequences.items (used_in lines)
  pub fits : length lines.checkpoints.items + 3 * length lines.sequences.items ≤ length lines.header.program.now
  pub leaps : FewLeaps (header_shown lines.header) (length lines.header.program.now) lines.leaps.items
  pub indexed : length lines.index ≤ 2 * length lines.sequences.items
  pub found : (a : ℕ) → owner_at lines.index a ≡ number_among (used_in lines) a
  pub last : IsLast (header_shown lines.header) (used_in lines) lines.last
