-- A line program that was run to its end.
use Rattle.std.specs.Prelude.{◌≡◌, ◌≤◌, ◌+◌, ◌*◌, List, length, Result, Ok, Err, MatchOption}
use Rattle.dw_model.specs.LineHeader.{LineHeader}
use Rattle.dw_model.specs.Matrix.{Row}
use Rattle.dw_line.specs.declared.fault.LineFault.{LineFault}
use Rattle.dw_line.specs.declared.checkpoints.Checkpoints.{Checkpoints}
use Rattle.dw_line.specs.Fault.{line_fault}
use Rattle.dw_line.specs.Machine.{beginning, rows_on}
use Rattle.dw_line.specs.Sequences.{used_sequences, AreKept}

-- The rows are those of a header's program, and what is kept is of their used sequences: a
-- checkpoint takes a byte of the program at least, and a sequence three.
pub record IsRecorded (header : LineHeader) (recorded : Checkpoints) : Type 0 where
  pub rows : List Row
  pub run : rows_on header (beginning header) ≡ Ok rows
  pub kept : AreKept header recorded.checkpoints.items recorded.sequences.items (used_sequences rows)
  pub fits : length recorded.checkpoints.items + 3 * length recorded.sequences.items ≤ length header.program

-- what a call returns that runs a header's program, unless it reports that it is out of memory
abbrev pub RecordsProgram : LineHeader → Result Checkpoints LineFault → Type 0
RecordsProgram header (Ok recorded) = IsRecorded header recorded
RecordsProgram header (Err e) =
    MatchOption (line_fault e) (Unit {0}) (λ fault. rows_on header (beginning header) ≡ Err fault)
