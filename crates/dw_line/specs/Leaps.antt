-- Long ways of a program without a row.
use Rattle.std.specs.Prelude.{◌≤◌, ◌*◌, ℕ, List, length, drop}
use Rattle.std.specs.List.{All}
use Rattle.dw_model.specs.LineHeader.{LineHeader}
use Rattle.dw_model.specs.Reading.{Place}
use Rattle.dw_line.specs.declared.checkpoints.Checkpoint.{Checkpoint}
use Rattle.dw_line.specs.declared.leaps.Leap.{Leap}
use Rattle.dw_line.specs.declared.machine.Appended.{Appended}
use Rattle.dw_line.specs.Machine.{IsNext}
use Rattle.dw_line.specs.Sequences.{state_of}

-- a row that the machine appends on its way from a checkpoint to a place, and no other
abbrev pub LeadsTo : LineHeader → Checkpoint → Appended × Place → Type 0
LeadsTo header here found = IsNext header (state_of header here) found.0 found.1

-- It leads to its row and its place, which is in the program.
pub record IsLeap (header : LineHeader) (leap : Leap) : Type 0 where
  pub within : leap.place ≤ length header.program
  pub next : LeadsTo header leap.from (leap.next, record { at = leap.place; left = drop leap.place header.program })

abbrev pub AreLeaps : LineHeader → List Leap → Type 0
AreLeaps header leaps = All (IsLeap header) leaps

-- Each is one, and there is at most one for 64 of so many bytes.
pub record FewLeaps (header : LineHeader) (bytes : ℕ) (leaps : List Leap) : Type 0 where
  pub are : AreLeaps header leaps
  pub few : 64 * length leaps ≤ bytes
