use Rattle.std.proofs.Common.{length}
use Rattle.dw_line.specs.Header.{header_shown}
use Rattle.dw_line.specs.Recorder.{recorder_shown}
use Rattle.dw_line.specs.Registers.{registers_shown}
use Rattle.dw_line.proofs.ProgramLemmas.{Recording}
use Rattle.dw_line.proofs.program.run_program.Given as goal

abbrev pub invariant-loop-recorded : goal.invariant-loop-recorded
invariant-loop-recorded l =
    Recording (header_shown l.header) (recorder_shown l.recorded) (record { registers = registers_shown l.registers; place = l.cursor })

abbrev pub decreases-loop-recorded : goal.decreases-loop-recorded
decreases-loop-recorded l = length l.cursor.left
