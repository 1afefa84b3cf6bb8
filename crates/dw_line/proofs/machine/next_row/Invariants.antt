use Rattle.std.proofs.Common.{◌≡◌, length}
use Rattle.dw_line.specs.Header.{header_shown}
use Rattle.dw_line.specs.Machine.{rows_on}
use Rattle.dw_line.specs.Registers.{registers_shown}
use Rattle.dw_line.proofs.MachineLemmas.{Passes}
use Rattle.dw_line.proofs.machine.next_row.Given as goal

abbrev pub invariant-loop-instruction : goal.invariant-loop-instruction
invariant-loop-instruction l =
    (rows_on (header_shown l.fn.header) (record { registers = registers_shown l.fn.registers; place = l.fn.cursor }) ≡ rows_on (header_shown l.header) (record { registers = registers_shown l.registers; place = l.cursor })) × Passes l.fn.cursor l.cursor

abbrev pub decreases-loop-instruction : goal.decreases-loop-instruction
decreases-loop-instruction l = length l.cursor.left
