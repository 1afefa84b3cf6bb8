-- What an error says of a line table.
use Rattle.std.specs.Prelude.{ℕ, Option, Some, None}
use Rattle.dw_model.specs.Faults as model
use Rattle.dw_line.specs.declared.fault.LineFault.{LineFault}
use Rattle.dw_line.specs.declared.fault.LineFault.TheVariants.{Bad, Memory}

-- the fault that an error reports: out of memory is none
abbrev pub line_fault : LineFault → Option model.Bad
line_fault Bad = Some model.bad
line_fault Memory = None

-- the number of each reason
abbrev pub fault_number : LineFault → ℕ
fault_number Bad = 1
fault_number Memory = 2
