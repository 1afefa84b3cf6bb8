-- What an error says of the ranges.
use Rattle.std.specs.Prelude.{ℕ, Option, Some, None}
use Rattle.dw_model.specs.Faults as model
use Rattle.dw_ranges.specs.declared.fault.RangeFault.{RangeFault}
use Rattle.dw_ranges.specs.declared.fault.RangeFault.TheVariants.{Bad, Memory}

-- the fault that an error reports: out of memory is none
abbrev pub range_fault : RangeFault → Option model.Bad
range_fault Bad = Some model.bad
range_fault Memory = None

-- the number of each reason
abbrev pub fault_number : RangeFault → ℕ
fault_number Bad = 1
fault_number Memory = 2
