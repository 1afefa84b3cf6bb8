-- What an error says of the entries.
use Rattle.std.specs.Prelude.{ℕ, Option, Some, None}
use Rattle.dw_model.specs.Faults as model
use Rattle.dw_frames.specs.declared.fault.TreeFault.{TreeFault}
use Rattle.dw_frames.specs.declared.fault.TreeFault.TheVariants.{Entry, Depth, Ranges, Memory}

-- the fault that an error reports: out of memory is none
abbrev pub tree_fault : TreeFault → Option model.TreeFault
tree_fault Entry = Some model.entry_fault
tree_fault Depth = Some model.depth_fault
tree_fault Ranges = Some model.ranges_fault
tree_fault Memory = None

-- the number of each reason
abbrev pub fault_number : TreeFault → ℕ
fault_number Entry = 1
fault_number Depth = 2
fault_number Ranges = 3
fault_number Memory = 5
