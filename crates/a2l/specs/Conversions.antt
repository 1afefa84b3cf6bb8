-- Which fault of a run the fault of a part is.
use Rattle.dw_elf.specs.declared.fault.OpenFault.{OpenFault}
use Rattle.dw_elf.specs.declared.fault.OpenFault.TheVariants.{NotElf, NotElf64Little, Relocatable, SectionTable}
use Rattle.dw_elf.specs.declared.fault.OpenFault.TheVariants.{SectionRange}
use Rattle.dw_elf.specs.declared.fault.OpenFault.TheVariants.{Compressed, UnitHeader, AddressSize, Root, RootRanges}
use Rattle.dw_elf.specs.declared.fault.OpenFault.TheVariants as open_faults
use Rattle.a2l.specs.declared.command.ParseFault.{ParseFault}
use Rattle.a2l.specs.declared.command.ParseFault.TheVariants as parse_faults
use Rattle.a2l_lines.specs.declared.file.LoadFault.{LoadFault}
use Rattle.a2l_lines.specs.declared.file.LoadFault.TheVariants as load_faults
use Rattle.a2l_lines.specs.declared.fault.RunFault.{RunFault}
use Rattle.a2l_lines.specs.declared.fault.RunFault.TheVariants as run_faults
use Rattle.a2l.specs.declared.fault.Fault.{Fault}
use Rattle.a2l.specs.declared.fault.Fault.TheVariants as faults

abbrev pub fault_of_parse : ParseFault → Fault
fault_of_parse parse_faults.Refused = faults.CommandLine
fault_of_parse parse_faults.Memory = faults.Memory

abbrev pub fault_of_load : LoadFault → Fault
fault_of_load load_faults.Device = faults.File
fault_of_load load_faults.Memory = faults.Memory

abbrev pub fault_of_open : OpenFault → Fault
fault_of_open open_faults.Memory = faults.Memory
fault_of_open fault = faults.Refused fault

abbrev pub fault_of_run : RunFault → Fault
fault_of_run run_faults.Read = faults.Read
fault_of_run run_faults.Write = faults.Write
fault_of_run run_faults.Memory = faults.Memory
