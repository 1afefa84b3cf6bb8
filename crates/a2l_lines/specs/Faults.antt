-- The numbers of the errors.
use Rattle.std.specs.Prelude.{ℕ}
use Rattle.a2l_lines.specs.declared.fault.RunFault.{RunFault}
use Rattle.a2l_lines.specs.declared.fault.RunFault.TheVariants as run_faults
use Rattle.a2l_lines.specs.declared.file.LoadFault.{LoadFault}
use Rattle.a2l_lines.specs.declared.file.LoadFault.TheVariants as load_faults

abbrev pub number_of_run : RunFault → ℕ
number_of_run run_faults.Read = 1
number_of_run run_faults.Write = 2
number_of_run run_faults.Memory = 3

abbrev pub number_of_load : LoadFault → ℕ
number_of_load load_faults.Device = 1
number_of_load load_faults.Memory = 2
