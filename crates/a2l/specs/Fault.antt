-- How a fault is reported, and the status of the run.
use Rattle.std.specs.Prelude.{◌≡◌, ◌⊎◌, ℕ, List, [], ◌++◌, Option, None, codes, decimal}
use Rattle.std.specs.Io.KnownBytes.{append_known}
use Rattle.dw_model.specs.Faults.{Refusal}
use Rattle.dw_model.specs.Output.{hexadecimal}
use Rattle.dw_elf.specs.declared.fault.OpenFault.{OpenFault}
use Rattle.dw_elf.specs.declared.fault.OpenFault.TheVariants.{NotElf, NotElf64Little, Relocatable, SectionTable}
use Rattle.dw_elf.specs.declared.fault.OpenFault.TheVariants.{SectionRange}
use Rattle.dw_elf.specs.declared.fault.OpenFault.TheVariants.{Compressed, UnitHeader, AddressSize, Root, RootRanges}
use Rattle.dw_elf.specs.declared.fault.OpenFault.TheVariants.{Memory}
use Rattle.dw_elf.specs.OpenFault.{Refuses, number_of, name_of}
use Rattle.dw_elf.specs.Name.{text_of}
use Rattle.a2l.specs.declared.fault.Fault.{Fault}
use Rattle.a2l.specs.declared.fault.Fault.TheVariants as faults
use Rattle.a2l_lines.specs.Ends.{WritesBeginning}

-- how the program is called
abbrev pub usage_line : List ℕ
usage_line = codes "usage: a2l -e FILE [-f] [-i] [-a] [--workers N] [--senders N] [--units] [ADDRESS..]\n"

abbrev at_offset : ℕ → List ℕ
at_offset offset = codes " 0x" ++ hexadecimal offset

-- what a refusal speaks of: a section, or the unit at an offset
abbrev pub subject_of : OpenFault → List ℕ
subject_of NotElf = []
subject_of NotElf64Little = []
subject_of Relocatable = []
subject_of SectionTable = []
subject_of (SectionRange name) = codes " " ++ text_of name
subject_of (Compressed name) = codes " " ++ text_of name
subject_of (UnitHeader offset) = at_offset offset
subject_of (AddressSize offset) = at_offset offset
subject_of (Root offset) = at_offset offset
subject_of (RootRanges offset) = at_offset offset
subject_of Memory = []

-- why a file is refused: the reason's number and name, and of what it speaks
abbrev reason_of : OpenFault → List ℕ
reason_of fault = decimal (number_of fault) ++ (codes " " ++ (name_of fault ++ (subject_of fault ++ codes "\n")))

-- the line that reports a refused file
abbrev pub refusal_line : OpenFault → List ℕ
refusal_line fault = codes "a2l: file refused: " ++ reason_of fault

-- the line that reports a fault
abbrev pub line_of : Fault → List ℕ
line_of faults.CommandLine = usage_line
line_of faults.File = codes "a2l: cannot read file\n"
line_of (faults.Refused fault) = refusal_line fault
line_of faults.Read = codes "a2l: read failed\n"
line_of faults.Write = codes "a2l: write failed\n"
line_of faults.Memory = codes "a2l: out of memory\n"

-- the status of a run that ends with a fault
abbrev pub status_of : Fault → ℕ
status_of faults.CommandLine = 2
status_of faults.File = 3
status_of (faults.Refused fault) = 2
status_of faults.Read = 3
status_of faults.Write = 3
status_of faults.Memory = 3

-- A fault was reported on a stream, as far as that took the line: all of it where the count of the
-- stream's failures didn't rise.
pub record Tells (fault : Fault) (old new : Option (List ℕ)) (failures_before failures_after : ℕ) : Type 0 where
  pub beginning : WritesBeginning old new (line_of fault)
  pub whole : failures_after ≡ failures_before → new ≡ append_known old (line_of fault)

-- a run ends with the status and the line of some fault of which this holds
abbrev pub EndsBadly : (Fault → Type 0) → ℕ → Option (List ℕ) → Option (List ℕ) → ℕ → ℕ → Type 0
EndsBadly Why status old new before after =
    (told : Fault) × Why told × (status ≡ status_of told) × Tells told old new before after

-- it is this one, or out of memory, where its line couldn't be made
abbrev pub Reports : Fault → ℕ → Option (List ℕ) → Option (List ℕ) → ℕ → ℕ → Type 0
Reports fault = EndsBadly (λ told. (told ≡ fault) ⊎ (told ≡ faults.Memory))

-- Why a run over a file ends early: the file is refused for just this reason; or it isn't, and the
-- reader or the writer failed; or it was out of memory.
abbrev pub FailsOver : Option Refusal → (reader_failed writer_failed : Type 0) → Fault → Type 0
FailsOver refusal reader_failed writer_failed faults.CommandLine = ⊥
FailsOver refusal reader_failed writer_failed faults.File = ⊥
FailsOver refusal reader_failed writer_failed (faults.Refused fault) = Refuses fault refusal
FailsOver refusal reader_failed writer_failed faults.Read = (refusal ≡ None) × reader_failed
FailsOver refusal reader_failed writer_failed faults.Write = (refusal ≡ None) × writer_failed
FailsOver refusal reader_failed writer_failed faults.Memory = Unit {0}

abbrev pub IsRefused : Fault → Type 0
IsRefused faults.CommandLine = ⊥
IsRefused faults.File = ⊥
IsRefused (faults.Refused fault) = Unit {0}
IsRefused faults.Read = ⊥
IsRefused faults.Write = ⊥
IsRefused faults.Memory = ⊥
