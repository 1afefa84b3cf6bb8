-- What an error says of the file.
use Rattle.std.specs.Prelude.{◌≡◌, ℕ, List, codes, Option, Some, None, IsSome, MatchOption}
use Rattle.dw_model.specs.Faults as model
use Rattle.dw_model.specs.Faults.{Refusal}
use Rattle.dw_elf.specs.declared.fault.OpenFault.{OpenFault}
use Rattle.dw_elf.specs.declared.fault.OpenFault.TheVariants.{NotElf, NotElf64Little, Relocatable, SectionTable}
use Rattle.dw_elf.specs.declared.fault.OpenFault.TheVariants.{SectionRange, Compressed, UnitHeader, AddressSize}
use Rattle.dw_elf.specs.declared.fault.OpenFault.TheVariants.{Root, RootRanges, Memory}
use Rattle.dw_elf.specs.Name.{text_of}

-- the refusal that an error reports: out of memory is none
abbrev pub refusal_of : OpenFault → Option Refusal
refusal_of NotElf = Some model.not_elf
refusal_of NotElf64Little = Some model.not_elf64_little
refusal_of Relocatable = Some model.relocatable
refusal_of SectionTable = Some model.section_table
refusal_of (SectionRange name) = Some (model.section_range (text_of name))
refusal_of (Compressed name) = Some (model.compressed (text_of name))
refusal_of (UnitHeader offset) = Some (model.unit_header offset)
refusal_of (AddressSize offset) = Some (model.address_size offset)
refusal_of (Root offset) = Some (model.root offset)
refusal_of (RootRanges offset) = Some (model.root_ranges offset)
refusal_of Memory = None

-- there is a refusal, and the error reports just that one
abbrev pub Refuses : OpenFault → Option Refusal → Type 0
Refuses fault refusal = IsSome refusal × (refusal_of fault ≡ refusal)

-- the same of a call that takes memory: it may report out of memory instead of any answer
abbrev pub RefusesUnlessMemory : OpenFault → Option Refusal → Type 0
RefusesUnlessMemory fault refusal = MatchOption (refusal_of fault) (Unit {0}) (λ told. refusal ≡ Some told)

-- Out of memory hides none of these refusals: it is reported only where there is none.
abbrev pub HidesNoRefusal : OpenFault → Option Refusal → Type 0
HidesNoRefusal fault refusal = MatchOption (refusal_of fault) (refusal ≡ None) (λ told. Unit {0})

-- the numbers of the errors, of which 8 isn't used
abbrev pub number_of : OpenFault → ℕ
number_of NotElf = 1
number_of NotElf64Little = 2
number_of Relocatable = 3
number_of SectionTable = 4
number_of (SectionRange name) = 5
number_of (Compressed name) = 6
number_of (UnitHeader offset) = 7
number_of (AddressSize offset) = 9
number_of (Root offset) = 10
number_of (RootRanges offset) = 11
number_of Memory = 12

-- their names
abbrev pub name_of : OpenFault → List ℕ
name_of NotElf = codes "NotElf"
name_of NotElf64Little = codes "NotElf64Little"
name_of Relocatable = codes "Relocatable"
name_of SectionTable = codes "SectionTable"
name_of (SectionRange name) = codes "SectionRange"
name_of (Compressed name) = codes "Compressed"
name_of (UnitHeader offset) = codes "UnitHeader"
name_of (AddressSize offset) = codes "AddressSize"
name_of (Root offset) = codes "Root"
name_of (RootRanges offset) = codes "RootRanges"
name_of Memory = codes "Memory"
