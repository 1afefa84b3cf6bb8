-- What a file that was opened is seen as.
use Rattle.std.specs.Prelude.{◌≡◌, ℕ, List, None, Ok}
use Rattle.dw_model.specs.Section.{table_of, elf_refusal}
use Rattle.dw_elf.specs.declared.elf.Elf.TheInside.{Inside}
use Rattle.dw_elf.specs.Layout.{table_shown}

-- the bytes of the file
abbrev pub file_of : Inside → List ℕ
file_of elf = elf.file.now

-- the table is the file's, and no condition fails
abbrev pub IsAccepted : Inside → Type 0
IsAccepted elf = (table_of elf.file.now ≡ Ok (table_shown elf.table)) × (elf_refusal elf.file.now ≡ None)
