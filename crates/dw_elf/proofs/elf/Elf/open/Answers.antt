use Rattle.std.proofs.Common.{◌∷◌, [], refl}
use Rattle.dw_elf.specs.Layout.{table_shown}
use Rattle.dw_elf.specs.declared.name.Name.TheVariants.{DebugInfo, DebugAbbrev, DebugLine, DebugLineStr, DebugStr, DebugStrOffsets, DebugAddr, DebugRnglists}
use Rattle.dw_elf.proofs.NameLemmas.{outside_refused, compressed_refused}
use Rattle.dw_elf.proofs.elf.Elf.open.Goals as goal

pub returns-in-Some-clause-refused : goal.returns-in-Some-clause-refused
returns-in-Some-clause-refused c =
    outside_refused c.args.file.now (table_shown c.in_ok-table.table) (DebugInfo ∷ DebugAbbrev ∷ DebugLine ∷ DebugLineStr ∷ DebugStr ∷ DebugStrOffsets ∷ DebugAddr ∷ DebugRnglists ∷ []) c.in-Some.name refl c.in_ok-table.ensures c.in-Some.ensures

pub returns-in-Some-first_compressed-clause-refused : goal.returns-in-Some-first_compressed-clause-refused
returns-in-Some-first_compressed-clause-refused c =
    compressed_refused c.args.file.now (table_shown c.in_ok-table.table) (DebugInfo ∷ DebugAbbrev ∷ DebugLine ∷ DebugLineStr ∷ DebugStr ∷ DebugStrOffsets ∷ DebugAddr ∷ DebugRnglists ∷ []) c.in-Some-first_compressed.name refl c.in_ok-table.ensures c.in_default.ensures c.in-Some-first_compressed.ensures
