-- The used sections by their names.
use Rattle.std.specs.Prelude.{ℕ, List, codes}
use Rattle.dw_elf.specs.declared.name.Name.{Name}
use Rattle.dw_elf.specs.declared.name.Name.TheVariants.{DebugInfo, DebugAbbrev, DebugLine, DebugLineStr, DebugStr}
use Rattle.dw_elf.specs.declared.name.Name.TheVariants.{DebugStrOffsets, DebugAddr, DebugRnglists}

-- the name as it is in a file
abbrev pub text_of : Name → List ℕ
text_of DebugInfo = codes ".debug_info"
text_of DebugAbbrev = codes ".debug_abbrev"
text_of DebugLine = codes ".debug_line"
text_of DebugLineStr = codes ".debug_line_str"
text_of DebugStr = codes ".debug_str"
text_of DebugStrOffsets = codes ".debug_str_offsets"
text_of DebugAddr = codes ".debug_addr"
text_of DebugRnglists = codes ".debug_rnglists"
