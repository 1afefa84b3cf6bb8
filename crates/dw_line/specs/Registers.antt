-- Registers and rows as the definitions have them.
use Rattle.std.specs.Prelude.{ℕ, ◌+◌, ◌%◌, ◌^◌, ℤ}
use Rattle.dw_model.specs.Matrix.{residue}
use Rattle.dw_model.specs.Registers as model
use Rattle.dw_line.specs.declared.registers.Registers.{Registers}

abbrev pub registers_shown : Registers → model.Registers
registers_shown registers = record {
  address = registers.address;
  file = registers.file;
  line = registers.line;
  column = registers.column;
}

-- with so many bytes added to the address
abbrev pub advanced : ℕ → model.Registers → model.Registers
advanced bytes r = record {
  address = (r.address + bytes) % 2 ^ 64;
  file = r.file;
  line = r.line;
  column = r.column;
}

-- with so many lines added to the line
abbrev pub advanced_lines : ℤ → model.Registers → model.Registers
advanced_lines lines r = record {
  address = r.address;
  file = r.file;
  line = (r.line + residue lines) % 2 ^ 64;
  column = r.column;
}
