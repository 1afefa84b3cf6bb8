-- The instructions of a line program (DWARF 5, section 6.2.5).
use Rattle.std.specs.Prelude.{◌≡◌, ◌≢◌, ◌<◌, ◌≤◌, ◌^◌, ◌++◌, IsTrue, ℕ, zero, suc, ◌-◌, ℤ, List, [], ◌∷◌, length}
use Rattle.std.specs.Prelude.{Option, Some, None, Result, Ok, Err, ok_or, slice_index, nat_eq, nat_le, ◌==◌}
use Rattle.std.specs.Prelude.{if◌then◌else◌}
use Rattle.std.specs.Map.{lookup}
use Rattle.byteorder.specs.Endian.{little_number}
use Rattle.dw_model.specs.declared.dwarf.TheConstants as constants
use Rattle.dw_model.specs.Results.{◌>>=◌, or_fault}
use Rattle.dw_model.specs.Reading.{Place, start, made, number_at, bytes_at, items}
use Rattle.dw_model.specs.Leb.{IsUleb, IsSleb, fits_i64, uleb_at, sleb_at}
use Rattle.dw_model.specs.LineHeader.{LineHeader}
use Rattle.dw_model.specs.Faults.{Bad, bad}

-- An instruction, as far as it bears on the registers that are kept: address, file, line and
-- column. `special n` is the special opcode n above the opcode base.
pub data Instruction : Type 0 where
  special : (n : ℕ) → Instruction
  copy : Instruction
  advance_pc : (n : ℕ) → Instruction
  advance_line : (z : ℤ) → Instruction
  set_file : (n : ℕ) → Instruction
  set_column : (n : ℕ) → Instruction
  const_add_pc : Instruction
  fixed_advance_pc : (n : ℕ) → Instruction
  end_sequence : Instruction
  set_address : (n : ℕ) → Instruction
  no_effect : Instruction

-- the operands of a standard opcode
pub data Operands : Type 0 where
  none : Instruction → Operands
  unsigned : (ℕ → Instruction) → Operands
  signed : (ℤ → Instruction) → Operands
  two_bytes : (ℕ → Instruction) → Operands

abbrev ignored : ℕ → Instruction
ignored n = no_effect

-- The standard opcodes that the standard names (section 6.2.5.2). Their operands are these,
-- whatever the header's lengths say (own).
abbrev pub standard_opcodes : List (ℕ × Operands)
standard_opcodes =
    (constants.DW_LNS_copy, none copy)
    ∷ (constants.DW_LNS_advance_pc, unsigned advance_pc)
    ∷ (constants.DW_LNS_advance_line, signed advance_line)
    ∷ (constants.DW_LNS_set_file, unsigned set_file)
    ∷ (constants.DW_LNS_set_column, unsigned set_column)
    ∷ (constants.DW_LNS_negate_stmt, none no_effect)
    ∷ (constants.DW_LNS_set_basic_block, none no_effect)
    ∷ (constants.DW_LNS_const_add_pc, none const_add_pc)
    ∷ (constants.DW_LNS_fixed_advance_pc, two_bytes fixed_advance_pc)
    ∷ (constants.DW_LNS_set_prologue_end, none no_effect)
    ∷ (constants.DW_LNS_set_epilogue_begin, none no_effect)
    ∷ (constants.DW_LNS_set_isa, unsigned ignored)
    ∷ []

abbrev pub operands_at : Operands → Place → Result (Instruction × Place) Bad
operands_at (none instruction) p = Ok (instruction, p)
operands_at (unsigned make) p = made make (or_fault bad (uleb_at p))
operands_at (signed make) p = made make (or_fault bad (sleb_at p))
operands_at (two_bytes make) p = made make (ok_or (number_at 2 p) bad)

-- an opcode that the standard doesn't name has as many LEB128 operands as the header says
unfoldable pub unknown_at : ℕ → Place → Result (Instruction × Place) Bad
unknown_at zero p = Ok (no_effect, p)
unknown_at (suc count) p = do
  operand ← or_fault bad (uleb_at p)
  unknown_at count operand.1

-- What an extended opcode does by its bytes (section 6.2.5.3). All but two do nothing here.
unfoldable pub extended : List ℕ → Result Instruction Bad
extended [] = Err bad
extended (opcode ∷ operands) =
    if opcode == constants.DW_LNE_end_sequence then Ok end_sequence else (
    if opcode == constants.DW_LNE_set_address
    then (if length operands == constants.ADDRESS_SIZE
    then Ok (set_address (little_number 8 operands)) else Err bad)
    else Ok no_effect)

-- an extended opcode takes exactly its length (own)
unfoldable pub extended_at : Place → Result (Instruction × Place) Bad
extended_at p = do
  len ← or_fault bad (uleb_at p)
  bytes ← ok_or (bytes_at len.0 len.1) bad
  instruction ← extended bytes.0
  Ok (instruction, bytes.1)

-- the rest of an instruction after a standard opcode, with its operands where the standard names it
abbrev pub standard_at : LineHeader → ℕ → Option Operands → Place → Result (Instruction × Place) Bad
standard_at header opcode None p = unknown_at (slice_index header.standard_opcode_lengths (opcode - 1)) p
standard_at header opcode (Some operands) p = operands_at operands p

-- the rest of an instruction after its opcode
unfoldable pub opcode_at : LineHeader → ℕ → Place → Result (Instruction × Place) Bad
opcode_at header opcode p =
    if nat_le header.opcode_base opcode then Ok (special (opcode - header.opcode_base), p) else (
    if opcode == constants.DW_LNS_extended then extended_at p
    else standard_at header opcode (lookup (nat_eq opcode) standard_opcodes) p)

-- the next instruction, and none at the program's end
unfoldable pub next_instruction : LineHeader → Place → Result (Option Instruction × Place) Bad
next_instruction header p = if length p.left == 0 then Ok (None, p) else (do
  opcode ← ok_or (number_at 1 p) bad
  instruction ← opcode_at header opcode.0 opcode.1
  Ok (Some instruction.0, instruction.1))

-- the instructions of a header's program
unfoldable pub instructions : LineHeader → Result (List Instruction) Bad
instructions header = items (λ p. p.left) (next_instruction header) (start header.program) >>= λ found. Ok found.0

-- ---- whole spellings

-- The bytes are the operands, and they make the instruction.
abbrev pub AreOperands : Operands → List ℕ → Instruction → Type 0
AreOperands (none instruction) bytes i = (bytes ≡ []) × (i ≡ instruction)
AreOperands (unsigned make) bytes i = (n : ℕ) × IsUleb bytes n × (n < 2 ^ 64) × (i ≡ make n)
AreOperands (signed make) bytes i = (z : ℤ) × IsSleb bytes z × IsTrue (fits_i64 z) × (i ≡ make z)
AreOperands (two_bytes make) bytes i = (length bytes ≡ 2) × (i ≡ make (little_number 2 bytes))

-- the bytes are so many LEB128 numbers, one after the other
abbrev pub AreNumbers : ℕ → List ℕ → Type 0
AreNumbers zero bytes = bytes ≡ []
AreNumbers (suc count) bytes =
    (first others : List ℕ) × (n : ℕ) × (bytes ≡ first ++ others) × IsUleb first n × (n < 2 ^ 64)
    × AreNumbers count others

-- the bytes are the length of an extended opcode and what it counts
abbrev pub IsExtended : List ℕ → Instruction → Type 0
IsExtended bytes i =
    (len content : List ℕ) × (bytes ≡ len ++ content) × IsUleb len (length content)
    × (length content < 2 ^ 64) × (extended content ≡ Ok i)

-- The bytes are what is after the opcode, and with it they make the instruction.
pub data IsBehind (header : LineHeader) (opcode : ℕ) (bytes : List ℕ) (i : Instruction) : Type 0 where
  is_special : header.opcode_base ≤ opcode → bytes ≡ [] → i ≡ special (opcode - header.opcode_base)
      → IsBehind header opcode bytes i
  is_extended : opcode < header.opcode_base → opcode ≡ constants.DW_LNS_extended → IsExtended bytes i
      → IsBehind header opcode bytes i
  is_standard : opcode < header.opcode_base
      → (operands : Operands) → lookup (nat_eq opcode) standard_opcodes ≡ Some operands
      → AreOperands operands bytes i → IsBehind header opcode bytes i
  is_unknown : opcode < header.opcode_base → opcode ≢ constants.DW_LNS_extended
      → lookup (nat_eq opcode) standard_opcodes ≡ None
      → AreNumbers (slice_index header.standard_opcode_lengths (opcode - 1)) bytes → i ≡ no_effect
      → IsBehind header opcode bytes i

-- The bytes are one whole spelling of the instruction.
abbrev pub IsInstruction : LineHeader → List ℕ → Instruction → Type 0
IsInstruction header [] i = ⊥
IsInstruction header (opcode ∷ bytes) i = IsBehind header opcode bytes i

-- The bytes are the spellings of the instructions, one after the other.
abbrev pub AreInstructions : LineHeader → List ℕ → List Instruction → Type 0
AreInstructions header bytes [] = bytes ≡ []
AreInstructions header bytes (i ∷ others) =
    (first rest : List ℕ) × (bytes ≡ first ++ rest) × IsInstruction header first i × AreInstructions header rest others
