-- The matrix of a line program, its sequences, and the row of an address (DWARF 5, section 6.2).
use Rattle.std.specs.Prelude.{ℕ, ◌+◌, ◌-◌, ◌*◌, ◌/◌, ◌%◌, ◌^◌, ℤ, pos, negsuc, ◌+ℤ◌, Bool, true, false, ◌&&◌, List, []}
use Rattle.std.specs.Prelude.{◌∷◌, reverse, Option, Some, None, sum_by, find, nat_lt, nat_le, if◌then◌else◌}
use Rattle.dw_model.specs.Options.{◌>>=◌}
use Rattle.dw_model.specs.LineHeader.{LineHeader}
use Rattle.dw_model.specs.Instruction.{Instruction, special, copy, advance_pc, advance_line, set_file, set_column}
use Rattle.dw_model.specs.Instruction.{const_add_pc, fixed_advance_pc, end_sequence, set_address}

-- a row of the matrix: an address and where in the source it comes from, or the address that ends a
-- sequence
pub record Row : Type 0 where
  pub address : ℕ
  pub file : ℕ
  pub line : ℕ
  pub column : ℕ
  pub ends : Bool

-- ---- what each instruction does to the address and the line (section 6.2.5)

-- the address advance of a special opcode: its operation advance times the minimum instruction
-- length (section 6.2.5.1)
abbrev pub special_advance : LineHeader → ℕ → ℕ
special_advance header n = header.minimum_instruction_length * (n / header.line_range)

abbrev pub address_advance : LineHeader → Instruction → ℕ
address_advance header (special n) = special_advance header n
address_advance header (advance_pc n) = header.minimum_instruction_length * n
address_advance header const_add_pc = special_advance header (255 - header.opcode_base)
address_advance header (fixed_advance_pc n) = n
address_advance header _ = 0

abbrev pub line_advance : LineHeader → Instruction → ℤ
line_advance header (special n) = header.line_base +ℤ pos (n % header.line_range)
line_advance header (advance_line z) = z
line_advance header _ = pos 0

-- a whole number modulo 2 ^ 64
abbrev pub residue : ℤ → ℕ
residue (pos n) = n % 2 ^ 64
residue (negsuc n) = 2 ^ 64 - 1 - n % 2 ^ 64

-- ---- the registers after the instructions since the last end_sequence, the newest first

-- the last set address, else 0, and all advances after it
abbrev pub advanced : LineHeader → List Instruction → ℕ
advanced header [] = 0
advanced header (set_address n ∷ before) = n
advanced header (instruction ∷ before) = address_advance header instruction + advanced header before

abbrev pub address_after : LineHeader → List Instruction → ℕ
address_after header done = advanced header done % 2 ^ 64

-- 1 and all line advances
abbrev pub line_after : LineHeader → List Instruction → ℕ
line_after header done = (1 + sum_by (λ instruction. residue (line_advance header instruction)) done) % 2 ^ 64

-- the last set file, else 1
abbrev pub file_after : List Instruction → ℕ
file_after [] = 1
file_after (set_file n ∷ before) = n
file_after (_ ∷ before) = file_after before

-- the last set column, else 0
abbrev pub column_after : List Instruction → ℕ
column_after [] = 0
column_after (set_column n ∷ before) = n
column_after (_ ∷ before) = column_after before

abbrev pub is_end : Instruction → Bool
is_end end_sequence = true
is_end _ = false

-- special opcodes, DW_LNS_copy and DW_LNE_end_sequence append a row
abbrev pub appends : Instruction → Bool
appends (special n) = true
appends copy = true
appends end_sequence = true
appends _ = false

abbrev pub row_after : LineHeader → List Instruction → Bool → Row
row_after header done ends = record {
  address = address_after header done;
  file = file_after done;
  line = line_after header done;
  column = column_after done;
  ends = ends;
}

-- ---- the matrix and its sequences

-- a row for each instruction that appends one; `done` are those since the last end_sequence, the
-- newest first
unfoldable pub rows_from : LineHeader → List Instruction → List Instruction → List Row
rows_from header done [] = []
rows_from header done (instruction ∷ instructions) =
    let others = rows_from header (if is_end instruction then [] else instruction ∷ done) instructions in
    if appends instruction then row_after header (instruction ∷ done) (is_end instruction) ∷ others else others

abbrev pub matrix : LineHeader → List Instruction → List Row
matrix header instructions = rows_from header [] instructions

-- the rows up to and with each end row; rows after the last are in no sequence (own). `done` are
-- the rows since the last end row, the newest first
unfoldable pub sequences_from : List Row → List Row → List (List Row)
sequences_from done [] = []
sequences_from done (row ∷ rows) =
    if row.ends then reverse (row ∷ done) ∷ sequences_from [] rows else sequences_from (row ∷ done) rows

abbrev pub sequences : List Row → List (List Row)
sequences rows = sequences_from [] rows

-- the addresses never fall
abbrev pub never_falls : List Row → Bool
never_falls [] = true
never_falls (row ∷ []) = true
never_falls (row ∷ next ∷ rows) = nat_le row.address next.address && never_falls (next ∷ rows)

abbrev pub first_address : List Row → ℕ
first_address [] = 0
first_address (row ∷ rows) = row.address

abbrev pub last_address : List Row → ℕ
last_address [] = 0
last_address (row ∷ []) = row.address
last_address (row ∷ next ∷ rows) = last_address (next ∷ rows)

-- A sequence is used where its addresses never fall and its first is below its end's.
abbrev pub is_used : List Row → Bool
is_used rows = never_falls rows && nat_lt (first_address rows) (last_address rows)

-- the row whose address is at most this one, while the next row's is above it
unfoldable pub row_in : ℕ → List Row → Option Row
row_in a [] = None
row_in a (row ∷ []) = None
row_in a (row ∷ next ∷ rows) =
    if nat_le row.address a && nat_lt a next.address then Some row else row_in a (next ∷ rows)

-- The row of an address: in the first used sequence from whose first address on and below whose end
-- it lies.
unfoldable pub row_of : List Row → ℕ → Option Row
row_of rows a = do
  found ← find (λ s. is_used s && nat_le (first_address s) a && nat_lt a (last_address s)) (sequences rows)
  row_in a found
