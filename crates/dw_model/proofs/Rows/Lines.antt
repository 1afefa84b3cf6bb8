-- Line tables.
use Rattle.std.specs.Prelude.{◌≡◌, ℕ, true, false, Bool, List, ◌∷◌, [], ◌++◌, replicate, Option, Some, None, Result, Ok, Err, option_map, codes, refl}
use Rattle.std.specs.Result.{result_ok}
use Rattle.dw_model.specs.Options as options
use Rattle.dw_model.specs.Results.{◌>>=◌}
use Rattle.dw_model.specs.Faults.{Bad, bad}
use Rattle.dw_model.specs.Text.{Tables, Bases}
use Rattle.dw_model.specs.LineHeader.{line_header}
use Rattle.dw_model.specs.Instruction.{instructions}
use Rattle.dw_model.specs.Matrix.{Row, matrix, row_of}
use Rattle.dw_model.proofs.Samples.{hex, poke, line_table, line_table_of}
use Rattle.dw_model.proofs.OnSamples.{on_samples}

abbrev no_tables : Tables
no_tables = record { str = []; line_str = []; str_offsets = []; addr = []; rnglists = [] }

abbrev no_bases : Bases
no_bases = record { str_offsets = None; addr = None; rnglists = None; offset_size = 4 }

-- the rows of the table that is at the front of a section
abbrev rows : List ℕ → Result (List Row) Bad
rows section = do
  header ← line_header no_tables no_bases section 0
  program ← instructions header
  Ok (matrix header program)

abbrev row : ℕ → ℕ → Bool → Row
row address line ends = record { address = address; file = 1; line = line; column = 0; ends = ends }

-- the line of an address
abbrev line_at : List ℕ → ℕ → Option ℕ
line_at section a = option_map (λ found. found.line) (options.◌>>=◌ (result_ok (rows section)) λ rows. row_of rows a)

abbrev is_readable : List ℕ → Result (Unit {0}) Bad
is_readable section = rows section >>= λ _. Ok tt

-- two rows, 4 bytes and then 10 bytes long
abbrev two_rows : List ℕ
two_rows = hex (codes "00 09 02 00 10 40 00 00 00 00 00 14 4b 02 0a 00 01 01")

-- a table without directories and files whose standard opcodes are those up to 13, the last with
-- two operands
abbrev with_opcode_13 : List ℕ → List ℕ
with_opcode_13 = line_table_of (hex (codes "01 01 01 fb 0e 0e 00 01 01 01 01 00 00 00 01 00 00 01 02 00 00 00 00"))

-- one of instructions of 4 bytes whose special opcodes begin at 10
abbrev with_opcode_base_10 : List ℕ → List ℕ
with_opcode_base_10 = line_table_of (hex (codes "04 01 01 fb 0e 0a 00 01 01 01 01 00 00 00 01 00 00 00 00"))

rows_of_two : rows (line_table two_rows) ≡ Ok (row 0x401000 3 false ∷ row 0x401004 4 false ∷ row 0x40100e 4 true ∷ [])
rows_of_two = unfold on_samples in refl

line_at_0x400fff : line_at (line_table two_rows) 0x400fff ≡ None
line_at_0x400fff = unfold on_samples in refl

line_at_0x401000 : line_at (line_table two_rows) 0x401000 ≡ Some 3
line_at_0x401000 = unfold on_samples in refl

line_at_0x401003 : line_at (line_table two_rows) 0x401003 ≡ Some 3
line_at_0x401003 = unfold on_samples in refl

line_at_0x401004 : line_at (line_table two_rows) 0x401004 ≡ Some 4
line_at_0x401004 = unfold on_samples in refl

line_at_0x40100d : line_at (line_table two_rows) 0x40100d ≡ Some 4
line_at_0x40100d = unfold on_samples in refl

line_at_0x40100e : line_at (line_table two_rows) 0x40100e ≡ None
line_at_0x40100e = unfold on_samples in refl

const_add_pc : rows (line_table (hex (codes "00 09 02 00 10 40 00 00 00 00 00 14 08 4b 02 0a 00 01 01"))) ≡ Ok (row 0x401000 3 false ∷ row 0x401015 4 false ∷ row 0x40101f 4 true ∷ [])
const_add_pc = unfold on_samples in refl

two_rows_at_one_address : line_at (line_table (hex (codes "00 09 02 00 10 40 00 00 00 00 00 18 14 02 04 00 01 01"))) 0x401000 ≡ Some 9
two_rows_at_one_address = unfold on_samples in refl

falling_sequence : rows (line_table (hex (codes "00 09 02 ff ff ff ff ff ff ff ff 14 02 04 00 01 01") ++ two_rows)) ≡ Ok (row 0xffffffffffffffff 3 false ∷ row 3 3 true ∷ row 0x401000 3 false ∷ row 0x401004 4 false ∷ row 0x40100e 4 true ∷ [])
falling_sequence = unfold on_samples in refl

falling_sequence_at_1 : line_at (line_table (hex (codes "00 09 02 ff ff ff ff ff ff ff ff 14 02 04 00 01 01") ++ two_rows)) 1 ≡ None
falling_sequence_at_1 = unfold on_samples in refl

falling_sequence_at_the_last_address : line_at (line_table (hex (codes "00 09 02 ff ff ff ff ff ff ff ff 14 02 04 00 01 01") ++ two_rows)) 0xffffffffffffffff ≡ None
falling_sequence_at_the_last_address = unfold on_samples in refl

sequence_after_the_falling_one : line_at (line_table (hex (codes "00 09 02 ff ff ff ff ff ff ff ff 14 02 04 00 01 01") ++ two_rows)) 0x401000 ≡ Some 3
sequence_after_the_falling_one = unfold on_samples in refl

first_of_two_sequences : line_at (line_table (two_rows ++ hex (codes "00 09 02 00 10 40 00 00 00 00 00 18 02 0a 00 01 01"))) 0x401000 ≡ Some 3
first_of_two_sequences = unfold on_samples in refl

empty_program : rows (line_table []) ≡ Ok []
empty_program = unfold on_samples in refl

open_sequence : rows (line_table (hex (codes "00 09 02 00 10 40 00 00 00 00 00 14 4b 02 0a"))) ≡ Ok (row 0x401000 3 false ∷ row 0x401004 4 false ∷ [])
open_sequence = unfold on_samples in refl

line_in_an_open_sequence : line_at (line_table (hex (codes "00 09 02 00 10 40 00 00 00 00 00 14 4b 02 0a"))) 0x401000 ≡ None
line_in_an_open_sequence = unfold on_samples in refl

sequence_of_its_end : rows (line_table (hex (codes "00 01 01"))) ≡ Ok (row 0 1 true ∷ [])
sequence_of_its_end = unfold on_samples in refl

no_line_in_a_sequence_of_its_end : line_at (line_table (hex (codes "00 01 01"))) 0 ≡ None
no_line_in_a_sequence_of_its_end = unfold on_samples in refl

extended_without_opcode : rows (line_table (hex (codes "00 00"))) ≡ Err bad
extended_without_opcode = unfold on_samples in refl

short_address : rows (line_table (hex (codes "00 03 02 00 00"))) ≡ Err bad
short_address = unfold on_samples in refl

operand_cut : rows (line_table (hex (codes "02 80"))) ≡ Err bad
operand_cut = unfold on_samples in refl

operand_wide : rows (line_table (hex (codes "02 ff ff ff ff ff ff ff ff ff 02"))) ≡ Err bad
operand_wide = unfold on_samples in refl

extended_past_the_program : rows (line_table (hex (codes "00 04 80 00 00"))) ≡ Err bad
extended_past_the_program = unfold on_samples in refl

line_below_1 : line_at (line_table (hex (codes "00 09 02 00 10 40 00 00 00 00 00 03 76 01 02 01 00 01 01"))) 0x401000 ≡ Some 18446744073709551607
line_below_1 = unfold on_samples in refl

registers_begin_anew : rows (line_table (hex (codes "04 07 05 08 03 09 01 00 01 01 01"))) ≡ Ok (record { address = 0; file = 7; line = 10; column = 8; ends = false } ∷ record { address = 0; file = 7; line = 10; column = 8; ends = true } ∷ row 0 1 false ∷ [])
registers_begin_anew = unfold on_samples in refl

what_does_nothing : rows (line_table (hex (codes "06 07 0a 0b 0c 05 00 02 04 09 01"))) ≡ Ok (row 0 1 false ∷ [])
what_does_nothing = unfold on_samples in refl

fixed_advance : rows (line_table (hex (codes "09 02 01 02 80 01 01"))) ≡ Ok (row 0x182 1 false ∷ [])
fixed_advance = unfold on_samples in refl

unknown_standard_opcode : rows (with_opcode_13 (hex (codes "0d 80 01 02 01"))) ≡ Ok (row 0 1 false ∷ [])
unknown_standard_opcode = unfold on_samples in refl

-- the operation advance counts instructions of 4 bytes
special_opcode_10 : rows (with_opcode_base_10 (hex (codes "1d"))) ≡ Ok (row 4 1 false ∷ [])
special_opcode_10 = unfold on_samples in refl

version_4 : is_readable (poke (line_table two_rows) 4 (4 ∷ [])) ≡ Err bad
version_4 = unfold on_samples in refl

version_5 : is_readable (line_table two_rows) ≡ Ok tt
version_5 = unfold on_samples in refl

addresses_of_4_bytes : is_readable (poke (line_table two_rows) 6 (4 ∷ [])) ≡ Err bad
addresses_of_4_bytes = unfold on_samples in refl

segments_not_looked_at : is_readable (poke (line_table two_rows) 7 (4 ∷ [])) ≡ Ok tt
segments_not_looked_at = unfold on_samples in refl

two_operations_an_instruction : is_readable (poke (line_table two_rows) 13 (2 ∷ [])) ≡ Err bad
two_operations_an_instruction = unfold on_samples in refl

line_range_0 : is_readable (poke (line_table two_rows) 16 (0 ∷ [])) ≡ Err bad
line_range_0 = unfold on_samples in refl

opcode_base_0 : is_readable (poke (line_table two_rows) 17 (0 ∷ [])) ≡ Err bad
opcode_base_0 = unfold on_samples in refl

header_past_the_table : is_readable (poke (line_table two_rows) 8 (0x7f ∷ [])) ≡ Err bad
header_past_the_table = unfold on_samples in refl

lists_past_the_header : is_readable (poke (line_table two_rows) 8 (0x28 ∷ [])) ≡ Err bad
lists_past_the_header = unfold on_samples in refl

-- what lies between the lists and the program isn't read
header_with_room : rows (poke (line_table (0x99 ∷ two_rows)) 8 (0x2a ∷ [])) ≡ rows (line_table two_rows)
header_with_room = unfold on_samples in refl

table_past_the_section : is_readable (poke (line_table two_rows) 0 (0x44 ∷ [])) ≡ Err bad
table_past_the_section = unfold on_samples in refl

reserved_length : is_readable (poke (line_table two_rows) 0 (0xf0 ∷ 0xff ∷ 0xff ∷ 0xff ∷ [])) ≡ Err bad
reserved_length = unfold on_samples in refl

too_many_directories : is_readable (poke (line_table two_rows) 33 (0x7f ∷ [])) ≡ Err bad
too_many_directories = unfold on_samples in refl

a_table_further_on : (line_header no_tables no_bases (0 ∷ line_table two_rows) 1 >>= λ header. Ok header.line_range) ≡ Ok 14
a_table_further_on = unfold on_samples in refl

table_at_the_end : line_header no_tables no_bases (line_table two_rows) 71 ≡ Err bad
table_at_the_end = unfold on_samples in refl

of_200_rows_at_0x1000 : line_at (line_table (hex (codes "00 09 02 00 10 00 00 00 00 00 00") ++ replicate 200 0x21 ++ hex (codes "02 01 00 01 01"))) 0x1000 ≡ None
of_200_rows_at_0x1000 = unfold on_samples in refl

of_200_rows_at_0x1001 : line_at (line_table (hex (codes "00 09 02 00 10 00 00 00 00 00 00") ++ replicate 200 0x21 ++ hex (codes "02 01 00 01 01"))) 0x1001 ≡ Some 2
of_200_rows_at_0x1001 = unfold on_samples in refl

of_200_rows_at_0x1040 : line_at (line_table (hex (codes "00 09 02 00 10 00 00 00 00 00 00") ++ replicate 200 0x21 ++ hex (codes "02 01 00 01 01"))) 0x1040 ≡ Some 65
of_200_rows_at_0x1040 = unfold on_samples in refl

of_200_rows_at_0x1041 : line_at (line_table (hex (codes "00 09 02 00 10 00 00 00 00 00 00") ++ replicate 200 0x21 ++ hex (codes "02 01 00 01 01"))) 0x1041 ≡ Some 66
of_200_rows_at_0x1041 = unfold on_samples in refl

of_200_rows_at_0x10c8 : line_at (line_table (hex (codes "00 09 02 00 10 00 00 00 00 00 00") ++ replicate 200 0x21 ++ hex (codes "02 01 00 01 01"))) 0x10c8 ≡ Some 201
of_200_rows_at_0x10c8 = unfold on_samples in refl

of_200_rows_at_0x10c9 : line_at (line_table (hex (codes "00 09 02 00 10 00 00 00 00 00 00") ++ replicate 200 0x21 ++ hex (codes "02 01 00 01 01"))) 0x10c9 ≡ None
of_200_rows_at_0x10c9 = unfold on_samples in refl
