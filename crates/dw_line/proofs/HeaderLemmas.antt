-- The bytes of a table, and what a program's rows depend on.
use Rattle.std.proofs.Common.{◌≡◌, ℕ, ◌+◌, ◌-◌, ◌*◌, ◌%◌, ◌^◌, ◌<◌, Bool, List, [], ◌∷◌, length, drop, Option, None, Result, refl, ap, arith}
use Rattle.std.specs.Prelude.{sum_by, if◌then◌else◌, ok_or, option_map, option_and_then}
use Rattle.std.proofs.lemmas.List.{drop_all}
use Rattle.dw_model.specs.Results.{◌>>=◌}
use Rattle.dw_model.specs.Reading.{Place, start, bytes_at}
use Rattle.dw_model.specs.InitialLength.{InitialLength, initial_length}
use Rattle.dw_model.specs.Text.{Tables, Bases}
use Rattle.dw_model.specs.LineHeader.{LineHeader, line_header, length_of, table_behind}
use Rattle.dw_model.specs.Faults.{Bad, bad}
use Rattle.dw_model.specs.Instruction.{Instruction, special, copy, advance_pc, advance_line, set_file, set_column, const_add_pc, fixed_advance_pc, end_sequence, set_address, no_effect, opcode_at, next_instruction, instructions}
use Rattle.dw_model.specs.Matrix.{special_advance, line_advance, residue, advanced, file_after, column_after, row_after, is_end, appends, rows_from, matrix}
use Rattle.dw_line.specs.Header.{without_lists}
use Rattle.dw_line.specs.TableAt.{TableBytes, table_behind_length, table_at}

-- no table begins after the section
pub no_table : (section : List ℕ) (offset : ℕ) → length section < offset → None ≡ table_at section offset
unfolding table_at initial_length
no_table section offset h = rw (drop_all offset section (omega (arith, h))) refl

module _ (tables : Tables) (bases : Bases) where
  -- the header in the bytes of a table, with the size of their offsets
  abbrev pub behind : Option TableBytes → Result LineHeader Bad
  behind table = ◌>>=◌ {A = TableBytes} {B = LineHeader} (ok_or table bad) (λ table. table_behind tables bases table.1 (start table.0))

  taken : (size : ℕ) (table : Option (List ℕ × Place)) → ◌>>=◌ {A = List ℕ × Place} {B = LineHeader} (ok_or table bad) (λ table. table_behind tables bases size (start table.0)) ≡ behind (option_map (λ (table : List ℕ × Place). (table.0, size, table.1.at)) table)
  taken size table = grind arith

  long : (length : InitialLength) (p : Place) → ◌>>=◌ {A = ℕ × ℕ} {B = LineHeader} (length_of length) (λ len. ◌>>=◌ {A = List ℕ × Place} {B = LineHeader} (ok_or (bytes_at len.0 p) bad) (λ table. table_behind tables bases len.1 (start table.0))) ≡ behind (table_behind_length length p)
  long length p = grind (arith, taken)

  measured : (found : Option (InitialLength × Place)) → ◌>>=◌ {A = InitialLength × Place} {B = LineHeader} (ok_or found bad) (λ unit_length. ◌>>=◌ {A = ℕ × ℕ} {B = LineHeader} (length_of unit_length.0) (λ len. ◌>>=◌ {A = List ℕ × Place} {B = LineHeader} (ok_or (bytes_at len.0 unit_length.1) bad) (λ table. table_behind tables bases len.1 (start table.0))))
      ≡ behind (option_and_then (λ (unit_length : InitialLength × Place). table_behind_length unit_length.0 unit_length.1) found)
  measured found = grind (arith, long)

  -- the header at an offset is that of the bytes of its table
  pub header_behind : (section : List ℕ) (offset : ℕ) → line_header tables bases section offset ≡ behind (table_at section offset)
  unfolding line_header table_at
  header_behind section offset = measured (initial_length (record { at = offset; left = drop offset section }))

-- ---- the lists of a header change no row

pub same-instructions : (h : LineHeader) → instructions h ≡ instructions (without_lists h)
unfolding instructions next_instruction opcode_at
same-instructions h = refl

same-advanced : (h : LineHeader) (done : List Instruction) → advanced h done ≡ advanced (without_lists h) done
same-advanced h [] = refl
same-advanced h (special n ∷ before) = ap (λ (sum : ℕ). special_advance h n + sum) (same-advanced h before)
same-advanced h (copy ∷ before) = ap (λ (sum : ℕ). 0 + sum) (same-advanced h before)
same-advanced h (advance_pc n ∷ before) = ap (λ (sum : ℕ). h.minimum_instruction_length * n + sum) (same-advanced h before)
same-advanced h (advance_line z ∷ before) = ap (λ (sum : ℕ). 0 + sum) (same-advanced h before)
same-advanced h (set_file n ∷ before) = ap (λ (sum : ℕ). 0 + sum) (same-advanced h before)
same-advanced h (set_column n ∷ before) = ap (λ (sum : ℕ). 0 + sum) (same-advanced h before)
same-advanced h (const_add_pc ∷ before) = ap (λ (sum : ℕ). special_advance h (255 - h.opcode_base) + sum) (same-advanced h before)
same-advanced h (fixed_advance_pc n ∷ before) = ap (λ (sum : ℕ). n + sum) (same-advanced h before)
same-advanced h (end_sequence ∷ before) = ap (λ (sum : ℕ). 0 + sum) (same-advanced h before)
same-advanced h (set_address n ∷ before) = refl
same-advanced h (no_effect ∷ before) = ap (λ (sum : ℕ). 0 + sum) (same-advanced h before)

same-line : (h : LineHeader) (instruction : Instruction) → line_advance h instruction ≡ line_advance (without_lists h) instruction
same-line h instruction = grind arith

same-row : (h : LineHeader) (done : List Instruction) (ends : Bool) → row_after h done ends ≡ row_after (without_lists h) done ends
same-row h done ends = λ i. record {
  address = same-advanced h done i % 2 ^ 64;
  file = file_after done;
  line = (1 + sum_by (λ instruction. residue (same-line h instruction i)) done) % 2 ^ 64;
  column = column_after done;
  ends = ends;
}

same-rows : (h : LineHeader) (done instructions : List Instruction) → rows_from h done instructions ≡ rows_from (without_lists h) done instructions
unfolding rows_from
same-rows h done [] = refl
same-rows h done (instruction ∷ instructions) =
    let done-next : List Instruction = if is_end instruction then [] else instruction ∷ done in
    λ i. if appends instruction then same-row h (instruction ∷ done) (is_end instruction) i ∷ same-rows h done-next instructions i else same-rows h done-next instructions i

pub same-matrix : (h : LineHeader) (instructions : List Instruction) → matrix h instructions ≡ matrix (without_lists h) instructions
same-matrix h instructions = same-rows h [] instructions
