-- A table that is read, and its rows.
use Rattle.std.proofs.Common.{◌≡◌, ℕ, ◌<◌, ◌≤◌, length, get_or, List, Option, Some, None, Ok, Err, refl, sym, subst, ap, ◌∙◌, arith}
use Rattle.std.specs.Prelude.{true, IfSome, option_map, slice_get}
use Rattle.std.proofs.lemmas.Bool.{eqb-true, cond_both}
use Rattle.std.proofs.lemmas.Option.{same_Some, slice_get_read, slice_get_past}
use Rattle.dw_model.specs.Faults.{bad}
use Rattle.dw_model.specs.Text.{Tables, Bases}
use Rattle.dw_model.specs.LineHeader.{LineHeader, line_header}
use Rattle.dw_model.specs.Instruction.{Instruction, instructions}
use Rattle.dw_model.specs.Matrix.{Row, row_in, row_of, is_used, first_address, last_address}
use Rattle.dw_model.proofs.StepLemmas.{bind_ok, ok_is}
use Rattle.dw_line.specs.declared.checkpoints.Checkpoint.{Checkpoint}
use Rattle.dw_line.specs.declared.checkpoints.Sequence.{Sequence}
use Rattle.dw_line.specs.declared.checkpoints.Checkpoints.{Checkpoints}
use Rattle.dw_line.specs.declared.search.Reached.{Reached}
use Rattle.dw_line.specs.declared.search.Last.{Last}
use Rattle.dw_line.specs.Search.{row_told}
use Rattle.dw_line.specs.Reached.{last_in, IsReached, IsLast, FindsIn, IsRowOf}
use Rattle.dw_line.specs.Machine.{beginning, rows_on}
use Rattle.dw_line.specs.Header.{without_lists}
use Rattle.dw_line.specs.Lines.{Table, lines_of, matrix_of}
use Rattle.dw_line.specs.Program.{IsRecorded}
use Rattle.dw_line.specs.Sequences.{used_sequences, number_among, number_of, IsSequence, AreKept}
use Rattle.dw_line.proofs.HeaderLemmas.{same-instructions, same-matrix}
use Rattle.dw_line.proofs.MachineLemmas.{matrix_rows, program_bad}
use Rattle.dw_line.proofs.SearchLemmas.{never_falls_used, has_row, row_on}
use Rattle.dw_line.proofs.SequenceLemmas.{number-by_rows, held, kept_at, is-there}

-- ---- reading

pub header_bad : (tables : Tables) (bases : Bases) (section : List ℕ) (comp_dir : Option (List ℕ)) (offset : ℕ) → line_header tables bases section offset ≡ Err bad → lines_of tables bases section comp_dir offset ≡ Err bad
unfolding lines_of
header_bad tables bases section comp_dir offset e = rw e refl

pub run_bad : (tables : Tables) (bases : Bases) (section : List ℕ) (comp_dir : Option (List ℕ)) (offset : ℕ) (header : LineHeader) → line_header tables bases section offset ≡ Ok header → rows_on (without_lists header) (beginning (without_lists header)) ≡ Err bad → lines_of tables bases section comp_dir offset ≡ Err bad
unfolding lines_of
run_bad tables bases section comp_dir offset header e f = grind (arith, same-instructions, program_bad)

-- the rows that were recorded are those of the matrix
pub matrix_is : (header : LineHeader) (recorded : Checkpoints) → (is : IsRecorded header recorded) → is.rows ≡ matrix_of header
matrix_is header recorded is = grind (arith, matrix_rows)

pub lines_are : (tables : Tables) (bases : Bases) (section : List ℕ) (comp_dir : Option (List ℕ)) (offset : ℕ) (header : LineHeader) (recorded : Checkpoints) → line_header tables bases section offset ≡ Ok header → IsRecorded (without_lists header) recorded
    → lines_of tables bases section comp_dir offset ≡ Ok (record { section = section; offset = offset; header = header; rows = matrix_of (without_lists header); comp_dir = comp_dir })
unfolding lines_of
lines_are tables bases section comp_dir offset header recorded e is =
    let whole = matrix_rows (without_lists header) is.rows is.run in
    let program : instructions header ≡ Ok whole.0 = same-instructions header ∙ whole.1 in
    rw (e, program, whole.1) (λ i. Ok (record { section = section; offset = offset; header = header; rows = same-matrix header whole.0 i; comp_dir = comp_dir }))

-- the header that a table was read with, and its instructions
pub read_with : (tables : Tables) (bases : Bases) (section : List ℕ) (comp_dir : Option (List ℕ)) (offset : ℕ) (table : Table) → lines_of tables bases section comp_dir offset ≡ Ok table
    → (line_header tables bases section offset ≡ Ok table.header) × (program : List Instruction) × (instructions table.header ≡ Ok program)
unfolding lines_of
read_with tables bases section comp_dir offset table e =
    let header = bind_ok (line_header tables bases section offset) _ table e in
    let program = bind_ok (instructions header.0) _ table header.2 in
    let own : header.0 ≡ table.header = ap (λ (table : Table). table.header) (ok_is _ table program.2) in
    (header.1 ∙ ap (λ (header : LineHeader). Ok header) own, program.0, ap instructions (sym own) ∙ program.1)

-- a table whose program is that of another, and is run in the same way
pub lines_alike : (tables : Tables) (bases : Bases) (section : List ℕ) (comp_dir : Option (List ℕ)) (offset : ℕ) (old new : LineHeader) (program : List Instruction) → instructions old ≡ Ok program → without_lists old ≡ without_lists new → line_header tables bases section offset ≡ Ok new
    → lines_of tables bases section comp_dir offset ≡ Ok (record { section = section; offset = offset; header = new; rows = matrix_of (without_lists new); comp_dir = comp_dir })
unfolding lines_of
lines_alike tables bases section comp_dir offset old new program is same e =
    let read : instructions (without_lists new) ≡ Ok program = ap instructions (sym same) ∙ sym (same-instructions old) ∙ is in
    let own : instructions new ≡ Ok program = same-instructions new ∙ read in
    rw (e, own, read) (λ i. Ok (record { section = section; offset = offset; header = new; rows = same-matrix new program i; comp_dir = comp_dir }))

pub kept_of : (header : LineHeader) (recorded : Checkpoints) → IsRecorded header recorded → AreKept header recorded.checkpoints.items recorded.sequences.items (used_sequences (matrix_of header))
kept_of header recorded is =
    subst (λ (rows : List Row). AreKept header recorded.checkpoints.items recorded.sequences.items (used_sequences rows)) (matrix_is header recorded is) is.kept

-- the number by the bounds that are kept is that by the rows
pub number_is : (header : LineHeader) (checkpoints : List Checkpoint) (kept : List Sequence) (used : List (List Row)) (a : ℕ) → AreKept header checkpoints kept used → number_of kept a ≡ number_among used a
number_is header checkpoints kept used a are = sym (number-by_rows header checkpoints _ a 0 kept used are.each)

-- ---- the row of an address

-- the sequence that was found is kept of the rows in which the address lies
pub record IsFound (header : LineHeader) (checkpoints : List Checkpoint) (all : List Row) (a k : ℕ) (sequence : Sequence) : Type 0 where
  pub rows : List Row
  pub there : slice_get (used_sequences all) k ≡ Some rows
  pub row : row_of all a ≡ row_in a rows
  pub from : first_address rows ≤ a
  pub below : a < last_address rows
  pub is : IsSequence header checkpoints (length checkpoints) sequence rows

pub is_found : (header : LineHeader) (checkpoints : List Checkpoint) (kept read : List Sequence) (all : List Row) (a k : ℕ) (sequence : Sequence) → AreKept header checkpoints kept (used_sequences all) → number_among (used_sequences all) a ≡ Some k
    → read ≡ kept → k < length read → sequence ≡ get_or read k sequence → IsFound header checkpoints all a k sequence
is_found header checkpoints kept read all a k sequence are found same within is =
    let h = held (used_sequences all) a k found in
    let at = kept_at header checkpoints (length checkpoints) k kept (used_sequences all) h.rows are.each h.there in
    let there : slice_get kept k ≡ Some sequence = ap (λ (ss : List Sequence). slice_get ss k) (sym same) ∙ slice_get_read read (length read) k sequence refl within is in
    let one : at.sequence ≡ sequence = same_Some at.sequence sequence (sym at.there ∙ there) in
    record {
      rows = h.rows;
      there = h.there;
      row = is-there all a k h.rows found h.there;
      from = h.from;
      below = h.below;
      is = subst (λ (s : Sequence). IsSequence header checkpoints (length checkpoints) s h.rows) one at.is;
    }

-- a number that was found is that of a sequence that is kept
pub not_past : (header : LineHeader) (checkpoints : List Checkpoint) (kept read : List Sequence) (all : List Row) (a k : ℕ) → AreKept header checkpoints kept (used_sequences all) → number_among (used_sequences all) a ≡ Some k → read ≡ kept → length read ≤ k → ⊥
not_past header checkpoints kept read all a k are found same past =
    let h = held (used_sequences all) a k found in
    let at = kept_at header checkpoints (length checkpoints) k kept (used_sequences all) h.rows are.each h.there in
    let none : slice_get kept k ≡ None = ap (λ (ss : List Sequence). slice_get ss k) (sym same) ∙ slice_get_past read k past in
    let both : Some at.sequence ≡ None = sym at.there ∙ none in
    cc

-- ---- the row that was found last

-- what was found last in the sequence is one of its rows
pub last_is : (header : LineHeader) (used : List (List Row)) (k : ℕ) (rows : List Row) (last : Option Last) → slice_get used k ≡ Some rows → IsLast header used last → IfSome (last_in k last) (IsReached header rows)
last_is header used k rows last there is = grind (arith, cond_both, eqb-true)

-- an address of a used sequence has a row
pub finds_one : (header : LineHeader) (rows : List Row) (a : ℕ) (found : Option Reached) → found ≡ None → is_used rows ≡ true → first_address rows ≤ a → a < last_address rows → FindsIn header rows a found → ⊥
finds_one header rows a found none used from below finds = grind (arith, has_row, never_falls_used)

-- What is found in the sequence of an address is found in the matrix, and is the row of the addresses
-- after it too, up to the next row.
pub row_found : (header : LineHeader) (all rows : List Row) (a k : ℕ) (reached : Reached) → slice_get (used_sequences all) k ≡ Some rows → row_of all a ≡ row_in a rows → is_used rows ≡ true → FindsIn header rows a (Some reached)
    → IsRowOf header all k a (record { number = k; reached = reached })
row_found header all rows a k reached there row used found = record {
  row = (
    found.0 ∙ sym (ap (option_map row_told) row),
    subst (λ (read : Option (List Row)). IfSome read (λ rows. IsReached header rows reached)) (sym there) found.1,
  );
  named = refl;
  stays = record {
    above = found.2.1;
    same = λ c from before number.
        ap (option_map row_told) (is-there all c k rows number there ∙ row_on header rows c reached (never_falls_used rows used) found.1 (omega (arith, found.2.0, from)) before);
  };
}
