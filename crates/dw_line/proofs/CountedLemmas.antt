-- How many things are kept of a table that was read.
use Rattle.std.proofs.Common.{◌≡◌, ℕ, suc, ◌+◌, ◌*◌, ◌≤◌, List, [], ◌∷◌, length, Bor, refl, ap, arith}
use Rattle.std.specs.Prelude.{option_map, sum_by}
use Rattle.std.proofs.lemmas.List.Sums.{sum_by-cons}
use Rattle.dw_model.specs.LineHeader.{LineHeader}
use Rattle.dw_model.specs.Matrix.{Row}
use Rattle.dw_forms.specs.Tables.{tables_shown, bases_shown}
use Rattle.dw_line.specs.declared.checkpoints.Checkpoint.{Checkpoint}
use Rattle.dw_line.specs.declared.checkpoints.Sequence.{Sequence}
use Rattle.dw_line.specs.declared.entry_list.EntryList.{EntryList}
use Rattle.dw_line.specs.declared.lines.Lines.TheInside.{Inside}
use Rattle.dw_line.specs.Header.{entries_shown, header_shown}
use Rattle.dw_line.specs.Kept.{least_held, most_held}
use Rattle.dw_line.specs.LinesInside.{lines_in, used_in, AreRead}
use Rattle.dw_line.specs.Sequences.{checkpoints_of, checkpoint_count, most_checkpoints, AreSequences}
use Rattle.dw_line.specs.TableAt.{table_size}
use Rattle.dw_line.proofs.LinesLemmas.{read_with}
use Rattle.dw_line.proofs.SizeLemmas.{header-within}

-- a sequence is kept for each that is used
pub as_many : (header : LineHeader) (checkpoints : List Checkpoint) (end : ℕ) (kept : List Sequence) (used : List (List Row)) → AreSequences header checkpoints end kept used → length kept ≡ length used
as_many header checkpoints end [] [] are = refl
as_many header checkpoints end [] (rows ∷ used) are = absurd are
as_many header checkpoints end (one ∷ kept) [] are = absurd are
as_many header checkpoints end (one ∷ kept) (rows ∷ used) are = ap suc (as_many header checkpoints end kept used are.1)

-- the checkpoints of so many rows in so many sequences
few_each : (used : List (List Row)) → 64 * checkpoint_count used ≤ sum_by length used + 62 * length used
few_each [] = omega arith
few_each (rows ∷ used) = omega (arith, sum_by-cons checkpoints_of rows used, sum_by-cons length rows used, few_each used)

pub few_checkpoints : (used : List (List Row)) → checkpoint_count used ≤ most_checkpoints used
few_checkpoints used = omega (arith, few_each used)

module _ (lines : Inside) (are : AreRead lines) where
  pub as_many_sequences : length lines.sequences.items ≡ length (used_in lines)
  as_many_sequences = as_many (header_shown lines.header) lines.checkpoints.items (length lines.checkpoints.items) lines.sequences.items (used_in lines) are.kept.each

  -- the lists of the table, as its unit sees them
  abbrev pub own : EntryList → ℕ
  own list = length (entries_shown (tables_shown lines.unit.tables) (bases_shown lines.unit.bases) list)

  -- all that is held but its lists
  abbrev pub held_first : ℕ
  held_first = length lines.sequences.items + length lines.index + length lines.leaps.items

  pub held-within : checkpoint_count (used_in lines) + held_first + own lines.header.directories + own lines.header.files ≤ 2 * table_size lines.section.now lines.offset
  held-within =
      let tables = tables_shown lines.unit.tables in
      let bases = bases_shown lines.unit.bases in
      let comp_dir = option_map (λ (directory : Bor (List ℕ)). directory.now) lines.unit.comp_dir in
      let lists = header-within lines.section.now lines.offset tables bases (lines_in lines).header (read_with tables bases lines.section.now comp_dir lines.offset (lines_in lines) (are.each tables bases comp_dir)).0 in
      omega (arith, lists, are.fits, are.leaps.few, are.indexed, are.kept.count)

  pub held-most : held_first + own lines.header.directories + own lines.header.files ≤ most_held (lines_in lines)
  held-most = omega (arith, are.leaps.few, are.indexed, as_many_sequences)

  pub held-least : least_held (lines_in lines) ≤ held_first + own lines.header.directories + own lines.header.files
  held-least = omega (arith, as_many_sequences)
